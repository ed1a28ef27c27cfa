use Rattle.std.proofs.Common.{◌≡◌, [], subst, sym, List, ℕ, arith}
use Rattle.std.proofs.lemmas.Bool.{eqb-true}
use Rattle.std.proofs.lemmas.Result.{err_from_is_err_and}
use Rattle.std.proofs.lemmas.List.{nil_from_length}
use Rattle.transcript_replay.specs.Cuts.{lines_of}
use Rattle.transcript_replay.specs.Players.{started}
use Rattle.transcript_replay.proofs.Counting.{grown_within, within_numbers}
use Rattle.transcript_replay.proofs.Steps.{SoFar, last_end, line_next, line_stop}
use Rattle.transcript_replay.proofs.game.play_lines.Goals as goal

pub returns-in_err-play_line-clause-ends : goal.returns-in_err-play_line-clause-ends
returns-in_err-play_line-clause-ends g c =
    let put = g.O.Sink.put_so_far in
    let rules = c.args.hook.now.rules.items in
    let start = started c.args.world.now rules in
    let here = started c.loop-rest.world rules in
    let so = subst (λ (ls : List (List ℕ)). SoFar (put c.args.out.now) (put c.loop-rest.out) c.args.first start c.loop-rest.number here ls (lines_of c.args.text.now)) c.first_line.ensures.lines c.loop-rest.invariant.so_far in
    let p = err_from_is_err_and c.from_residual.result c.from_residual.ensures.1 in
    rw (p.1, p.2) (line_stop (put c.args.out.now) (put c.loop-rest.out) (put c.play_line.new.out) c.args.first start c.loop-rest.number here (lines_of c.args.text.now) c.in_err-play_line.field-0.0
    c.first_line.result.0.now (lines_of c.first_line.result.1.now) so c.in_err-play_line.ensures.ends)

pub loop-rest-preserved : goal.loop-rest-preserved
loop-rest-preserved g c =
    let put = g.O.Sink.put_so_far in
    let rules = c.args.hook.now.rules.items in
    let start = started c.args.world.now rules in
    let here = started c.loop-rest.world rules in
    let so = subst (λ (ls : List (List ℕ)). SoFar (put c.args.out.now) (put c.loop-rest.out) c.args.first start c.loop-rest.number here ls (lines_of c.args.text.now)) c.first_line.ensures.lines c.loop-rest.invariant.so_far in
    record {
      so_far = line_next (put c.args.out.now) (put c.loop-rest.out) (put c.play_line.new.out) c.args.first start c.loop-rest.number here (lines_of c.args.text.now)
          c.first_line.result.0.now (lines_of c.first_line.result.1.now) (started c.play_line.new.world rules) so c.in_ok-play_line.ensures.ends;
      within = grown_within c.loop-rest.number c.loop-rest.world c.play_line.new.world c.loop-rest.invariant.within c.in_ok-play_line.ensures.grows;
      later = omega (arith, c.loop-rest.invariant.later, c.in_ok-play_line.ensures.cause.later);
      bound = omega (arith, c.loop-rest.invariant.bound, c.first_line.ensures.shorter);
    }

pub returns-clause-ends : goal.returns-clause-ends
returns-clause-ends g c =
    let put = g.O.Sink.put_so_far in
    let rules = c.args.hook.now.rules.items in
    let start = started c.args.world.now rules in
    let here = started c.loop-rest.world rules in
    let none : c.loop-rest.rest.now ≡ [] = nil_from_length c.loop-rest.rest.now (eqb-true _ 0 (sym c.loop-rest-test.ensures)) in
    let so = subst (λ (ls : List ℕ). SoFar (put c.args.out.now) (put c.loop-rest.out) c.args.first start c.loop-rest.number here (lines_of ls) (lines_of c.args.text.now)) none c.loop-rest.invariant.so_far in
    last_end (put c.args.out.now) (put c.loop-rest.out) c.args.first start c.loop-rest.number here (lines_of c.args.text.now) so
