use Rattle.std.proofs.Common.{◌≡◌, [], subst, sym, List, ℕ}
use Rattle.std.proofs.lemmas.Bool.{eqb-true}
use Rattle.std.proofs.lemmas.Result.{err_from_is_err_and}
use Rattle.std.proofs.lemmas.List.{nil_from_length}
use Rattle.transcript_replay.specs.Cuts.{lines_of}
use Rattle.transcript_replay.specs.Ends.{end_of}
use Rattle.transcript_replay.specs.Players.{beginning, fresh, set_up, started}
use Rattle.transcript_replay.specs.Runs.{Runs}
use Rattle.transcript_replay.proofs.Starting.{event_end}
use Rattle.transcript_replay.proofs.Steps.{SoFar, last_end, line_stop}
use Rattle.transcript_replay.proofs.play.play.Goals as goal

pub returns-in_err-event-clause-ends : goal.returns-in_err-event-clause-ends
returns-in_err-event-clause-ends g c =
    let put = g.O.Sink.put_so_far in
    let here = set_up c.loop-rest.setup.config c.loop-rest.setup.rules.items in
    let so = subst (λ (ls : List (List ℕ)). SoFar (put c.args.out.now) (put c.loop-rest.out) 1 fresh c.loop-rest.number here ls (lines_of c.args.text.now)) c.first_line.ensures.lines c.loop-rest.invariant.so_far in
    let p = err_from_is_err_and c.from_residual.result c.from_residual.ensures.1 in
    rw (p.1, p.2) (line_stop (put c.args.out.now) (put c.loop-rest.out) (put c.hear_line.new.out) 1 fresh c.loop-rest.number here (lines_of c.args.text.now) c.in_err-event.field-0.0
    c.first_line.result.0.now (lines_of c.first_line.result.1.now) so c.in_err-event.ensures.ends)

pub returns-then-event-clause-ends : goal.returns-then-event-clause-ends
returns-then-event-clause-ends g c =
    let put = g.O.Sink.put_so_far in
    let here = set_up c.loop-rest.setup.config c.loop-rest.setup.rules.items in
    let so = subst (λ (ls : List (List ℕ)). SoFar (put c.args.out.now) (put c.loop-rest.out) 1 fresh c.loop-rest.number here ls (lines_of c.args.text.now)) c.first_line.ensures.lines c.loop-rest.invariant.so_far in
    let heard = rw c.if-event.true at c.in_ok-event.ensures.ends in
    let ends = rw c.first_line.ensures.lines at c.play_events.ensures.ends in
    event_end (put c.args.out.now) (put c.loop-rest.out) (put c.hear_line.new.out) (put c.play_events.new.out) 1 fresh c.loop-rest.number (lines_of c.args.text.now)
    c.first_line.result.0.now (lines_of c.first_line.result.1.now) c.loop-rest.setup.config c.hear_line.new.setup.config c.loop-rest.setup.rules.items c.hear_line.new.setup.rules.items
    (end_of c.play_events.result) so heard ends

pub returns-clause-ends : goal.returns-clause-ends
returns-clause-ends g c =
    let put = g.O.Sink.put_so_far in
    let here = set_up c.loop-rest.setup.config c.loop-rest.setup.rules.items in
    let none : c.loop-rest.rest.now ≡ [] = nil_from_length c.loop-rest.rest.now (eqb-true _ 0 (sym c.loop-rest-test.ensures)) in
    let so = subst (λ (ls : List ℕ). SoFar (put c.args.out.now) (put c.loop-rest.out) 1 fresh c.loop-rest.number here (lines_of ls) (lines_of c.args.text.now)) none c.loop-rest.invariant.so_far in
    last_end (put c.args.out.now) (put c.loop-rest.out) 1 fresh c.loop-rest.number here (lines_of c.args.text.now) so
