use Rattle.std.proofs.lemmas.Result.{err_from_is_err_and}
use Rattle.transcript_replay.specs.Cuts.{lines_of}
use Rattle.transcript_replay.specs.Players.{started}
use Rattle.transcript_replay.proofs.Steps.{memory_end}
use Rattle.transcript_replay.proofs.game.play_under.Goals as goal

pub returns-in_err-same-clause-ends : goal.returns-in_err-same-clause-ends
returns-in_err-same-clause-ends g c =
    let p = err_from_is_err_and c.from_residual.result c.from_residual.ensures.1 in
    rw p.1 (memory_end (g.O.Sink.put_so_far c.args.out.now) c.args.first (started c.args.world.now c.args.rules.items) (lines_of c.args.text.now) p.0 p.2)

pub returns-in_err-new-clause-ends : goal.returns-in_err-new-clause-ends
returns-in_err-new-clause-ends g c =
    let p = err_from_is_err_and c.from_residual-in_err-new.result c.from_residual-in_err-new.ensures.1 in
    rw p.1 (memory_end (g.O.Sink.put_so_far c.args.out.now) c.args.first (started c.args.world.now c.args.rules.items) (lines_of c.args.text.now) p.0 p.2)
