use Rattle.std.proofs.Common.{◌∙◌}
use Rattle.std.proofs.lemmas.Result.{err_from_is_err_and}
use Rattle.transcript_replay.specs.Cuts.{lines_of}
use Rattle.transcript_replay.specs.Players.{beginning, started}
use Rattle.transcript_replay.proofs.Steps.{memory_end}
use Rattle.transcript_replay.proofs.game.play_events.Goals as goal

pub returns-in_err-world-clause-ends : goal.returns-in_err-world-clause-ends
returns-in_err-world-clause-ends g c =
    let p = err_from_is_err_and c.from_residual.result c.from_residual.ensures.1 in
    rw p.1 (memory_end (g.O.Sink.put_so_far c.args.out.now) c.args.number (started (beginning c.args.setup.config) c.args.setup.rules.items) (lines_of c.args.text.now) p.0 (p.2 ∙ c.in_err-world.ensures.memory))
