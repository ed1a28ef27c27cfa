use Rattle.transcript_replay.proofs.Completing.{is_complete}
use Rattle.transcript_replay.proofs.Output.{world_is_sound}
use Rattle.transcript_replay.proofs.script.replay.Goals as goal

pub returns-clause-complete : goal.returns-clause-complete
returns-clause-complete g c = λ bytes text status told is reads writes.
    is_complete (g.I.Source.left c.args.input.now) (g.O.Sink.put_so_far c.args.out.now) (g.O.Sink.put_so_far c.read_and_play.new.out) c.read_and_play.result _ _ bytes text status
    c.read_and_play.ensures.statuses c.read_and_play.ensures.whole c.read_and_play.ensures.read_failed c.read_and_play.ensures.write_failed told is reads writes

pub returns-clause-sound : goal.returns-clause-sound
returns-clause-sound g c = λ bytes w told x. world_is_sound bytes w x
