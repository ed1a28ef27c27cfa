use Rattle.transcript_replay.proofs.Output.{world_after_is_sound, world_is_sound}
use Rattle.transcript_replay.proofs.laws.worlds_of_scripts_are_sound.Goals as goal

pub returns-clause-sound : goal.returns-clause-sound
returns-clause-sound c = λ bytes w x. world_is_sound bytes w x

pub returns-clause-after : goal.returns-clause-after
returns-clause-after c = λ bytes k w x. world_after_is_sound bytes k w x
