use Rattle.agreement_laws.proofs.Conclusions.{world_sound}
use Rattle.agreement_laws.proofs.laws.worlds_are_sound.Goals as goal

pub returns : goal.returns
returns c = record { sound = world_sound }
