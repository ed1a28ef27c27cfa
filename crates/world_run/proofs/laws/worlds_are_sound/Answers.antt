use Rattle.agreement_laws.proofs.Conclusions.{world_sound}
use Rattle.world_run.specs.Views.{entries}
use Rattle.world_run.proofs.Decided.{lawful}
use Rattle.world_run.proofs.laws.worlds_are_sound.Goals as goal

pub returns : goal.returns
returns c = record { sound = λ w g. world_sound w.config (lawful w.config g.conditions) (entries w.acts) g.world }
