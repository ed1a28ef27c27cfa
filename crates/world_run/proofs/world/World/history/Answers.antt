use Rattle.agreement_laws.proofs.Conclusions.{world_sound}
use Rattle.world_run.specs.Views.{told_by, told_of}
use Rattle.world_run.proofs.Decided.{lawful}
use Rattle.world_run.proofs.Partnered.{numbered_so}
use Rattle.world_run.proofs.world.World.history.Goals as goal

pub returns-clause-told : goal.returns-clause-told
returns-clause-told c = rw (← c.self.view_is) c.self.invariant.told

pub returns-clause-numbered : goal.returns-clause-numbered
returns-clause-numbered c = numbered_so _ c.self.invariant.genuine _ c.self.invariant.told

pub returns-clause-genuine : goal.returns-clause-genuine
returns-clause-genuine c = rw (← c.self.view_is) c.self.invariant.genuine

pub returns-clause-world : goal.returns-clause-world
returns-clause-world c = rw (← c.self.view_is) c.self.invariant.genuine.world

pub returns-clause-sound : goal.returns-clause-sound
returns-clause-sound c = rw (← c.self.view_is) (world_sound _ (lawful _ c.self.invariant.genuine.conditions) _ c.self.invariant.genuine.world)
