use Rattle.world_run.specs.Kept.{view_of}
use Rattle.world_run.proofs.Acts.{theory_derives}
use Rattle.world_run.proofs.world.World.knowledge.Goals as goal

pub returns-clause-given : goal.returns-clause-given
returns-clause-given c = rw (← c.self.view_is) c.self.invariant.learnt

pub returns-clause-known : goal.returns-clause-known
returns-clause-known c = rw (← c.self.view_is) (theory_derives (view_of c.self.inside.scene) _ c.self.invariant.learnt)
