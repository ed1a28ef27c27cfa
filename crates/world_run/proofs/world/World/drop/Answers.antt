use Rattle.world_run.proofs.world.World.drop.Goals as goal

pub returns : goal.returns
returns c = record { drops = rw (← c.self.view_is) c.drop_in.ensures.drops }
