use Rattle.std.proofs.Common.{◌∙◌, ap}
use Rattle.world_run.specs.Views.{Told, message_at}
use Rattle.world_run.proofs.world.World.message.Goals as goal

pub returns : goal.returns
returns c = record { sent = rw (← c.self.view_is) (c.message_of.ensures.sent ∙ ap (λ (t : Told). message_at t.sent c.args.m) c.self.invariant.told) }
