use Rattle.mech_rows.specs.declared.kinds.Slot.TheVariants.{X5}
use Rattle.trio_roles.proofs.Tickets.{came}
use Rattle.trio_roles.proofs.nonces_a.goes_on.Goals as goal

pub returns : goal.returns
returns g c = record { goes_on = came _ c.args.trio.now.names.b X5 _ _ c.requires.limits c.requires.items }
