use Rattle.mech_rows.specs.declared.kinds.Slot.TheVariants.{X4}
use Rattle.trio_roles.proofs.Tickets.{came}
use Rattle.trio_roles.proofs.stamps_a.goes_on.Goals as goal

pub returns : goal.returns
returns g c = record { goes_on = came _ c.args.trio.now.names.b X4 _ _ c.requires.limits c.requires.items }
