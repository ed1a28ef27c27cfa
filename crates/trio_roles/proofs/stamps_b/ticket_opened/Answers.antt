use Rattle.std.proofs.Common.{refl}
use Rattle.trio_roles.proofs.Rest.{first_known}
use Rattle.trio_roles.proofs.stamps_b.ticket_opened.Goals as goal

pub returns : goal.returns
returns g c = record { rest = first_known _ _ _ _ _ _ _ _ _ _ _ refl refl c.requires.items refl c.requires.opened c.requires.slots }
