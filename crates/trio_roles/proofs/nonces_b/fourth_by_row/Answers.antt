use Rattle.std.proofs.Common.{refl}
use Rattle.mech_rows.specs.declared.kinds.Role.TheVariants.{B}
use Rattle.trio_roles.proofs.Families.{nonces_names, nonces_row}
use Rattle.trio_roles.proofs.Rest.{by_pass}
use Rattle.trio_roles.proofs.nonces_b.fourth_by_row.Goals as goal

pub returns : goal.returns
returns g c = record { judged = by_pass _ g.S.Sealer.checks _ _ _ _ (nonces_row c.args.trio.now.family 3) refl (refl, (refl, tt)) (nonces_names c.args.trio.now.family B c.args.trio.now.names) }
