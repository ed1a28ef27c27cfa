use Rattle.trio_roles.proofs.Families.{nonces_part_a}
use Rattle.trio_roles.proofs.nonces_a.key_of_a.Goals as goal

pub key_between-requires : goal.key_between-requires
key_between-requires c = record { known = nonces_part_a c.args.trio.now.family c.args.trio.now.names c.args.ring.now c.requires.parts }
