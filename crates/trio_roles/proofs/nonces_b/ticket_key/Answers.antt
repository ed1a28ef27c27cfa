use Rattle.trio_roles.proofs.Families.{nonces_part_b}
use Rattle.trio_roles.proofs.nonces_b.ticket_key.Goals as goal

pub key_between-requires : goal.key_between-requires
key_between-requires c = record { known = nonces_part_b c.args.trio.now.family c.args.trio.now.names c.args.ring.now c.requires.parts }
