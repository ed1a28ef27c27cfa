use Rattle.trio_roles.proofs.Families.{stamps_part_a}
use Rattle.trio_roles.proofs.stamps_a.key_of_a.Goals as goal

pub key_between-requires : goal.key_between-requires
key_between-requires c = record { known = stamps_part_a c.args.trio.now.family c.args.trio.now.names c.args.ring.now c.requires.parts }
