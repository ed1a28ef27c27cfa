use Rattle.std.proofs.Common.{◌≡◌, Option, Some, None, option_map, refl}
use Rattle.term_values.specs.declared.small.Key.{Key}
use Rattle.term_values.specs.declared.small.Key.TheVariants.{One, Two}
use Rattle.term_values.specs.Trees.{Bytes, Tree, part}
use Rattle.mech_rows.specs.Notes.{part_noted}
use Rattle.mech_rows.specs.Runs.{one_key, two_keys}

abbrev pub key_of_both : Option Bytes → Option Bytes → Option Key
key_of_both (Some p) (Some q) = Some (Two p q)
key_of_both _ _ = None

pub one_part : (x : Option Tree) → one_key x ≡ option_map One (part_noted x)
one_part None = refl
one_part (Some (part p)) = refl
one_part (Some _) = refl

pub two_parts : (x y : Option Tree) → two_keys x y ≡ key_of_both (part_noted x) (part_noted y)
two_parts None y = refl
two_parts (Some (part p)) None = refl
two_parts (Some (part p)) (Some (part q)) = refl
two_parts (Some (part p)) (Some _) = refl
two_parts (Some _) y = refl
