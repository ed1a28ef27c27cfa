-- Mechanisms with a third party, by their families.
use Rattle.std.proofs.Common.{◌≡◌, ℕ, true, [], ◌∷◌, refl, arith}
use Rattle.std.specs.Prelude.{is_some}
use Rattle.mech_rows.specs.declared.kinds.Role.{Role}
use Rattle.mech_rows.specs.declared.kinds.Role.TheVariants.{A, B}
use Rattle.mech_rows.specs.declared.kinds.Slot.TheVariants.{Ra, Rb, Ra2, Fa, X1, X2, X4, X5, X6, X7, X8, X9, Fwd}
use Rattle.mech_rows.specs.Noting.{slots_at}
use Rattle.mech_rows.specs.Openings.{has_parts}
use Rattle.mech_rows.specs.Rings.{Ring, keys_in}
use Rattle.mech_rows.specs.Rows.{row_of, third_by_nonces, third_by_stamps}
use Rattle.mech_rows.specs.Runs.{nth}
use Rattle.mech_rows.specs.Verdict.{names_of}
use Rattle.text_hooks.specs.Names.{among}
use Rattle.text_hooks.specs.declared.names.Three.{Three}
use Rattle.text_hooks.specs.Trios.{by_nonces, by_stamps}
use Rattle.text_hooks.specs.declared.trio.Family.{Family}
use Rattle.text_hooks.specs.declared.trio.Family.TheVariants.{Entity, Keys}

pub stamps_row : (f : Family) (k : ℕ) → nth (row_of (by_stamps f)) k ≡ nth (third_by_stamps (by_stamps f)) k
stamps_row Entity k = refl
stamps_row Keys k = refl

pub stamps_names : (f : Family) (r : Role) (n : Three) → names_of (among (by_stamps f) r n) ≡ n.a ∷ n.b ∷ n.p ∷ []
stamps_names Entity r n = refl
stamps_names Keys r n = refl

pub stamps_part_a : (f : Family) (n : Three) (ring : Ring) → has_parts ring (among (by_stamps f) A n) ≡ true → is_some (keys_in ring n.a n.p) ≡ true
stamps_part_a Entity n ring h = grind (arith, h)
stamps_part_a Keys n ring h = grind (arith, h)

pub stamps_part_b : (f : Family) (n : Three) (ring : Ring) → has_parts ring (among (by_stamps f) B n) ≡ true → is_some (keys_in ring n.b n.p) ≡ true
stamps_part_b Entity n ring h = grind (arith, h)
stamps_part_b Keys n ring h = grind (arith, h)

pub nonces_row : (f : Family) (k : ℕ) → nth (row_of (by_nonces f)) k ≡ nth (third_by_nonces (by_nonces f)) k
nonces_row Entity k = refl
nonces_row Keys k = refl

pub nonces_names : (f : Family) (r : Role) (n : Three) → names_of (among (by_nonces f) r n) ≡ n.a ∷ n.b ∷ n.p ∷ []
nonces_names Entity r n = refl
nonces_names Keys r n = refl

pub nonces_part_a : (f : Family) (n : Three) (ring : Ring) → has_parts ring (among (by_nonces f) A n) ≡ true → is_some (keys_in ring n.a n.p) ≡ true
nonces_part_a Entity n ring h = grind (arith, h)
nonces_part_a Keys n ring h = grind (arith, h)

pub nonces_part_b : (f : Family) (n : Three) (ring : Ring) → has_parts ring (among (by_nonces f) B n) ≡ true → is_some (keys_in ring n.b n.p) ≡ true
nonces_part_b Entity n ring h = grind (arith, h)
nonces_part_b Keys n ring h = grind (arith, h)

pub nonces_slots_a : (f : Family) (n : Three) → slots_at (among (by_nonces f) A n) 5 ≡ X2 ∷ X6 ∷ X7 ∷ Rb ∷ X1 ∷ Ra2 ∷ X5 ∷ Fa ∷ X4 ∷ Fwd ∷ Ra ∷ X9 ∷ X8 ∷ []
nonces_slots_a Entity n = refl
nonces_slots_a Keys n = refl
