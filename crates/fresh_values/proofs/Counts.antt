-- No two counted values are equal.
use Rattle.std.proofs.Common.{◌≡◌, ◌<◌, ◌^◌, ℕ, List, ◌∷◌, drop, refl, sym, ap, ◌∙◌, arith}
use Rattle.std.specs.Int.{w64, bytes_high_first, from_be_bytes}
use Rattle.std.proofs.lemmas.Nat.{from_be_bytes-to_be_bytes_8}
use Rattle.outside.specs.Told.{DrawKind, nonce_draw, part_draw, counted_draw}
use Rattle.fresh_values.specs.Counts.{counted_value}

same_number : (j k : ℕ) → j < 2 ^ 64 → k < 2 ^ 64 → bytes_high_first 8 j ≡ bytes_high_first 8 k → j ≡ k
same_number j k small tiny e = sym (from_be_bytes-to_be_bytes_8 j small) ∙ ap (from_be_bytes w64) e ∙ from_be_bytes-to_be_bytes_8 k tiny

same_first : (x y : ℕ) (xs ys : List ℕ) → x ∷ xs ≡ y ∷ ys → x ≡ y
same_first x y xs ys e = cc

pub same_values : (a b : DrawKind) (j k : ℕ) → j < 2 ^ 64 → k < 2 ^ 64 → counted_value a j ≡ counted_value b k → (a ≡ b) × (j ≡ k)
unfolding counted_draw
same_values nonce_draw nonce_draw j k small tiny e = (refl, same_number j k small tiny (ap (λ (xs : List ℕ). drop 8 xs) e))
same_values part_draw part_draw j k small tiny e = (refl, same_number j k small tiny (ap (λ (xs : List ℕ). drop 24 xs) e))
same_values nonce_draw part_draw j k small tiny e = absurd (omega (arith, same_first 0xd0 0xd1 _ _ e))
same_values part_draw nonce_draw j k small tiny e = absurd (omega (arith, same_first 0xd1 0xd0 _ _ e))
