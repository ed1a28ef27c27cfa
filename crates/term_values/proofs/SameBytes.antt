-- The test on bytes tells whether they are equal.
use Rattle.std.proofs.Common.{◌≡◌, ℕ, [], ◌∷◌, true, refl, ap₂, eqb-true, eq-eqb}
use Rattle.term_values.specs.Trees.{Bytes}
use Rattle.term_values.specs.SameBytes.{same_bytes}
use Rattle.term_values.proofs.Lists.{and_left, and_right, and_both}

pub same_bytes_refl : (xs : Bytes) → same_bytes xs xs ≡ true
same_bytes_refl [] = refl
same_bytes_refl (x ∷ xs) = and_both _ _ (eq-eqb x x refl) (same_bytes_refl xs)

pub same_start : (xs ys : Bytes) → same_bytes xs ys ≡ true → xs ≡ ys
same_start [] [] h = refl
same_start (x ∷ xs) (y ∷ ys) h = let e : x ≡ y = eqb-true x y (and_left _ _ h) in let es : xs ≡ ys = same_start xs ys (and_right _ _ h) in ap₂ (λ (z : ℕ) (zs : Bytes). z ∷ zs) e es
same_start [] (y ∷ ys) h = absurd (cc)
same_start (x ∷ xs) [] h = absurd (cc)
