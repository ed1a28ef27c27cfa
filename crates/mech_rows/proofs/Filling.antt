use Rattle.std.proofs.Common.{◌≡◌, List, [], ◌∷◌, refl, slice_get}
use Rattle.mech_rows.specs.Table.{fill}

pub fill_two : {X : Type 0} (xs : List X) → fill 2 xs ≡ slice_get xs 0 ∷ slice_get xs 1 ∷ []
fill_two [] = refl
fill_two (a ∷ []) = refl
fill_two (a ∷ b ∷ _) = refl

pub fill_four : {X : Type 0} (xs : List X) → fill 4 xs ≡ slice_get xs 0 ∷ slice_get xs 1 ∷ slice_get xs 2 ∷ slice_get xs 3 ∷ []
fill_four [] = refl
fill_four (a ∷ []) = refl
fill_four (a ∷ b ∷ []) = refl
fill_four (a ∷ b ∷ c ∷ []) = refl
fill_four (a ∷ b ∷ c ∷ d ∷ _) = refl

pub fill_five : {X : Type 0} (xs : List X) → fill 5 xs ≡ slice_get xs 0 ∷ slice_get xs 1 ∷ slice_get xs 2 ∷ slice_get xs 3 ∷ slice_get xs 4 ∷ []
fill_five [] = refl
fill_five (a ∷ []) = refl
fill_five (a ∷ b ∷ []) = refl
fill_five (a ∷ b ∷ c ∷ []) = refl
fill_five (a ∷ b ∷ c ∷ d ∷ []) = refl
fill_five (a ∷ b ∷ c ∷ d ∷ e ∷ _) = refl

pub fill_six : {X : Type 0} (xs : List X) → fill 6 xs ≡ slice_get xs 0 ∷ slice_get xs 1 ∷ slice_get xs 2 ∷ slice_get xs 3 ∷ slice_get xs 4 ∷ slice_get xs 5 ∷ []
fill_six [] = refl
fill_six (a ∷ []) = refl
fill_six (a ∷ b ∷ []) = refl
fill_six (a ∷ b ∷ c ∷ []) = refl
fill_six (a ∷ b ∷ c ∷ d ∷ []) = refl
fill_six (a ∷ b ∷ c ∷ d ∷ e ∷ []) = refl
fill_six (a ∷ b ∷ c ∷ d ∷ e ∷ f ∷ _) = refl
