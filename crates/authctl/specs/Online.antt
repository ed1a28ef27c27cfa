-- The commands that talk to others.
use Rattle.std.specs.Prelude.{◌≡◌, ◌⊎◌, ℕ, List, [], ◌∷◌, codes}

-- the first word names such a command
abbrev pub IsOnline : List (List ℕ) → Type 0
IsOnline [] = ⊥
IsOnline (word ∷ more) = (word ≡ codes "serve") ⊎ (word ≡ codes "connect")
