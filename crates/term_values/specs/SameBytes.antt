-- The test whether two lists of bytes are equal.
use Rattle.std.specs.Prelude.{Bool, true, false, [], ◌∷◌, ◌==◌, ◌&&◌}
use Rattle.term_values.specs.Trees.{Bytes}

-- the two are equal, byte by byte
abbrev pub same_bytes : Bytes → Bytes → Bool
same_bytes [] [] = true
same_bytes (x ∷ xs) (y ∷ ys) = (x == y) && same_bytes xs ys
same_bytes _ _ = false
