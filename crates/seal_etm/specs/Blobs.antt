-- The items that may open.
use Rattle.std.specs.Prelude.{◌≤◌, length}
use Rattle.term_values.specs.Trees.{Tree, blob}

-- a blob of at least 48 bytes
abbrev pub IsLongBlob : Tree → Type 0
IsLongBlob (blob bytes) = 48 ≤ length bytes
IsLongBlob _ = ⊥
