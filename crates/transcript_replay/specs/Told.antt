-- What is told of a source and of a sink.
use Rattle.std.specs.Prelude.{◌≡◌, ℕ, List, take, Option, None, Some}
use Rattle.std.specs.Io.KnownBytes.{Appends}

-- a front of a text was put
abbrev pub PutsFront : Option (List ℕ) → Option (List ℕ) → List ℕ → Type 0
PutsFront old new text = (n : ℕ) × Appends old new (take n text)

-- the text, where it is told, is these bytes
abbrev pub IsTold : Option (List ℕ) → List ℕ → Type 0
IsTold None bytes = Unit {0}
IsTold (Some all) bytes = all ≡ bytes
