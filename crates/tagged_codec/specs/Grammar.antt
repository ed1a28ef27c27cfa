-- The grammar of terms: which terms have a spelling, and what it is.
use Rattle.std.specs.Prelude.{◌≡◌, ℕ, ◌≤◌, List, [], ◌∷◌, ◌++◌, length}
use Rattle.std.specs.Int.{w16, w32, w64, to_be_bytes}
use Rattle.term_values.specs.declared.Key.{Key}
use Rattle.term_values.specs.declared.Key.TheVariants.{One, Two}
use Rattle.term_values.specs.declared.Stamp.{Stamp}
use Rattle.term_values.specs.declared.Stamp.TheVariants.{Time, Seq}
use Rattle.term_values.specs.Trees.{Tree, name, stamp, nonce, part, text, tag, blob, tuple, seal, check, Trees, none, item, count_of, depth_of}
use Rattle.term_values.specs.Limits.{Fits}

-- a kind, and one part or two
abbrev pub key_spelling : Key → List ℕ
key_spelling (One p) = 0x0b ∷ p
key_spelling (Two p q) = 0x0c ∷ p ++ q

-- the kind tells a time from a sequence number
abbrev pub stamp_spelling : Stamp → List ℕ
stamp_spelling (Time ms) = 0x02 ∷ to_be_bytes w64 ms
stamp_spelling (Seq n) = 0x03 ∷ to_be_bytes w64 n

-- the length in two bytes, and the bytes
abbrev pub sized_spelling : List ℕ → List ℕ
sized_spelling bytes = to_be_bytes w16 (length bytes) ++ bytes

-- the one spelling of a term: its kind, and what the kind asks for
abbrev mutual
  pub spelling : Tree → List ℕ
  spelling (name n) = 0x01 ∷ to_be_bytes w32 n
  spelling (stamp s) = stamp_spelling s
  spelling (nonce b) = 0x04 ∷ b
  spelling (part b) = 0x05 ∷ b
  spelling (text b) = 0x06 ∷ sized_spelling b
  spelling (tag b) = 0x07 ∷ b
  spelling (tuple ts) = 0x08 ∷ count_of ts ∷ spellings ts
  spelling (seal k t) = 0x09 ∷ key_spelling k ++ spelling t
  spelling (check k t) = 0x0a ∷ key_spelling k ++ spelling t
  spelling (blob b) = 0x0d ∷ sized_spelling b

  pub spellings : Trees → List ℕ
  spellings none = []
  spellings (item t ts) = spelling t ++ spellings ts

-- the terms that have a spelling
pub record IsInLimits (t : Tree) : Type 0 where
  pub fits : Fits t
  pub levels : depth_of t ≤ 8
  pub length : length (spelling t) ≤ 8192

-- the bytes are the one spelling of the term
pub record IsSpelling (t : Tree) (bytes : List ℕ) : Type 0 where
  pub limits : IsInLimits t
  pub spelled : bytes ≡ spelling t
