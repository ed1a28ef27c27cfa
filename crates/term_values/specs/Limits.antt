-- The limits of the places of a term. The lengths of arrays and the ranges of numbers are written
-- out, since a tree's numbers and lists range over everything.
use Rattle.std.specs.Prelude.{◌≡◌, ℕ, ◌<◌, ◌≤◌, ◌^◌, length}
use Rattle.term_values.specs.declared.small.Key.{Key}
use Rattle.term_values.specs.declared.small.Key.TheVariants.{One, Two}
use Rattle.term_values.specs.declared.small.Stamp.{Stamp}
use Rattle.term_values.specs.declared.small.Stamp.TheVariants.{Time, Seq}
use Rattle.term_values.specs.Trees.{Tree, name, stamp, nonce, part, text, tag, blob, tuple, seal, check, Trees, none, item, count_of}

-- a part has 32 bytes
abbrev pub IsKey : Key → Type 0
IsKey (One p) = length p ≡ 32
IsKey (Two p q) = (length p ≡ 32) × (length q ≡ 32)

-- a stamp's number has 64 bits
abbrev pub IsStamp : Stamp → Type 0
IsStamp (Time ms) = ms < 2 ^ 64
IsStamp (Seq n) = n < 2 ^ 64

-- the limits of each layout, and of what stands below
abbrev mutual
  pub Fits : Tree → Type 0
  Fits (name n) = (0 < n) × (n < 2 ^ 32)
  Fits (stamp s) = IsStamp s
  Fits (nonce b) = length b ≡ 16
  Fits (part b) = length b ≡ 32
  Fits (text b) = length b ≤ 1024
  Fits (tag b) = length b ≡ 4
  Fits (tuple ts) = (count_of ts ≤ 32) × AllFit ts
  Fits (seal k t) = IsKey k × Fits t
  Fits (check k t) = IsKey k × Fits t
  Fits (blob b) = length b ≤ 4096

  pub AllFit : Trees → Type 0
  AllFit none = Unit {0}
  AllFit (item t ts) = Fits t × AllFit ts
