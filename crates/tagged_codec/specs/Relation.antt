-- The grammar as a relation: a term that stands at a level, and one of its spellings, by cases on the term. Each
-- case is a row of the table of kinds.
use Rattle.std.specs.Prelude.{◌≡◌, ℕ, suc, ◌<◌, ◌≤◌, ◌^◌, List, [], ◌∷◌, ◌++◌, length}
use Rattle.std.specs.Int.{w32, to_be_bytes}
use Rattle.term_values.specs.Trees.{Tree, name, stamp, nonce, part, text, tag, blob, tuple, seal, check, Trees, none, item, count_of}
use Rattle.term_values.specs.Limits.{IsKey, IsStamp}
use Rattle.tagged_codec.specs.Grammar.{key_spelling, sized_spelling, stamp_spelling}

-- The whole term stands at level 1, an item of a tuple and the body of a seal or check one level below.
abbrev mutual
  pub Spells : ℕ → Tree → List ℕ → Type 0
  Spells level (name n) bytes = (level ≤ 8) × (0 < n) × (n < 2 ^ 32) × (bytes ≡ 0x01 ∷ to_be_bytes w32 n)
  Spells level (stamp s) bytes = (level ≤ 8) × IsStamp s × (bytes ≡ stamp_spelling s)
  Spells level (nonce b) bytes = (level ≤ 8) × (length b ≡ 16) × (bytes ≡ 0x04 ∷ b)
  Spells level (part b) bytes = (level ≤ 8) × (length b ≡ 32) × (bytes ≡ 0x05 ∷ b)
  Spells level (text b) bytes = (level ≤ 8) × (length b ≤ 1024) × (bytes ≡ 0x06 ∷ sized_spelling b)
  Spells level (tag b) bytes = (level ≤ 8) × (length b ≡ 4) × (bytes ≡ 0x07 ∷ b)
  Spells level (tuple ts) bytes = (level ≤ 8) × (count_of ts ≤ 32) × (rest : List ℕ) × SpellsAll (suc level) ts rest × (bytes ≡ 0x08 ∷ count_of ts ∷ rest)
  Spells level (seal k t) bytes = (level ≤ 8) × IsKey k × (rest : List ℕ) × Spells (suc level) t rest × (bytes ≡ 0x09 ∷ key_spelling k ++ rest)
  Spells level (check k t) bytes = (level ≤ 8) × IsKey k × (rest : List ℕ) × Spells (suc level) t rest × (bytes ≡ 0x0a ∷ key_spelling k ++ rest)
  Spells level (blob b) bytes = (level ≤ 8) × (length b ≤ 4096) × (bytes ≡ 0x0d ∷ sized_spelling b)

  pub SpellsAll : ℕ → Trees → List ℕ → Type 0
  SpellsAll level none bytes = bytes ≡ []
  SpellsAll level (item t ts) bytes = (front rest : List ℕ) × Spells level t front × SpellsAll level ts rest × (bytes ≡ front ++ rest)
