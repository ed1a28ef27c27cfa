-- The conditions of a configuration that a world may begin with.
use Rattle.std.specs.Prelude.{◌≡◌, ◌≢◌, ◌≤◌, ℕ, false, List, [], ◌∷◌, ◌++◌, map, length}
use Rattle.term_values.specs.Trees.{Among, Bytes}
use Rattle.outside.specs.Told.{DrawKind}
use Rattle.fresh_values.specs.Counts.{first_byte}
use Rattle.agreement_laws.specs.Configs.{Party, LongTerm, Config, is_of, AllDiffer, names_in}

-- the parts that the lines of pairs and of the attacker's own parts give
abbrev pub parts_in : Config → List Bytes
parts_in c = map (λ (l : LongTerm). l.part) c.pairs ++ c.own

-- the bytes begin with that one
abbrev pub BeginsWith : ℕ → Bytes → Type 0
BeginsWith n [] = ⊥
BeginsWith n (b ∷ bs) = b ≡ n

-- no draw begins as the part does: neither a nonce nor a part
abbrev pub IsUndrawn : Bytes → Type 0
IsUndrawn p = (kind : DrawKind) → BeginsWith (first_byte kind) p → ⊥

-- the two pairs are of other names, in either order
abbrev pub PairsDiffer : List LongTerm → Type 0
PairsDiffer [] = Unit {0}
PairsDiffer (l ∷ ls) = ((m : LongTerm) → Among m ls → is_of l.x l.y m ≡ false) × PairsDiffer ls

-- the conditions: names are new and at most 64, windows are at most ten minutes; a pair is of two declared names that differ,
-- and of no two names twice; each part is given once, and none begins as drawn values do
pub record KeepsConditions (c : Config) : Type 0 where
  pub names_differ : AllDiffer (names_in c)
  pub few : length c.parties ≤ 64
  pub windows : (p : Party) → Among p c.parties → p.window ≤ 600_000
  pub declared : (l : LongTerm) → Among l c.pairs → Among l.x (names_in c) × Among l.y (names_in c) × (l.x ≢ l.y)
  pub pairs_differ : PairsDiffer c.pairs
  pub parts_differ : AllDiffer (parts_in c)
  pub undrawn : (p : Bytes) → Among p (parts_in c) → IsUndrawn p
