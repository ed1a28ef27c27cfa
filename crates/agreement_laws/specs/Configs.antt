-- A configuration: the parties, the long-term parts of pairs of them, and the attacker's own parts.
use Rattle.std.specs.Prelude.{◌≡◌, ◌≢◌, ◌≤◌, ℕ, Bool, true, false, List, [], ◌∷◌, map, length, Some, None, ◌==◌, ◌&&◌, ◌||◌, if◌then◌else◌}
use Rattle.term_values.specs.Trees.{Among, Bytes, Tree, part}
use Rattle.mech_rows.specs.declared.kinds.Role.{Role}
use Rattle.mech_rows.specs.Rows.{pairs_of}
use Rattle.mech_rows.specs.Heads.{Head, name_of}
use Rattle.mech_rows.specs.Runs.{Keys}
use Rattle.term_values.specs.declared.small.StampKind.{StampKind}

-- a party or a third party: its name, the kind of its stamps, and its window in milliseconds
pub record Party : Type 0 where
  pub name : ℕ
  pub is_server : Bool
  pub kind : StampKind
  pub window : ℕ

-- the long-term part of the names x and y, and whether the attacker has it
pub record LongTerm : Type 0 where
  pub x : ℕ
  pub y : ℕ
  pub part : Bytes
  pub revealed : Bool

-- who is there, what parts pairs of them share, and what parts the attacker has of its own
pub record Config : Type 0 where
  pub parties : List Party
  pub pairs : List LongTerm
  pub own : List Bytes

-- it is the part of these two names, in either order
abbrev pub is_of : ℕ → ℕ → LongTerm → Bool
is_of x y l = ((l.x == x) && (l.y == y)) || ((l.x == y) && (l.y == x))

-- the part of the first pair that is of these two names
abbrev pub part_among : List LongTerm → Keys
part_among [] x y = None
part_among (l ∷ ls) x y = if is_of x y l then Some l.part else part_among ls x y

-- the long-term part of two names, in either order
abbrev pub keys_of : Config → Keys
keys_of c = part_among c.pairs

-- the parts of the pairs that are revealed
abbrev pub revealed_parts : List LongTerm → List Tree
revealed_parts [] = []
revealed_parts (l ∷ ls) = if l.revealed then part l.part ∷ revealed_parts ls else revealed_parts ls

-- no two members are equal
abbrev pub AllDiffer : {X : Type 0} → List X → Type 0
AllDiffer [] = Unit {0}
AllDiffer (x ∷ xs) = (Among x xs → ⊥) × AllDiffer xs

-- the names that are declared
abbrev pub names_in : Config → List ℕ
names_in c = map (λ (p : Party). p.name) c.parties

-- the conditions of a configuration. They are laxer than those that a script is held to: a pair or an own part may stand twice,
-- and a name may be 0. So the laws hold of more worlds
pub record IsLawful (c : Config) : Type 0 where
  pub names_differ : AllDiffer (names_in c)
  pub few : length c.parties ≤ 64
  pub windows : (p : Party) → Among p c.parties → p.window ≤ 600_000
  pub declared : (l : LongTerm) → Among l c.pairs → Among l.x (names_in c) × Among l.y (names_in c) × (l.x ≢ l.y)
  pub one_part : (l m : LongTerm) → Among l c.pairs → Among m c.pairs → is_of l.x l.y m ≡ true → l ≡ m
  pub apart : (l m : LongTerm) → Among l c.pairs → Among m c.pairs → l.part ≡ m.part → l ≡ m
  pub own_apart : (l : LongTerm) → Among l c.pairs → Among l.part c.own → ⊥

-- the long-term part of a pair that isn't revealed
pub record IsGoodLong (c : Config) (p : Bytes) : Type 0 where
  pub pair : LongTerm
  pub there : Among pair c.pairs
  pub hidden : pair.revealed ≡ false
  pub is : p ≡ pair.part

-- no long-term pair of the row is revealed: each is there and hidden
abbrev pub IsGoodHead : Config → Head → Type 0
IsGoodHead c h = (x y : Role) → Among (x, y) (pairs_of h.mech) → (p : Bytes) × (keys_of c (name_of h x) (name_of h y) ≡ Some p) × IsGoodLong c p

-- no long-term pair of the row is among the revealed ones of the configuration; it may not be there at all
abbrev pub IsUnrevealed : Config → Head → Type 0
IsUnrevealed c h = (x y : Role) → Among (x, y) (pairs_of h.mech) → (l : LongTerm) → Among l c.pairs → is_of (name_of h x) (name_of h y) l ≡ true → l.revealed ≡ false
