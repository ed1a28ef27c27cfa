-- What a body is made of: a tag, the names of the run, and slots.
use Rattle.std.specs.Prelude.{◌≡◌, ℕ, ◌+◌, List, [], ◌∷◌, length, Option, Some, None, IsSome, Result, MatchResult}
use Rattle.term_values.specs.Trees.{Bytes, Tree, name, tag, tuple, count_of, item_of}
use Rattle.mech_rows.specs.Heads.{Head}
use Rattle.mech_rows.specs.declared.part_fault.PartFault.{PartFault}
use Rattle.mech_rows.specs.declared.part_fault.PartFault.TheVariants.{WrongShape, WrongNames}

-- the third party's name, where there is one
abbrev pub names_with : Option ℕ → List ℕ
names_with (Some n) = n ∷ []
names_with None = []

-- the names of a run in the order of its bodies: A, B and, where there is one, the third party
abbrev pub names_in : Head → List ℕ
names_in h = h.a ∷ h.b ∷ names_with h.p

-- how many items a tuple has
abbrev pub count_in : Tree → Option ℕ
count_in (tuple ts) = Some (count_of ts)
count_in _ = None

-- the name that an item is
abbrev pub name_in : Option Tree → Option ℕ
name_in (Some (name n)) = Some n
name_in _ = None

-- the name in item k, counted from 0
abbrev pub name_at : Tree → ℕ → Option ℕ
name_at t k = name_in (item_of t k)

-- from item k on stand as many names as these, whichever they are
abbrev pub AnyNames : Tree → ℕ → List ℕ → Type 0
AnyNames t k [] = Unit {0}
AnyNames t k (n ∷ ns) = IsSome (name_at t k) × AnyNames t (k + 1) ns

-- from item k on stand these names
abbrev pub TheseNames : Tree → ℕ → List ℕ → Type 0
TheseNames t k [] = Unit {0}
TheseNames t k (n ∷ ns) = (name_at t k ≡ Some n) × TheseNames t (k + 1) ns

-- a tuple of that tag, as many names as the run has, and so many further items
abbrev pub HasShape : Head → Bytes → ℕ → Tree → Type 0
HasShape h tagged count body =
    (count_in body ≡ Some (1 + length (names_in h) + count))
    × (item_of body 0 ≡ Some (tag tagged))
    × AnyNames body 1 (names_in h)

-- a body of the run: of that shape, with its own names
abbrev pub IsBody : Head → Bytes → ℕ → Tree → Type 0
IsBody h tagged count body = HasShape h tagged count body × TheseNames body 1 (names_in h)

-- when each fault comes
abbrev pub IsFault : Head → Bytes → ℕ → Tree → PartFault → Type 0
IsFault h tagged count body WrongShape = ¬ HasShape h tagged count body
IsFault h tagged count body WrongNames = HasShape h tagged count body × (¬ TheseNames body 1 (names_in h))

-- where the slots begin in a body of the run, or the fault of what is none
abbrev pub IsPlaceOrFault : Head → Bytes → ℕ → Tree → Result ℕ PartFault → Type 0
IsPlaceOrFault h tagged count body result =
    MatchResult result
    (λ place. (place ≡ 1 + length (names_in h)) × IsBody h tagged count body)
    (IsFault h tagged count body)
