-- The members of a JSON object, and the items of a list, as a table of members asks for them.
use Rattle.std.specs.Prelude.{ℕ, Bool, true, false, ◌&&◌, List, [], ◌∷◌, Option, Some, None, option_map, option_and_then}
use Rattle.std.specs.List.{list_any}
use Rattle.std.specs.Str.{bytes_eq}
use Rattle.serde_json.specs.Data.{Data, Items, no_items, item, Members, no_members, member}
use Rattle.serde_json.specs.Find.{as_array, as_object, get}

-- members of these names and of no others
abbrev pub named_among : List (List ℕ) → Members → Bool
named_among names no_members = true
named_among names (member k d ms) = list_any (bytes_eq k) names && named_among names ms

-- whether there are members, and they are of these names
abbrev pub are_among : List (List ℕ) → Option Members → Bool
are_among names None = false
are_among names (Some ms) = named_among names ms

-- an object with members of these names and of no others
abbrev pub is_among : List (List ℕ) → Data → Bool
is_among names d = are_among names (as_object d)

-- what a member says that has to be there
abbrev pub needed : {X : Type 0} → List ℕ → (Data → Option X) → Data → Option X
needed name says d = option_and_then says (get name d)

-- what a value says where it is there, and else what is meant
abbrev pub said_or : {X : Type 0} → X → (Data → Option X) → Option Data → Option X
said_or meant says None = Some meant
said_or meant says (Some d) = says d

-- what a member says that may be missing
abbrev pub optional : {X : Type 0} → List ℕ → X → (Data → Option X) → Data → Option X
optional name meant says d = said_or meant says (get name d)

-- what each item says, where each says something
abbrev pub each : {X : Type 0} → (Data → Option X) → Items → Option (List X)
each says no_items = Some []
each says (item d ds) = option_and_then (λ x. option_map (λ xs. x ∷ xs) (each says ds)) (says d)

-- what each item of a list says
abbrev pub listed : {X : Type 0} → (Data → Option X) → Data → Option (List X)
listed says d = option_and_then (each says) (as_array d)
