-- What a run has noted, and the texts that it sends.
use Rattle.std.specs.Prelude.{ℕ, ◌<◌, ◌+◌, Bool, true, false, ◌&&◌, List, [], ◌∷◌, Option, Some, None, option_map}
use Rattle.mech_rows.specs.declared.kinds.Slot.{Slot}
use Rattle.mech_rows.specs.declared.notes.Value.{Value}
use Rattle.mech_rows.specs.declared.notes.Value.TheVariants as value
use Rattle.term_values.specs.Trees.{Bytes, Tree, nonce, stamp, part, text}
use Rattle.mech_rows.specs.declared.kinds.Kind.{Kind}
use Rattle.mech_rows.specs.declared.kinds.Kind.TheVariants.{Nonce as a_nonce, Stamp as a_stamp, Part as a_part, Text as a_text, Item as an_item}
use Rattle.mech_rows.specs.Rows.{kind_of}
use Rattle.mech_rows.specs.Facts.{slot_number}
use Rattle.mech_rows.specs.Found.{found}

-- in the order of the slots, each at most once, all of them from a place on
abbrev pub RisesFrom : ℕ → List (Slot × Value) → Type 0
RisesFrom least [] = Unit {0}
RisesFrom least (n ∷ ns) = (least < slot_number n.0 + 1) × RisesFrom (slot_number n.0 + 1) ns

-- in the order of the slots, each at most once
abbrev pub InOrder : List (Slot × Value) → Type 0
InOrder = RisesFrom 0

-- the term that a value is
abbrev pub tree_of_value : Value → Tree
tree_of_value (value.Nonce b) = nonce b
tree_of_value (value.Stamp s) = stamp s
tree_of_value (value.Part b) = part b
tree_of_value (value.Text b) = text b
tree_of_value (value.Item t) = t

-- the notes as a function: the term that is noted for each slot
abbrev pub noted : List (Slot × Value) → Slot → Option Tree
noted ns s = option_map tree_of_value (found ns s)

-- the part that is noted
abbrev pub part_noted : Option Tree → Option Bytes
part_noted (Some (part p)) = Some p
part_noted _ = None

-- the notes with their values as terms
abbrev pub terms_of : List (Slot × Value) → List (Slot × Tree)
terms_of [] = []
terms_of (n ∷ ns) = (n.0, tree_of_value n.1) ∷ terms_of ns

-- the value is of the kind
abbrev pub is_of : Kind → Value → Bool
is_of a_nonce (value.Nonce b) = true
is_of a_stamp (value.Stamp s) = true
is_of a_part (value.Part b) = true
is_of a_text (value.Text b) = true
is_of an_item (value.Item t) = true
is_of _ _ = false

-- each slot has a value of its kind
abbrev pub are_of_kinds : List (Slot × Value) → Bool
are_of_kinds [] = true
are_of_kinds (n ∷ ns) = is_of (kind_of n.0) n.1 && are_of_kinds ns
