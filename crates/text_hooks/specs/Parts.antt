-- The terms of which bodies and messages are made, and their limits.
use Rattle.std.specs.Prelude.{ℕ, ◌≤◌, List, [], ◌∷◌, ◌++◌, map, Option, Some, None}
use Rattle.term_values.specs.Trees.{Bytes, Tree, name, nonce, stamp, part, text, tag, tuple, trees, depth_of}
use Rattle.term_values.specs.Lengths.{length_of}
use Rattle.term_values.specs.Limits.{Fits}
use Rattle.seal_trait.specs.Items.{IsShort}
use Rattle.mech_rows.specs.Runs.{Opening}
use Rattle.text_hooks.specs.declared.making.SlotValue.{SlotValue}
use Rattle.text_hooks.specs.declared.making.SlotValue.TheVariants as slot_value

-- the term of a value
abbrev pub value_term : SlotValue → Tree
value_term (slot_value.Nonce b) = nonce b
value_term (slot_value.Stamp s) = stamp s
value_term (slot_value.Part b) = part b

-- a body of this tag: the names, the values, and a text
abbrev pub body_of : Bytes → List ℕ → List SlotValue → Bytes → Tree
body_of t ns fs x = tuple (trees (tag t ∷ (map name ns ++ (map value_term fs ++ text x ∷ []))))

-- the terms that show a fresh value, where there is one
abbrev pub shown_value : Option SlotValue → List Tree
shown_value (Some f) = value_term f ∷ []
shown_value None = []

-- the term keeps the limits, has one level, and takes at most so many bytes
pub record IsSmall (most : ℕ) (t : Tree) : Type 0 where
  pub fits : Fits t
  pub low : depth_of t ≤ 1
  pub short : length_of t ≤ most

-- each of these terms is small
abbrev pub AreSmall : ℕ → List Tree → Type 0
AreSmall most [] = Unit {0}
AreSmall most (t ∷ ts) = IsSmall most t × AreSmall most ts

-- the item was made from a short body: it keeps the limits, has at most three levels, and takes at most 2,114 bytes
pub record IsMadeItem (t : Tree) : Type 0 where
  pub fits : Fits t
  pub low : depth_of t ≤ 3
  pub short : length_of t ≤ 2114

-- the items of these
abbrev pub items_in : List Opening → List Tree
items_in [] = []
items_in (o ∷ os) = o.item ∷ items_in os

-- each of these items was made from a short body
abbrev pub AreMadeItems : List Opening → Type 0
AreMadeItems [] = Unit {0}
AreMadeItems (o ∷ os) = IsMadeItem o.item × AreMadeItems os

-- a body that can be sealed, of values alone: it has at most two levels, and a spelling of at most 2,048 bytes
pub record IsFlat (body : Tree) : Type 0 where
  pub short : IsShort body
  pub low : depth_of body ≤ 2
