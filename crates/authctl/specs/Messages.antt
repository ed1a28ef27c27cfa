-- The messages of the walks, written out. Only private calls cite them: the output is that of the table.
use Rattle.std.specs.Prelude.{ℕ, Bool, true, false, List, [], ◌∷◌, ◌++◌, map}
use Rattle.term_values.specs.Trees.{Tree, trees}
use Rattle.term_values.specs.Trees as term
use Rattle.term_values.specs.declared.Key.TheVariants.{One}
use Rattle.term_values.specs.declared.Stamp.TheVariants.{Time}
use Rattle.tagged_codec.specs.Grammar.{IsInLimits}
use Rattle.mech_rows.specs.declared.Mech.{Mech}
use Rattle.mech_rows.specs.declared.Mech.TheVariants.{E1, E2, E3, E4, C1, C2, C3, C4}
use Rattle.authctl.specs.declared.words.Walk.{Walk}
use Rattle.authctl.specs.declared.walk.Fresh.{Fresh}
use Rattle.authctl.specs.declared.walk.Fresh.TheVariants.{First, Second, Now}
use Rattle.authctl.specs.Walks.{counted_nonce, walk_time}

-- the mechanisms of walks that seal
abbrev pub is_sealing : Mech → Bool
is_sealing E1 = true
is_sealing E2 = true
is_sealing E3 = true
is_sealing E4 = true
is_sealing _ = false

-- those that check
abbrev pub is_checking : Mech → Bool
is_checking C1 = true
is_checking C2 = true
is_checking C3 = true
is_checking C4 = true
is_checking _ = false

-- each of the messages has a spelling
abbrev pub AreInLimits : List Tree → Type 0
AreInLimits [] = Unit {0}
AreInLimits (t ∷ ts) = IsInLimits t × AreInLimits ts

-- the family of a mechanism and its number there
abbrev pub kind_bytes : Mech → List ℕ
kind_bytes E1 = 1 ∷ 1 ∷ []
kind_bytes E2 = 1 ∷ 2 ∷ []
kind_bytes E3 = 1 ∷ 3 ∷ []
kind_bytes E4 = 1 ∷ 4 ∷ []
kind_bytes C1 = 2 ∷ 1 ∷ []
kind_bytes C2 = 2 ∷ 2 ∷ []
kind_bytes C3 = 2 ∷ 3 ∷ []
kind_bytes C4 = 2 ∷ 4 ∷ []
kind_bytes _ = []

-- the tag of a pass and of a part in it
abbrev pub tag_of : Walk → ℕ → ℕ → Tree
tag_of w pass part = term.tag (kind_bytes w.mech ++ pass ∷ part ∷ [])

-- the first or the second draw, or the time
abbrev pub fresh_tree : Fresh → Tree
fresh_tree First = term.nonce (counted_nonce 0)
fresh_tree Second = term.nonce (counted_nonce 1)
fresh_tree Now = term.stamp (Time walk_time)

-- what is sealed or checked: the names, what is fresh, and an empty text
abbrev pub body_of : Walk → ℕ → List Fresh → Tree
body_of w pass fresh = term.tuple (trees (tag_of w pass 1 ∷ term.name w.a ∷ term.name w.b ∷ (map fresh_tree fresh ++ term.text [] ∷ [])))

-- the verifier's challenge
abbrev pub challenge_of : Walk → Tree
challenge_of w = term.tuple (trees (tag_of w 1 0 ∷ fresh_tree First ∷ term.text [] ∷ []))

-- a message with a sealed body
abbrev pub sealed_of : Walk → ℕ → List Fresh → Tree
sealed_of w pass fresh = term.tuple (trees (tag_of w pass 0 ∷ term.text [] ∷ term.seal (One w.part) (body_of w pass fresh) ∷ []))

-- a message with the check of a body, and what of it is shown beside
abbrev pub checked_of : Walk → ℕ → List Fresh → List Fresh → Tree
checked_of w pass shown fresh = term.tuple (trees (tag_of w pass 0 ∷ (map fresh_tree shown ++ term.text [] ∷ term.text [] ∷ term.check (One w.part) (body_of w pass fresh) ∷ [])))
