-- What a step must have for a desk to commit it, as far as keys and its stamp go.
use Rattle.std.specs.Prelude.{◌≡◌, Bool, true, false, List, [], ◌∷◌, Option, Some, None, ◌&&◌}
use Rattle.std.specs.List.{list_all}
use Rattle.term_values.specs.declared.small.Key.{Key}
use Rattle.term_values.specs.declared.small.Stamp.{Stamp}
use Rattle.replay_store.specs.Stores.{same_stamp}
use Rattle.mech_rows.specs.declared.kinds.Role.TheVariants.{A, B}
use Rattle.mech_rows.specs.declared.kinds.Under.{Under}
use Rattle.mech_rows.specs.declared.kinds.Under.TheVariants.{Pair}
use Rattle.mech_rows.specs.Rows.{Pass}
use Rattle.mech_rows.specs.Runs.{Opening}
use Rattle.node_desk.specs.declared.event.Event.{Event}
use Rattle.node_desk.specs.declared.event.Event.TheVariants.{Open, Issue, Commit, Drop, Restart}

-- each of the items is under that key
abbrev pub AreUnder : Key → List Opening → Type 0
AreUnder k [] = Unit {0}
AreUnder k (o ∷ os) = (o.key ≡ k) × AreUnder k os

-- the long-term part of A and B
abbrev pub is_shared : Under → Bool
is_shared (Pair A B) = true
is_shared _ = false

-- no item of these passes has another key than the long-term part of A and B
abbrev pub have_one_key : List Pass → Bool
have_one_key ps = list_all (λ p. list_all (λ c. is_shared c.under) p.covers) ps

-- the event issued the stamp
abbrev pub issues : Stamp → Event → Bool
issues stamp (Issue now own) = same_stamp own stamp
issues stamp (Open run head texts) = false
issues stamp (Commit run now step) = false
issues stamp (Drop run) = false
issues stamp (Restart now last more) = false

-- the stamp is there, and is that one
abbrev pub is_that : Option Stamp → Stamp → Bool
is_that None stamp = false
is_that (Some own) stamp = same_stamp own stamp

-- the event is the commit of a step that issued the stamp
abbrev pub uses : Stamp → Event → Bool
uses stamp (Commit run now step) = is_that step.issued stamp
uses stamp (Issue now own) = false
uses stamp (Open run head texts) = false
uses stamp (Drop run) = false
uses stamp (Restart now last more) = false
