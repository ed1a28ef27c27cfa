-- What a run says next, by its row, and what it draws and issues for it.
use Rattle.std.specs.Prelude.{◌≡◌, suc, Bool, true, false, List, [], ◌∷◌, ◌++◌, map, take, drop, length, Option, Some, None, Result, Err, ◌&&◌, ◌==◌, if◌then◌else◌}
use Rattle.std.specs.List.{list_all, list_any}
use Rattle.term_values.specs.Trees.{Bytes, Tree, tag, tuple, none, trees}
use Rattle.term_values.specs.declared.small.Key.{Key}
use Rattle.term_values.specs.declared.small.Stamp.{Stamp}
use Rattle.mech_rows.specs.declared.kinds.Kind.{Kind}
use Rattle.mech_rows.specs.declared.kinds.Mech.{Mech}
use Rattle.mech_rows.specs.declared.refusal.Refusal.{Refusal}
use Rattle.mech_rows.specs.declared.refusal.Refusal.TheVariants.{WrongPass}
use Rattle.mech_rows.specs.declared.kinds.Role.{Role}
use Rattle.mech_rows.specs.declared.kinds.Role.TheVariants.{P}
use Rattle.mech_rows.specs.declared.kinds.Slot.{Slot}
use Rattle.mech_rows.specs.declared.kinds.Slot.TheVariants.{Ra, Rb, Ra2, Ta, Tb, Tp, Fa, Fb, X1, X2, X3, X4, X5, X6, X7, X8, X9, Fwd}
use Rattle.mech_rows.specs.Rows.{kind_of, is_stamp, Cover, Pass, pass_from, tag_of, row_of}
use Rattle.mech_rows.specs.Facts.{same_role}
use Rattle.mech_rows.specs.Found.{found}
use Rattle.mech_rows.specs.Heads.{Head}
use Rattle.mech_rows.specs.Runs.{Notes, Keys, value, key_under, body, clear_item, nth, sent_slots, next_act, Opening}
use Rattle.mech_rows.specs.Steps.{stamp_in}
use Rattle.mech_rows.specs.Verdict.{Noted, State, Taken, has_kind, verdict}
use Rattle.mech_rows.specs.Lawful.{tested_by, stands_in, acted_slots}

-- the slots that are noted, in order
abbrev pub slots_in : Noted → List Slot
slots_in [] = []
slots_in (n ∷ ns) = n.0 ∷ slots_in ns

-- all slots, in order
abbrev pub all_slots : List Slot
all_slots = Ra ∷ Rb ∷ Ra2 ∷ Ta ∷ Tb ∷ Tp ∷ Fa ∷ Fb ∷ X1 ∷ X2 ∷ X3 ∷ X4 ∷ X5 ∷ X6 ∷ X7 ∷ X8 ∷ X9 ∷ Fwd ∷ []

-- a value that is there, with its slot
abbrev pub with_slot : Slot → Option Tree → Noted → Noted
with_slot s None rest = rest
with_slot s (Some t) rest = (s, t) ∷ rest

-- those of the slots that are noted, with their values
abbrev pub noted_among : Noted → List Slot → Noted
noted_among notes [] = []
noted_among notes (s ∷ ss) = with_slot s (found notes s) (noted_among notes ss)

-- the notes in the order of the slots
abbrev pub in_order : Noted → Noted
in_order notes = noted_among notes all_slots

-- the value is there and of the kind
abbrev pub is_of_kind : Kind → Option Tree → Bool
is_of_kind k None = false
is_of_kind k (Some t) = has_kind k t

-- each of the slots has a value of its kind
abbrev pub are_noted : Noted → List Slot → Bool
are_noted notes ss = list_all (λ s. is_of_kind (kind_of s) (found notes s)) ss

-- the run has noted what its role has sent and seen before its next pass
abbrev pub has_acted : State → Bool
has_acted s = are_noted s.notes (acted_slots s.head.role s.next (row_of s.head.mech))

-- a pass that is there; else one that shows nothing
abbrev pub pass_or_none : Option Pass → Pass
pass_or_none (Some p) = p
pass_or_none None = pass_from P P [] []

-- the run's next pass
abbrev pub next_pass : State → Pass
next_pass s = pass_or_none (nth (row_of s.head.mech) s.next)

-- the pass is there, and that end of it is the role
abbrev pub ends_at : (Pass → Role) → Role → Option Pass → Bool
ends_at end r None = false
ends_at end r (Some p) = same_role (end p) r

-- the run's role sends its next pass
abbrev pub sends : State → Bool
sends s = ends_at (λ p. p.from) s.head.role (nth (row_of s.head.mech) s.next)

-- the run's role sends the first message of all, and has not yet
abbrev pub sends_first : State → Bool
sends_first s = sends s && (s.next == 0)

-- the run's role receives its next pass
abbrev pub receives : State → Bool
receives s = ends_at (λ p. p.to) s.head.role (nth (row_of s.head.mech) s.next)

-- what a run says of a message: the verdict, where its role receives its next pass
abbrev pub run_verdict : (Key → Tree → Option Tree) → (Key → Tree → Tree → Bool) → (Mech → Slot → Bytes → Bool) → Keys → State → Tree → Result Taken Refusal
run_verdict opens checks allowed keys s m = if receives s then verdict opens checks keys allowed s m else Err WrongPass

-- those of the slots that are not known, each once, in order
abbrev pub unknown_slots : List Slot → List Slot → List Slot
unknown_slots known [] = []
unknown_slots known (s ∷ ss) = if stands_in known s then unknown_slots known ss else s ∷ unknown_slots (s ∷ known) ss

-- what the run draws or issues for what it says next, in the order of the message
abbrev pub new_slots : State → List Slot
new_slots s = unknown_slots (slots_in s.notes) (sent_slots (next_pass s))

-- the run issues a stamp for what it says next
abbrev pub needs_stamp : State → Bool
needs_stamp s = sends s && list_any (λ u. is_stamp (kind_of u)) (new_slots s)

-- the items that the run makes
abbrev pub made_in : List Cover → List Cover
made_in [] = []
made_in (c ∷ cs) = if c.made then c ∷ made_in cs else made_in cs

-- the first item that was made
abbrev pub first_item : List Opening → Tree
first_item [] = tuple none
first_item (o ∷ os) = o.item

-- the protected items of a message: those that were made, in order, and for each other one what is forwarded
abbrev pub sent_items : Notes → List Cover → List Opening → List Tree
sent_items notes [] os = []
sent_items notes (c ∷ cs) os = if c.made then first_item os ∷ sent_items notes cs (drop 1 os) else value notes Fwd ∷ sent_items notes cs os

-- the message of the run's next pass, with these notes and these items that it made
abbrev pub said : State → Noted → List Opening → Tree
said s notes sealed =
    let p = next_pass s in
    tuple (trees (tag (tag_of s.head.mech (suc s.next) 0) ∷ (map (clear_item s.head (found notes)) p.clear ++ sent_items (found notes) p.covers sealed)))

-- the stamps in these slots
abbrev pub stamps_in : Noted → List Slot → List Stamp
stamps_in notes [] = []
stamps_in notes (s ∷ ss) = if is_stamp (kind_of s) then stamp_in (value (found notes) s) ∷ stamps_in notes ss else stamps_in notes ss

-- a stamp that is there, as a list
abbrev pub listed : Option Stamp → List Stamp
listed None = []
listed (Some s) = s ∷ []

module _ (opens : Key → Tree → Option Tree) (checks : Key → Tree → Tree → Bool) (keys : Keys) where
  -- each of these items was made under its key from its body
  abbrev pub AreMade : Head → Notes → List Cover → List Opening → Type 0
  AreMade h notes [] [] = Unit {0}
  AreMade h notes (c ∷ cs) (o ∷ os) = (o.key ≡ key_under keys h notes c.under) × (o.body ≡ body h notes c) × tested_by opens checks c.is_check o.key o.item o.body × AreMade h notes cs os
  AreMade h notes _ _ = ⊥

  -- the run says this message as its next pass: it keeps its notes, notes what it draws and issues, and makes its items
  pub record Says (before after : State) (message : Tree) (sealed : List Opening) (issued : Option Stamp) : Type 0 where
    pub same_head : after.head ≡ before.head
    pub moves : after.next ≡ next_act before.head (suc before.next)
    pub keeps : take (length before.notes) after.notes ≡ before.notes
    pub slots : slots_in after.notes ≡ slots_in before.notes ++ new_slots before
    pub values : are_noted after.notes (sent_slots (next_pass before)) ≡ true
    pub shows : message ≡ said before after.notes sealed
    pub makes : AreMade before.head (found after.notes) (made_in (next_pass before).covers) sealed
    pub issues : stamps_in after.notes (new_slots before) ≡ listed issued
