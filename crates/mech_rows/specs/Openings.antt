-- A run as it is opened: the texts that it sends are noted from the start.
use Rattle.std.specs.Prelude.{Bool, true, false, not, List, [], ◌∷◌, Some, None, is_some, ◌&&◌, ◌||◌, if◌then◌else◌}
use Rattle.std.specs.List.{list_all, list_any}
use Rattle.term_values.specs.Trees.{Bytes, text}
use Rattle.mech_rows.specs.declared.kinds.Mech.{Mech}
use Rattle.mech_rows.specs.declared.kinds.Role.{Role}
use Rattle.mech_rows.specs.declared.kinds.Slot.{Slot}
use Rattle.mech_rows.specs.declared.kinds.Slot.TheVariants.{X1, X2, X3, X4, X5, X6, X7, X8, X9}
use Rattle.mech_rows.specs.declared.kinds.Kind.{Kind}
use Rattle.mech_rows.specs.declared.kinds.Kind.TheVariants.{Text as a_text}
use Rattle.mech_rows.specs.Rows.{kind_of, Pass, row_of, pairs_of}
use Rattle.mech_rows.specs.Facts.{same_mech, same_role, same_slot}
use Rattle.mech_rows.specs.Heads.{Head, name_of}
use Rattle.mech_rows.specs.Rings.{Ring, keys_in}
use Rattle.mech_rows.specs.Runs.{Notes, Run, sent_slots, next_act}
use Rattle.mech_rows.specs.Verdict.{Noted, State}

-- texts that were given for slots
abbrev pub Texts : Type 0
Texts = List (Slot × Bytes)

-- the text that was given for the slot, and else the empty text
abbrev pub text_for : Texts → Slot → Bytes
text_for [] s = []
text_for (t ∷ ts) s = if same_slot t.0 s then t.1 else text_for ts s

-- the kind is text
abbrev pub is_text : Kind → Bool
is_text a_text = true
is_text _ = false

-- the role sends the slot, other than inside a forwarded item
abbrev pub sends_slot : Role → Slot → List Pass → Bool
sends_slot r s ps = list_any (λ p. same_role p.from r && list_any (same_slot s) (sent_slots p)) ps

-- a run's own texts are noted from its opening, the empty text where none was given
abbrev pub opening_notes : Head → Texts → Notes
opening_notes h texts s = if is_text (kind_of s) && sends_slot h.role s (row_of h.mech) then Some (text (text_for texts s)) else None

-- the run as it is opened: at the first pass in which its role acts, with its texts noted
abbrev pub opened_run : Head → Texts → Run
opened_run h texts = record { head = h; next = next_act h 0; notes = opening_notes h texts }

-- the slots of texts
abbrev pub text_slots : List Slot
text_slots = X1 ∷ X2 ∷ X3 ∷ X4 ∷ X5 ∷ X6 ∷ X7 ∷ X8 ∷ X9 ∷ []

-- those of the slots that the role sends, with their texts
abbrev pub sent_texts : Role → List Pass → Texts → List Slot → Noted
sent_texts r ps texts [] = []
sent_texts r ps texts (s ∷ ss) = if sends_slot r s ps then (s, text (text_for texts s)) ∷ sent_texts r ps texts ss else sent_texts r ps texts ss

-- that run, with its notes as a list in the order of the slots
abbrev pub opened_state : Head → Texts → State
opened_state h texts = record { head = h; next = next_act h 0; notes = sent_texts h.role (row_of h.mech) texts text_slots }

-- the role is one of the two
abbrev pub uses : Role → Role × Role → Bool
uses r q = same_role r q.0 || same_role r q.1

-- the ring has each long-term part that the role uses
abbrev pub has_parts : Ring → Head → Bool
has_parts ring h = list_all (λ (q : Role × Role). not (uses h.role q) || is_some (keys_in ring (name_of h q.0) (name_of h q.1))) (pairs_of h.mech)

-- a run of that mechanism and role
abbrev pub plays : Mech → Role → Head → Bool
plays m r h = same_mech h.mech m && same_role h.role r
