-- Where a run stands.
use Rattle.std.specs.Prelude.{Bool, List, [], ◌∷◌, ◌++◌, drop, is_none, if◌then◌else◌}
use Rattle.std.specs.List.{list_any}
use Rattle.mech_rows.specs.declared.kinds.Role.{Role}
use Rattle.mech_rows.specs.declared.kinds.Slot.{Slot}
use Rattle.mech_rows.specs.Facts.{same_role}
use Rattle.mech_rows.specs.Lawful.{own_slots}
use Rattle.mech_rows.specs.Rows.{Pass, is_stamp, kind_of, row_of}
use Rattle.mech_rows.specs.Runs.{nth, sent_slots}
use Rattle.mech_rows.specs.Replies.{sends, receives, slots_in, unknown_slots}
use Rattle.mech_rows.specs.Verdict.{State}
use Rattle.text_hooks.specs.declared.phase.Phase.{Phase}

-- what the role draws or issues for the first of the passes that it sends, where it knows these slots and learns those that it receives before
abbrev pub slots_to_send : Role → List Slot → List Pass → List Slot
slots_to_send r known [] = []
slots_to_send r known (p ∷ ps) = if same_role p.from r then unknown_slots known (sent_slots p) else slots_to_send r (own_slots r p ++ known) ps

-- the next message that the run's role sends has a stamp to issue
abbrev pub stamps_next : State → Bool
stamps_next s = list_any (λ u. is_stamp (kind_of u)) (slots_to_send s.head.role (slots_in s.notes) (drop s.next (row_of s.head.mech)))

-- the phase of a run, by its row
abbrev pub phase_of : State → Phase
phase_of s = record { next = s.next; sends = sends s; receives = receives s; done = is_none (nth (row_of s.head.mech) s.next); stamps = stamps_next s }
