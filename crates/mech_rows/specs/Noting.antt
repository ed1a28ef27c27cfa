-- Which slots a run has noted, by its row alone.
use Rattle.std.specs.Prelude.{ℕ, List, [], ◌∷◌, ◌++◌, if◌then◌else◌}
use Rattle.mech_rows.specs.declared.kinds.Role.{Role}
use Rattle.mech_rows.specs.declared.kinds.Slot.{Slot}
use Rattle.mech_rows.specs.Rows.{Pass, row_of}
use Rattle.mech_rows.specs.Heads.{Head}
use Rattle.mech_rows.specs.Lawful.{acted_slots}
use Rattle.mech_rows.specs.Openings.{sends_slot, text_slots}
use Rattle.mech_rows.specs.Replies.{unknown_slots}

-- those of the slots that the role sends
abbrev pub sent_among : Role → List Pass → List Slot → List Slot
sent_among r ps [] = []
sent_among r ps (s ∷ ss) = if sends_slot r s ps then s ∷ sent_among r ps ss else sent_among r ps ss

-- the slots of the role's own texts
abbrev pub own_texts : Role → List Pass → List Slot
own_texts r ps = sent_among r ps text_slots

-- what a run of the head has noted before pass k, in the order of noting: its own texts, and then what each pass has shown it anew
abbrev pub slots_at : Head → ℕ → List Slot
slots_at h k =
    let ps = row_of h.mech in
    own_texts h.role ps ++ unknown_slots (own_texts h.role ps) (acted_slots h.role k ps)
