-- Lists of what stands in slots.
use Rattle.std.specs.Prelude.{◌≡◌, List, [], ◌∷◌, Option, Some, None, if◌then◌else◌}
use Rattle.mech_rows.specs.declared.kinds.Slot.{Slot}
use Rattle.mech_rows.specs.Facts.{same_slot}

-- what stands in a slot, by the first entry of that slot
abbrev pub found : {X : Type 0} → List (Slot × X) → Slot → Option X
found [] s = None
found (n ∷ ns) s = if same_slot n.0 s then Some n.1 else found ns s

-- each slot at most once
abbrev pub Once : {X : Type 0} → List (Slot × X) → Type 0
Once [] = Unit {0}
Once (n ∷ ns) = (found ns n.0 ≡ None) × Once ns
