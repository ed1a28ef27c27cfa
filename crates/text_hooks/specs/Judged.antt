-- Texts that were received.
use Rattle.std.specs.Prelude.{Bool, Option, Some, None, if◌then◌else◌}
use Rattle.term_values.specs.Trees.{Bytes}
use Rattle.mech_rows.specs.declared.kinds.Mech.{Mech}
use Rattle.mech_rows.specs.declared.kinds.Slot.{Slot}
use Rattle.mech_rows.specs.declared.refusal.Refusal.{Refusal}
use Rattle.mech_rows.specs.declared.refusal.Refusal.TheVariants.{TextRefused}

-- the first of the two that is not allowed
abbrev pub refused_of_two : (Mech → Slot → Bytes → Bool) → Mech → Slot → Bytes → Slot → Bytes → Option Refusal
refused_of_two allowed m s x t y = if allowed m s x then if allowed m t y then None else Some (TextRefused t) else Some (TextRefused s)
