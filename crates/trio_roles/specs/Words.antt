-- Texts that were received.
use Rattle.std.specs.Prelude.{Bool, Option, Some, if◌then◌else◌}
use Rattle.term_values.specs.Trees.{Bytes}
use Rattle.mech_rows.specs.declared.kinds.Mech.{Mech}
use Rattle.mech_rows.specs.declared.kinds.Slot.{Slot}
use Rattle.mech_rows.specs.declared.refusal.Refusal.{Refusal}
use Rattle.mech_rows.specs.declared.refusal.Refusal.TheVariants.{TextRefused}
use Rattle.text_hooks.specs.Judged.{refused_of_two}

-- the first of the three that is not allowed
abbrev pub refused_of_three : (Mech → Slot → Bytes → Bool) → Mech → Slot → Bytes → Slot → Bytes → Slot → Bytes → Option Refusal
refused_of_three allowed m s x t y u z = if allowed m s x then refused_of_two allowed m t y u z else Some (TextRefused s)
