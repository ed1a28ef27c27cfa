-- What messages with a part of a key show, in the order of noting.
use Rattle.std.specs.Prelude.{[], ◌∷◌}
use Rattle.term_values.specs.Trees.{text}
use Rattle.mech_rows.specs.declared.kinds.Slot.TheVariants.{X1}
use Rattle.mech_rows.specs.Verdict.{Noted}
use Rattle.keys_11770_2.specs.declared.shown.PartText.{PartText}

-- the text that A seals with its part
abbrev pub part_text : PartText → Noted
part_text t = (X1, text t.x1) ∷ []
