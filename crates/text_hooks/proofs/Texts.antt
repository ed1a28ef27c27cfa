-- The text of a slot.
use Rattle.std.proofs.Common.{◌≡◌, Bool, true, false, [], ◌∷◌, Option, Some, None, if◌then◌else◌, refl, ap, ◌∙◌}
use Rattle.term_values.specs.Trees.{Bytes}
use Rattle.mech_rows.specs.declared.kinds.Slot.{Slot}
use Rattle.mech_rows.specs.Facts.{same_slot}
use Rattle.mech_rows.specs.Found.{found}
use Rattle.mech_rows.specs.Openings.{Texts, text_for}

abbrev pub or_empty : Option Bytes → Bytes
or_empty None = []
or_empty (Some t) = t

one_text : (b : Bool) (x : Bytes) (o : Option Bytes) (y : Bytes) → or_empty o ≡ y → or_empty (if b then Some x else o) ≡ (if b then x else y)
one_text true x o y e = refl
one_text false x o y e = e

pub found_text : (ts : Texts) (s : Slot) → or_empty (found ts s) ≡ text_for ts s
found_text [] s = refl
found_text (t ∷ ts) s = one_text (same_slot t.0 s) t.1 (found ts s) (text_for ts s) (found_text ts s)

pub text_some : (ts : Texts) (s : Slot) (t : Bytes) → Some t ≡ found ts s → t ≡ text_for ts s
text_some ts s t e = ap or_empty e ∙ found_text ts s

pub text_none : (ts : Texts) (s : Slot) (t : Bytes) → None ≡ found ts s → t ≡ [] → t ≡ text_for ts s
text_none ts s t e f = f ∙ (ap or_empty e ∙ found_text ts s)
