use Rattle.std.proofs.Common.{◌≡◌, drop}
use Rattle.mech_rows.specs.Found.{found}
use Rattle.script_text.proofs.lines.find_slot.Given as goal

abbrev pub invariant-loop-text : goal.invariant-loop-text
invariant-loop-text l = found (drop l.text-index l.texts) l.slot ≡ found l.texts l.slot
