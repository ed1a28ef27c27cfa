use Rattle.std.proofs.Common.{◌≡◌, drop}
use Rattle.mech_rows.specs.Found.{found}
use Rattle.mech_rows.proofs.texts.Texts.find.Given as goal

abbrev pub invariant-loop-text : goal.invariant-loop-text
invariant-loop-text l = found (drop l.text-index l.text-items) l.slot ≡ found l.self l.slot
