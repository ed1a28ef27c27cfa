use Rattle.std.proofs.Common.{◌≡◌, drop}
use Rattle.mech_rows.specs.Found.{found}
use Rattle.mech_rows.proofs.notes.Notes.find.Given as goal

abbrev pub invariant-loop-note : goal.invariant-loop-note
invariant-loop-note l = found (drop l.note-index l.note-items) l.slot ≡ found l.self l.slot
