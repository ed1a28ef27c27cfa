use Rattle.std.proofs.Common.{◌≡◌, drop}
use Rattle.mech_rows.specs.Notes.{noted}
use Rattle.agreement_laws.specs.Partners.{alike_filled}
use Rattle.agreement_laws.proofs.partners.are_alike.Given as goal

abbrev pub invariant-loop-slot : goal.invariant-loop-slot
invariant-loop-slot l = alike_filled (noted l.notes) (noted l.other) (drop l.slot-index l.slots) ≡ alike_filled (noted l.notes) (noted l.other) l.slots
