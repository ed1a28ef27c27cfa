use Rattle.std.proofs.Common.{◌≡◌, ◌+◌, drop}
use Rattle.mech_rows.specs.Verdict.{are_kinds}
use Rattle.text_hooks.proofs.reading.are_kinds.Given as goal

abbrev pub invariant-loop-slot : goal.invariant-loop-slot
invariant-loop-slot l = record {
  place : l.k ≡ l.start + l.slot-index;
  rest : are_kinds l.items l.k (drop l.slot-index l.slots) ≡ are_kinds l.items l.start l.slots;
}
