use Rattle.std.proofs.Common.{◌≡◌, drop}
use Rattle.mech_rows.specs.Found.{found}
use Rattle.text_hooks.proofs.order.find.Given as goal

abbrev pub invariant-loop-value : goal.invariant-loop-value
invariant-loop-value l = found (drop l.value-index l.values) l.slot ≡ found l.values l.slot
