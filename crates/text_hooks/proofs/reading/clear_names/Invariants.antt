use Rattle.std.proofs.Common.{◌≡◌, ◌+◌, drop}
use Rattle.mech_rows.specs.Verdict.{clear_names}
use Rattle.text_hooks.proofs.reading.clear_names.Given as goal

abbrev pub invariant-loop-one : goal.invariant-loop-one
invariant-loop-one l = record {
  place : l.k ≡ 1 + l.one-index;
  rest : clear_names l.b l.items l.k (drop l.one-index l.clear) ≡ clear_names l.b l.items 1 l.clear;
}
