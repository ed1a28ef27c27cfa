use Rattle.std.proofs.Common.{◌≡◌, ◌+◌, drop}
use Rattle.mech_rows.specs.Verdict.{are_clear}
use Rattle.text_hooks.proofs.reading.are_clear.Given as goal

abbrev pub invariant-loop-one : goal.invariant-loop-one
invariant-loop-one l = record {
  place : l.k ≡ 1 + l.one-index;
  rest : are_clear l.items l.k (drop l.one-index l.clear) ≡ are_clear l.items 1 l.clear;
}
