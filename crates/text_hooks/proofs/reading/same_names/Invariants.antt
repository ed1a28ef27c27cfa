use Rattle.std.proofs.Common.{◌≡◌, ◌+◌, drop}
use Rattle.mech_rows.specs.Verdict.{same_names}
use Rattle.text_hooks.proofs.reading.same_names.Given as goal

abbrev pub invariant-loop-one : goal.invariant-loop-one
invariant-loop-one l = record {
  place : l.k ≡ 1 + l.one-index;
  rest : same_names l.items l.k (drop l.one-index l.names) ≡ same_names l.items 1 l.names;
}
