use Rattle.std.proofs.Common.{◌≡◌, ◌+◌, drop}
use Rattle.mech_rows.specs.Verdict.{name_kinds}
use Rattle.text_hooks.proofs.reading.name_kinds.Given as goal

abbrev pub invariant-loop-one : goal.invariant-loop-one
invariant-loop-one l = record {
  place : l.k ≡ 1 + l._one-index;
  rest : name_kinds l.items l.k (drop l._one-index l.names) ≡ name_kinds l.items 1 l.names;
}
