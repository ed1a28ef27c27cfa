use Rattle.std.proofs.Common.{◌≡◌, ◌+◌, drop}
use Rattle.mech_rows.specs.Verdict.{are_kept}
use Rattle.text_hooks.proofs.reading.are_kept.Given as goal

abbrev pub invariant-loop-one : goal.invariant-loop-one
invariant-loop-one l = record {
  place : l.k ≡ l.start + l.one-index;
  rest : are_kept l.items l.k (drop l.one-index l.seen) ≡ are_kept l.items l.start l.seen;
}
