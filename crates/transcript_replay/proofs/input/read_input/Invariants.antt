use Rattle.std.proofs.Common.{◌≤◌, ◌-◌, length}
use Rattle.std.specs.Io.KnownBytes.{Consumes}
use Rattle.transcript_replay.proofs.input.read_input.Given as goal

abbrev pub invariant-loop-buf : goal.invariant-loop-buf
invariant-loop-buf g l = record {
  so_far : Consumes (g.I.Source.left l.fn.input) (g.I.Source.left l.input) l.text.items;
  later : g.I.Source.fault_count l.fn.input ≤ g.I.Source.fault_count l.input;
}

abbrev pub decreases-loop-buf : goal.decreases-loop-buf
decreases-loop-buf g l = 1048577 - length l.text.items
