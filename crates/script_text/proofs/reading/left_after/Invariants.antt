use Rattle.std.proofs.Common.{◌≤◌, ◌-◌}
use Rattle.term_values.specs.Lengths.{length_of}
use Rattle.script_text.proofs.reading.left_after.Given as goal

abbrev pub invariant-loop-low : goal.invariant-loop-low
invariant-loop-low l = record {
  from : l.low ≤ length_of l.term;
  to : length_of l.term ≤ l.high;
  within : l.high ≤ l.most;
}

abbrev pub decreases-loop-low : goal.decreases-loop-low
decreases-loop-low l = l.high - l.low
