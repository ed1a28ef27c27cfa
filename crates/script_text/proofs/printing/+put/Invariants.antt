use Rattle.std.proofs.Common.{◌≡◌, ◌+◌, ◌*◌, ◌++◌, drop}
use Rattle.term_values.specs.Trees.{size_of, sizes_of, trees}
use Rattle.script_text.specs.Notation.{AreWellFormed, all_plain, list_notation}
use Rattle.script_text.proofs.Prints.{from_notation}
use Rattle.script_text.proofs.printing.+put.Given as goal

abbrev pub decreases-put : goal.decreases-put
decreases-put l = 3 * size_of l.term.now

abbrev pub decreases-put_sealed : goal.decreases-put_sealed
decreases-put_sealed l = 3 * size_of l.body.now + 1

abbrev pub decreases-put_tuple : goal.decreases-put_tuple
decreases-put_tuple l = 3 * sizes_of (trees l.items.now) + 2

abbrev pub decreases-put_items : goal.decreases-put_items
decreases-put_items l = 3 * sizes_of (trees l.items.now) + 1

abbrev pub invariant-put_items-loop-place : goal.invariant-put_items-loop-place
invariant-put_items-loop-place l = record {
  bytes : l.out.items ++ from_notation l.place (all_plain (trees (drop l.place l.items))) ≡ l.fn.out.items ++ list_notation (all_plain (trees l.items));
  values : AreWellFormed (all_plain (trees (drop l.place l.items))) → AreWellFormed (all_plain (trees l.items));
}
