use Rattle.std.proofs.Common.{drop}
use Rattle.term_values.specs.Trees.{size_of, trees}
use Rattle.world_run.specs.Born.{ItemsHoldLater}
use Rattle.world_run.proofs.born.+holds_later.Given as goal

abbrev pub invariant-loop-item : goal.invariant-loop-item
invariant-loop-item l = ItemsHoldLater l.draws (trees l.item-items) → ItemsHoldLater l.draws (trees (drop l.item-index l.item-items))

abbrev pub decreases-holds_later : goal.decreases-holds_later
decreases-holds_later l = size_of l.term.now
