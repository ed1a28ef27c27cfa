use Rattle.std.proofs.Common.{◌≡◌, length}
use Rattle.world_run.specs.Tested.{are_new_pairs}
use Rattle.world_run.proofs.conditions.are_new_pairs.Given as goal

abbrev pub invariant-loop-pair : goal.invariant-loop-pair
invariant-loop-pair l = are_new_pairs l.rest ≡ are_new_pairs l.pairs

abbrev pub decreases-loop-pair : goal.decreases-loop-pair
decreases-loop-pair l = length l.rest
