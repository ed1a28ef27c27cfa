use Rattle.std.proofs.Common.{◌≡◌, length}
use Rattle.world_run.specs.Tested.{have_new_parts}
use Rattle.world_run.proofs.conditions.have_new_parts.Given as goal

abbrev pub invariant-loop-pair : goal.invariant-loop-pair
invariant-loop-pair l = have_new_parts l.own l.rest ≡ have_new_parts l.own l.pairs

abbrev pub decreases-loop-pair : goal.decreases-loop-pair
decreases-loop-pair l = length l.rest
