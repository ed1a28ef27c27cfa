use Rattle.std.proofs.Common.{◌≡◌, length}
use Rattle.world_run.specs.Tested.{are_new_parts}
use Rattle.world_run.proofs.conditions.are_new_parts.Given as goal

abbrev pub invariant-loop-part : goal.invariant-loop-part
invariant-loop-part l = are_new_parts l.rest ≡ are_new_parts l.parts

abbrev pub decreases-loop-part : goal.decreases-loop-part
decreases-loop-part l = length l.rest
