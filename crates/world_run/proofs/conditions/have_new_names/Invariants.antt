use Rattle.std.proofs.Common.{◌≡◌, length}
use Rattle.world_run.specs.Tested.{have_new_names}
use Rattle.world_run.proofs.conditions.have_new_names.Given as goal

abbrev pub invariant-loop-party : goal.invariant-loop-party
invariant-loop-party l = have_new_names l.rest ≡ have_new_names l.parties

abbrev pub decreases-loop-party : goal.decreases-loop-party
decreases-loop-party l = length l.rest
