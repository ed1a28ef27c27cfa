use Rattle.std.proofs.Common.{◌≡◌, ◌++◌, drop}
use Rattle.world_run.specs.Views.{revealed_names}
use Rattle.world_run.proofs.beginning.revealed_names.Given as goal

abbrev pub invariant-loop-pair : goal.invariant-loop-pair
invariant-loop-pair l = l.names.items ++ revealed_names (drop l.pair-index l.pair-items) ≡ revealed_names l.config.pairs
