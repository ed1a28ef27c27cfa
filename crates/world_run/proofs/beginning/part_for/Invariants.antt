use Rattle.std.proofs.Common.{◌≡◌, drop}
use Rattle.agreement_laws.specs.Configs.{part_among}
use Rattle.world_run.proofs.beginning.part_for.Given as goal

abbrev pub invariant-loop-pair : goal.invariant-loop-pair
invariant-loop-pair l = part_among (drop l.pair-index l.pairs) l.one l.other ≡ part_among l.pairs l.one l.other
