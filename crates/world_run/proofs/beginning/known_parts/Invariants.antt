use Rattle.std.proofs.Common.{◌≡◌, ◌++◌, map, drop}
use Rattle.term_values.specs.Trees.{part}
use Rattle.agreement_laws.specs.Configs.{revealed_parts}
use Rattle.world_run.proofs.beginning.known_parts.Given as goal

abbrev pub invariant-loop-pair : goal.invariant-loop-pair
invariant-loop-pair l = map part l.parts.items ++ revealed_parts (drop l.pair-index l.pair-items) ≡ map part l.config.own ++ revealed_parts l.config.pairs
