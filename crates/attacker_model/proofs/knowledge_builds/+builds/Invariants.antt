use Rattle.std.proofs.Common.{drop, take}
use Rattle.term_values.specs.Trees.{size_of, sizes_of, trees}
use Rattle.attacker_model.specs.Saturated.{AllBuilt}
use Rattle.attacker_model.proofs.knowledge_builds.+builds.Given as goal

abbrev pub decreases-builds : goal.decreases-builds
decreases-builds l = size_of l.term.now

abbrev pub decreases-builds_all : goal.decreases-builds_all
decreases-builds_all l = sizes_of (trees l.items.now)

abbrev pub invariant-builds_all-loop-item : goal.invariant-builds_all-loop-item
invariant-builds_all-loop-item l = record {
  from : AllBuilt (take l.count l.known) (trees l.items) → AllBuilt (take l.count l.known) (trees (drop l.item-index l.items));
  to : AllBuilt (take l.count l.known) (trees (drop l.item-index l.items)) → AllBuilt (take l.count l.known) (trees l.items);
}
