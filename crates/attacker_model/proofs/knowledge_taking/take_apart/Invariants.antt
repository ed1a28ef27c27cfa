use Rattle.std.proofs.Common.{◌≡◌, ◌+◌, ◌∷◌, length, take}
use Rattle.term_values.specs.Trees.{sizes_of, trees}
use Rattle.attacker_model.specs.Knowledge.{Differ}
use Rattle.attacker_model.proofs.KnowledgeTaking.{Taking}
use Rattle.attacker_model.proofs.KnowledgeMeasure.{weights}
use Rattle.attacker_model.proofs.knowledge_taking.take_apart.Given as goal

abbrev pub invariant-loop-next : goal.invariant-loop-next
invariant-loop-next l = record {
  taking : Taking (l.fn.term ∷ l.initial.known) l.known l.waiting.items;
  differ : Differ l.known;
  kept : take (length l.initial.known) l.known ≡ l.initial.known;
}

abbrev pub decreases-loop-next : goal.decreases-loop-next
decreases-loop-next l = sizes_of (trees l.waiting.items) + weights l.known l.known
