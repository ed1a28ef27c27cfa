use Rattle.std.proofs.Common.{◌↔◌, IsTrue, subst, take}
use Rattle.term_values.specs.Trees.{Among, Tree}
use Rattle.attacker_model.proofs.KnowledgeTaking.{part_known_test}
use Rattle.attacker_model.proofs.knowledge_apart.Apart.knows_part.Goals as goal

pub returns : goal.returns
returns c = record {
  known = part_known_test _ _ _ (subst (λ (t : Tree). IsTrue c.knows-2.result ↔ Among t (take c.args.count c.args.self.now)) c.of.ensures.tree c.knows-2.ensures.known);
}
