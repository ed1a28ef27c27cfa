use Rattle.attacker_model.proofs.KnowledgeIndexed.{known_answer}
use Rattle.attacker_model.proofs.knowledge_apart.Apart.knows.Goals as goal

pub returns : goal.returns
returns c = record {
  known = known_answer _ _ _ _ _ _ _ _ _ _ _ c.self.view_is c.self.invariant c.split_at.ensures.front c.list.ensures.value c.min.ensures c.len.ensures.value c.is_found.ensures.among c.is_found.ensures.found;
}
