use Rattle.attacker_model.proofs.KnowledgeIndex.{others_stay}
use Rattle.attacker_model.proofs.knowledge_index.leave.Goals as goal

pub returns : goal.returns
returns c = record { kept = others_stay _ _ _ _ c.remove-removed.ensures.updates }
