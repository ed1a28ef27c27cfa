use Rattle.attacker_model.proofs.KnowledgeIndex.{still_entered}
use Rattle.attacker_model.proofs.knowledge_index.enter.Goals as goal

pub returns-clause-kept : goal.returns-clause-kept
returns-clause-kept c = still_entered c.insert.result _ _ _ c.insert.ensures.updates c.insert.ensures.err
