use Rattle.attacker_model.proofs.KnowledgeIndex.{head_first, head_none, head_other}
use Rattle.attacker_model.proofs.knowledge_index.next_place.Goals as goal

pub returns-in-Some-clause-first : goal.returns-in-Some-clause-first
returns-in-Some-clause-first c = head_first _ _ _ _ (c.range.ensures.in_range tt) _ _ c.in-Some.ensures.steps c.if-found-number.true

pub returns-in_default-clause-none : goal.returns-in_default-clause-none
returns-in_default-clause-none c = λ _. head_other _ _ _ _ (c.range.ensures.in_range tt) _ _ c.in-Some.ensures.steps c.if-found-number.false

pub returns-in_default-2-clause-none : goal.returns-in_default-2-clause-none
returns-in_default-2-clause-none c = λ _. head_none _ _ _ _ (c.range.ensures.in_range tt) _ _ _ c.next.ensures.steps c.in_default.is
