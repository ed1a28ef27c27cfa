use Rattle.attacker_model.proofs.KnowledgeIndexed.{indexed_as, opened_from, opened_none, opened_none_behind}
use Rattle.attacker_model.proofs.knowledge_apart.Apart.next_under.Goals as goal

pub returns-in-Some-clause-passed : goal.returns-in-Some-clause-passed
returns-in-Some-clause-passed c =
    opened_from _ _ _ _ _ _ (indexed_as _ _ _ _ c.self.view_is c.self.invariant) c.lock_of.ensures.digest _ c.in-Some.ensures.from c.in-Some.ensures.first

pub returns-in_default-clause-none : goal.returns-in_default-clause-none
returns-in_default-clause-none c =
    λ _. opened_none_behind _ _ _ _ _ _ (indexed_as _ _ _ _ c.self.view_is c.self.invariant) c.lock_of.ensures.digest _ _ c.len.ensures.value c.if-place-len.false c.in-Some.ensures.first

pub returns-in_default-2-clause-none : goal.returns-in_default-2-clause-none
returns-in_default-2-clause-none c =
    λ e. opened_none _ _ _ _ _ _ (indexed_as _ _ _ _ c.self.view_is c.self.invariant) c.lock_of.ensures.digest (c.in_default.ensures.none e)
