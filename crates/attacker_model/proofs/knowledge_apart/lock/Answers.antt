use Rattle.attacker_model.proofs.KnowledgeIndexed.{one_locks, two_locks}
use Rattle.attacker_model.proofs.knowledge_apart.lock.Goals as goal

pub returns-in_ok-enter-in-Two-clause-kept : goal.returns-in_ok-enter-in-Two-clause-kept
returns-in_ok-enter-in-Two-clause-kept c = λ n q b. c.enter-in-Two-2.ensures.kept n q (c.enter-in-Two.ensures.kept n q b)

pub returns-in-One-clause-entered : goal.returns-in-One-clause-entered
returns-in-One-clause-entered c =
    one_locks c.enter.result _ _ c.lock_of.result _ c.enter.new.index c.in-One.is c.lock_of.ensures.digest c.enter.ensures.entered

pub returns-in_ok-enter-in-Two-clause-entered : goal.returns-in_ok-enter-in-Two-clause-entered
returns-in_ok-enter-in-Two-clause-entered c =
    two_locks c.enter-in-Two-2.result _ _ _ c.lock_of-in-Two.result c.lock_of-in-Two-2.result _ c.enter-in-Two.new.index c.enter-in-Two-2.new.index c.in-Two.is c.lock_of-in-Two.ensures.digest c.lock_of-in-Two-2.ensures.digest c.in_ok-enter-in-Two.ensures.entered c.enter-in-Two-2.ensures.kept c.enter-in-Two-2.ensures.entered
