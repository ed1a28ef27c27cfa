use Rattle.std.proofs.Common.{arith}
use Rattle.attacker_model.proofs.KnowledgeStored.{no_term, stored_again, stored_truncated}
use Rattle.attacker_model.proofs.knowledge.Knowledge.ready.Goals as goal

pub invariant_of-self : goal.invariant_of-self
invariant_of-self c =
    (stored_truncated _ _ _ _ _ _ c.self.invariant.0 c.truncate.ensures.first c.reserve.ensures.items, λ t e. absurd (no_term t e))

pub invariant_of-self-in_err-due : goal.invariant_of-self-in_err-due
invariant_of-self-in_err-due c =
    (stored_truncated _ _ _ _ _ _ c.self.invariant.0 c.truncate.ensures.first c.reserve.ensures.items, λ t e. absurd (no_term t e))

pub invariant_of-self-in_err-copy : goal.invariant_of-self-in_err-copy
invariant_of-self-in_err-copy c =
    (stored_truncated _ _ _ _ _ _ c.self.invariant.0 c.truncate.ensures.first c.reserve.ensures.items, λ t e. absurd (no_term t e))

pub take_apart-requires-clause-differ : goal.take_apart-requires-clause-differ
take_apart-requires-clause-differ c =
    (stored_truncated _ _ _ _ _ _ c.self.invariant.0 c.truncate.ensures.first c.reserve.ensures.items).differ

pub invariant_of-self-2 : goal.invariant_of-self-2
invariant_of-self-2 c = (
  stored_again _ _ _ _ _ _ _ _ _ _ c.self.invariant.0 c.truncate.ensures.first c.reserve.ensures.items c.in_ok-due.ensures.equal c.in_ok-copy.ensures.equal c.in_ok-take_apart.ensures.taken c.take_apart.ensures.differ c.take_apart.ensures.kept,
  λ t e. omega (arith, c.in_ok-reserve.ensures.ok),
)
