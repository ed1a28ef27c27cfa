use Rattle.std.proofs.Common.{refl}
use Rattle.attacker_model.proofs.KnowledgeIndexed.{next_indexed, still_indexed}
use Rattle.attacker_model.proofs.knowledge_apart.Apart.add.Goals as goal

pub invariant_of-self : goal.invariant_of-self
invariant_of-self c = still_indexed _ _ _ _ _ _ refl c.self.invariant c.index.ensures.places c.index.ensures.locks

pub invariant_of-self-in_err-push : goal.invariant_of-self-in_err-push
invariant_of-self-in_err-push c = still_indexed _ _ _ _ _ _ c.in_err-push.ensures.items c.self.invariant c.index.ensures.places c.index.ensures.locks

pub invariant_of-self-2 : goal.invariant_of-self-2
invariant_of-self-2 c =
    next_indexed _ _ _ _ _ _ _ _ c.in_ok-push.ensures.items (let e = c.len-place.ensures.value in let v = c.self.view_is in cc) c.self.invariant c.index.ensures.places c.index.ensures.locks c.in_ok-index.ensures.found c.in_ok-index.ensures.locked
