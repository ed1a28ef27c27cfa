use Rattle.std.proofs.Common.{ap}
use Rattle.attacker_model.specs.Knowledge.{Learnt}
use Rattle.attacker_model.proofs.KnowledgeStored.{differ_of, taken_bodies, taken_of}
use Rattle.attacker_model.proofs.knowledge.Knowledge.taken_apart.Goals as goal

pub returns-clause-differ : goal.returns-clause-differ
returns-clause-differ c = differ_of _ _ _ _ _ _ c.self.invariant.0 c.list.ensures.value c.split_at.ensures.front

pub returns-clause-given : goal.returns-clause-given
returns-clause-given c =
    (taken_of _ _ _ _ _ _ _ c.self.invariant.0 c.list.ensures.value c.split_at.ensures.front (ap (λ (l : Learnt). l.given) c.self.view_is)).has_given

pub returns-clause-bodies : goal.returns-clause-bodies
returns-clause-bodies c =
    taken_bodies _ _ (taken_of _ _ _ _ _ _ _ c.self.invariant.0 c.list.ensures.value c.split_at.ensures.front (ap (λ (l : Learnt). l.given) c.self.view_is))
