use Rattle.std.proofs.Common.{ap, refl}
use Rattle.attacker_model.specs.Knowledge.{Learnt}
use Rattle.attacker_model.proofs.KnowledgeStored.{derives_answer, taken_of}
use Rattle.attacker_model.proofs.knowledge.Knowledge.derives.Goals as goal

pub returns-clause-exact : goal.returns-clause-exact
returns-clause-exact c = derives_answer _ _ (taken_of _ _ _ _ _ _ _ c.self.invariant.0 refl refl (ap (λ (l : Learnt). l.given) c.self.view_is)) _ _ c.builds.ensures.built
