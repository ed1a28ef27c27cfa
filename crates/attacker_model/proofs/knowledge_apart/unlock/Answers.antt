use Rattle.attacker_model.proofs.knowledge_apart.unlock.Goals as goal

pub returns-in-Two : goal.returns-in-Two
returns-in-Two c = record { kept = λ n q l b. c.leave-in-Two-2.ensures.kept n q l (c.leave-in-Two.ensures.kept n q l b) }
