use Rattle.std.proofs.Common.{◌≡◌, take}
use Rattle.attacker_model.proofs.knowledge_apart.Apart.copy.Given as goal

abbrev pub invariant-loop-term : goal.invariant-loop-term
invariant-loop-term l = l.copied ≡ take l.term-index l.self
