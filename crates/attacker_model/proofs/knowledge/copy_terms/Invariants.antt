use Rattle.std.proofs.Common.{◌≡◌, take}
use Rattle.attacker_model.proofs.knowledge.copy_terms.Given as goal

abbrev pub invariant-loop-term : goal.invariant-loop-term
invariant-loop-term l = l.copied.items ≡ take l.term-index l.terms
