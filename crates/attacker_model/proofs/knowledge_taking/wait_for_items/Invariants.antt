use Rattle.std.proofs.Common.{◌≡◌, ◌++◌, drop}
use Rattle.attacker_model.proofs.knowledge_taking.wait_for_items.Given as goal

abbrev pub invariant-loop-item : goal.invariant-loop-item
invariant-loop-item l = l.waiting.items ++ drop l.item-index l.items ≡ l.initial.waiting.items ++ l.items
