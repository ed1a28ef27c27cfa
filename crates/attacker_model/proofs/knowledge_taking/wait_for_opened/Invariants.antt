use Rattle.std.proofs.Common.{◌≡◌, ◌++◌, ◌-◌, drop, length}
use Rattle.attacker_model.specs.Taken.{opened_by}
use Rattle.attacker_model.proofs.knowledge_taking.wait_for_opened.Given as goal

abbrev pub invariant-loop-place : goal.invariant-loop-place
invariant-loop-place l = l.waiting.items ++ opened_by l.known l.part (drop l.from l.known) ≡ l.initial.waiting.items ++ opened_by l.known l.part l.known

abbrev pub decreases-loop-place : goal.decreases-loop-place
decreases-loop-place l = length l.known - l.from
