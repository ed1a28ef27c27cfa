use Rattle.std.proofs.Common.{ℕ, ◌<◌}
use Rattle.attacker_model.specs.Digests.{HasPlace}
use Rattle.attacker_model.proofs.knowledge_apart.leave_all.Given as goal

abbrev pub invariant-loop-place : goal.invariant-loop-place
invariant-loop-place l =
    ((n q : ℕ) → q < l.count → HasPlace l.initial.places n q → HasPlace l.places n q) × ((n q : ℕ) → q < l.count → HasPlace l.initial.locks n q → HasPlace l.locks n q)
