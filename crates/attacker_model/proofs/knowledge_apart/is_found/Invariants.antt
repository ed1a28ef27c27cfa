use Rattle.std.proofs.Common.{ℕ, ◌≤◌, ◌-◌, length}
use Rattle.attacker_model.specs.Digests.{HasPlace, StandsAt, digest_term}
use Rattle.attacker_model.proofs.knowledge_apart.is_found.Given as goal

abbrev pub invariant-loop-place : goal.invariant-loop-place
invariant-loop-place l = (q : ℕ) → StandsAt l.wanted l.terms q → HasPlace l.places (digest_term 1 l.wanted) q → l.from ≤ q

abbrev pub decreases-loop-place : goal.decreases-loop-place
decreases-loop-place l = length l.terms - l.from
