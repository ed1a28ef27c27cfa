use Rattle.std.proofs.Common.{◌≡◌, drop}
use Rattle.term_values.specs.Trees.{size_of, sizes_of, trees}
use Rattle.attacker_model.specs.Digests as spec
use Rattle.attacker_model.proofs.knowledge_digest.+digest.Given as goal

abbrev pub decreases-digest_term : goal.decreases-digest_term
decreases-digest_term l = size_of l.term.now

abbrev pub decreases-digest_items : goal.decreases-digest_items
decreases-digest_items l = sizes_of (trees l.items.now)

abbrev pub invariant-digest_items-loop-item : goal.invariant-digest_items-loop-item
invariant-digest_items-loop-item l = spec.digest_items l.digest (trees (drop l.item-index l.items)) ≡ spec.digest_items l.start (trees l.items)
