use Rattle.attacker_model.proofs.KnowledgeIndexed.{not_behind, place_passed, no_yes}
use Rattle.attacker_model.proofs.knowledge_apart.is_found.Goals as goal

pub returns-then-place-terms-clause-found : goal.returns-then-place-terms-clause-found
returns-then-place-terms-clause-found c =
    λ q s h. absurd (not_behind _ _ _ _ _ _ c.place_of-number.ensures.digest c.in-Some.ensures.first c.loop-place.invariant q s h c.if-place-terms.true)

pub loop-place-preserved : goal.loop-place-preserved
loop-place-preserved c =
    λ q s h. place_passed _ _ _ _ _ _ c.place_of-number.ensures.digest c.in-Some.ensures.first c.loop-place.invariant q s h _ c.if-place-terms.false c.index-terms-place.is (λ e. no_yes (c.if-same.ensures.equal.1 e))
