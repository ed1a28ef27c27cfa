use Rattle.text_hooks.proofs.order.add_found.Goals as goal
use Rattle.text_hooks.proofs.Ordering.{with_found}

pub returns-in_ok-add-in-Some-clause-noted : goal.returns-in_ok-add-in-Some-clause-noted
returns-in_ok-add-in-Some-clause-noted c = with_found _ _ _ _ _ _ c.in-Some.ensures.value c.in_ok-copy-in-Some.ensures.equal c.in_ok-add-in-Some.ensures.noted
