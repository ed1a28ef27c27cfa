use Rattle.std.proofs.Common.{refl}
use Rattle.text_hooks.proofs.order.chosen.Goals as goal
use Rattle.text_hooks.proofs.Ordering.{one_more}

pub loop-slot-preserved : goal.loop-slot-preserved
loop-slot-preserved c = record {
  noted = one_more _ _ _ _ _ _ _ c.loop-slot.invariant.noted c.in_ok-add_found.ensures.noted c.loop-slot-test.true refl;
  kinds = c.in_ok-add_found.ensures.kinds;
}
