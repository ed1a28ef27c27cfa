use Rattle.std.proofs.Common.{ap, ◌∙◌}
use Rattle.text_hooks.specs.Parts.{value_term}
use Rattle.text_hooks.proofs.Limits.{small_more, pushed_more}
use Rattle.text_hooks.proofs.making.push_values.Goals as goal

pub loop-value-preserved : goal.loop-value-preserved
loop-value-preserved c = record {
  pushed = pushed_more value_term _ _ _ _ _ c.value-item.result _ c.loop-value.invariant.pushed c.in_ok-push.ensures.items c.loop-value-test.true (c.value_term.ensures.term ∙ ap value_term c.value-item.is);
  small = rw c.in_ok-push.ensures.items (small_more 33 _ _ c.loop-value.invariant.small c.value_term.ensures.small);
}
