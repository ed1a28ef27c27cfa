use Rattle.std.proofs.Common.{ap, ◌∙◌}
use Rattle.term_values.specs.Trees.{name}
use Rattle.text_hooks.proofs.Limits.{small_more, pushed_more}
use Rattle.text_hooks.proofs.making.push_names.Goals as goal

pub loop-name-preserved : goal.loop-name-preserved
loop-name-preserved c = record {
  pushed = pushed_more name _ _ _ _ _ c.name-item.result _ c.loop-name.invariant.pushed c.in_ok-push.ensures.items c.loop-name-test.true (c.name_term.ensures.term ∙ ap name c.name-item.is);
  small = rw c.in_ok-push.ensures.items (small_more 33 _ _ c.loop-name.invariant.small c.name_term.ensures.small);
}
