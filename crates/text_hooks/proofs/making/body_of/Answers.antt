use Rattle.std.proofs.Common.{ap}
use Rattle.term_values.specs.Trees.{name}
use Rattle.std.specs.Prelude.{length}
use Rattle.text_hooks.specs.Parts.{value_term}
use Rattle.text_hooks.proofs.Limits.{made_flat}
use Rattle.text_hooks.proofs.making.body_of.Goals as goal

pub returns-clause-flat : goal.returns-clause-flat
returns-clause-flat c = rw c.tuple_of.ensures.term (made_flat name value_term _ _ _ _ c.args.names.now c.args.values.now _ (ap length c.in_ok-items.ensures.items) c.in_ok-push_names.ensures.pushed c.in_ok-push_values.ensures.pushed c.in_ok-push.ensures.items c.in_ok-push_values.ensures.small c.in_ok-text_term.ensures.small c.requires.three_names c.requires.three_values)
