use Rattle.std.proofs.Common.{ap, ◌∙◌}
use Rattle.mech_rows.specs.Runs.{Opening}
use Rattle.text_hooks.proofs.Limits.{one_fits}
use Rattle.text_hooks.proofs.saying.with_item.Goals as goal

pub returns-clause-limits : goal.returns-clause-limits
returns-clause-limits c = rw c.tuple_of.ensures.term (one_fits c.args.shown.items _ c.args.item _ c.in_ok-push.ensures.items (c.in_ok-copy.ensures.equal ∙ ap (λ (o : Opening). o.item) c.item.view_is) c.requires.small c.requires.made c.requires.room)
