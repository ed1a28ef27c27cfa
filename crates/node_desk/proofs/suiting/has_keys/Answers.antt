use Rattle.std.proofs.Common.{◌≡◌, List, Option, ap, ◌∙◌}
use Rattle.std.specs.Option.{option_copied}
use Rattle.term_values.specs.Trees.{Bytes}
use Rattle.term_values.specs.declared.small.Key.{Key}
use Rattle.term_values.specs.declared.small.Key.TheVariants.{One}
use Rattle.mech_rows.specs.Heads.{Head}
use Rattle.mech_rows.specs.Rings.{keys_in}
use Rattle.mech_rows.specs.Runs.{bytes_or_empty}
use Rattle.node_desk.proofs.Keyed.{suits-then, suits-else}
use Rattle.node_desk.proofs.OneKey.{one-key}
use Rattle.node_desk.proofs.suiting.has_keys.Goals as goal

pub returns-then-are_under : goal.returns-then-are_under
returns-then-are_under c =
    rw (← c.step.view_is) (suits-then (keys_in c.args.ring.now) _ (one-key c.step.inside.before) (One (bytes_or_empty (option_copied c.part_between-part.result)))
    (ap (λ (o : Option Bytes). One (bytes_or_empty o)) (c.part_between-part.ensures ∙ ap (λ (h : Head). keys_in c.args.ring.now h.a h.b) (c.head.view_is ∙ c.head-head.ensures.head)))
    c.are_under-then-are_under.result c.step.invariant
    (rw c.deref.ensures.value at (c.are_under.ensures.0 c.if-are_under.true))
    (rw c.deref-then-are_under.ensures.value at c.are_under-then-are_under.ensures))

pub returns-else-are_under : goal.returns-else-are_under
returns-else-are_under c =
    rw (← c.step.view_is) (suits-else (keys_in c.args.ring.now) _ (one-key c.step.inside.before) (One (bytes_or_empty (option_copied c.part_between-part.result)))
    (ap (λ (o : Option Bytes). One (bytes_or_empty o)) (c.part_between-part.ensures ∙ ap (λ (h : Head). keys_in c.args.ring.now h.a h.b) (c.head.view_is ∙ c.head-head.ensures.head)))
    c.are_under.result c.if-are_under.false
    (rw c.deref.ensures.value at c.are_under.ensures))
