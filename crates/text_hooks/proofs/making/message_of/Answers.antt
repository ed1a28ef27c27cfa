use Rattle.std.proofs.Common.{◌≡◌, ◌++◌, List, sym, ap, subst, ◌∙◌, arith}
use Rattle.std.proofs.lemmas.List.{take_all}
use Rattle.term_values.specs.Trees.{Tree, trees, tuple}
use Rattle.tagged_codec.specs.Grammar.{IsInLimits}
use Rattle.mech_rows.specs.Runs.{Opening}
use Rattle.text_hooks.specs.Parts.{items_in}
use Rattle.text_hooks.proofs.Limits.{message_fits}
use Rattle.text_hooks.proofs.making.message_of.Goals as goal

pub returns-clause-limits : goal.returns-clause-limits
returns-clause-limits c =
    let is : c.loop-one.items.items ≡ c.args.shown.items ++ items_in c.args.made.now = c.loop-one.invariant.pushed ∙ ap (λ (os : List Opening). c.args.shown.items ++ items_in os) (take_all c.loop-one.one-index c.args.made.now (omega (arith, c.loop-one-test.false))) in
    rw c.tuple_of.ensures.term (subst (λ (ts : List Tree). IsInLimits (tuple (trees ts))) (sym is) (message_fits _ _ c.requires.small c.requires.made c.requires.room))
