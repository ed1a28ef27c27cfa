use Rattle.std.proofs.Common.{arith, sym}
use Rattle.term_values.proofs.Trees.{count_trees}
use Rattle.tagged_codec.proofs.Grammar.{after_count, on_ok}
use Rattle.tagged_codec.proofs.writing.+put.Goals as goal

pub put_tuple-returns-clause-ok : goal.put_tuple-returns-clause-ok
put_tuple-returns-clause-ok t c =
    let count = count_trees c.args.items.now in
    on_ok c.put_items.result _ _ (λ p. (omega (arith, count, c.if-items-gt-ITEMS_MAX.false), p.0, after_count _ _ _ _ _ _ (sym count) c.in_ok-put_plain.ensures p.1)) c.put_items.ensures.ok
