use Rattle.std.proofs.Common.{rules, arith, ◌≡◌, ℕ, List, ◌∷◌, [], ap, ◌∙◌, slice_index_or, length, Bor}
use Rattle.std.specs.Prelude.{codes}
use Rattle.script_text.proofs.LineTexts.{three_of}
use Rattle.script_text.proofs.lines.give_words.Goals as goal

pub returns-in-len3-clause-some : goal.returns-in-len3-clause-some
returns-in-len3-clause-some c =
    let nothing : Bor (List ℕ) = record { ref_ptr = (0, 0); now = [] } in
    let count : length c.args.words.now ≡ 3 = omega (arith, c.in-len3.len_at_least, c.in-len3.len_below) in
    let verb : (slice_index_or c.args.words.now 0 nothing).now ≡ codes "give" = search rules in
    three_of (λ w. w.now) c.args.words.now nothing count ∙ ap (λ (v : List ℕ). v ∷ (slice_index_or c.args.words.now 1 nothing).now ∷ (slice_index_or c.args.words.now 2 nothing).now ∷ []) verb
