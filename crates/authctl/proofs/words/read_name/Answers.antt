use Rattle.std.proofs.Common.{sym, ◌∙◌, ap, get_or, List, ℕ, arith}
use Rattle.std.proofs.lemmas.Fmt.{decimal_injective}
use Rattle.authctl.proofs.Numbers.{decimal_begins, decimal_first}
use Rattle.authctl.proofs.words.read_name.Goals as goal

pub returns-then-not-begins_with_digit-clause-none : goal.returns-then-not-begins_with_digit-clause-none
returns-then-not-begins_with_digit-clause-none c = λ _ n is e.
    let first = ap (λ (w : List ℕ). get_or w 0 0) e in
    let wrong = c.if-not-begins_with_digit.ensures.1 (omega (arith, first, decimal_begins n is.positive is.fits), omega (arith, first, decimal_first n is.fits)) in
    absurd cc

pub returns-clause-none : goal.returns-clause-none
returns-clause-none c = λ none n is e.
    let zero_read = c.new.ensures.none.0 none in
    let word = c.in_ok-parse_number.ensures.some in
    let same = decimal_injective n c.in_ok-parse_number.field-0 (omega (arith, is.fits)) (omega (arith, zero_read)) (sym e ∙ word) in
    omega (arith, same, zero_read, is.positive)
