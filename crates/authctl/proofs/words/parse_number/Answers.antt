use Rattle.std.proofs.Common.{sym, subst}
use Rattle.std.specs.Str.{IsUtf8}
use Rattle.authctl.proofs.Numbers.{decimal_is_text, number_not_read, number_read}
use Rattle.authctl.proofs.words.parse_number.Goals as goal

pub returns-in-Err-clause-none : goal.returns-in-Err-clause-none
returns-in-Err-clause-none c = λ _ n is e. c.in-Err.ensures.cases.0 (subst IsUtf8 (sym e) (decimal_is_text n is.fits))

pub returns-in-Ok-clause-some : goal.returns-in-Ok-clause-some
returns-in-Ok-clause-some c =
    rw c.ok.ensures.value (number_read c.args.word.now c.in-Ok.text.now c.parse.result c.requires.0 c.requires.1 c.in-Ok.ensures.cases.0 c.parse.ensures.value.0)

pub returns-in-Ok-clause-none : goal.returns-in-Ok-clause-none
returns-in-Ok-clause-none c = λ none n is e.
    number_not_read c.args.word.now c.in-Ok.text.now c.parse.result n is.fits c.in-Ok.ensures.cases.0 c.parse.ensures.value.0 (rw c.ok.ensures.value at none) e
