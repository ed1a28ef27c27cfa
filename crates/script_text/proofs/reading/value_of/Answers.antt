use Rattle.std.proofs.Common.{arith}
use Rattle.script_text.proofs.Digits.{value_next}
use Rattle.script_text.proofs.reading.value_of.Goals as goal

pub returns-in_err-checked_mul-clause-none : goal.returns-in_err-checked_mul-clause-none
returns-in_err-checked_mul-clause-none c =
    λ _. omega (arith, value_next c.loop-digit.number c.loop-digit.digit-index c.args.word.now c.loop-digit-test.true, c.loop-digit.invariant, c.in_err-checked_mul.ensures)

pub returns-in_err-number-clause-none : goal.returns-in_err-number-clause-none
returns-in_err-number-clause-none c =
    λ _. omega (arith, value_next c.loop-digit.number c.loop-digit.digit-index c.args.word.now c.loop-digit-test.true, c.loop-digit.invariant, c.in_ok-checked_mul.ensures, c.from.ensures, c.in_err-number.ensures)
