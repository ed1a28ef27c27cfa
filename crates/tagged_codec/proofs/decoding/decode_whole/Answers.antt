use Rattle.std.proofs.Common.{[], sym, arith}
use Rattle.std.proofs.lemmas.List.{append-nil}
use Rattle.std.proofs.lemmas.Result.{err_from_is_err_and}
use Rattle.tagged_codec.proofs.Places.{whole_fault}
use Rattle.tagged_codec.proofs.decoding.decode_whole.Goals as goal

pub returns-in_err-term-clause-malformed : goal.returns-in_err-term-clause-malformed
returns-in_err-term-clause-malformed c =
    let p = err_from_is_err_and c.from_residual.result c.from_residual.ensures.1 in
    rw (p.1, p.2) (λ place why h. whole_fault c.args.bytes.now place why (c.in_err-term.ensures.malformed place why cc))

pub returns-in_err-term-clause-again : goal.returns-in_err-term-clause-again
returns-in_err-term-clause-again c =
    let p = err_from_is_err_and c.from_residual.result c.from_residual.ensures.1 in
    rw (p.1, p.2) (λ t h. c.in_err-term.ensures.again t c.args.bytes.now [] h (sym (append-nil c.args.bytes.now)))

pub returns-then-left-gt0-clause-again : goal.returns-then-left-gt0-clause-again
returns-then-left-gt0-clause-again c = λ t h.
    absurd (let whole = c.in_ok-term.ensures.again t c.args.bytes.now [] h (sym (append-nil c.args.bytes.now)) in omega (arith, whole.1, c.if-left-gt0.true))

pub returns-clause-again : goal.returns-clause-again
returns-clause-again c = λ t h. (c.in_ok-term.ensures.again t c.args.bytes.now [] h (sym (append-nil c.args.bytes.now))).0
