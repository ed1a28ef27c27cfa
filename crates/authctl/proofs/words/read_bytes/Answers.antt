use Rattle.std.proofs.Common.{sym, ◌∙◌, ap}
use Rattle.std.specs.Result.{result_ok}
use Rattle.hex.specs.Hex.{encode_lower}
use Rattle.hex.proofs.HexLemmas.{decode_sized-encode_lower}
use Rattle.authctl.proofs.words.read_bytes.Goals as goal

pub returns-in_err-ok-clause-none : goal.returns-in_err-ok-clause-none
returns-in_err-ok-clause-none c = λ _ p len fits e.
    let good = rw (e, decode_sized-encode_lower p 32 len fits) at c.decode_to_slice.ensures.value in
    let some = c.ok.ensures.value ∙ ap result_ok good.0 in
    let none = c.in_err-ok.was in
    absurd cc

pub returns-then-not-is_lower-clause-none : goal.returns-then-not-is_lower-clause-none
returns-then-not-is_lower-clause-none c = λ _ p len fits e.
    let good = rw (e, decode_sized-encode_lower p 32 len fits) at c.decode_to_slice.ensures.value in
    let wrong = c.if-not-is_lower.ensures.1 (e ∙ sym (ap encode_lower good.1)) in
    absurd cc
