use Rattle.std.proofs.Common.{◌≡◌, ◌∙◌, sym, subst}
use Rattle.std.specs.Prelude.{IfOk}
use Rattle.seal_etm.proofs.Opens.{long_middle, reads_middle}
use Rattle.seal_etm.proofs.etm.decipher.Goals as goal

pub returns-then-hidden-gt-SPELLING_MAX : goal.returns-then-hidden-gt-SPELLING_MAX
returns-then-hidden-gt-SPELLING_MAX c = sym (long_middle c.args.key.now c.args.bytes.now c.requires c.if-hidden-gt-SPELLING_MAX.true)

pub returns : goal.returns
returns c =
    let body = reads_middle c.args.key.now c.args.bytes.now c.in_ok-cipher.cipher c.as_slice.result.now c.requires c.in_ok-cipher.ensures (c.as_slice.ensures.value ∙ c.in_ok-plain.ensures) in
    subst (λ t. IfOk c.read_whole.result (λ u. u ≡ t)) body c.read_whole.ensures
