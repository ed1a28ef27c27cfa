use Rattle.std.proofs.Common.{sym, arith}
use Rattle.seal_etm.proofs.Spelled.{none_is, whole_is}
use Rattle.seal_etm.proofs.etm.read_whole.Goals as goal

pub returns-in-Ok : goal.returns-in-Ok
returns-in-Ok c = sym (whole_is c.in-Ok.term c.args.bytes.now c.in-Ok.ensures.found)

pub returns-in-Err-Malformed : goal.returns-in-Err-Malformed
returns-in-Err-Malformed c =
    sym (none_is c.args.bytes.now (λ i. omega (arith, c.type_inv.bytes i)) (λ t h. absurd (let again = c.in-Err-Malformed.ensures.again t h in cc)))
