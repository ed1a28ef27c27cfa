use Rattle.std.proofs.lemmas.Result.{err_from_is_err_and}
use Rattle.roles_9798_4.proofs.c3.C3BRoleState.read.Goals as goal

pub returns-in_err-known-clause-refused : goal.returns-in_err-known-clause-refused
returns-in_err-known-clause-refused g c =
    let p = err_from_is_err_and c.from_residual.result c.from_residual.ensures.1 in
    rw (p.1, p.2, c.in-Start.is) c.in_err-known.ensures.refused
