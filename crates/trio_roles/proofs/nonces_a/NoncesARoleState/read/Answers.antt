use Rattle.std.proofs.Common.{rules}
use Rattle.trio_roles.proofs.nonces_a.NoncesARoleState.read.Goals as goal

pub returns-in_err-known-in-Sent-clause-refused : goal.returns-in_err-known-in-Sent-clause-refused
returns-in_err-known-in-Sent-clause-refused g c = rw c.in-Sent.is (search rules)

pub returns-in_ok-known-in-Sent-clause-fit : goal.returns-in_ok-known-in-Sent-clause-fit
returns-in_ok-known-in-Sent-clause-fit g c = rw (c.in-Sent.is, c.new-in-Sent.ensures.items) c.in_ok-known-in-Sent.ensures.fit
