use Rattle.std.proofs.Common.{rules, sym}
use Rattle.trio_roles.proofs.Families.{nonces_slots_a}
use Rattle.trio_roles.proofs.nonces_a.NoncesARoleState.phase.Goals as goal

pub returns-in-Sent-clause-slots : goal.returns-in-Sent-clause-slots
returns-in-Sent-clause-slots c = rw c.in-Sent.is (search rules)

pub returns-in-Done-clause-slots : goal.returns-in-Done-clause-slots
returns-in-Done-clause-slots c = rw c.in-Done.is (sym (nonces_slots_a c.args.self.now.trio.family c.args.self.now.trio.names))
