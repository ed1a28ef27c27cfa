use Rattle.std.proofs.Common.{◌≡◌, drop}
use Rattle.mech_rows.specs.Facts.{peer_of}
use Rattle.agreement_laws.specs.Partners.{agrees_filled, first_where}
use Rattle.agreement_laws.proofs.partners.first_agreeing.Given as goal

abbrev pub invariant-loop-run : goal.invariant-loop-run
invariant-loop-run l = first_where (λ r. agrees_filled (peer_of l.done.head.role) l.slots r l.done) (drop l.run-index l.runs) ≡ first_where (λ r. agrees_filled (peer_of l.done.head.role) l.slots r l.done) l.runs
