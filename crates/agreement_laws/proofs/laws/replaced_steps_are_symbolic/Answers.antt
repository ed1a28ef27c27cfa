use Rattle.agreement_laws.proofs.Replaced.{of_step}
use Rattle.agreement_laws.proofs.laws.replaced_steps_are_symbolic.Goals as goal

pub returns : goal.returns
returns g c = record { symbolic = of_step g.S.Sealing.opens }
