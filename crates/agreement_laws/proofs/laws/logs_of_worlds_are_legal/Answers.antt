use Rattle.agreement_laws.proofs.Reduction.{logs_are_legal}
use Rattle.agreement_laws.proofs.laws.logs_of_worlds_are_legal.Goals as goal

pub returns : goal.returns
returns c = record { legal = logs_are_legal }
