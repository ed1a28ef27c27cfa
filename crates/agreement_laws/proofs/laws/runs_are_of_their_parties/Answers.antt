use Rattle.agreement_laws.proofs.Reduction.{owned}
use Rattle.agreement_laws.proofs.laws.runs_are_of_their_parties.Goals as goal

pub returns : goal.returns
returns c = record { owned = λ config lawful h w. owned config h w }
