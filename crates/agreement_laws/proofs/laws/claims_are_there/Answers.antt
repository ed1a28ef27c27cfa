use Rattle.agreement_laws.proofs.Example.{losses_of_b}
use Rattle.agreement_laws.proofs.Example as k3
use Rattle.agreement_laws.proofs.ExampleE4 as e4
use Rattle.agreement_laws.proofs.ExampleK5 as k5
use Rattle.agreement_laws.proofs.ExampleE5 as e5
use Rattle.agreement_laws.proofs.laws.claims_are_there.Goals as goal

pub returns-clause-e4_a : goal.returns-clause-e4_a
returns-clause-e4_a c = e4.claim_of_a

pub returns-clause-e4_b : goal.returns-clause-e4_b
returns-clause-e4_b c = e4.claim_of_b

pub returns-clause-k5_a : goal.returns-clause-k5_a
returns-clause-k5_a c = k5.claim_of_a

pub returns-clause-k5_b : goal.returns-clause-k5_b
returns-clause-k5_b c = k5.claim_of_b

pub returns-clause-e5_a : goal.returns-clause-e5_a
returns-clause-e5_a c = e5.claim_of_a

pub returns-clause-e5_b : goal.returns-clause-e5_b
returns-clause-e5_b c = e5.claim_of_b

pub returns-clause-k5_secret_a : goal.returns-clause-k5_secret_a
returns-clause-k5_secret_a c = k5.secret_of_a

pub returns-clause-k5_secret_b : goal.returns-clause-k5_secret_b
returns-clause-k5_secret_b c = k5.secret_of_b

pub returns-clause-e5_secret_a : goal.returns-clause-e5_secret_a
returns-clause-e5_secret_a c = e5.secret_of_a

pub returns-clause-e5_secret_b : goal.returns-clause-e5_secret_b
returns-clause-e5_secret_b c = e5.secret_of_b

pub returns-clause-k3_secret_a : goal.returns-clause-k3_secret_a
returns-clause-k3_secret_a c = k3.secret_of_a

pub returns-clause-losses : goal.returns-clause-losses
returns-clause-losses c = losses_of_b
