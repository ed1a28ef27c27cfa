use Rattle.agreement_laws.proofs.Conclusions.{secret_is_good}
use Rattle.agreement_laws.proofs.laws.keys_of_secrets_are_good.Goals as goal

pub returns : goal.returns
returns c = record { good = secret_is_good }
