use Rattle.agreement_laws.proofs.Conclusions.{long_is_secret, good_is_secret}
use Rattle.agreement_laws.proofs.laws.good_parts_stay_secret.Goals as goal

pub returns-clause-long : goal.returns-clause-long
returns-clause-long c = long_is_secret

pub returns-clause-all : goal.returns-clause-all
returns-clause-all c = good_is_secret
