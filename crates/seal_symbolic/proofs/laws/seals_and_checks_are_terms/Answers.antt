use Rattle.seal_symbolic.proofs.Keys.{opens_is, checks_is}
use Rattle.seal_symbolic.proofs.laws.seals_and_checks_are_terms.Goals as goal

pub returns-clause-opens : goal.returns-clause-opens
returns-clause-opens c = opens_is

pub returns-clause-checks : goal.returns-clause-checks
returns-clause-checks c = checks_is
