use Rattle.agreement_laws.proofs.Pairs.{completed_is_good}
use Rattle.agreement_laws.proofs.laws.pairs_of_completions_are_there.Goals as goal

pub returns : goal.returns
returns c = record { there = completed_is_good }
