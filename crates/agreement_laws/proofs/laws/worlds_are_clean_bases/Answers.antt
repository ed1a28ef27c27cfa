use Rattle.agreement_laws.proofs.Clean.{clean}
use Rattle.agreement_laws.proofs.laws.worlds_are_clean_bases.Goals as goal

pub returns : goal.returns
returns c = record { clean = λ n beyond config lawful h w. clean config lawful h w n beyond }
