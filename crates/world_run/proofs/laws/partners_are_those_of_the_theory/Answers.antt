use Rattle.world_run.proofs.Partnered.{partner_agrees}
use Rattle.world_run.proofs.laws.partners_are_those_of_the_theory.Goals as goal

pub returns : goal.returns
returns c = record { agrees = λ w h run slots n g tells is e. partner_agrees w g h tells run slots n is e }
