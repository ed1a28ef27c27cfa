use Rattle.world_run.proofs.Partnered.{one_completion, one_partnered}
use Rattle.world_run.proofs.laws.no_run_is_partner_of_two.Goals as goal

pub returns-clause-agreeing : goal.returns-clause-agreeing
returns-clause-agreeing c w h one other slots more id g tells i j p q a b = one_completion w g h tells one other slots more id i j p q a b

pub returns-clause-partner : goal.returns-clause-partner
returns-clause-partner c w h one other slots more n g tells i j p q e f = one_partnered w g h tells one other slots more n i j p q e f
