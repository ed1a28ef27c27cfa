use Rattle.world_run.proofs.Partnered.{agreeing_first, agreeing_found}
use Rattle.world_run.proofs.laws.agreeing_runs_are_found.Goals as goal

pub returns-clause-found : goal.returns-clause-found
returns-clause-found c w h run slots id g tells i is a = agreeing_found w g h tells run slots id i a is

pub returns-clause-first : goal.returns-clause-first
returns-clause-first c w h run slots id n m g tells i is a at e = agreeing_first w g h tells run slots id i a n m is e at
