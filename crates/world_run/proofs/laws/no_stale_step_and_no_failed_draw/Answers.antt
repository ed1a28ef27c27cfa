use Rattle.world_run.proofs.Reasons.{gives_neither, opens_neither}
use Rattle.world_run.proofs.laws.no_stale_step_and_no_failed_draw.Goals as goal

pub returns-clause-opening : goal.returns-clause-opening
returns-clause-opening c = opens_neither

pub returns-clause-giving : goal.returns-clause-giving
returns-clause-giving c = gives_neither
