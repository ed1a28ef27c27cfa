use Rattle.world_run.proofs.Staying.{stays_drop, stays_give, stays_give_left, stays_open, stays_open_left, stays_raised}
use Rattle.world_run.proofs.laws.stays_a_world.Goals as goal

pub returns-clause-opening : goal.returns-clause-opening
returns-clause-opening c = stays_open

pub returns-clause-giving : goal.returns-clause-giving
returns-clause-giving c = stays_give

pub returns-clause-raising : goal.returns-clause-raising
returns-clause-raising c = stays_raised

pub returns-clause-dropping : goal.returns-clause-dropping
returns-clause-dropping c = stays_drop

pub returns-clause-opening_left : goal.returns-clause-opening_left
returns-clause-opening_left c = stays_open_left

pub returns-clause-giving_left : goal.returns-clause-giving_left
returns-clause-giving_left c = stays_give_left
