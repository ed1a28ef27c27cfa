use Rattle.world_run.proofs.Reaching.{some_dropped, some_given, some_opened, some_raised}
use Rattle.world_run.proofs.laws.some_answer.Goals as goal

pub returns-clause-opening : goal.returns-clause-opening
returns-clause-opening c w h texts g is = some_opened w g h texts is

pub returns-clause-giving : goal.returns-clause-giving
returns-clause-giving c allowed w run m g = some_given allowed w g run m

pub returns-clause-raising : goal.returns-clause-raising
returns-clause-raising c = some_raised

pub returns-clause-dropping : goal.returns-clause-dropping
returns-clause-dropping c = some_dropped
