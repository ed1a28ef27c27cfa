use Rattle.world_run.proofs.Answering.{drops_once, gives_once, opens_once, raises_once}
use Rattle.world_run.proofs.laws.one_answer.Goals as goal

pub returns-clause-opening : goal.returns-clause-opening
returns-clause-opening c w u v h texts a b = opens_once w h texts a b u v

pub returns-clause-giving : goal.returns-clause-giving
returns-clause-giving c allowed w u v run m a b = gives_once allowed w run m a b u v

pub returns-clause-raising : goal.returns-clause-raising
returns-clause-raising c w u v n time a b = raises_once w n time a b u v

pub returns-clause-dropping : goal.returns-clause-dropping
returns-clause-dropping c w u v run a b = drops_once w run a b u v
