use Rattle.transcript_replay.proofs.Answering.{answer_once}
use Rattle.transcript_replay.proofs.Once.{one_after, one_world}
use Rattle.transcript_replay.proofs.Output.{last_world, some_after, some_world}
use Rattle.transcript_replay.proofs.laws.scripts_lead_to_one_world.Goals as goal

pub returns-clause-some : goal.returns-clause-some
returns-clause-some c = λ bytes short. some_world bytes short

pub returns-clause-one : goal.returns-clause-one
returns-clause-one c = λ bytes v w x y. one_world answer_once bytes v w x y

pub returns-clause-some_after : goal.returns-clause-some_after
returns-clause-some_after c = λ bytes k short. some_after bytes k short

pub returns-clause-one_after : goal.returns-clause-one_after
returns-clause-one_after c = λ bytes k v w x y. one_after answer_once bytes k v w x y

pub returns-clause-last : goal.returns-clause-last
returns-clause-last c = λ bytes w x. last_world bytes w x
