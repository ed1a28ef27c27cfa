use Rattle.transcript_replay.proofs.Answering.{answer_once}
use Rattle.transcript_replay.proofs.Once.{front_text, one_text}
use Rattle.transcript_replay.proofs.laws.one_output.Goals as goal

pub returns-clause-one : goal.returns-clause-one
returns-clause-one c = λ bytes text other status last x y. one_text answer_once bytes text other status last x y

pub returns-clause-front : goal.returns-clause-front
returns-clause-front c = λ bytes text other status x y. front_text answer_once bytes text other status x y
