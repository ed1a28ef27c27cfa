use Rattle.transcript_replay.proofs.Output.{some_text}
use Rattle.transcript_replay.proofs.laws.some_output.Goals as goal

pub returns : goal.returns
returns c = record { some = λ bytes. some_text bytes }
