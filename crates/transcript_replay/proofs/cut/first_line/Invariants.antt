use Rattle.transcript_replay.proofs.Cuts.{NoFeed}
use Rattle.transcript_replay.proofs.cut.first_line.Given as goal

abbrev pub invariant-loop-at : goal.invariant-loop-at
invariant-loop-at l = NoFeed l.text l.at
