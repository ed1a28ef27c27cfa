use Rattle.std.proofs.Common.{add-one}
use Rattle.std.proofs.lemmas.List.{take_rest}
use Rattle.transcript_replay.proofs.Cuts.{cut_at}
use Rattle.transcript_replay.proofs.cut.first_line.Goals as goal

pub returns-then-byte-eq10-clause-lines : goal.returns-then-byte-eq10-clause-lines
returns-then-byte-eq10-clause-lines c = rw (take_rest, add-one) (cut_at c.args.text.now c.loop-at.at c.loop-at-test.true c.loop-at.invariant c.if-byte-eq10.true)
