use Rattle.std.proofs.Common.{[]}
use Rattle.std.proofs.KnownBytes.{Appends-nil}
use Rattle.transcript_replay.proofs.Fronts.{is_told_or, told_or}
use Rattle.transcript_replay.proofs.Steps.{nothing_yet}
use Rattle.transcript_replay.proofs.script.read_and_play.Goals as goal

-- nothing is written
pub returns-in-Err-Memory-clause-cut : goal.returns-in-Err-Memory-clause-cut
returns-in-Err-Memory-clause-cut g c =
    let left = g.I.Source.left c.args.input.now in
    let bytes = told_or left [] in
    λ _. (bytes, [], is_told_or left [], nothing_yet bytes, Appends-nil (g.O.Sink.put_so_far c.args.out.now))
