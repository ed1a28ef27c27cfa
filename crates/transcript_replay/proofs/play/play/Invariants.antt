use Rattle.std.proofs.Common.{◌≤◌, ◌+◌, length}
use Rattle.world_run.specs.Conditions.{KeepsConditions}
use Rattle.transcript_replay.specs.Cuts.{lines_of}
use Rattle.transcript_replay.specs.Players.{fresh, set_up}
use Rattle.transcript_replay.proofs.Steps.{SoFar}
use Rattle.transcript_replay.proofs.play.play.Given as goal

abbrev pub invariant-loop-rest : goal.invariant-loop-rest
invariant-loop-rest g l =
    let put = g.O.Sink.put_so_far in
    record {
      so_far : SoFar (put l.fn.out) (put l.out) 1 fresh l.number (set_up l.setup.config l.setup.rules.items) (lines_of l.rest) (lines_of l.text);
      kept : KeepsConditions l.setup.config;
      later : g.O.Sink.fault_count l.fn.out ≤ g.O.Sink.fault_count l.out;
      bound : l.number + length l.rest ≤ length l.text + 1;
    }

abbrev pub decreases-loop-rest : goal.decreases-loop-rest
decreases-loop-rest g l = length l.rest
