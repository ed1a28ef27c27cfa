use Rattle.std.proofs.Common.{◌≤◌, ◌+◌, length}
use Rattle.transcript_replay.specs.Counts.{IsWithin}
use Rattle.transcript_replay.specs.Cuts.{lines_of}
use Rattle.transcript_replay.specs.Players.{started}
use Rattle.transcript_replay.proofs.Steps.{SoFar}
use Rattle.transcript_replay.proofs.game.play_lines.Given as goal

abbrev pub invariant-loop-rest : goal.invariant-loop-rest
invariant-loop-rest g l =
    let put = g.O.Sink.put_so_far in
    record {
      so_far : SoFar (put l.fn.out) (put l.out) l.first (started l.fn.world l.hook.rules.items) l.number (started l.world l.hook.rules.items) (lines_of l.rest) (lines_of l.text);
      within : IsWithin l.number l.world;
      later : g.O.Sink.fault_count l.fn.out ≤ g.O.Sink.fault_count l.out;
      bound : l.number + length l.rest ≤ l.first + length l.text;
    }

abbrev pub decreases-loop-rest : goal.decreases-loop-rest
decreases-loop-rest g l = length l.rest
