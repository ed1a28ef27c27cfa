use Rattle.std.proofs.Common.{◌≡◌, ◌+◌, ◌++◌, length, drop}
use Rattle.authctl.specs.Messages.{AreInLimits}
use Rattle.authctl.specs.Walks.{lines_before, passes_line}
use Rattle.authctl.proofs.walk.lines.Given as goal

abbrev pub invariant-loop-place : goal.invariant-loop-place
invariant-loop-place l =
    let rest = passes_line (length l.messages) in
    record {
      so_far : l.text.items ++ lines_before rest (l.place + 1) (drop l.place l.messages) ≡ lines_before rest 1 l.messages;
      limits : AreInLimits (drop l.place l.messages);
    }
