use Rattle.std.proofs.Common.{◌≡◌, ◌++◌, drop}
use Rattle.transcript_replay.proofs.game.copied_rules.Given as goal

abbrev pub invariant-loop-rule : goal.invariant-loop-rule
invariant-loop-rule l = l.copies.items ++ drop l.rule-index l.rules ≡ l.rules
