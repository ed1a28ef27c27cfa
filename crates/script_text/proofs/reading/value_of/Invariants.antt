use Rattle.std.proofs.Common.{◌≡◌, drop}
use Rattle.script_text.specs.Notation.{value_after}
use Rattle.script_text.proofs.reading.value_of.Given as goal

abbrev pub invariant-loop-digit : goal.invariant-loop-digit
invariant-loop-digit l = value_after l.number (drop l.digit-index l.word) ≡ value_after 0 l.word
