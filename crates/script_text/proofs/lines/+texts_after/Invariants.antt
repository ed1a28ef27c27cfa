use Rattle.std.proofs.Common.{length}
use Rattle.script_text.proofs.lines.+texts_after.Given as goal

abbrev pub decreases-texts_after : goal.decreases-texts_after
decreases-texts_after l = length l.words.now
