use Rattle.script_text.proofs.LineTexts.{one_line_is}
use Rattle.script_text.proofs.lines.one_line.Goals as goal

pub returns : goal.returns
returns c = one_line_is
