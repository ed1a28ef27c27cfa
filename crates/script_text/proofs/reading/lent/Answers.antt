use Rattle.script_text.proofs.Digits.{lent_is}
use Rattle.script_text.proofs.reading.lent.Goals as goal

pub returns : goal.returns
returns c = lent_is c.args.levels c.depth.result c.in-Some.left c.args.term.now c.in_ok-copied.copied c.args.marks.now c.depth.ensures.depth c.if-depth-levels.false c.requires c.in-Some.ensures c.in_ok-copied.ensures.equal
