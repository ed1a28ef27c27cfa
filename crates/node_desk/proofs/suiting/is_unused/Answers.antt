use Rattle.std.proofs.Common.{sym, ◌∙◌}
use Rattle.node_desk.proofs.Suited.{unused-then, unused-else}
use Rattle.node_desk.proofs.suiting.is_unused.Goals as goal

pub returns-then-was_issued : goal.returns-then-was_issued
returns-then-was_issued c = unused-then c.args.log.now c.in-Some.stamp c.args.issued c.was_used.result c.in-Some.is (sym c.was_issued.ensures ∙ c.if-was_issued.true) c.was_used.ensures

pub returns-else-was_issued : goal.returns-else-was_issued
returns-else-was_issued c = unused-else c.args.log.now c.in-Some.stamp c.args.issued c.was_issued.result c.in-Some.is c.was_issued.ensures c.if-was_issued.false
