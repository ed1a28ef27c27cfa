use Rattle.std.proofs.Common.{sym}
use Rattle.replay_store.proofs.Rising.{filter_all}
use Rattle.replay_store.proofs.tree.Tree.+forget_before.Goals as goal

pub returns-then-oldest-time-clause-keys : goal.returns-then-oldest-time-clause-keys
returns-then-oldest-time-clause-keys t c = sym (filter_all c.args.time c.oldest.result c.args.self c.if-oldest-time.true c.oldest.ensures.since)
