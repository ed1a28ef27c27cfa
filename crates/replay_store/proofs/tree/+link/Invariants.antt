use Rattle.std.proofs.Common.{◌+◌, length}
use Rattle.replay_store.proofs.tree.+link.Given as goal

abbrev pub decreases-link : goal.decreases-link
decreases-link l = length l.left + length l.right
