use Rattle.std.proofs.Common.{◌≡◌, ◌++◌, map, drop}
use Rattle.authctl.specs.Messages.{fresh_tree}
use Rattle.authctl.proofs.walk.put_fresh.Given as goal

abbrev pub invariant-loop-one : goal.invariant-loop-one
invariant-loop-one l = l.items.items ++ map fresh_tree (drop l.one-index l.fresh) ≡ l.fn.items.items ++ map fresh_tree l.fresh
