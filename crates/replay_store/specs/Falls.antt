-- Each side of a node has fewer keys than the tree.
use Rattle.std.specs.Prelude.{◌≤◌, ◌∷◌, length, Option, Some, None, Box}
use Rattle.std.specs.declared.alloc.Global.{Global}
use Rattle.std.proofs.Common.{arith, length-append}
use Rattle.replay_store.specs.declared.tree.Node.{Node}
use Rattle.replay_store.specs.declared.tree.Tree.TheDeep.{deep-Tree}
use Rattle.replay_store.specs.Rising.{keys_in}

pub tree_falls : (top : Option (Box Node Global)) → deep-Tree (record { top = top }) ≤ length (keys_in top)
tree_falls None = omega arith
tree_falls (Some node) = omega (arith, length-append node.value.left (node.value.key ∷ node.value.right))
