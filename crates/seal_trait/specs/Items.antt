-- The limits of bodies, and of the items that are made from them.
use Rattle.std.specs.Prelude.{ℕ, ◌+◌, ◌≤◌}
use Rattle.term_values.specs.Trees.{Tree, depth_of}
use Rattle.term_values.specs.Lengths.{length_of}
use Rattle.term_values.specs.Limits.{Fits}

-- a body that has a spelling, of at most 2,048 bytes
pub record IsShort (body : Tree) : Type 0 where
  pub fits : Fits body
  pub levels : depth_of body ≤ 8
  pub length : length_of body ≤ 2048

-- an item made from a body: it fits the limits but that on levels, has at most one level more, and takes at most 66 bytes more
pub record IsItemOf (body item : Tree) : Type 0 where
  pub fits : Fits item
  pub levels : depth_of item ≤ depth_of body + 1
  pub length : length_of item ≤ length_of body + 66
