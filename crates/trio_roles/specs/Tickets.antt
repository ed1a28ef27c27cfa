-- Items that are handed on unread.
use Rattle.std.specs.Prelude.{◌≤◌}
use Rattle.term_values.specs.Trees.{Tree, depth_of}
use Rattle.term_values.specs.Lengths.{length_of}
use Rattle.term_values.specs.Limits.{Fits}

-- a message may hand the item on: it keeps the limits, has at most seven levels, and takes at most 4,096 bytes
pub record MayGoOn (t : Tree) : Type 0 where
  pub fits : Fits t
  pub low : depth_of t ≤ 7
  pub short : length_of t ≤ 4096
