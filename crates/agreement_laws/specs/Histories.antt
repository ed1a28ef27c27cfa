-- What a world has come to, as contracts see it.
use Rattle.std.specs.Prelude.{ℕ, List}
use Rattle.term_values.specs.Trees.{Bytes, Tree}
use Rattle.agreement_laws.specs.declared.history.Happened.{Happened}

-- the pairs of names whose part is revealed, the runs in the order of opening, the messages in the order of sending, and the parts that were given away
pub record HistoryOf : Type 0 where
  pub revealed : List (ℕ × ℕ)
  pub happened : List Happened
  pub sent : List Tree
  pub given : List Bytes
