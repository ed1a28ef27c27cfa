-- What the objects in memory hold.
use Rattle.std.specs.Prelude.{ℕ, zero, suc, ◌-◌, List, [], ◌∷◌, ◌++◌, length, min, slice_index}
use Rattle.outside.specs.Tally.{Tally}

-- a source in memory: the bytes that are left, and its calls
pub record SourceParts : Type 0 where
  pub left : List ℕ
  pub calls : Tally

-- a sink in memory: the bytes that were put, and its calls
pub record SinkParts : Type 0 where
  pub written : List ℕ
  pub calls : Tally

-- draws in memory: the byte that each begins with, how many were made, and the calls
pub record DrawParts : Type 0 where
  pub lead : ℕ
  pub place : ℕ
  pub calls : Tally

-- a link in memory: the bytes that are left, what was put, and its calls
pub record LinkParts : Type 0 where
  pub left : List ℕ
  pub written : List ℕ
  pub calls : Tally

-- a link in memory that never fails: the bytes that are left, and what was put
pub record SureLinkParts : Type 0 where
  pub left : List ℕ
  pub written : List ℕ

-- a clock in memory: the answers that it was made with, how many it gave, and its calls
pub record ClockParts : Type 0 where
  pub script : List ℕ
  pub given : ℕ
  pub calls : Tally

-- answer k of such a clock: that of the list, and past its end the last one
abbrev pub answer_at : List ℕ → ℕ → ℕ
answer_at script k = slice_index script (min k (length script - 1))

-- the first answers, so many of them
abbrev pub answers_of : List ℕ → ℕ → List ℕ
answers_of script zero = []
answers_of script (suc k) = answers_of script k ++ answer_at script k ∷ []
