-- The calls of an object in memory, numbered together from 1.
use Rattle.std.specs.Prelude.{ℕ, ◌+◌, ◌-◌, ◌^◌, ◌≤◌, ◌⊎◌, min, Bool, true, false, List}
use Rattle.std.specs.List.{Contains}

-- how many calls were made, the numbers of those that are to fail, and how many failed
pub record Tally : Type 0 where
  pub done : ℕ
  pub failing : List ℕ
  pub faults : ℕ

-- no call was made yet
abbrev pub no_calls : List ℕ → Tally
no_calls failing = record { done = 0; failing = failing; faults = 0 }

-- one more, where the type has room for it
abbrev pub one_more : ℕ → ℕ
one_more count = min (count + 1) (2 ^ 64 - 1)

-- after one more call, which failed or did not
abbrev pub tally_after : Bool → Tally → Tally
tally_after false t = record { done = one_more t.done; failing = t.failing; faults = t.faults }
tally_after true t = record { done = one_more t.done; failing = t.failing; faults = one_more t.faults }

-- the next call is to fail: its number is in the list, or no number is left for it
abbrev pub IsToFail : Tally → Type 0
IsToFail t = Contains t.failing (t.done + 1) ⊎ (2 ^ 64 - 1 ≤ t.done)
