-- When two states are one run of the theory.
use Rattle.std.specs.Prelude.{◌≡◌}
use Rattle.mech_rows.specs.Laws.{SameLookups}
use Rattle.mech_rows.specs.Verdict.{State}

-- both have one head and one pass, and the same value in each slot
pub record AreOneRun (s t : State) : Type 0 where
  pub head : s.head ≡ t.head
  pub next : s.next ≡ t.next
  pub values : SameLookups s.notes t.notes
