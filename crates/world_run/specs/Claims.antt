-- The runs of a world's history, and their claims.
use Rattle.std.specs.Prelude.{◌≡◌, true, List, Some}
use Rattle.mech_rows.specs.declared.kinds.Slot.{Slot}
use Rattle.mech_rows.specs.Rows.{agreed_of}
use Rattle.agreement_laws.specs.declared.history.Happened.{Happened}
use Rattle.agreement_laws.specs.Configs.{Config, IsUnrevealed}
use Rattle.agreement_laws.specs.Histories.{HistoryOf}
use Rattle.world_run.specs.Views.{WorldView, told_by, told_of}

-- the history tells what has happened in the world
abbrev pub Tells : HistoryOf → WorldView → Type 0
Tells h w = told_by h ≡ told_of w

-- the run claims agreement on these slots: it is done, its role agrees on them, and no long-term pair of its row is revealed
pub record Claims (c : Config) (r : Happened) (slots : List Slot) : Type 0 where
  pub done : r.done ≡ true
  pub agreed : agreed_of r.head.mech r.head.role ≡ Some slots
  pub unrevealed : IsUnrevealed c r.head
