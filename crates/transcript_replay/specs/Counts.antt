-- How far a world can have come after so many lines.
use Rattle.std.specs.Prelude.{◌≤◌, ℕ, ◌*◌, length}
use Rattle.world_run.specs.Views.{WorldView, sent_in}

-- a line opens one run at most, sends one message at most, and draws no more than 15 values
pub record IsWithin (lines : ℕ) (w : WorldView) : Type 0 where
  pub runs : length w.runs ≤ lines
  pub messages : length (sent_in w.acts) ≤ lines
  pub draws : w.draws ≤ 15 * lines
