-- A store that keeps every stamp.
use Rattle.std.specs.Prelude.{ℕ, List}
use Rattle.replay_store.specs.Stamps.{Accepted}

-- its window and now in milliseconds, the stamps that it accepted, and how many more need no memory
pub record Held : Type 0 where
  pub window : ℕ
  pub now : ℕ
  pub accepted : List Accepted
  pub spare : ℕ
