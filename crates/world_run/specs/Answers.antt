-- Answers of the calls of a world.
use Rattle.std.specs.Prelude.{◌≢◌, Result, Err}
use Rattle.mech_rows.specs.declared.refusal.Refusal.{Refusal}
use Rattle.mech_rows.specs.declared.refusal.Refusal.TheVariants.{Memory}
use Rattle.world_run.specs.Views.{WorldView}

-- there is an answer other than want of memory, and a world that it leads to
abbrev pub HasAnswer : {X : Type 0} → (Result X Refusal → WorldView → Type 0) → Type 0
HasAnswer {X = X} R = (r : Result X Refusal) × (v : WorldView) × R r v × (r ≢ Err Memory)
