-- What an event line does to the world, and prints.
use Rattle.std.specs.Prelude.{◌≡◌, ℕ, List, ◌++◌, Bool, Result, Ok, Err}
use Rattle.term_values.specs.Trees.{Bytes, Tree}
use Rattle.mech_rows.specs.declared.kinds.Mech.{Mech}
use Rattle.mech_rows.specs.declared.kinds.Slot.{Slot}
use Rattle.mech_rows.specs.declared.refusal.Refusal.{Refusal}
use Rattle.mech_rows.specs.Heads.{Head}
use Rattle.mech_rows.specs.Openings.{Texts}
use Rattle.world_run.specs.declared.given.Given.{Given}
use Rattle.world_run.specs.declared.opened.Opened.{Opened}
use Rattle.world_run.specs.Clocks.{Raises}
use Rattle.world_run.specs.Gives.{Drops, Gives}
use Rattle.world_run.specs.Opens.{Opens}
use Rattle.world_run.specs.Views.{WorldView}
use Rattle.transcript_replay.specs.Completions.{doings_text}
use Rattle.transcript_replay.specs.Printed.{clock_line, dropped_line, refused_line, run_line, took_line}

-- ---- what is printed

-- the clock of a party
abbrev pub clock_text : ℕ → Result ℕ Refusal → List ℕ
clock_text name (Ok now) = clock_line name now
clock_text name (Err e) = refused_line e

-- a run to open
abbrev pub open_text : WorldView → WorldView → Result Opened Refusal → List ℕ
open_text old new (Ok o) = run_line o.run ++ doings_text old new o.run
open_text old new (Err e) = refused_line e

-- a term for a run
abbrev pub give_text : WorldView → WorldView → ℕ → Result Given Refusal → List ℕ
give_text old new run (Ok g) = took_line run g.pass ++ doings_text old new run
give_text old new run (Err e) = refused_line e

-- a run to drop
abbrev pub drop_text : ℕ → Result (Unit {0}) Refusal → List ℕ
drop_text run (Ok done) = dropped_line run
drop_text run (Err e) = refused_line e

-- ---- what is done

-- the clock of a party was set, and this was printed
abbrev pub IsClocked : WorldView → ℕ → ℕ → WorldView → List ℕ → Type 0
IsClocked old name ms new text = (given : Result ℕ Refusal) × Raises old name ms given new × (text ≡ clock_text name given)

-- a run was to open, and this was printed
abbrev pub IsOpenedSo : WorldView → Head → Texts → WorldView → List ℕ → Type 0
IsOpenedSo old h texts new text = (given : Result Opened Refusal) × Opens old h texts given new × (text ≡ open_text old new given)

-- a term was given to a run, and this was printed
abbrev pub IsGivenSo : (Mech → Slot → Bytes → Bool) → WorldView → ℕ → Tree → WorldView → List ℕ → Type 0
IsGivenSo allowed old run t new text = (given : Result Given Refusal) × Gives allowed old run t given new × (text ≡ give_text old new run given)

-- a run was to drop, and this was printed
abbrev pub IsDroppedSo : WorldView → ℕ → WorldView → List ℕ → Type 0
IsDroppedSo old run new text = (given : Result (Unit {0}) Refusal) × Drops old run given new × (text ≡ drop_text run given)
