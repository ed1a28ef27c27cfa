-- The runs of A in C1.
use Rattle.std.specs.Prelude.{ℕ, Bool}
use Rattle.mech_rows.specs.declared.kinds.Mech.TheVariants.{C1}
use Rattle.mech_rows.specs.declared.kinds.Role.TheVariants.{A}
use Rattle.mech_rows.specs.Heads.{Head}
use Rattle.mech_rows.specs.Openings.{plays}
use Rattle.mech_rows.specs.Verdict.{Noted, State}
use Rattle.text_hooks.specs.Names.{between}
use Rattle.text_hooks.specs.Known.{stamped}
use Rattle.text_hooks.specs.Shown.{first_texts}
use Rattle.text_hooks.specs.declared.names.Pair.{Pair}
use Rattle.roles_9798_4.specs.declared.c1.C1A.{C1A}
use Rattle.roles_9798_4.specs.declared.c1.StageA.{StageA}
use Rattle.roles_9798_4.specs.declared.c1.StageA.TheVariants.{Start, Done}

-- the run at a pass
abbrev pub at : Pair → ℕ → Noted → State
at n k notes = record { head = between C1 A n; next = k; notes = notes }

-- the run of a stage
abbrev pub run : Pair → StageA → State
run n (Start own) = at n 0 (first_texts own)
run n (Done known) = at n 1 (stamped known)

-- the run of a state
abbrev pub state_of : C1A → State
state_of s = run s.names s.stage

-- A in C1
abbrev pub is_c1a : Head → Bool
is_c1a h = plays C1 A h
