-- The runs of A in E2.
use Rattle.std.specs.Prelude.{ℕ, Bool}
use Rattle.mech_rows.specs.declared.kinds.Mech.TheVariants.{E2}
use Rattle.mech_rows.specs.declared.kinds.Role.TheVariants.{A}
use Rattle.mech_rows.specs.Heads.{Head}
use Rattle.mech_rows.specs.Openings.{plays}
use Rattle.mech_rows.specs.Verdict.{Noted, State}
use Rattle.text_hooks.specs.Names.{between}
use Rattle.text_hooks.specs.Known.{challenged}
use Rattle.text_hooks.specs.Shown.{second_texts}
use Rattle.text_hooks.specs.declared.names.Pair.{Pair}
use Rattle.roles_9798_2.specs.declared.e2.E2A.{E2A}
use Rattle.roles_9798_2.specs.declared.e2.StageA.{StageA}
use Rattle.roles_9798_2.specs.declared.e2.StageA.TheVariants.{Start, Heard, Done}

-- the run at a pass
abbrev pub at : Pair → ℕ → Noted → State
at n k notes = record { head = between E2 A n; next = k; notes = notes }

-- the run of a stage
abbrev pub run : Pair → StageA → State
run n (Start own) = at n 0 (second_texts own)
run n (Heard known) = at n 1 (challenged known)
run n (Done known) = at n 2 (challenged known)

-- the run of a state
abbrev pub state_of : E2A → State
state_of s = run s.names s.stage

-- A in E2
abbrev pub is_e2a : Head → Bool
is_e2a h = plays E2 A h
