-- The runs of A in E1.
use Rattle.std.specs.Prelude.{ℕ, Bool}
use Rattle.mech_rows.specs.declared.kinds.Mech.TheVariants.{E1}
use Rattle.mech_rows.specs.declared.kinds.Role.TheVariants.{A}
use Rattle.mech_rows.specs.Heads.{Head}
use Rattle.mech_rows.specs.Openings.{plays}
use Rattle.mech_rows.specs.Verdict.{Noted, State}
use Rattle.text_hooks.specs.Names.{between}
use Rattle.text_hooks.specs.Known.{stamped}
use Rattle.text_hooks.specs.Shown.{first_texts}
use Rattle.text_hooks.specs.declared.names.Pair.{Pair}
use Rattle.roles_9798_2.specs.declared.e1.E1A.{E1A}
use Rattle.roles_9798_2.specs.declared.e1.StageA.{StageA}
use Rattle.roles_9798_2.specs.declared.e1.StageA.TheVariants.{Start, Done}

-- the run at a pass
abbrev pub at : Pair → ℕ → Noted → State
at n k notes = record { head = between E1 A n; next = k; notes = notes }

-- the run of a stage
abbrev pub run : Pair → StageA → State
run n (Start own) = at n 0 (first_texts own)
run n (Done sent) = at n 1 (stamped sent)

-- the run of a state
abbrev pub state_of : E1A → State
state_of s = run s.names s.stage

-- A in E1
abbrev pub is_e1a : Head → Bool
is_e1a h = plays E1 A h
