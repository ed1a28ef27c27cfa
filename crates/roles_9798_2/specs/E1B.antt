-- The runs of B in E1.
use Rattle.std.specs.Prelude.{ℕ, Bool, []}
use Rattle.mech_rows.specs.declared.kinds.Mech.TheVariants.{E1}
use Rattle.mech_rows.specs.declared.kinds.Role.TheVariants.{B}
use Rattle.mech_rows.specs.Heads.{Head}
use Rattle.mech_rows.specs.Openings.{plays}
use Rattle.mech_rows.specs.Verdict.{Noted, State}
use Rattle.text_hooks.specs.Names.{between}
use Rattle.text_hooks.specs.declared.names.Pair.{Pair}
use Rattle.text_hooks.specs.Shown.{sealed_token}
use Rattle.roles_9798_2.specs.declared.e1.E1B.{E1B}
use Rattle.roles_9798_2.specs.declared.e1.StageB.{StageB}
use Rattle.roles_9798_2.specs.declared.e1.StageB.TheVariants.{Start, Done}

-- the run at a pass
abbrev pub at : Pair → ℕ → Noted → State
at n k notes = record { head = between E1 B n; next = k; notes = notes }

-- the run of a stage
abbrev pub run : Pair → StageB → State
run n Start = at n 0 []
run n (Done shown) = at n 1 (sealed_token shown)

-- the run of a state
abbrev pub state_of : E1B → State
state_of s = run s.names s.stage

-- B in E1
abbrev pub is_e1b : Head → Bool
is_e1b h = plays E1 B h
