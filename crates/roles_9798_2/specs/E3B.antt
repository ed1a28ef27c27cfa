-- The runs of B in E3.
use Rattle.std.specs.Prelude.{ℕ, Bool, [], ◌∷◌, ◌++◌}
use Rattle.term_values.specs.Trees.{stamp}
use Rattle.mech_rows.specs.declared.kinds.Mech.TheVariants.{E3}
use Rattle.mech_rows.specs.declared.kinds.Role.TheVariants.{B}
use Rattle.mech_rows.specs.declared.kinds.Slot.TheVariants.{Tb}
use Rattle.mech_rows.specs.Heads.{Head}
use Rattle.mech_rows.specs.Openings.{plays}
use Rattle.mech_rows.specs.Verdict.{Noted, State}
use Rattle.text_hooks.specs.Names.{between}
use Rattle.text_hooks.specs.Shown.{answer_texts}
use Rattle.text_hooks.specs.declared.names.Pair.{Pair}
use Rattle.text_hooks.specs.Shown.{sealed_token}
use Rattle.roles_9798_2.specs.declared.e3.TokenHeard.{TokenHeard}
use Rattle.roles_9798_2.specs.declared.e3.E3B.{E3B}
use Rattle.roles_9798_2.specs.declared.e3.StageB.{StageB}
use Rattle.roles_9798_2.specs.declared.e3.StageB.TheVariants.{Start, Heard, Done}

-- once it has heard the token of A
abbrev pub token_heard : TokenHeard → Noted
token_heard m = answer_texts m.own ++ sealed_token m.token

-- the run at a pass
abbrev pub at : Pair → ℕ → Noted → State
at n k notes = record { head = between E3 B n; next = k; notes = notes }

-- the run of a stage
abbrev pub run : Pair → StageB → State
run n (Start own) = at n 0 (answer_texts own)
run n (Heard known) = at n 1 (token_heard known)
run n (Done known) = at n 2 (token_heard known.heard ++ (Tb, stamp known.tb) ∷ [])

-- the run of a state
abbrev pub state_of : E3B → State
state_of s = run s.names s.stage

-- B in E3
abbrev pub is_e3b : Head → Bool
is_e3b h = plays E3 B h
