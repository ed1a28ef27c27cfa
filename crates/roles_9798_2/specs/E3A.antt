-- The runs of A in E3.
use Rattle.std.specs.Prelude.{ℕ, Bool, [], ◌∷◌, ◌++◌}
use Rattle.term_values.specs.Trees.{stamp, text}
use Rattle.mech_rows.specs.declared.kinds.Mech.TheVariants.{E3}
use Rattle.mech_rows.specs.declared.kinds.Role.TheVariants.{A}
use Rattle.mech_rows.specs.declared.kinds.Slot.TheVariants.{Tb, X3, X4}
use Rattle.mech_rows.specs.Heads.{Head}
use Rattle.mech_rows.specs.Openings.{plays}
use Rattle.mech_rows.specs.Verdict.{Noted, State}
use Rattle.text_hooks.specs.Names.{between}
use Rattle.text_hooks.specs.Known.{stamped}
use Rattle.text_hooks.specs.Shown.{first_texts}
use Rattle.text_hooks.specs.declared.names.Pair.{Pair}
use Rattle.roles_9798_2.specs.declared.e3.ReturnToken.{ReturnToken}
use Rattle.roles_9798_2.specs.declared.e3.E3A.{E3A}
use Rattle.roles_9798_2.specs.declared.e3.StageA.{StageA}
use Rattle.roles_9798_2.specs.declared.e3.StageA.TheVariants.{Start, Sent, Done}

-- what the token in return shows
abbrev pub return_token : ReturnToken → Noted
return_token m = (X4, text m.x4) ∷ (Tb, stamp m.tb) ∷ (X3, text m.x3) ∷ []

-- the run at a pass
abbrev pub at : Pair → ℕ → Noted → State
at n k notes = record { head = between E3 A n; next = k; notes = notes }

-- the run of a stage
abbrev pub run : Pair → StageA → State
run n (Start own) = at n 0 (first_texts own)
run n (Sent known) = at n 1 (stamped known)
run n (Done known) = at n 2 (stamped known.sent ++ return_token known.token)

-- the run of a state
abbrev pub state_of : E3A → State
state_of s = run s.names s.stage

-- A in E3
abbrev pub is_e3a : Head → Bool
is_e3a h = plays E3 A h
