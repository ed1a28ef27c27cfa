-- The runs of B in E4.
use Rattle.std.specs.Prelude.{ℕ, Bool, [], ◌∷◌, ◌++◌}
use Rattle.term_values.specs.Trees.{nonce, text}
use Rattle.mech_rows.specs.declared.kinds.Mech.TheVariants.{E4}
use Rattle.mech_rows.specs.declared.kinds.Role.TheVariants.{B}
use Rattle.mech_rows.specs.declared.kinds.Slot.TheVariants.{Ra, X2, X3}
use Rattle.mech_rows.specs.Heads.{Head}
use Rattle.mech_rows.specs.Openings.{plays}
use Rattle.mech_rows.specs.Verdict.{Noted, State}
use Rattle.text_hooks.specs.Names.{between}
use Rattle.text_hooks.specs.Known.{challenging}
use Rattle.text_hooks.specs.Shown.{challenger_texts}
use Rattle.text_hooks.specs.declared.names.Pair.{Pair}
use Rattle.roles_9798_2.specs.declared.e4.Second.{Second}
use Rattle.roles_9798_2.specs.declared.e4.E4B.{E4B}
use Rattle.roles_9798_2.specs.declared.e4.StageB.{StageB}
use Rattle.roles_9798_2.specs.declared.e4.StageB.TheVariants.{Start, Asked, Heard, Done}

-- what the second message shows
abbrev pub second : Second → Noted
second m = (X3, text m.x3) ∷ (Ra, nonce m.ra) ∷ (X2, text m.x2) ∷ []

-- the run at a pass
abbrev pub at : Pair → ℕ → Noted → State
at n k notes = record { head = between E4 B n; next = k; notes = notes }

-- the run of a stage
abbrev pub run : Pair → StageB → State
run n (Start own) = at n 0 (challenger_texts own)
run n (Asked known) = at n 1 (challenging known)
run n (Heard known) = at n 2 (challenging known.asked ++ second known.second)
run n (Done known) = at n 3 (challenging known.asked ++ second known.second)

-- the run of a state
abbrev pub state_of : E4B → State
state_of s = run s.names s.stage

-- B in E4
abbrev pub is_e4b : Head → Bool
is_e4b h = plays E4 B h
