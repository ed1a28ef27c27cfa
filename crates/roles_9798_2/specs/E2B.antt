-- The runs of B in E2.
use Rattle.std.specs.Prelude.{ℕ, Bool, [], ◌∷◌, ◌++◌}
use Rattle.term_values.specs.Trees.{text}
use Rattle.mech_rows.specs.declared.kinds.Mech.TheVariants.{E2}
use Rattle.mech_rows.specs.declared.kinds.Role.TheVariants.{B}
use Rattle.mech_rows.specs.declared.kinds.Slot.TheVariants.{X2, X3}
use Rattle.mech_rows.specs.Heads.{Head}
use Rattle.mech_rows.specs.Openings.{plays}
use Rattle.mech_rows.specs.Verdict.{Noted, State}
use Rattle.text_hooks.specs.Names.{between}
use Rattle.text_hooks.specs.Known.{asked}
use Rattle.text_hooks.specs.Shown.{challenge_text}
use Rattle.text_hooks.specs.declared.names.Pair.{Pair}
use Rattle.roles_9798_2.specs.declared.e2.Answer.{Answer}
use Rattle.roles_9798_2.specs.declared.e2.E2B.{E2B}
use Rattle.roles_9798_2.specs.declared.e2.StageB.{StageB}
use Rattle.roles_9798_2.specs.declared.e2.StageB.TheVariants.{Start, Asked, Done}

-- what the answer shows
abbrev pub answer : Answer → Noted
answer m = (X3, text m.x3) ∷ (X2, text m.x2) ∷ []

-- the run at a pass
abbrev pub at : Pair → ℕ → Noted → State
at n k notes = record { head = between E2 B n; next = k; notes = notes }

-- the run of a stage
abbrev pub run : Pair → StageB → State
run n (Start own) = at n 0 (challenge_text own)
run n (Asked known) = at n 1 (asked known)
run n (Done known) = at n 2 (asked known.asked ++ answer known.answer)

-- the run of a state
abbrev pub state_of : E2B → State
state_of s = run s.names s.stage

-- B in E2
abbrev pub is_e2b : Head → Bool
is_e2b h = plays E2 B h
