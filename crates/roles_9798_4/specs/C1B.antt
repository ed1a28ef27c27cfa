-- The runs of B in C1.
use Rattle.std.specs.Prelude.{ℕ, Bool, [], ◌∷◌}
use Rattle.term_values.specs.Trees.{Bytes, Tree}
use Rattle.term_values.specs.declared.small.Stamp.{Stamp}
use Rattle.mech_rows.specs.declared.kinds.Mech.TheVariants.{C1}
use Rattle.mech_rows.specs.declared.kinds.Role.TheVariants.{B}
use Rattle.mech_rows.specs.Heads.{Head}
use Rattle.mech_rows.specs.Openings.{plays}
use Rattle.mech_rows.specs.Verdict.{Noted, State}
use Rattle.text_hooks.specs.Names.{between}
use Rattle.text_hooks.specs.Shown.{checked_token}
use Rattle.text_hooks.specs.declared.names.Pair.{Pair}
use Rattle.text_hooks.specs.Parts.{body_of}
use Rattle.text_hooks.specs.declared.making.SlotValue.TheVariants.{Stamp as StampValue}
use Rattle.roles_9798_4.specs.declared.c1.C1B.{C1B}
use Rattle.roles_9798_4.specs.declared.c1.StageB.{StageB}
use Rattle.roles_9798_4.specs.declared.c1.StageB.TheVariants.{Start, Done}

-- what the check of the token covers
abbrev pub covered : Pair → Stamp → Bytes → Tree
covered n ta x1 = body_of (2 ∷ 1 ∷ 1 ∷ 1 ∷ []) (n.a ∷ n.b ∷ []) (StampValue ta ∷ []) x1

-- the run at a pass
abbrev pub at : Pair → ℕ → Noted → State
at n k notes = record { head = between C1 B n; next = k; notes = notes }

-- the run of a stage
abbrev pub run : Pair → StageB → State
run n Start = at n 0 []
run n (Done token) = at n 1 (checked_token token)

-- the run of a state
abbrev pub state_of : C1B → State
state_of s = run s.names s.stage

-- B in C1
abbrev pub is_c1b : Head → Bool
is_c1b h = plays C1 B h
