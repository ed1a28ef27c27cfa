-- The runs of B in C3.
use Rattle.std.specs.Prelude.{ℕ, Bool, [], ◌∷◌, ◌++◌}
use Rattle.term_values.specs.Trees.{stamp, Bytes, Tree}
use Rattle.term_values.specs.declared.small.Stamp.{Stamp}
use Rattle.mech_rows.specs.declared.kinds.Mech.TheVariants.{C3}
use Rattle.mech_rows.specs.declared.kinds.Role.TheVariants.{B}
use Rattle.mech_rows.specs.declared.kinds.Slot.TheVariants.{Tb}
use Rattle.mech_rows.specs.Heads.{Head}
use Rattle.mech_rows.specs.Openings.{plays}
use Rattle.mech_rows.specs.Verdict.{Noted, State}
use Rattle.text_hooks.specs.Names.{between}
use Rattle.text_hooks.specs.Shown.{answer_texts, checked_token}
use Rattle.text_hooks.specs.declared.names.Pair.{Pair}
use Rattle.text_hooks.specs.Parts.{body_of}
use Rattle.text_hooks.specs.declared.making.SlotValue.TheVariants.{Stamp as StampValue}
use Rattle.roles_9798_4.specs.declared.c3.TokenHeard.{TokenHeard}
use Rattle.roles_9798_4.specs.declared.c3.C3B.{C3B}
use Rattle.roles_9798_4.specs.declared.c3.StageB.{StageB}
use Rattle.roles_9798_4.specs.declared.c3.StageB.TheVariants.{Start, Heard, Done}

-- once it has heard the token of A
abbrev pub token_heard : TokenHeard → Noted
token_heard m = answer_texts m.own ++ checked_token m.token

-- what the check of the first token covers
abbrev pub covered : Pair → Stamp → Bytes → Tree
covered n ta x1 = body_of (2 ∷ 3 ∷ 1 ∷ 1 ∷ []) (n.a ∷ n.b ∷ []) (StampValue ta ∷ []) x1

-- the run at a pass
abbrev pub at : Pair → ℕ → Noted → State
at n k notes = record { head = between C3 B n; next = k; notes = notes }

-- the run of a stage
abbrev pub run : Pair → StageB → State
run n (Start own) = at n 0 (answer_texts own)
run n (Heard known) = at n 1 (token_heard known)
run n (Done known) = at n 2 (token_heard known.heard ++ (Tb, stamp known.tb) ∷ [])

-- the run of a state
abbrev pub state_of : C3B → State
state_of s = run s.names s.stage

-- B in C3
abbrev pub is_c3b : Head → Bool
is_c3b h = plays C3 B h
