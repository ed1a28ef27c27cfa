-- The runs of A in C3.
use Rattle.std.specs.Prelude.{ℕ, Bool, [], ◌∷◌, ◌++◌}
use Rattle.term_values.specs.Trees.{stamp, text, Bytes, Tree}
use Rattle.term_values.specs.declared.small.Stamp.{Stamp}
use Rattle.mech_rows.specs.declared.kinds.Mech.TheVariants.{C3}
use Rattle.mech_rows.specs.declared.kinds.Role.TheVariants.{A}
use Rattle.mech_rows.specs.declared.kinds.Slot.TheVariants.{Tb, X3, X4}
use Rattle.mech_rows.specs.Heads.{Head}
use Rattle.mech_rows.specs.Openings.{plays}
use Rattle.mech_rows.specs.Verdict.{Noted, State}
use Rattle.text_hooks.specs.Names.{between}
use Rattle.text_hooks.specs.Known.{stamped}
use Rattle.text_hooks.specs.Shown.{first_texts}
use Rattle.text_hooks.specs.declared.names.Pair.{Pair}
use Rattle.text_hooks.specs.Parts.{body_of}
use Rattle.text_hooks.specs.declared.making.SlotValue.TheVariants.{Stamp as StampValue}
use Rattle.roles_9798_4.specs.declared.c3.ReturnToken.{ReturnToken}
use Rattle.roles_9798_4.specs.declared.c3.C3A.{C3A}
use Rattle.roles_9798_4.specs.declared.c3.StageA.{StageA}
use Rattle.roles_9798_4.specs.declared.c3.StageA.TheVariants.{Start, Sent, Done}

-- what the token in return shows
abbrev pub return_token : ReturnToken → Noted
return_token m = (Tb, stamp m.tb) ∷ (X3, text m.x3) ∷ (X4, text m.x4) ∷ []

-- what the check of the second token covers
abbrev pub covered : Pair → Stamp → Bytes → Tree
covered n tb x3 = body_of (2 ∷ 3 ∷ 2 ∷ 1 ∷ []) (n.a ∷ n.b ∷ []) (StampValue tb ∷ []) x3

-- the run at a pass
abbrev pub at : Pair → ℕ → Noted → State
at n k notes = record { head = between C3 A n; next = k; notes = notes }

-- the run of a stage
abbrev pub run : Pair → StageA → State
run n (Start own) = at n 0 (first_texts own)
run n (Sent known) = at n 1 (stamped known)
run n (Done known) = at n 2 (stamped known.sent ++ return_token known.token)

-- the run of a state
abbrev pub state_of : C3A → State
state_of s = run s.names s.stage

-- A in C3
abbrev pub is_c3a : Head → Bool
is_c3a h = plays C3 A h
