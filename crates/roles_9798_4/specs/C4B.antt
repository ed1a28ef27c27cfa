-- The runs of B in C4.
use Rattle.std.specs.Prelude.{ℕ, Bool, [], ◌∷◌, ◌++◌}
use Rattle.term_values.specs.Trees.{nonce, text, Bytes, Tree}
use Rattle.mech_rows.specs.declared.kinds.Mech.TheVariants.{C4}
use Rattle.mech_rows.specs.declared.kinds.Role.TheVariants.{B}
use Rattle.mech_rows.specs.declared.kinds.Slot.TheVariants.{Ra, X2, X3}
use Rattle.mech_rows.specs.Heads.{Head}
use Rattle.mech_rows.specs.Openings.{plays}
use Rattle.mech_rows.specs.Verdict.{Noted, State}
use Rattle.text_hooks.specs.Names.{between}
use Rattle.text_hooks.specs.Known.{challenging}
use Rattle.text_hooks.specs.Shown.{challenger_texts}
use Rattle.text_hooks.specs.declared.names.Pair.{Pair}
use Rattle.text_hooks.specs.Parts.{body_of}
use Rattle.text_hooks.specs.declared.making.SlotValue.TheVariants.{Nonce as NonceValue}
use Rattle.text_hooks.specs.declared.known.Challenging.{Challenging}
use Rattle.roles_9798_4.specs.declared.c4.Second.{Second}
use Rattle.roles_9798_4.specs.declared.c4.C4B.{C4B}
use Rattle.roles_9798_4.specs.declared.c4.StageB.{StageB}
use Rattle.roles_9798_4.specs.declared.c4.StageB.TheVariants.{Start, Asked, Heard, Done}

-- what the second message shows
abbrev pub second : Second → Noted
second m = (Ra, nonce m.ra) ∷ (X2, text m.x2) ∷ (X3, text m.x3) ∷ []

-- what the check of the second message covers
abbrev pub covered : Pair → Challenging → Bytes → Bytes → Tree
covered n known ra x2 = body_of (2 ∷ 4 ∷ 2 ∷ 1 ∷ []) (n.a ∷ n.b ∷ []) (NonceValue ra ∷ NonceValue known.rb ∷ []) x2

-- the run at a pass
abbrev pub at : Pair → ℕ → Noted → State
at n k notes = record { head = between C4 B n; next = k; notes = notes }

-- the run of a stage
abbrev pub run : Pair → StageB → State
run n (Start own) = at n 0 (challenger_texts own)
run n (Asked known) = at n 1 (challenging known)
run n (Heard known) = at n 2 (challenging known.asked ++ second known.second)
run n (Done known) = at n 3 (challenging known.asked ++ second known.second)

-- the run of a state
abbrev pub state_of : C4B → State
state_of s = run s.names s.stage

-- B in C4
abbrev pub is_c4b : Head → Bool
is_c4b h = plays C4 B h
