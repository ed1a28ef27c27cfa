-- The runs of B in C2.
use Rattle.std.specs.Prelude.{ℕ, Bool, [], ◌∷◌, ◌++◌}
use Rattle.term_values.specs.Trees.{text, Bytes, Tree}
use Rattle.mech_rows.specs.declared.kinds.Mech.TheVariants.{C2}
use Rattle.mech_rows.specs.declared.kinds.Role.TheVariants.{B}
use Rattle.mech_rows.specs.declared.kinds.Slot.TheVariants.{X2, X3}
use Rattle.mech_rows.specs.Heads.{Head}
use Rattle.mech_rows.specs.Openings.{plays}
use Rattle.mech_rows.specs.Verdict.{Noted, State}
use Rattle.text_hooks.specs.Names.{between}
use Rattle.text_hooks.specs.Known.{asked}
use Rattle.text_hooks.specs.Shown.{challenge_text}
use Rattle.text_hooks.specs.declared.names.Pair.{Pair}
use Rattle.text_hooks.specs.Parts.{body_of}
use Rattle.text_hooks.specs.declared.making.SlotValue.TheVariants.{Nonce as NonceValue}
use Rattle.text_hooks.specs.declared.known.Asked.{Asked as Known}
use Rattle.roles_9798_4.specs.declared.c2.Answer.{Answer}
use Rattle.roles_9798_4.specs.declared.c2.C2B.{C2B}
use Rattle.roles_9798_4.specs.declared.c2.StageB.{StageB}
use Rattle.roles_9798_4.specs.declared.c2.StageB.TheVariants.{Start, Asked, Done}

-- what the answer shows
abbrev pub answer : Answer → Noted
answer m = (X2, text m.x2) ∷ (X3, text m.x3) ∷ []

-- what the check of the answer covers
abbrev pub covered : Pair → Known → Bytes → Tree
covered n known x2 = body_of (2 ∷ 2 ∷ 2 ∷ 1 ∷ []) (n.a ∷ n.b ∷ []) (NonceValue known.rb ∷ []) x2

-- the run at a pass
abbrev pub at : Pair → ℕ → Noted → State
at n k notes = record { head = between C2 B n; next = k; notes = notes }

-- the run of a stage
abbrev pub run : Pair → StageB → State
run n (Start own) = at n 0 (challenge_text own)
run n (Asked known) = at n 1 (asked known)
run n (Done known) = at n 2 (asked known.asked ++ answer known.answer)

-- the run of a state
abbrev pub state_of : C2B → State
state_of s = run s.names s.stage

-- B in C2
abbrev pub is_c2b : Head → Bool
is_c2b h = plays C2 B h
