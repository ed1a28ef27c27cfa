-- The runs of A in C4.
use Rattle.std.specs.Prelude.{ℕ, Bool, [], ◌∷◌, ◌++◌}
use Rattle.term_values.specs.Trees.{text, Bytes, Tree}
use Rattle.mech_rows.specs.declared.kinds.Mech.TheVariants.{C4}
use Rattle.mech_rows.specs.declared.kinds.Role.TheVariants.{A}
use Rattle.mech_rows.specs.declared.kinds.Slot.TheVariants.{X4, X5}
use Rattle.mech_rows.specs.Heads.{Head}
use Rattle.mech_rows.specs.Openings.{plays}
use Rattle.mech_rows.specs.Verdict.{Noted, State}
use Rattle.text_hooks.specs.Names.{between}
use Rattle.text_hooks.specs.Known.{challenged, sent}
use Rattle.text_hooks.specs.Shown.{second_texts}
use Rattle.text_hooks.specs.declared.names.Pair.{Pair}
use Rattle.text_hooks.specs.Parts.{body_of}
use Rattle.text_hooks.specs.declared.making.SlotValue.TheVariants.{Nonce as NonceValue}
use Rattle.text_hooks.specs.declared.known.Sent.{Sent as Known}
use Rattle.roles_9798_4.specs.declared.c4.Third.{Third}
use Rattle.roles_9798_4.specs.declared.c4.C4A.{C4A}
use Rattle.roles_9798_4.specs.declared.c4.StageA.{StageA}
use Rattle.roles_9798_4.specs.declared.c4.StageA.TheVariants.{Start, Heard, Sent, Done}

-- what the third message shows
abbrev pub third : Third → Noted
third m = (X4, text m.x4) ∷ (X5, text m.x5) ∷ []

-- what the check of the third message covers
abbrev pub covered : Pair → Known → Bytes → Tree
covered n known x4 = body_of (2 ∷ 4 ∷ 3 ∷ 1 ∷ []) (n.a ∷ n.b ∷ []) (NonceValue known.challenge.rb ∷ NonceValue known.ra ∷ []) x4

-- the run at a pass
abbrev pub at : Pair → ℕ → Noted → State
at n k notes = record { head = between C4 A n; next = k; notes = notes }

-- the run of a stage
abbrev pub run : Pair → StageA → State
run n (Start own) = at n 0 (second_texts own)
run n (Heard known) = at n 1 (challenged known)
run n (Sent known) = at n 2 (sent known)
run n (Done known) = at n 3 (sent known.sent ++ third known.third)

-- the run of a state
abbrev pub state_of : C4A → State
state_of s = run s.names s.stage

-- A in C4
abbrev pub is_c4a : Head → Bool
is_c4a h = plays C4 A h
