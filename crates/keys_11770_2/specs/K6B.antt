-- The runs of B in K6.
use Rattle.std.specs.Prelude.{ℕ, Bool, [], ◌∷◌, ◌++◌}
use Rattle.term_values.specs.Trees.{nonce, part, text}
use Rattle.mech_rows.specs.declared.kinds.Mech.TheVariants.{K6}
use Rattle.mech_rows.specs.declared.kinds.Role.TheVariants.{B}
use Rattle.mech_rows.specs.declared.kinds.Slot.TheVariants.{Ra, Rb, Fa, Fb, X1, X2, X3}
use Rattle.mech_rows.specs.Heads.{Head}
use Rattle.mech_rows.specs.Openings.{plays}
use Rattle.mech_rows.specs.Verdict.{Noted, State}
use Rattle.text_hooks.specs.Names.{between}
use Rattle.text_hooks.specs.declared.names.Pair.{Pair}
use Rattle.keys_11770_2.specs.declared.k6.AskingTexts.{AskingTexts}
use Rattle.keys_11770_2.specs.declared.k6.Asking.{Asking}
use Rattle.keys_11770_2.specs.declared.k6.Second.{Second}
use Rattle.keys_11770_2.specs.declared.k6.SecondHeard.{SecondHeard}
use Rattle.keys_11770_2.specs.declared.k6.K6B.{K6B}
use Rattle.keys_11770_2.specs.declared.k6.StageB.{StageB}
use Rattle.keys_11770_2.specs.declared.k6.StageB.TheVariants.{Start, Asked, Heard, Done}

-- its own texts
abbrev pub asking_texts : AskingTexts → Noted
asking_texts t = (X1, text t.x1) ∷ (X3, text t.x3) ∷ []

-- it has sent the challenge
abbrev pub asking : Asking → Noted
asking k = asking_texts k.own ++ (Rb, nonce k.rb) ∷ []

-- what the second message shows
abbrev pub second : Second → Noted
second m = (Ra, nonce m.ra) ∷ (Fa, part m.fa) ∷ (X2, text m.x2) ∷ []

-- it has heard the second message
abbrev pub second_heard : SecondHeard → Noted
second_heard h = asking h.asked ++ second h.second

-- the run at a pass
abbrev pub at : Pair → ℕ → Noted → State
at n k notes = record { head = between K6 B n; next = k; notes = notes }

-- the run of a stage
abbrev pub run : Pair → StageB → State
run n (Start own) = at n 0 (asking_texts own)
run n (Asked known) = at n 1 (asking known)
run n (Heard known) = at n 2 (second_heard known)
run n (Done known) = at n 3 (second_heard known.heard ++ (Fb, part known.fb) ∷ [])

-- the run of a state
abbrev pub state_of : K6B → State
state_of s = run s.names s.stage

-- B in K6
abbrev pub is_k6b : Head → Bool
is_k6b h = plays K6 B h
