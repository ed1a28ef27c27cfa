-- The runs of B in K5.
use Rattle.std.specs.Prelude.{ℕ, Bool, [], ◌∷◌, ◌++◌}
use Rattle.term_values.specs.Trees.{part, stamp, text}
use Rattle.mech_rows.specs.declared.kinds.Mech.TheVariants.{K5}
use Rattle.mech_rows.specs.declared.kinds.Role.TheVariants.{B}
use Rattle.mech_rows.specs.declared.kinds.Slot.TheVariants.{Ta, Tb, Fa, Fb, X1, X2}
use Rattle.mech_rows.specs.Heads.{Head}
use Rattle.mech_rows.specs.Openings.{plays}
use Rattle.mech_rows.specs.Verdict.{Noted, State}
use Rattle.text_hooks.specs.Names.{between}
use Rattle.text_hooks.specs.declared.names.Pair.{Pair}
use Rattle.keys_11770_2.specs.declared.k5.SecondText.{SecondText}
use Rattle.keys_11770_2.specs.declared.k5.First.{First}
use Rattle.keys_11770_2.specs.declared.k5.FirstHeard.{FirstHeard}
use Rattle.keys_11770_2.specs.declared.k5.SecondSent.{SecondSent}
use Rattle.keys_11770_2.specs.declared.k5.K5B.{K5B}
use Rattle.keys_11770_2.specs.declared.k5.StageB.{StageB}
use Rattle.keys_11770_2.specs.declared.k5.StageB.TheVariants.{Start, Heard, Done}

-- its own text
abbrev pub second_text : SecondText → Noted
second_text t = (X2, text t.x2) ∷ []

-- what the first message shows
abbrev pub first : First → Noted
first m = (Ta, stamp m.ta) ∷ (Fa, part m.fa) ∷ (X1, text m.x1) ∷ []

-- it has heard the first message
abbrev pub first_heard : FirstHeard → Noted
first_heard h = second_text h.own ++ first h.first

-- it has sent its part of the key, with a stamp
abbrev pub second_sent : SecondSent → Noted
second_sent s = first_heard s.heard ++ (Tb, stamp s.tb) ∷ (Fb, part s.fb) ∷ []

-- the run at a pass
abbrev pub at : Pair → ℕ → Noted → State
at n k notes = record { head = between K5 B n; next = k; notes = notes }

-- the run of a stage
abbrev pub run : Pair → StageB → State
run n (Start own) = at n 0 (second_text own)
run n (Heard known) = at n 1 (first_heard known)
run n (Done known) = at n 2 (second_sent known)

-- the run of a state
abbrev pub state_of : K5B → State
state_of s = run s.names s.stage

-- B in K5
abbrev pub is_k5b : Head → Bool
is_k5b h = plays K5 B h
