-- The runs of A in K5.
use Rattle.std.specs.Prelude.{ℕ, Bool, [], ◌∷◌, ◌++◌}
use Rattle.term_values.specs.Trees.{part, stamp, text}
use Rattle.mech_rows.specs.declared.kinds.Mech.TheVariants.{K5}
use Rattle.mech_rows.specs.declared.kinds.Role.TheVariants.{A}
use Rattle.mech_rows.specs.declared.kinds.Slot.TheVariants.{Ta, Tb, Fa, Fb, X1, X2}
use Rattle.mech_rows.specs.Heads.{Head}
use Rattle.mech_rows.specs.Openings.{plays}
use Rattle.mech_rows.specs.Verdict.{Noted, State}
use Rattle.text_hooks.specs.Names.{between}
use Rattle.text_hooks.specs.declared.names.Pair.{Pair}
use Rattle.keys_11770_2.specs.declared.k5.FirstText.{FirstText}
use Rattle.keys_11770_2.specs.declared.k5.FirstSent.{FirstSent}
use Rattle.keys_11770_2.specs.declared.k5.Second.{Second}
use Rattle.keys_11770_2.specs.declared.k5.K5A.{K5A}
use Rattle.keys_11770_2.specs.declared.k5.StageA.{StageA}
use Rattle.keys_11770_2.specs.declared.k5.StageA.TheVariants.{Start, Sent, Done}

-- its own text
abbrev pub first_text : FirstText → Noted
first_text t = (X1, text t.x1) ∷ []

-- it has sent its part of the key, with a stamp
abbrev pub first_sent : FirstSent → Noted
first_sent s = first_text s.own ++ (Ta, stamp s.ta) ∷ (Fa, part s.fa) ∷ []

-- what the second message shows
abbrev pub second : Second → Noted
second m = (Tb, stamp m.tb) ∷ (Fb, part m.fb) ∷ (X2, text m.x2) ∷ []

-- the run at a pass
abbrev pub at : Pair → ℕ → Noted → State
at n k notes = record { head = between K5 A n; next = k; notes = notes }

-- the run of a stage
abbrev pub run : Pair → StageA → State
run n (Start own) = at n 0 (first_text own)
run n (Sent known) = at n 1 (first_sent known)
run n (Done known) = at n 2 (first_sent known.sent ++ second known.second)

-- the run of a state
abbrev pub state_of : K5A → State
state_of s = run s.names s.stage

-- A in K5
abbrev pub is_k5a : Head → Bool
is_k5a h = plays K5 A h
