-- The runs of B in K4.
use Rattle.std.specs.Prelude.{ℕ, Bool, [], ◌∷◌}
use Rattle.term_values.specs.Trees.{nonce, part, text}
use Rattle.mech_rows.specs.declared.kinds.Mech.TheVariants.{K4}
use Rattle.mech_rows.specs.declared.kinds.Role.TheVariants.{B}
use Rattle.mech_rows.specs.declared.kinds.Slot.TheVariants.{Rb, Fa, X1}
use Rattle.mech_rows.specs.Heads.{Head}
use Rattle.mech_rows.specs.Openings.{plays}
use Rattle.mech_rows.specs.Verdict.{Noted, State}
use Rattle.text_hooks.specs.Names.{between}
use Rattle.text_hooks.specs.declared.names.Pair.{Pair}
use Rattle.keys_11770_2.specs.declared.k4.GivenPart.{GivenPart}
use Rattle.keys_11770_2.specs.declared.k4.K4B.{K4B}
use Rattle.keys_11770_2.specs.declared.k4.StageB.{StageB}
use Rattle.keys_11770_2.specs.declared.k4.StageB.TheVariants.{Start, Asked, Done}

-- what the second message shows
abbrev pub given_part : GivenPart → Noted
given_part g = (Fa, part g.fa) ∷ (X1, text g.x1) ∷ []

-- the run at a pass
abbrev pub at : Pair → ℕ → Noted → State
at n k notes = record { head = between K4 B n; next = k; notes = notes }

-- the run of a stage
abbrev pub run : Pair → StageB → State
run n Start = at n 0 []
run n (Asked rb) = at n 1 ((Rb, nonce rb) ∷ [])
run n (Done known) = at n 2 ((Rb, nonce known.rb) ∷ given_part known.given)

-- the run of a state
abbrev pub state_of : K4B → State
state_of s = run s.names s.stage

-- B in K4
abbrev pub is_k4b : Head → Bool
is_k4b h = plays K4 B h
