-- The runs of B in K3.
use Rattle.std.specs.Prelude.{ℕ, Bool, [], ◌∷◌}
use Rattle.term_values.specs.Trees.{stamp, part, text}
use Rattle.mech_rows.specs.declared.kinds.Mech.TheVariants.{K3}
use Rattle.mech_rows.specs.declared.kinds.Role.TheVariants.{B}
use Rattle.mech_rows.specs.declared.kinds.Slot.TheVariants.{Ta, Fa, X1}
use Rattle.mech_rows.specs.Heads.{Head}
use Rattle.mech_rows.specs.Openings.{plays}
use Rattle.mech_rows.specs.Verdict.{Noted, State}
use Rattle.text_hooks.specs.Names.{between}
use Rattle.text_hooks.specs.declared.names.Pair.{Pair}
use Rattle.keys_11770_2.specs.declared.k3.StampedPart.{StampedPart}
use Rattle.keys_11770_2.specs.declared.k3.K3B.{K3B}
use Rattle.keys_11770_2.specs.declared.k3.StageB.{StageB}
use Rattle.keys_11770_2.specs.declared.k3.StageB.TheVariants.{Start, Done}

-- what the message shows
abbrev pub stamped_part : StampedPart → Noted
stamped_part s = (Ta, stamp s.ta) ∷ (Fa, part s.fa) ∷ (X1, text s.x1) ∷ []

-- the run at a pass
abbrev pub at : Pair → ℕ → Noted → State
at n k notes = record { head = between K3 B n; next = k; notes = notes }

-- the run of a stage
abbrev pub run : Pair → StageB → State
run n Start = at n 0 []
run n (Done shown) = at n 1 (stamped_part shown)

-- the run of a state
abbrev pub state_of : K3B → State
state_of s = run s.names s.stage

-- B in K3
abbrev pub is_k3b : Head → Bool
is_k3b h = plays K3 B h
