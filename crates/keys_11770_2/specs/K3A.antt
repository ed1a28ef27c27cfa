-- The runs of A in K3.
use Rattle.std.specs.Prelude.{ℕ, Bool, [], ◌∷◌, ◌++◌}
use Rattle.term_values.specs.Trees.{stamp, part}
use Rattle.mech_rows.specs.declared.kinds.Mech.TheVariants.{K3}
use Rattle.mech_rows.specs.declared.kinds.Role.TheVariants.{A}
use Rattle.mech_rows.specs.declared.kinds.Slot.TheVariants.{Ta, Fa}
use Rattle.mech_rows.specs.Heads.{Head}
use Rattle.mech_rows.specs.Openings.{plays}
use Rattle.mech_rows.specs.Verdict.{Noted, State}
use Rattle.text_hooks.specs.Names.{between}
use Rattle.text_hooks.specs.declared.names.Pair.{Pair}
use Rattle.keys_11770_2.specs.KShown.{part_text}
use Rattle.keys_11770_2.specs.declared.k3.PartSent.{PartSent}
use Rattle.keys_11770_2.specs.declared.k3.K3A.{K3A}
use Rattle.keys_11770_2.specs.declared.k3.StageA.{StageA}
use Rattle.keys_11770_2.specs.declared.k3.StageA.TheVariants.{Start, Done}

-- once it has sent its part of the key, with a stamp
abbrev pub part_sent : PartSent → Noted
part_sent s = part_text s.own ++ (Ta, stamp s.ta) ∷ (Fa, part s.fa) ∷ []

-- the run at a pass
abbrev pub at : Pair → ℕ → Noted → State
at n k notes = record { head = between K3 A n; next = k; notes = notes }

-- the run of a stage
abbrev pub run : Pair → StageA → State
run n (Start own) = at n 0 (part_text own)
run n (Done known) = at n 1 (part_sent known)

-- the run of a state
abbrev pub state_of : K3A → State
state_of s = run s.names s.stage

-- A in K3
abbrev pub is_k3a : Head → Bool
is_k3a h = plays K3 A h
