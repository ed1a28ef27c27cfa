-- The runs of A in K4.
use Rattle.std.specs.Prelude.{ℕ, Bool, [], ◌∷◌, ◌++◌}
use Rattle.term_values.specs.Trees.{nonce, part}
use Rattle.mech_rows.specs.declared.kinds.Mech.TheVariants.{K4}
use Rattle.mech_rows.specs.declared.kinds.Role.TheVariants.{A}
use Rattle.mech_rows.specs.declared.kinds.Slot.TheVariants.{Rb, Fa}
use Rattle.mech_rows.specs.Heads.{Head}
use Rattle.mech_rows.specs.Openings.{plays}
use Rattle.mech_rows.specs.Verdict.{Noted, State}
use Rattle.text_hooks.specs.Names.{between}
use Rattle.text_hooks.specs.declared.names.Pair.{Pair}
use Rattle.keys_11770_2.specs.KShown.{part_text}
use Rattle.keys_11770_2.specs.declared.k4.NonceHeard.{NonceHeard}
use Rattle.keys_11770_2.specs.declared.k4.K4A.{K4A}
use Rattle.keys_11770_2.specs.declared.k4.StageA.{StageA}
use Rattle.keys_11770_2.specs.declared.k4.StageA.TheVariants.{Start, Heard, Done}

-- once it has heard the nonce of B
abbrev pub nonce_heard : NonceHeard → Noted
nonce_heard h = part_text h.own ++ (Rb, nonce h.rb) ∷ []

-- the run at a pass
abbrev pub at : Pair → ℕ → Noted → State
at n k notes = record { head = between K4 A n; next = k; notes = notes }

-- the run of a stage
abbrev pub run : Pair → StageA → State
run n (Start own) = at n 0 (part_text own)
run n (Heard known) = at n 1 (nonce_heard known)
run n (Done known) = at n 2 (nonce_heard known.heard ++ (Fa, part known.fa) ∷ [])

-- the run of a state
abbrev pub state_of : K4A → State
state_of s = run s.names s.stage

-- A in K4
abbrev pub is_k4a : Head → Bool
is_k4a h = plays K4 A h
