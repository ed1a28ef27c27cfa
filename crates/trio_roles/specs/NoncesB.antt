-- The runs of B by nonces.
use Rattle.std.specs.Prelude.{ℕ, Bool, ◌||◌, [], ◌∷◌, ◌++◌}
use Rattle.term_values.specs.Trees.{nonce, part, text}
use Rattle.mech_rows.specs.declared.kinds.Mech.TheVariants.{E6, K9}
use Rattle.mech_rows.specs.declared.kinds.Role.TheVariants.{B}
use Rattle.mech_rows.specs.declared.kinds.Slot.TheVariants.{Ra, Rb, Fa, X1, X3, X6, X7, X8, X9}
use Rattle.mech_rows.specs.Heads.{Head}
use Rattle.mech_rows.specs.Openings.{plays}
use Rattle.mech_rows.specs.Rows.{Pass}
use Rattle.mech_rows.specs.Verdict.{Noted, State}
use Rattle.text_hooks.specs.Trios.{nonces_head}
use Rattle.trio_roles.specs.Passes.{nonces_pass}
use Rattle.text_hooks.specs.declared.trio.Family.{Family}
use Rattle.text_hooks.specs.declared.trio.Trio.{Trio}
use Rattle.trio_roles.specs.declared.nonces_b.AskerTexts.{AskerTexts}
use Rattle.trio_roles.specs.declared.nonces_b.Asker.{Asker}
use Rattle.trio_roles.specs.declared.nonces_b.Fourth.{Fourth}
use Rattle.trio_roles.specs.declared.nonces_b.FourthHeard.{FourthHeard}
use Rattle.trio_roles.specs.declared.nonces_b.NoncesB.{NoncesB}
use Rattle.trio_roles.specs.declared.nonces_b.StageB.{StageB}
use Rattle.trio_roles.specs.declared.nonces_b.StageB.TheVariants.{Start, Asked, Heard, Done}

-- its own texts
abbrev pub asker_texts : AskerTexts → Noted
asker_texts t = (X1, text t.x1) ∷ (X8, text t.x8) ∷ (X9, text t.x9) ∷ []

-- it has sent the challenge
abbrev pub asker : Asker → Noted
asker a = asker_texts a.own ++ (Rb, nonce a.rb) ∷ []

-- what the fourth message shows: its clear text, the ticket, and what A sealed under the ticket's key
abbrev pub fourth : Fourth → Noted
fourth m = (X7, text m.x7) ∷ (Fa, part m.fa) ∷ (X3, text m.x3) ∷ (Ra, nonce m.ra) ∷ (X6, text m.x6) ∷ []

-- it has heard the fourth message
abbrev pub fourth_heard : FourthHeard → Noted
fourth_heard h = asker h.asked ++ fourth h.fourth

-- the run at a pass
abbrev pub at : Trio → ℕ → Noted → State
at t k notes = record { head = nonces_head B t; next = k; notes = notes }

-- the run of a stage
abbrev pub run : Trio → StageB → State
run t (Start own) = at t 0 (asker_texts own)
run t (Asked known) = at t 3 (asker known)
run t (Heard known) = at t 4 (fourth_heard known)
run t (Done known) = at t 5 (fourth_heard known)

-- the run of a state
abbrev pub state_of : NoncesB → State
state_of s = run s.trio s.stage

-- B by nonces
abbrev pub is_nonces_b : Head → Bool
is_nonces_b h = plays E6 B h || plays K9 B h

-- the pass of the fourth message
abbrev pub fourth_pass : Family → Pass
fourth_pass f = nonces_pass f 3
