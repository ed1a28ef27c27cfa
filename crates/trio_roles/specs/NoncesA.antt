-- The runs of A by nonces.
use Rattle.std.specs.Prelude.{ℕ, Bool, ◌||◌, [], ◌∷◌, ◌++◌}
use Rattle.term_values.specs.Trees.{nonce, part, text}
use Rattle.mech_rows.specs.declared.kinds.Mech.TheVariants.{E6, K9}
use Rattle.mech_rows.specs.declared.kinds.Role.TheVariants.{A}
use Rattle.mech_rows.specs.declared.kinds.Slot.TheVariants.{Ra, Ra2, Fa, X2, X4, X5, X6, X7, X8, X9, Fwd}
use Rattle.mech_rows.specs.Heads.{Head}
use Rattle.mech_rows.specs.Openings.{plays}
use Rattle.mech_rows.specs.Rows.{Pass}
use Rattle.mech_rows.specs.Verdict.{Noted, State}
use Rattle.text_hooks.specs.Shown.{challenge}
use Rattle.text_hooks.specs.Trios.{nonces_head}
use Rattle.trio_roles.specs.Passes.{nonces_pass}
use Rattle.text_hooks.specs.declared.trio.Family.{Family}
use Rattle.text_hooks.specs.declared.trio.Trio.{Trio}
use Rattle.trio_roles.specs.declared.nonces_a.AnswerTexts.{AnswerTexts}
use Rattle.trio_roles.specs.declared.nonces_a.Challenged.{Challenged}
use Rattle.trio_roles.specs.declared.nonces_a.Asker.{Asker}
use Rattle.trio_roles.specs.declared.nonces_a.Third.{Third}
use Rattle.trio_roles.specs.declared.nonces_a.ThirdHeard.{ThirdHeard}
use Rattle.trio_roles.specs.declared.nonces_a.FourthSent.{FourthSent}
use Rattle.trio_roles.specs.declared.nonces_a.Fifth.{Fifth}
use Rattle.trio_roles.specs.declared.nonces_a.NoncesA.{NoncesA}
use Rattle.trio_roles.specs.declared.nonces_a.StageA.{StageA}
use Rattle.trio_roles.specs.declared.nonces_a.StageA.TheVariants.{Start, Met, Asking, Heard, Sent, Done}

-- its own texts
abbrev pub answer_texts : AnswerTexts → Noted
answer_texts t = (X2, text t.x2) ∷ (X6, text t.x6) ∷ (X7, text t.x7) ∷ []

-- it has heard the challenge of B
abbrev pub challenged : Challenged → Noted
challenged c = answer_texts c.own ++ challenge c.challenge

-- it has asked the third party
abbrev pub asker : Asker → Noted
asker a = challenged a.challenged ++ (Ra2, nonce a.ra2) ∷ []

-- what the third message shows, and the ticket, which it doesn't read
abbrev pub third : Third → Noted
third m = (X5, text m.x5) ∷ (Fa, part m.fa) ∷ (X4, text m.x4) ∷ (Fwd, m.ticket) ∷ []

-- it has heard the third message
abbrev pub third_heard : ThirdHeard → Noted
third_heard h = asker h.asked ++ third h.third

-- it has sent the fourth message, with a nonce
abbrev pub fourth_sent : FourthSent → Noted
fourth_sent s = third_heard s.heard ++ (Ra, nonce s.ra) ∷ []

-- what the fifth message shows
abbrev pub fifth : Fifth → Noted
fifth m = (X9, text m.x9) ∷ (X8, text m.x8) ∷ []

-- the run at a pass
abbrev pub at : Trio → ℕ → Noted → State
at t k notes = record { head = nonces_head A t; next = k; notes = notes }

-- the run of a stage
abbrev pub run : Trio → StageA → State
run t (Start own) = at t 0 (answer_texts own)
run t (Met known) = at t 1 (challenged known)
run t (Asking known) = at t 2 (asker known)
run t (Heard known) = at t 3 (third_heard known)
run t (Sent known) = at t 4 (fourth_sent known)
run t (Done known) = at t 5 (fourth_sent known.sent ++ fifth known.fifth)

-- the run of a state
abbrev pub state_of : NoncesA → State
state_of s = run s.trio s.stage

-- A by nonces
abbrev pub is_nonces_a : Head → Bool
is_nonces_a h = plays E6 A h || plays K9 A h

-- the pass of the challenge
abbrev pub first_pass : Family → Pass
first_pass f = nonces_pass f 0

-- the pass of the third message
abbrev pub third_pass : Family → Pass
third_pass f = nonces_pass f 2

-- the pass of the fifth message
abbrev pub fifth_pass : Family → Pass
fifth_pass f = nonces_pass f 4
