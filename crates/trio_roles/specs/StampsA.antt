-- The runs of A by stamps.
use Rattle.std.specs.Prelude.{ℕ, Bool, ◌||◌, [], ◌∷◌, ◌++◌}
use Rattle.term_values.specs.Trees.{nonce, stamp, part, text}
use Rattle.mech_rows.specs.declared.kinds.Mech.TheVariants.{E5, K8}
use Rattle.mech_rows.specs.declared.kinds.Role.TheVariants.{A}
use Rattle.mech_rows.specs.declared.kinds.Slot.TheVariants.{Ra, Ta, Tb, Fa, X1, X3, X4, X5, X6, X7, X8, Fwd}
use Rattle.mech_rows.specs.Heads.{Head}
use Rattle.mech_rows.specs.Openings.{plays}
use Rattle.mech_rows.specs.Rows.{Pass, tag_of}
use Rattle.mech_rows.specs.Runs.{Got}
use Rattle.mech_rows.specs.Verdict.{Noted, State}
use Rattle.text_hooks.specs.Trios.{by_stamps, stamps_head}
use Rattle.trio_roles.specs.Passes.{stamps_pass}
use Rattle.text_hooks.specs.declared.trio.Family.{Family}
use Rattle.text_hooks.specs.declared.trio.Trio.{Trio}
use Rattle.trio_roles.specs.declared.stamps_a.AskingTexts.{AskingTexts}
use Rattle.trio_roles.specs.declared.stamps_a.Asked.{Asked}
use Rattle.trio_roles.specs.declared.stamps_a.Second.{Second}
use Rattle.trio_roles.specs.declared.stamps_a.SecondHeard.{SecondHeard}
use Rattle.trio_roles.specs.declared.stamps_a.ThirdSent.{ThirdSent}
use Rattle.trio_roles.specs.declared.stamps_a.Fourth.{Fourth}
use Rattle.trio_roles.specs.declared.stamps_a.StampsA.{StampsA}
use Rattle.trio_roles.specs.declared.stamps_a.StageA.{StageA}
use Rattle.trio_roles.specs.declared.stamps_a.StageA.TheVariants.{Start, Asking, Heard, Sent, Done}

-- its own texts
abbrev pub asking_texts : AskingTexts → Noted
asking_texts t = (X1, text t.x1) ∷ (X5, text t.x5) ∷ (X6, text t.x6) ∷ []

-- it has asked the third party
abbrev pub asked : Asked → Noted
asked a = asking_texts a.own ++ (Ra, nonce a.ra) ∷ []

-- what the second message shows, and the ticket, which it doesn't read
abbrev pub second : Second → Noted
second m = (X4, text m.x4) ∷ (Fa, part m.fa) ∷ (X3, text m.x3) ∷ (Fwd, m.ticket) ∷ []

-- it has heard the second message
abbrev pub second_heard : SecondHeard → Noted
second_heard h = asked h.asked ++ second h.second

-- it has sent the third message, with a stamp
abbrev pub third_sent : ThirdSent → Noted
third_sent s = second_heard s.heard ++ (Ta, stamp s.ta) ∷ []

-- what the fourth message shows
abbrev pub fourth : Fourth → Noted
fourth m = (X8, text m.x8) ∷ (Tb, stamp m.tb) ∷ (X7, text m.x7) ∷ []

-- the run at a pass
abbrev pub at : Trio → ℕ → Noted → State
at t k notes = record { head = stamps_head A t; next = k; notes = notes }

-- the run of a stage
abbrev pub run : Trio → StageA → State
run t (Start own) = at t 0 (asking_texts own)
run t (Asking known) = at t 1 (asked known)
run t (Heard known) = at t 2 (second_heard known)
run t (Sent known) = at t 3 (third_sent known)
run t (Done known) = at t 4 (third_sent known.sent ++ fourth known.fourth)

-- the run of a state
abbrev pub state_of : StampsA → State
state_of s = run s.trio s.stage

-- A by stamps
abbrev pub is_stamps_a : Head → Bool
is_stamps_a h = plays E5 A h || plays K8 A h

-- the pass of the second message
abbrev pub second_pass : Family → Pass
second_pass f = stamps_pass f 1

-- the pass of the fourth message
abbrev pub fourth_pass : Family → Pass
fourth_pass f = stamps_pass f 3

-- the stamp to judge: that of B
abbrev pub got_fourth : Trio → Fourth → Got
got_fourth t m = record { slot = Tb; sender = t.names.b; tagged = tag_of (by_stamps t.family) 4 1; stamp = m.tb }
