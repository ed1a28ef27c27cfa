-- The runs of B by stamps.
use Rattle.std.specs.Prelude.{ℕ, Bool, ◌||◌, List, [], ◌∷◌, ◌++◌}
use Rattle.term_values.specs.Trees.{Tree, stamp, part, text}
use Rattle.term_values.specs.declared.small.Key.TheVariants.{One}
use Rattle.mech_rows.specs.declared.kinds.Mech.TheVariants.{E5, K8}
use Rattle.mech_rows.specs.declared.kinds.Role.TheVariants.{B}
use Rattle.mech_rows.specs.declared.kinds.Slot.TheVariants.{Ta, Tb, Tp, Fa, X2, X5, X6, X7, X8}
use Rattle.mech_rows.specs.Heads.{Head}
use Rattle.mech_rows.specs.Openings.{plays}
use Rattle.mech_rows.specs.Rings.{Ring, keys_in}
use Rattle.mech_rows.specs.Rows.{Pass, tag_of}
use Rattle.mech_rows.specs.Runs.{Got, Opening, bytes_or_empty}
use Rattle.mech_rows.specs.Verdict.{Noted, State}
use Rattle.text_hooks.specs.Trios.{by_stamps, stamps_head}
use Rattle.trio_roles.specs.Passes.{stamps_pass}
use Rattle.text_hooks.specs.declared.trio.Family.{Family}
use Rattle.text_hooks.specs.declared.trio.Trio.{Trio}
use Rattle.trio_roles.specs.declared.stamps_b.ReplyTexts.{ReplyTexts}
use Rattle.trio_roles.specs.declared.stamps_b.Third.{Third}
use Rattle.trio_roles.specs.declared.stamps_b.ThirdHeard.{ThirdHeard}
use Rattle.trio_roles.specs.declared.stamps_b.StampsB.{StampsB}
use Rattle.trio_roles.specs.declared.stamps_b.StageB.{StageB}
use Rattle.trio_roles.specs.declared.stamps_b.StageB.TheVariants.{Start, Heard, Done}

-- its own texts
abbrev pub reply_texts : ReplyTexts → Noted
reply_texts t = (X7, text t.x7) ∷ (X8, text t.x8) ∷ []

-- what the third message shows: its clear text, the ticket, and what A sealed under the ticket's key
abbrev pub third : Third → Noted
third m = (X6, text m.x6) ∷ (Tp, stamp m.tp) ∷ (Fa, part m.fa) ∷ (X2, text m.x2) ∷ (Ta, stamp m.ta) ∷ (X5, text m.x5) ∷ []

-- it has heard the third message
abbrev pub third_heard : ThirdHeard → Noted
third_heard h = reply_texts h.own ++ third h.third

-- the run at a pass
abbrev pub at : Trio → ℕ → Noted → State
at t k notes = record { head = stamps_head B t; next = k; notes = notes }

-- the run of a stage
abbrev pub run : Trio → StageB → State
run t (Start own) = at t 2 (reply_texts own)
run t (Heard known) = at t 3 (third_heard known)
run t (Done known) = at t 4 (third_heard known.heard ++ (Tb, stamp known.tb) ∷ [])

-- the run of a state
abbrev pub state_of : StampsB → State
state_of s = run s.trio s.stage

-- B by stamps
abbrev pub is_stamps_b : Head → Bool
is_stamps_b h = plays E5 B h || plays K8 B h

-- the pass of the third message
abbrev pub third_pass : Family → Pass
third_pass f = stamps_pass f 2

-- the ticket, opened to this body under the key of B and the third party
abbrev pub ticket_by : Ring → Trio → Tree → Tree → Opening
ticket_by ring t item body = record { key = One (bytes_or_empty (keys_in ring t.names.b t.names.p)); item = item; body = body }

-- the stamps to judge: the third party's and A's
abbrev pub got_third : Trio → Third → List Got
got_third t m =
    record { slot = Tp; sender = t.names.p; tagged = tag_of (by_stamps t.family) 2 2; stamp = m.tp }
    ∷ record { slot = Ta; sender = t.names.a; tagged = tag_of (by_stamps t.family) 3 2; stamp = m.ta }
    ∷ []
