-- The runs of the third party in the mechanisms that go by stamps.
use Rattle.std.specs.Prelude.{ℕ, Bool, ◌||◌, [], ◌∷◌, ◌++◌}
use Rattle.term_values.specs.Trees.{nonce, part, stamp, text}
use Rattle.mech_rows.specs.declared.kinds.Mech.TheVariants.{E5, K8}
use Rattle.mech_rows.specs.declared.kinds.Role.TheVariants.{P}
use Rattle.mech_rows.specs.declared.kinds.Slot.TheVariants.{Ra, Fa, Tp, X1, X2, X3, X4}
use Rattle.mech_rows.specs.Heads.{Head}
use Rattle.mech_rows.specs.Openings.{plays}
use Rattle.mech_rows.specs.Verdict.{Noted, State}
use Rattle.text_hooks.specs.Names.{among}
use Rattle.text_hooks.specs.Trios.{by_stamps}
use Rattle.text_hooks.specs.declared.trio.Trio.{Trio}
use Rattle.third_party.specs.declared.stamps.GivenTexts.{GivenTexts}
use Rattle.third_party.specs.declared.stamps.Request.{Request}
use Rattle.third_party.specs.declared.stamps.RequestHeard.{RequestHeard}
use Rattle.third_party.specs.declared.stamps.PartGiven.{PartGiven}
use Rattle.third_party.specs.declared.stamps.StampsP.{StampsP}
use Rattle.third_party.specs.declared.stamps.Stage.{Stage}
use Rattle.third_party.specs.declared.stamps.Stage.TheVariants.{Start, Heard, Done}

-- its own texts
abbrev pub given_texts : GivenTexts → Noted
given_texts t = (X2, text t.x2) ∷ (X3, text t.x3) ∷ (X4, text t.x4) ∷ []

-- what the request of A shows
abbrev pub request : Request → Noted
request r = (Ra, nonce r.ra) ∷ (X1, text r.x1) ∷ []

-- it has heard the request
abbrev pub request_heard : RequestHeard → Noted
request_heard h = given_texts h.own ++ request h.request

-- it has given the part to both
abbrev pub part_given : PartGiven → Noted
part_given g = request_heard g.heard ++ (Fa, part g.fa) ∷ (Tp, stamp g.tp) ∷ []

-- the run at a pass
abbrev pub at : Trio → ℕ → Noted → State
at t k notes = record { head = among (by_stamps t.family) P t.names; next = k; notes = notes }

-- the run of a stage
abbrev pub run : Trio → Stage → State
run t (Start own) = at t 0 (given_texts own)
run t (Heard known) = at t 1 (request_heard known)
run t (Done known) = at t 4 (part_given known)

-- the run of a state
abbrev pub state_of : StampsP → State
state_of s = run s.trio s.stage

-- the third party in E5 or K8
abbrev pub is_stamps_p : Head → Bool
is_stamps_p h = plays E5 P h || plays K8 P h
