-- The runs of the third party in the mechanisms that go by nonces.
use Rattle.std.specs.Prelude.{ℕ, Bool, ◌||◌, [], ◌∷◌, ◌++◌}
use Rattle.term_values.specs.Trees.{nonce, part, text}
use Rattle.mech_rows.specs.declared.kinds.Mech.TheVariants.{E6, K9}
use Rattle.mech_rows.specs.declared.kinds.Role.TheVariants.{P}
use Rattle.mech_rows.specs.declared.kinds.Slot.TheVariants.{Rb, Ra2, Fa, X2, X3, X4, X5}
use Rattle.mech_rows.specs.Heads.{Head}
use Rattle.mech_rows.specs.Openings.{plays}
use Rattle.mech_rows.specs.Verdict.{Noted, State}
use Rattle.text_hooks.specs.Names.{among}
use Rattle.text_hooks.specs.Trios.{by_nonces}
use Rattle.text_hooks.specs.declared.trio.Trio.{Trio}
use Rattle.third_party.specs.declared.nonces.GivenTexts.{GivenTexts}
use Rattle.third_party.specs.declared.nonces.Request.{Request}
use Rattle.third_party.specs.declared.nonces.RequestHeard.{RequestHeard}
use Rattle.third_party.specs.declared.nonces.PartGiven.{PartGiven}
use Rattle.third_party.specs.declared.nonces.NoncesP.{NoncesP}
use Rattle.third_party.specs.declared.nonces.Stage.{Stage}
use Rattle.third_party.specs.declared.nonces.Stage.TheVariants.{Start, Heard, Done}

-- its own texts
abbrev pub given_texts : GivenTexts → Noted
given_texts t = (X3, text t.x3) ∷ (X4, text t.x4) ∷ (X5, text t.x5) ∷ []

-- what the request of A shows
abbrev pub request : Request → Noted
request r = (Ra2, nonce r.ra2) ∷ (Rb, nonce r.rb) ∷ (X2, text r.x2) ∷ []

-- it has heard the request
abbrev pub request_heard : RequestHeard → Noted
request_heard h = given_texts h.own ++ request h.request

-- it has given the part to both
abbrev pub part_given : PartGiven → Noted
part_given g = request_heard g.heard ++ (Fa, part g.fa) ∷ []

-- the run at a pass
abbrev pub at : Trio → ℕ → Noted → State
at t k notes = record { head = among (by_nonces t.family) P t.names; next = k; notes = notes }

-- the run of a stage
abbrev pub run : Trio → Stage → State
run t (Start own) = at t 1 (given_texts own)
run t (Heard known) = at t 2 (request_heard known)
run t (Done known) = at t 5 (part_given known)

-- the run of a state
abbrev pub state_of : NoncesP → State
state_of s = run s.trio s.stage

-- the third party in E6 or K9
abbrev pub is_nonces_p : Head → Bool
is_nonces_p h = plays E6 P h || plays K9 P h
