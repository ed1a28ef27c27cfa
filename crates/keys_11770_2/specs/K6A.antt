-- The runs of A in K6.
use Rattle.std.specs.Prelude.{ℕ, Bool, [], ◌∷◌, ◌++◌}
use Rattle.term_values.specs.Trees.{nonce, part, text}
use Rattle.mech_rows.specs.declared.kinds.Mech.TheVariants.{K6}
use Rattle.mech_rows.specs.declared.kinds.Role.TheVariants.{A}
use Rattle.mech_rows.specs.declared.kinds.Slot.TheVariants.{Ra, Fa, Fb, X2, X3}
use Rattle.mech_rows.specs.Heads.{Head}
use Rattle.mech_rows.specs.Openings.{plays}
use Rattle.mech_rows.specs.Verdict.{Noted, State}
use Rattle.text_hooks.specs.Names.{between}
use Rattle.text_hooks.specs.Shown.{challenge}
use Rattle.text_hooks.specs.declared.names.Pair.{Pair}
use Rattle.keys_11770_2.specs.declared.k6.AnswerText.{AnswerText}
use Rattle.keys_11770_2.specs.declared.k6.ChallengeHeard.{ChallengeHeard}
use Rattle.keys_11770_2.specs.declared.k6.PartSent.{PartSent}
use Rattle.keys_11770_2.specs.declared.k6.Third.{Third}
use Rattle.keys_11770_2.specs.declared.k6.K6A.{K6A}
use Rattle.keys_11770_2.specs.declared.k6.StageA.{StageA}
use Rattle.keys_11770_2.specs.declared.k6.StageA.TheVariants.{Start, Heard, Sent, Done}

-- its own text
abbrev pub answer_text : AnswerText → Noted
answer_text t = (X2, text t.x2) ∷ []

-- it has heard the challenge
abbrev pub challenge_heard : ChallengeHeard → Noted
challenge_heard c = answer_text c.own ++ challenge c.challenge

-- it has answered, with a nonce and a part of its own
abbrev pub part_sent : PartSent → Noted
part_sent s = challenge_heard s.heard ++ (Ra, nonce s.ra) ∷ (Fa, part s.fa) ∷ []

-- what the third message shows
abbrev pub third : Third → Noted
third m = (Fb, part m.fb) ∷ (X3, text m.x3) ∷ []

-- the run at a pass
abbrev pub at : Pair → ℕ → Noted → State
at n k notes = record { head = between K6 A n; next = k; notes = notes }

-- the run of a stage
abbrev pub run : Pair → StageA → State
run n (Start own) = at n 0 (answer_text own)
run n (Heard known) = at n 1 (challenge_heard known)
run n (Sent known) = at n 2 (part_sent known)
run n (Done known) = at n 3 (part_sent known.sent ++ third known.third)

-- the run of a state
abbrev pub state_of : K6A → State
state_of s = run s.names s.stage

-- A in K6
abbrev pub is_k6a : Head → Bool
is_k6a h = plays K6 A h
