-- Why a step is not committed.
use Rattle.std.specs.Prelude.{◌≡◌, ◌⊎◌, ℕ, max, ◌==◌, true, List, [], ◌∷◌, Option, Some, None, if◌then◌else◌}
use Rattle.term_values.specs.declared.small.StampKind.{StampKind}
use Rattle.replay_store.specs.Stamps.{Accepted, stamp_verdict, last_number}
use Rattle.replay_store.specs.declared.verdict.Verdict.{Verdict}
use Rattle.replay_store.specs.declared.verdict.Verdict.TheVariants as verdicts
use Rattle.mech_rows.specs.declared.refusal.Refusal.{Refusal}
use Rattle.mech_rows.specs.declared.refusal.Refusal.TheVariants.{UnknownRun, EndedRun, WrongPass, StampsSpent, Moved, WrongStampKind, Early, Late, Repeated, StoreFull}
use Rattle.mech_rows.specs.Runs.{Got}
use Rattle.mech_rows.specs.Moves.{Move}
use Rattle.mech_rows.specs.Replies.{sends_first}
use Rattle.agreement_laws.specs.Nodes.{Node}
use Rattle.node_desk.specs.Helds.{Held}
use Rattle.node_desk.specs.Openings.{first_of}

-- why there is no such open run
abbrev pub run_refusal : Option Held → Option Refusal
run_refusal None = Some UnknownRun
run_refusal (Some h) = if h.is_open then None else Some EndedRun

-- why a run does not say its first message now: it is not open, or says another message or none
abbrev pub first_refusal : Option Held → Option Refusal
first_refusal None = Some UnknownRun
first_refusal (Some h) = first_of (run_refusal (Some h)) (if sends_first h.state then None else Some WrongPass)

-- the refusal for a verdict on a received stamp
abbrev pub refusal_of : Got → Verdict → Option Refusal
refusal_of g verdicts.WrongStampKind = Some (WrongStampKind g.slot)
refusal_of g (verdicts.Early at) = Some (Early g.slot at)
refusal_of g (verdicts.Late at) = Some (Late g.slot at)
refusal_of g verdicts.Repeated = Some (Repeated g.stamp)
refusal_of g (verdicts.StoreFull count) = Some (StoreFull count)
refusal_of g verdicts.Fit = None

-- the first refusal of received stamps, judged at that now
abbrev pub stamps_refusal : ℕ → ℕ → List Accepted → StampKind → List Got → Option Refusal
stamps_refusal window now accepted kind [] = None
stamps_refusal window now accepted kind (g ∷ gs) =
    first_of (refusal_of g (stamp_verdict window now accepted kind g.sender g.tagged g.stamp)) (stamps_refusal window now accepted kind gs)

-- the next pass of a run that is held
abbrev pub next_of : Option Held → ℕ
next_of None = 0
next_of (Some h) = h.state.next

-- the run is open, and the step begins with its state
abbrev pub IsCurrent : Option Held → Move → Type 0
IsCurrent held step = held ≡ Some (record { state = step.before; is_open = true })

-- the answer is the first refusal; else Moved where the step isn't current; else what the stamps say
abbrev pub AnswerIs : Option Refusal → Option Held → Move → Option Refusal → Option Refusal → Type 0
AnswerIs (Some e) held step stamps answer = answer ≡ Some e
AnswerIs None held step stamps answer =
    ((IsCurrent held step → ⊥) × (answer ≡ Some (Moved step.before.next (next_of held)))) ⊎ (IsCurrent held step × (answer ≡ stamps))

-- the answer of a commit for a run that is so held, where its stamps are so refused: the first refusal that holds
abbrev pub CommitAnswer : Option Held → Move → Option Refusal → Option Refusal → Type 0
CommitAnswer held step stamps answer = AnswerIs (run_refusal held) held step stamps answer

-- what a node says against the received stamps: each is judged at the greater of now and the clock
abbrev pub got_refusal : Node → ℕ → List Got → Option Refusal
got_refusal node clock got = stamps_refusal node.ring.window (max node.now clock) node.accepted node.ring.kind got

-- why no stamp is issued: the last number was the greatest
abbrev pub issue_refusal : Node → Option Refusal
issue_refusal node = if node.last == last_number then Some StampsSpent else None
