-- A desk: one node, which is what its log says.
use Rattle.std.specs.Prelude.{◌≡◌, ◌≤◌, ℕ, Bool, true, List, [], ◌∷◌, ◌++◌, reverse, Option, Some, count_by, None, max}
use Rattle.term_values.specs.Trees.{Among, Tree}
use Rattle.term_values.specs.declared.small.Key.{Key}
use Rattle.term_values.specs.declared.small.Stamp.{Stamp}
use Rattle.replay_store.specs.Stamps.{Accepted, next_stamp, number_of}
use Rattle.fresh_values.specs.Issued.{Issued}
use Rattle.mech_rows.specs.declared.refusal.Refusal.{Refusal}
use Rattle.mech_rows.specs.Rings.{Ring, keys_in}
use Rattle.mech_rows.specs.Openings.{has_parts}
use Rattle.mech_rows.specs.Runs.{Keys}
use Rattle.mech_rows.specs.Steps.{Sealer, IsStep}
use Rattle.mech_rows.specs.Lawful.{tested_by}
use Rattle.mech_rows.specs.Moves.{Move, step_of}
use Rattle.agreement_laws.specs.Nodes.{Node, Log, new_node, node_after, IsLegal, NodeStep, WasIssued, WasUsed}
use Rattle.node_desk.specs.declared.event.Event.{Event}
use Rattle.node_desk.specs.declared.event.Event.TheVariants.{Open, Issue, Commit, Drop, Restart}
use Rattle.node_desk.specs.declared.run_slot.RunSlot.{RunSlot}
use Rattle.node_desk.specs.Events.{event_of, log_of}
use Rattle.node_desk.specs.Helds.{Held, held_at, AreHeld, is_open_slot}
use Rattle.node_desk.specs.Accepteds.{Alike}
use Rattle.node_desk.specs.Refusals.{CommitAnswer, got_refusal}

-- a desk: its ring, the number that its issuer had issued last at first, its log, the oldest event first, and for how many commits it has room
pub record DeskView : Type 0 where
  pub ring : Ring
  pub first : ℕ
  pub log : List Event
  pub spare : ℕ

-- the node to which a log leads
abbrev pub node_of : Ring → ℕ → List Event → Node
node_of ring first log = node_after (new_node ring first) (log_of log)

-- the node of a desk
abbrev pub node_at : DeskView → Node
node_at d = node_of d.ring d.first d.log

-- a run of a desk
abbrev pub run_at : DeskView → ℕ → Option Held
run_at d run = held_at d.log run

-- a Commit is of a step over this sealing, with these keys
abbrev pub IsStepEvent : Sealer → Keys → Event → Type 0
IsStepEvent opens keys (Commit run now step) = IsStep opens keys (step_of step)
IsStepEvent opens keys (Open run head texts) = Unit {0}
IsStepEvent opens keys (Issue now stamp) = Unit {0}
IsStepEvent opens keys (Drop run) = Unit {0}
IsStepEvent opens keys (Restart now last more) = Unit {0}

-- that, of each event, the newest first
abbrev pub AreSteps : Sealer → Keys → List Event → Type 0
AreSteps opens keys [] = Unit {0}
AreSteps opens keys (event ∷ past) = IsStepEvent opens keys event × AreSteps opens keys past

-- the log leads from a new node through what each event needs, over each sealing over which its commits are of steps with the ring's keys
abbrev pub IsLegalLog : Ring → ℕ → List Event → Type 0
IsLegalLog ring first log =
    (opens : Key → Tree → Option Tree) (checks : Key → Tree → Tree → Bool) → AreSteps (tested_by opens checks) (keys_in ring) (reverse log) → IsLegal (tested_by opens checks) (new_node ring first) (log_of log)

-- the sealing over which each item is that of each body
abbrev pub any_sealing : Sealer
any_sealing is_check key item body = Unit {0}

-- the log leads from a new node through what each event needs, whatever its items are
abbrev pub IsWholeLog : Ring → ℕ → List Event → Type 0
IsWholeLog ring first log = IsLegal any_sealing (new_node ring first) (log_of log)

-- the step was made with these keys, over some sealing
pub record IsMadeWith (keys : Keys) (step : Move) : Type 0 where
  pub opens : Key → Tree → Option Tree
  pub checks : Key → Tree → Tree → Bool
  pub is_step : IsStep (tested_by opens checks) keys (step_of step)

-- each commit's step was made with these keys
abbrev pub AreMadeWith : Keys → List Event → Type 0
AreMadeWith keys log = (run now : ℕ) (step : Move) → Among (Commit run now step) log → IsMadeWith keys step

-- the stamp, where there is one, was issued, and no commit has used it
abbrev pub IsUnused : Option Stamp → Log → Type 0
IsUnused issued log = (stamp : Stamp) → issued ≡ Some stamp → WasIssued stamp log × (WasUsed stamp log → ⊥)

-- the desk has entered the event, and is as it was but for its room
pub record Entered (old new : DeskView) (event : Event) : Type 0 where
  pub ring : new.ring ≡ old.ring
  pub first : new.first ≡ old.first
  pub log : new.log ≡ old.log ++ event ∷ []

-- the desk's node took the node machine's step for the event, over each sealing over which a Commit is of a step with the ring's keys
abbrev pub HasStepped : DeskView → DeskView → Event → Type 0
HasStepped old new event =
    (opens : Key → Tree → Option Tree) (checks : Key → Tree → Tree → Bool) → IsStepEvent (tested_by opens checks) (keys_in old.ring) event → NodeStep (tested_by opens checks) (node_at old) (event_of event) (node_at new)

-- the stamp that a node issues next, at the greater of its now and the clock
abbrev pub due_stamp : Node → ℕ → Option Stamp
due_stamp node clock = next_stamp node.ring.kind node.last (max node.now clock)

-- the desk is as it was, but for its room
pub record Untouched (old new : DeskView) : Type 0 where
  pub ring : new.ring ≡ old.ring
  pub first : new.first ≡ old.first
  pub log : new.log ≡ old.log

-- the answer of a commit: the first refusal that holds
abbrev pub CommitAnswers : DeskView → ℕ → Move → ℕ → Option Refusal → Type 0
CommitAnswers d run step clock answer = CommitAnswer (run_at d run) step (got_refusal (node_at d) clock step.got) answer

-- the issuer and the store are those of the node
pub record IsNode (node : Node) (issued : Issued) (now window : ℕ) (stands_for : List Accepted → Type 0) : Type 0 where
  pub kind : issued.kind ≡ node.ring.kind
  pub last : node.last ≡ issued.last
  pub moment : node.now ≡ now
  pub window_is : window ≡ node.ring.window
  pub accepted : List Accepted
  pub stands : stands_for accepted
  pub alike : Alike accepted node.accepted

-- each stamp that a commit used was issued, and none that was issued is above the last
pub record AreStamps (log : Log) (last : ℕ) : Type 0 where
  pub used : (stamp : Stamp) → WasUsed stamp log → WasIssued stamp log
  pub below : (stamp : Stamp) → WasIssued stamp log → number_of stamp ≤ last

-- the ring has the parts that the run uses
abbrev pub HavePart : Ring → Option Held → Type 0
HavePart ring None = Unit {0}
HavePart ring (Some h) = has_parts ring h.state.head ≡ true

-- that, of each run
abbrev pub HaveParts : Ring → List Event → Type 0
HaveParts ring log = (n : ℕ) → HavePart ring (held_at log n)

-- what a desk keeps: its log is legal and its commits are of steps with the ring's keys, its parts are those of the node, and each open run has room for its Drop
pub record IsKept (ring : Ring) (first : ℕ) (log : List Event) (issued : Issued) (now window : ℕ) (stands_for : List Accepted → Type 0) (run_slots : List RunSlot) (open_count room : ℕ) : Type 0 where
  pub whole : IsWholeLog ring first log
  pub made : AreMadeWith (keys_in ring) log
  pub node : IsNode (node_of ring first log) issued now window stands_for
  pub stamps : AreStamps (log_of log) issued.last
  pub parts : HaveParts ring log
  pub held : AreHeld log run_slots
  pub open_is : open_count ≡ count_by is_open_slot run_slots
  pub room_is : open_count ≤ room
