-- Each event that a desk enters has what it needs, and the desk's node takes the step for it.
use Rattle.std.proofs.Common.{◌≡◌, ◌+◌, ℕ, suc, max, List, [], ◌∷◌, ◌++◌, length, Bool, true, Option, Some, None, sym, ap, ap₂, subst, ◌∙◌, arith}
use Rattle.std.specs.Prelude.{count_by, slice_get}
use Rattle.term_values.specs.Trees.{Tree}
use Rattle.term_values.specs.declared.small.Key.{Key}
use Rattle.term_values.specs.declared.small.Stamp.{Stamp}
use Rattle.term_values.specs.declared.small.StampKind.{StampKind}
use Rattle.replay_store.specs.Stamps.{Accepted, next_stamp}
use Rattle.fresh_values.specs.Issued.{Issued}
use Rattle.mech_rows.specs.Heads.{Head, me, IsHead}
use Rattle.mech_rows.specs.Rings.{Ring, keys_in}
use Rattle.mech_rows.specs.Lawful.{tested_by}
use Rattle.mech_rows.specs.Moves.{Move, step_of}
use Rattle.mech_rows.specs.Openings.{Texts}
use Rattle.mech_rows.specs.Steps.{Sealer, IsStep}
use Rattle.mech_rows.specs.Verdict.{run_of}
use Rattle.agreement_laws.specs.Nodes.{Node, Log, open_among, opens_in, changed, Needs, NeedsOpen, NeedsIssue, NeedsCommit, NeedsDrop}
use Rattle.node_desk.specs.declared.event.Event.{Event}
use Rattle.node_desk.specs.declared.event.Event.TheVariants.{Open, Issue, Commit, Drop}
use Rattle.node_desk.specs.declared.run_slot.RunSlot.{RunSlot}
use Rattle.node_desk.specs.Events.{event_of, log_of}
use Rattle.node_desk.specs.Helds.{Held, shown, shown_in, table_at, is_open_slot, AreHeld}
use Rattle.node_desk.specs.Openings.{opening_by, opening_refusal}
use Rattle.node_desk.specs.Refusals.{stamps_refusal, IsCurrent}
use Rattle.node_desk.specs.Desks.{DeskView, node_of, IsStepEvent, HasStepped, IsUnused, IsNode}
use Rattle.node_desk.proofs.Logs.{node_of-snoc, node_ring, node_log, standing, runs_are}
use Rattle.node_desk.proofs.Counts.{open-count, opened-count}
use Rattle.node_desk.proofs.Mays.{may-open}
use Rattle.node_desk.proofs.Stamped.{stamps-alike, each-fit}

-- what is said against an opening by the table is what the node says
pub opening-is : (ring : Ring) (first : ℕ) (log : List Event) (run_slots : List RunSlot) (open_count : ℕ) (head : Head) → AreHeld log run_slots → open_count ≡ count_by is_open_slot run_slots
    → opening_by ring open_count (length run_slots) head ≡ opening_refusal (node_of ring first log) head
opening-is ring first log run_slots open_count head held o =
    let node = node_of ring first log in
    ap (λ (r : Ring). opening_by r open_count (length run_slots) head) (sym (node_ring ring first log))
    ∙ (ap (λ (n : ℕ). opening_by node.ring n (length run_slots) head) (o ∙ sym (open-count ring first log run_slots held))
    ∙ ap (λ (n : ℕ). opening_by node.ring (open_among node.runs (opens_in node.log)) n head) (sym (opened-count ring first log run_slots held)))

-- the run of the node that the table shows
run-shown : (ring : Ring) (first : ℕ) (log : List Event) (run_slots : List RunSlot) → AreHeld log run_slots → (run : ℕ) (h : Held) → table_at log run_slots run ≡ Some h → (node_of ring first log).runs run ≡ Some (record { run = run_of h.state; is_open = h.is_open })
run-shown ring first log run_slots held run h e = runs_are ring first log run ∙ ap standing (held.each run ∙ e)

-- an open run that the table shows
open-shown : (log : List Event) (run_slots : List RunSlot) (run at : ℕ) (old : RunSlot) → suc at ≡ run → slice_get run_slots at ≡ Some old → old.«open» ≡ true → table_at log run_slots run ≡ Some (record { state = (shown_in log old).state; is_open = true })
open-shown log run_slots run at old r there o =
    subst (λ (n : ℕ). table_at log run_slots n ≡ Some (record { state = (shown_in log old).state; is_open = true })) r (ap (shown log) there ∙ ap (λ (b : Bool). Some (record { state = (shown_in log old).state; is_open = b })) o)

-- an opening has what it needs
pub needs-open : (ring : Ring) (first : ℕ) (log : List Event) (run_slots : List RunSlot) (open_count run : ℕ) (head : Head) → AreHeld log run_slots → open_count ≡ count_by is_open_slot run_slots → IsHead head → me head ≡ ring.me → opening_by ring open_count (length run_slots) head ≡ None → run ≡ length run_slots + 1
    → NeedsOpen (node_of ring first log) run head
needs-open ring first log run_slots open_count run head held o is own none r =
    record {
      number = let number : run ≡ suc (length run_slots) = omega (arith, r) in number ∙ ap suc (sym (opened-count ring first log run_slots held));
      is_head = is;
      own = own ∙ ap (λ (x : Ring). x.me) (sym (node_ring ring first log));
      may = may-open (node_of ring first log) head (sym (opening-is ring first log run_slots open_count head held o) ∙ none);
    }

-- an issue has
pub needs-issue : (ring : Ring) (first : ℕ) (log : List Event) (issued : Issued) (now window clock moment : ℕ) (stands : List Accepted → Type 0) (stamp : Stamp) → IsNode (node_of ring first log) issued now window stands → moment ≡ max now clock → next_stamp issued.kind issued.last moment ≡ Some stamp → NeedsIssue (node_of ring first log) moment stamp
needs-issue ring first log issued now window clock moment stands stamp node m s =
    record {
      later = let at = node.moment in omega (arith, at, m);
      is_next = ap₂ (λ (kind : StampKind) (last : ℕ). next_stamp kind last moment) (sym node.kind) node.last ∙ s;
    }

-- a commit has, over each sealing over which it is of a step
pub needs-commit : (opens : Sealer) (ring : Ring) (first : ℕ) (log : List Event) (issued : Issued) (now window : ℕ) (stands : List Accepted → Type 0) (run_slots : List RunSlot) (run clock moment : ℕ) (step : Move) → IsNode (node_of ring first log) issued now window stands → AreHeld log run_slots → IsUnused step.issued (log_of log) → IsCurrent (table_at log run_slots run) step
    → ((accepted : List Accepted) → stands accepted → stamps_refusal window (max now clock) accepted ring.kind step.got ≡ None) → moment ≡ max now clock → IsStep opens (keys_in ring) (step_of step)
    → NeedsCommit opens (node_of ring first log) run moment (step_of step)
needs-commit opens ring first log issued now window stands run_slots run clock moment step node held unused current fit m is_step =
    let at = node_of ring first log in
    record {
      later = let t = node.moment in omega (arith, t, m);
      is_open = run-shown ring first log run_slots held run _ current;
      is_step = subst (λ (r : Ring). IsStep opens (keys_in r) (step_of step)) (sym (node_ring ring first log)) is_step;
      fit = each-fit _ moment at.accepted _ step.got
          (ap (λ (k : StampKind). stamps_refusal at.ring.window moment at.accepted k step.got) (ap (λ (x : Ring). x.kind) (node_ring ring first log))
          ∙ (ap₂ (λ (x t : ℕ). stamps_refusal x t at.accepted ring.kind step.got) (sym node.window_is) m
          ∙ (sym (stamps-alike window (max now clock) node.accepted at.accepted ring.kind step.got node.alike)
          ∙ fit node.accepted node.stands)));
      issued = subst (λ (x : Log). IsUnused step.issued x) (sym (node_log ring first log)) unused;
    }

-- the end of an open run has
pub needs-drop : (ring : Ring) (first : ℕ) (log : List Event) (run_slots : List RunSlot) (run at : ℕ) (old : RunSlot) → AreHeld log run_slots → at + 1 ≡ run → slice_get run_slots at ≡ Some old → old.«open» ≡ true
    → NeedsDrop (node_of ring first log) run
needs-drop ring first log run_slots run at old held a there o =
    let number : suc at ≡ run = omega (arith, a) in
    record { last = _; is_open = run-shown ring first log run_slots held run _ (open-shown log run_slots run at old number there o) }

-- a desk with that log, whatever its room
abbrev at_log : Ring → ℕ → List Event → DeskView
at_log ring first log = record { ring = ring; first = first; log = log; spare = 0 }

-- with one more event, which has what it needs, the node takes its step
stepped : (ring : Ring) (first : ℕ) (log log' : List Event) (event : Event) → log' ≡ log ++ event ∷ []
    → ((opens : Key → Tree → Option Tree) (checks : Key → Tree → Tree → Bool) → IsStepEvent (tested_by opens checks) (keys_in ring) event → Needs (tested_by opens checks) (node_of ring first log) (event_of event))
    → HasStepped (at_log ring first log) (at_log ring first log') event
stepped ring first log log' event l needs opens checks is = (needs opens checks is, ap (node_of ring first) l ∙ node_of-snoc ring first log event)

-- the moment of an event, by the node
moment-is : (ring : Ring) (first : ℕ) (log : List Event) (issued : Issued) (now window clock moment : ℕ) (stands : List Accepted → Type 0) → IsNode (node_of ring first log) issued now window stands → moment ≡ max now clock → moment ≡ max (node_of ring first log).now clock
moment-is ring first log issued now window clock moment stands node m = m ∙ ap (λ (n : ℕ). max n clock) (sym node.moment)

-- the node's now after an event with a moment
now-after : (ring : Ring) (first : ℕ) (log log' : List Event) (event : Event) (moment : ℕ) → log' ≡ log ++ event ∷ [] → (changed (node_of ring first log) (event_of event)).now ≡ moment → (node_of ring first log').now ≡ moment
now-after ring first log log' event moment l is = ap (λ (x : List Event). (node_of ring first x).now) l ∙ (ap (λ (n : Node). n.now) (node_of-snoc ring first log event) ∙ is)

-- a desk that opened a run
pub steps-open : (ring : Ring) (first : ℕ) (log log' : List Event) (run_slots : List RunSlot) (open_count run : ℕ) (head : Head) (texts : Texts) → AreHeld log run_slots → open_count ≡ count_by is_open_slot run_slots → log' ≡ log ++ Open run head texts ∷ [] → IsHead head → me head ≡ ring.me → opening_by ring open_count (length run_slots) head ≡ None → run ≡ length run_slots + 1
    → HasStepped (at_log ring first log) (at_log ring first log') (Open run head texts)
steps-open ring first log log' run_slots open_count run head texts held o l is own none r =
    stepped ring first log log' (Open run head texts) l (λ opens checks _. needs-open ring first log run_slots open_count run head held o is own none r)

-- one that issued a stamp
pub steps-issue : (ring : Ring) (first : ℕ) (log log' : List Event) (issued : Issued) (now window clock moment : ℕ) (stands : List Accepted → Type 0) (stamp : Stamp) → IsNode (node_of ring first log) issued now window stands → log' ≡ log ++ Issue moment stamp ∷ [] → moment ≡ max now clock → next_stamp issued.kind issued.last moment ≡ Some stamp
    → HasStepped (at_log ring first log) (at_log ring first log') (Issue (max (node_of ring first log).now clock) stamp)
steps-issue ring first log log' issued now window clock moment stands stamp node l m s =
    subst (λ (n : ℕ). HasStepped (at_log ring first log) (at_log ring first log') (Issue n stamp)) (moment-is ring first log issued now window clock moment stands node m)
    (stepped ring first log log' (Issue moment stamp) l (λ opens checks _. needs-issue ring first log issued now window clock moment stands stamp node m s))

pub issued-at : (ring : Ring) (first : ℕ) (log log' : List Event) (issued : Issued) (now window clock moment : ℕ) (stands : List Accepted → Type 0) (stamp : Stamp) → IsNode (node_of ring first log) issued now window stands → log' ≡ log ++ Issue moment stamp ∷ [] → moment ≡ max now clock
    → (node_of ring first log').now ≡ max (node_of ring first log).now clock
issued-at ring first log log' issued now window clock moment stands stamp node l m = now-after ring first log log' (Issue moment stamp) _ l (moment-is ring first log issued now window clock moment stands node m)

-- one that committed a step
pub steps-commit : (ring : Ring) (first : ℕ) (log log' : List Event) (issued : Issued) (now window : ℕ) (stands : List Accepted → Type 0) (run_slots : List RunSlot) (run clock moment : ℕ) (step : Move) → IsNode (node_of ring first log) issued now window stands → AreHeld log run_slots → log' ≡ log ++ Commit run moment step ∷ [] → IsUnused step.issued (log_of log) → IsCurrent (table_at log run_slots run) step
    → ((accepted : List Accepted) → stands accepted → stamps_refusal window (max now clock) accepted ring.kind step.got ≡ None) → moment ≡ max now clock
    → HasStepped (at_log ring first log) (at_log ring first log') (Commit run (max (node_of ring first log).now clock) step)
steps-commit ring first log log' issued now window stands run_slots run clock moment step node held l unused current fit m =
    subst (λ (n : ℕ). HasStepped (at_log ring first log) (at_log ring first log') (Commit run n step)) (moment-is ring first log issued now window clock moment stands node m)
    (stepped ring first log log' (Commit run moment step) l (λ opens checks is_step. needs-commit (tested_by opens checks) ring first log issued now window stands run_slots run clock moment step node held unused current fit m is_step))

pub committed-at : (ring : Ring) (first : ℕ) (log log' : List Event) (issued : Issued) (now window : ℕ) (stands : List Accepted → Type 0) (run clock moment : ℕ) (step : Move) → IsNode (node_of ring first log) issued now window stands → log' ≡ log ++ Commit run moment step ∷ [] → moment ≡ max now clock
    → (node_of ring first log').now ≡ max (node_of ring first log).now clock
committed-at ring first log log' issued now window stands run clock moment step node l m = now-after ring first log log' (Commit run moment step) _ l (moment-is ring first log issued now window clock moment stands node m)

-- one that ended a run
pub steps-drop : (ring : Ring) (first : ℕ) (log log' : List Event) (run_slots : List RunSlot) (run at : ℕ) (old : RunSlot) → AreHeld log run_slots → log' ≡ log ++ Drop run ∷ [] → at + 1 ≡ run → slice_get run_slots at ≡ Some old → old.«open» ≡ true
    → HasStepped (at_log ring first log) (at_log ring first log') (Drop run)
steps-drop ring first log log' run_slots run at old held l a there o =
    stepped ring first log log' (Drop run) l (λ opens checks _. needs-drop ring first log run_slots run at old held a there o)
