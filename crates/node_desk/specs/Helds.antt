-- The runs of a node by their states, and the table of them.
use Rattle.std.specs.Prelude.{◌≡◌, ◌<◌, ℕ, zero, suc, Bool, true, false, List, [], ◌∷◌, length, reverse, Option, Some, None, slice_get, ◌==◌, if◌then◌else◌}
use Rattle.mech_rows.specs.Verdict.{State}
use Rattle.mech_rows.specs.Openings.{opened_state}
use Rattle.agreement_laws.specs.Nodes.{is_going, opens_in}
use Rattle.node_desk.specs.declared.event.Event.{Event}
use Rattle.node_desk.specs.declared.event.Event.TheVariants.{Open, Issue, Commit, Drop, Restart}
use Rattle.node_desk.specs.declared.run_slot.RunSlot.{RunSlot}
use Rattle.node_desk.specs.Events.{log_of}
use Rattle.node_desk.specs.Lives.{live_state}

-- a run of a node by its state, and whether it is open
pub record Held : Type 0 where
  pub state : State
  pub is_open : Bool

-- the run, no longer open
abbrev pub no_longer : Option Held → Option Held
no_longer None = None
no_longer (Some h) = Some (record { state = h.state; is_open = false })

-- the run of a number after these events, the newest first
abbrev pub held_by : List Event → ℕ → Option Held
held_by [] n = None
held_by (Open run head texts ∷ past) n = if run == n then Some (record { state = opened_state head texts; is_open = true }) else held_by past n
held_by (Issue now stamp ∷ past) n = held_by past n
held_by (Commit run now step ∷ past) n = if run == n then Some (record { state = step.after; is_open = is_going step.outcome }) else held_by past n
held_by (Drop run ∷ past) n = if run == n then no_longer (held_by past n) else held_by past n
held_by (Restart now last more ∷ past) n = no_longer (held_by past n)

-- the run of a number after these events, the oldest first
abbrev pub held_at : List Event → ℕ → Option Held
held_at log n = held_by (reverse log) n

-- the state after the event, where that is a commit, and else the other
abbrev pub after_event : State → Event → State
after_event start (Commit run now step) = step.after
after_event start (Open run head texts) = start
after_event start (Issue now stamp) = start
after_event start (Drop run) = start
after_event start (Restart now last more) = start

-- the state after the event, where there is one
abbrev pub after_some : State → Option Event → State
after_some start None = start
after_some start (Some event) = after_event start event

-- the state at the start, or after the commit that stands there in the log
abbrev pub state_from : State → List Event → Option ℕ → State
state_from start log None = start
state_from start log (Some at) = after_some start (slice_get log at)

-- the run of a slot of the table: at its start, or after the commit at which it stands
abbrev pub shown_in : List Event → RunSlot → Held
shown_in log run_slot = record { state = state_from (live_state run_slot.start) log run_slot.at; is_open = run_slot.«open» }

-- what is shown, where there is a slot
abbrev pub shown : List Event → Option RunSlot → Option Held
shown log None = None
shown log (Some run_slot) = Some (shown_in log run_slot)

-- the slot of a run's number; numbers begin at 1
abbrev pub run_slot_at : List RunSlot → ℕ → Option RunSlot
run_slot_at run_slots zero = None
run_slot_at run_slots (suc k) = slice_get run_slots k

-- the run of a number in the table
abbrev pub table_at : List Event → List RunSlot → ℕ → Option Held
table_at log run_slots n = shown log (run_slot_at run_slots n)

-- the run of the slot is open
abbrev pub is_open_slot : RunSlot → Bool
is_open_slot run_slot = run_slot.«open»

-- the commit stands within so many events
abbrev pub IsWithin : ℕ → Option ℕ → Type 0
IsWithin n None = Unit {0}
IsWithin n (Some at) = at < n

-- the table is that of the runs of the log
pub record AreHeld (log : List Event) (run_slots : List RunSlot) : Type 0 where
  pub each : (n : ℕ) → held_at log n ≡ table_at log run_slots n
  pub within : (k : ℕ) (run_slot : RunSlot) → slice_get run_slots k ≡ Some run_slot → IsWithin (length log) run_slot.at
  pub count : opens_in (log_of log) ≡ length run_slots
