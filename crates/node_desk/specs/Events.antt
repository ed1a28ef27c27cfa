-- The events of a node, as what happens at it.
use Rattle.std.specs.Prelude.{ℕ, List, map, reverse}
use Rattle.mech_rows.specs.Moves.{step_of}
use Rattle.agreement_laws.specs.Nodes.{Event as Happens, Log}
use Rattle.agreement_laws.specs.Nodes as node
use Rattle.node_desk.specs.declared.event.Event.{Event}
use Rattle.node_desk.specs.declared.event.Event.TheVariants.{Open, Issue, Commit, Drop, Restart}

-- the events, the oldest first, and how many more need no memory
pub record Logged : Type 0 where
  pub events : List Event
  pub room : ℕ

-- what happens: with the run in place of each state
abbrev pub event_of : Event → Happens
event_of (Open run head texts) = node.Open run head texts
event_of (Issue now stamp) = node.Issue now stamp
event_of (Commit run now step) = node.Commit run now (step_of step)
event_of (Drop run) = node.Drop run
event_of (Restart now last more) = node.Restart now last more.items

-- what happened, the newest first
abbrev pub log_of : List Event → Log
log_of events = map event_of (reverse events)
