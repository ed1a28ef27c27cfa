-- What contracts see of a world, and what follows from it.
use Rattle.std.specs.Prelude.{ℕ, zero, suc, ◌==◌, List, [], ◌∷◌, ◌++◌, map, reverse, Option, Some, None, is_none, slice_get, false, Bool, if◌then◌else◌}
use Rattle.std.specs.Option.{option_to_list}
use Rattle.term_values.specs.Trees.{Bytes, Tree, part}
use Rattle.mech_rows.specs.declared.refusal.Refusal.{Refusal}
use Rattle.mech_rows.specs.declared.refusal.Refusal.TheVariants.{UnknownRun}
use Rattle.mech_rows.specs.Heads.{Head}
use Rattle.mech_rows.specs.Rows.{row_of}
use Rattle.mech_rows.specs.Runs.{nth}
use Rattle.mech_rows.specs.Verdict.{State, Noted}
use Rattle.mech_rows.specs.Replies.{in_order}
use Rattle.mech_rows.specs.Notes.{terms_of}
use Rattle.agreement_laws.specs.declared.history.Happened.{Happened}
use Rattle.agreement_laws.specs.Histories.{HistoryOf}
use Rattle.agreement_laws.specs.Configs.{Config, LongTerm, revealed_parts}
use Rattle.agreement_laws.specs.Traces.{RunId}
use Rattle.agreement_laws.specs.Worlds.{Entry, At}
use Rattle.node_desk.specs.declared.event.Event.{Event}
use Rattle.node_desk.specs.declared.event.Event.TheVariants.{Open, Issue, Commit, Drop, Restart}
use Rattle.node_desk.specs.Events.{event_of}
use Rattle.node_desk.specs.Helds.{Held, held_at}
use Rattle.node_desk.specs.Refusals.{run_refusal}

-- an event, and the name of its party
pub record Act : Type 0 where
  pub party : ℕ
  pub event : Event

-- a world: its configuration, what its parties did, the oldest first, the clocks in the order of the parties, how many values
-- were drawn, and for each run that has a number its party and its number there
pub record WorldView : Type 0 where
  pub config : Config
  pub acts : List Act
  pub clocks : List ℕ
  pub draws : ℕ
  pub runs : List RunId

-- that event of that party
abbrev pub act : ℕ → Event → Act
act n e = record { party = n; event = e }

-- the events of one party, the oldest first
abbrev pub acts_of : ℕ → List Act → List Event
acts_of n [] = []
acts_of n (a ∷ more) = if a.party == n then a.event ∷ acts_of n more else acts_of n more

-- what the laws call the world: its entries, the newest first
abbrev pub entries : List Act → List Entry
entries acts = map (λ (a : Act). At a.party (event_of a.event)) (reverse acts)

-- a run of a party, as it stands
abbrev pub held_in : List Act → RunId → Option Held
held_in acts id = held_at (acts_of id.party acts) id.number

-- the run of a number of the world, from 1
abbrev pub run_in : List RunId → ℕ → Option RunId
run_in ids zero = None
run_in ids (suc k) = slice_get ids k

-- why a run of the world is not open: no such number, or the run is over
abbrev pub standing_refusal : List Act → Option RunId → Option Refusal
standing_refusal acts None = Some UnknownRun
standing_refusal acts (Some id) = run_refusal (held_in acts id)

-- that, of a number
abbrev pub number_refusal : WorldView → ℕ → Option Refusal
number_refusal w run = standing_refusal w.acts (run_in w.runs run)

-- the message that an event sends, where it sends one
abbrev pub sent_by : Event → List Tree
sent_by (Commit run now step) = option_to_list step.reply
sent_by (Open run head texts) = []
sent_by (Issue now stamp) = []
sent_by (Drop run) = []
sent_by (Restart now last more) = []

-- the messages, in the order of sending
abbrev pub sent_in : List Act → List Tree
sent_in [] = []
sent_in (a ∷ more) = sent_by a.event ++ sent_in more

-- what the attacker was given: its own parts and the revealed ones, then all that was sent
abbrev pub known_in : WorldView → List Tree
known_in w = (map part w.config.own ++ revealed_parts w.config.pairs) ++ sent_in w.acts

-- the run has acted in its last pass
abbrev pub is_over : State → Bool
is_over s = is_none (nth (row_of s.head.mech) s.next)

-- a run of a history, with its notes as terms
pub record Shown : Type 0 where
  pub run : ℕ
  pub head : Head
  pub notes : Noted
  pub done : Bool
  pub exposed : Bool

-- a history, with the notes of its runs as terms
pub record Told : Type 0 where
  pub revealed : List (ℕ × ℕ)
  pub happened : List Shown
  pub sent : List Tree
  pub given : List Bytes

-- that run, with its notes as terms
abbrev pub shown_of : Happened → Shown
shown_of h = record { run = h.run; head = h.head; notes = terms_of h.notes; done = h.done; exposed = h.exposed }

-- what a history tells
abbrev pub told_by : HistoryOf → Told
told_by h = record { revealed = h.revealed; happened = map shown_of h.happened; sent = h.sent; given = h.given }

-- the names of the pairs that are revealed
abbrev pub revealed_names : List LongTerm → List (ℕ × ℕ)
revealed_names [] = []
revealed_names (l ∷ ls) = if l.revealed then (l.x, l.y) ∷ revealed_names ls else revealed_names ls

-- the run of that number, as it stands
abbrev pub shown_as : ℕ → Option Held → List Shown
shown_as run None = []
shown_as run (Some h) = record { run = run; head = h.state.head; notes = in_order h.state.notes; done = is_over h.state; exposed = false } ∷ []

-- the runs from that number on
abbrev pub shown_from : List Act → ℕ → List RunId → List Shown
shown_from acts run [] = []
shown_from acts run (id ∷ ids) = shown_as run (held_in acts id) ++ shown_from acts (suc run) ids

-- what the history of a world tells
abbrev pub told_of : WorldView → Told
told_of w = record { revealed = revealed_names w.config.pairs; happened = shown_from w.acts 1 w.runs; sent = sent_in w.acts; given = [] }

-- message m of these, from 1
abbrev pub message_at : List Tree → ℕ → Option Tree
message_at ts zero = None
message_at ts (suc k) = slice_get ts k
