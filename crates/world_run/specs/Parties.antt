-- The parties of a world: their desks and clocks, and what they did.
use Rattle.std.specs.Prelude.{◌≡◌, ℕ, ◌+◌, ◌==◌, List, [], ◌∷◌, ◌++◌, map, if◌then◌else◌}
use Rattle.term_values.specs.Trees.{Among}
use Rattle.mech_rows.specs.Lawful.{tested_by}
use Rattle.mech_rows.specs.Rings.{keys_in}
use Rattle.seal_symbolic.specs.Symbolic.{body_of, is_check}
use Rattle.agreement_laws.specs.Configs.{Config, names_in}
use Rattle.agreement_laws.specs.Worlds.{ring_of}
use Rattle.node_desk.specs.declared.event.Event.{Event}
use Rattle.node_desk.specs.Desks.{IsStepEvent}
use Rattle.world_run.specs.declared.seat.Seat.{Seat}
use Rattle.world_run.specs.Conditions.{KeepsConditions}
use Rattle.world_run.specs.Views.{Act, act, acts_of, WorldView}

-- what contracts see of the parties: their configuration, what they did, the oldest first, their clocks, and how many more events
-- need no memory
pub record PartiesView : Type 0 where
  pub config : Config
  pub acts : List Act
  pub clocks : List ℕ
  pub room : ℕ

-- the name of a seat
abbrev pub seat_name : Seat → ℕ
seat_name s = s.desk.ring.me

-- the clock of a seat
abbrev pub seat_clock : Seat → ℕ
seat_clock s = s.clock

-- the log of the party of that name
abbrev pub log_in : List Seat → ℕ → List Event
log_in [] n = []
log_in (s ∷ ss) n = if seat_name s == n then s.desk.log else log_in ss n

-- the first event, as an act of that party
abbrev pub first_act : ℕ → List Event → List Act
first_act n [] = []
first_act n (e ∷ es) = act n e ∷ []

-- all but the first
abbrev pub later : List Event → List Event
later [] = []
later (e ∷ es) = es

-- the logs without the first event of that party
abbrev pub logs_after : ℕ → (ℕ → List Event) → ℕ → List Event
logs_after n logs m = if m == n then later (logs m) else logs m

-- the events of all parties, in that order of parties
abbrev pub merged : (ℕ → List Event) → List ℕ → List Act
merged logs [] = []
merged logs (n ∷ ns) = first_act n (logs n) ++ merged (logs_after n logs) ns

-- the seat is that of a party of the configuration
pub record IsSeat (c : Config) (s : Seat) : Type 0 where
  pub ring : s.desk.ring ≡ ring_of c (seat_name s)
  pub first : s.desk.first ≡ 0

-- that, of each seat
abbrev pub AreSeats : Config → List Seat → Type 0
AreSeats c [] = Unit {0}
AreSeats c (s ∷ ss) = IsSeat c s × AreSeats c ss

-- the commits are of steps over symbolic sealing, with the keys of their parties
abbrev pub AreTheirSteps : Config → List Act → Type 0
AreTheirSteps c acts = (a : Act) → Among a acts → IsStepEvent (tested_by body_of is_check) (keys_in (ring_of c a.party)) a.event

-- the seats are the parties of a configuration that meets the conditions, and the order is that of their logs
pub record AreParties (c : Config) (seats : List Seat) (order : List ℕ) : Type 0 where
  pub conditions : KeepsConditions c
  pub named : map seat_name seats ≡ names_in c
  pub seated : AreSeats c seats
  pub logs : (n : ℕ) → log_in seats n ≡ acts_of n (merged (log_in seats) order)
  pub ordered : map (λ (a : Act). a.party) (merged (log_in seats) order) ≡ order
  pub steps : AreTheirSteps c (merged (log_in seats) order)

-- the parties as a world in which so many values were drawn and no run has a number
abbrev pub as_world : PartiesView → ℕ → WorldView
as_world p k = record { config = p.config; acts = p.acts; clocks = p.clocks; draws = k; runs = [] }

-- the event has happened at that party
pub record HasActed (old new : PartiesView) (n : ℕ) (e : Event) : Type 0 where
  pub config : new.config ≡ old.config
  pub acts : new.acts ≡ old.acts ++ act n e ∷ []
  pub clocks : new.clocks ≡ old.clocks
  pub room : old.room ≡ new.room + 1

-- the parties are as they were, but for their room
pub record SameParties (old new : PartiesView) : Type 0 where
  pub config : new.config ≡ old.config
  pub acts : new.acts ≡ old.acts
  pub clocks : new.clocks ≡ old.clocks
