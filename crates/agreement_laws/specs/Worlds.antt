-- Worlds: a configuration, and what its parties did and what was given away, the newest first.
use Rattle.std.specs.Prelude.{◌≡◌, ℕ, false, List, [], ◌∷◌, Some, ◌==◌, if◌then◌else◌}
use Rattle.term_values.specs.Trees.{Among}
use Rattle.term_values.specs.declared.small.Key.{Key}
use Rattle.mech_rows.specs.Runs.{Run, IsDone, key_of}
use Rattle.mech_rows.specs.Steps.{symbolic}
use Rattle.agreement_laws.specs.Configs.{Party, Config, keys_of, names_in, IsLawful}
use Rattle.agreement_laws.specs.Traces.{RunId, Happening, Opens, Steps, Reveals, current, Delivered, IsFresh}
use Rattle.term_values.specs.declared.small.StampKind.TheVariants.{Time as by_time}
use Rattle.agreement_laws.specs.Nodes.{Event, Open, Issue, Commit, Drop, Restart, Log, Node, new_node, node_after, Needs, IsLegal}
use Rattle.mech_rows.specs.Openings.{opened_run}
use Rattle.mech_rows.specs.Rings.{Peer, Ring}

-- an entry of a world: an event of a party, or the session key of a run is given to the attacker
pub data Entry : Type 0 where
  At : (party : ℕ) → Event → Entry
  Reveal : RunId → Entry

-- the first party of that name
abbrev pub party_by : List Party → ℕ → Party
party_by [] n = record { name = n; is_server = false; kind = by_time; window = 0 }
party_by (p ∷ ps) n = if p.name == n then p else party_by ps n

-- all parties but the own one, each with the part that it shares with the own one
abbrev pub peers_by : Config → ℕ → List Party → List Peer
peers_by c n [] = []
peers_by c n (p ∷ ps) = if p.name == n then peers_by c n ps else record { name = p.name; is_server = p.is_server; part = keys_of c n p.name } ∷ peers_by c n ps

-- a party's ring: its own part of the configuration
abbrev pub ring_of : Config → ℕ → Ring
ring_of c n =
    let party = party_by c.parties n in
    record { me = n; is_server = party.is_server; kind = party.kind; window = party.window; peers = peers_by c n c.parties }

-- the events of the party
abbrev pub log_of : ℕ → List Entry → Log
log_of n [] = []
log_of n (At m e ∷ h) = if m == n then e ∷ log_of n h else log_of n h
log_of n (Reveal id ∷ h) = log_of n h

-- the node of a party
abbrev pub node_of : Config → ℕ → List Entry → Node
node_of c n h = node_after (new_node (ring_of c n) 0) (log_of n h)

-- the run of that party and number
abbrev pub run_id : ℕ → ℕ → RunId
run_id party number = record { party = party; number = number }

-- what the entries show of runs: openings, steps, and keys given away
abbrev pub trace : List Entry → List Happening
trace [] = []
trace (At n (Open run head texts) ∷ h) = Opens (run_id n run) (opened_run head texts) ∷ trace h
trace (At n (Commit run now step) ∷ h) = Steps (run_id n run) step ∷ trace h
trace (At n (Issue now stamp) ∷ h) = trace h
trace (At n (Drop run) ∷ h) = trace h
trace (At n (Restart now last more) ∷ h) = trace h
trace (Reveal id ∷ h) = Reveals id ∷ trace h

-- what the network asks of an event: the message that a step takes is derivable, and what it draws is new
abbrev pub NetworkAllows : Config → List Happening → Event → Type 0
NetworkAllows c t (Commit run now step) = Delivered c t step.taken × IsFresh c t step
NetworkAllows c t _ = Unit {0}

-- the run is done and has a key
pub record HasKey (t : List Happening) (id : RunId) : Type 0 where
  pub run : Run
  pub runs : current t id ≡ Some run
  pub done : IsDone run
  pub key : Key
  pub is_key : key_of run.head run.notes ≡ Some key

-- the party is declared, the event is one that its node can have, and the wires allow it
pub record HappensAt (c : Config) (h : List Entry) (n : ℕ) (e : Event) : Type 0 where
  pub declared : Among n (names_in c)
  pub needs : Needs symbolic (node_of c n h) e
  pub network : NetworkAllows c (trace h) e

-- the entry can follow after these
abbrev pub Follows : Config → List Entry → Entry → Type 0
Follows c h (At n e) = HappensAt c h n e
Follows c h (Reveal id) = HasKey (trace h) id

-- each entry can follow after those before it
abbrev pub IsWorld : Config → List Entry → Type 0
IsWorld c [] = Unit {0}
IsWorld c (e ∷ h) = IsWorld c h × Follows c h e

-- it holds of what each world of each lawful configuration shows. Each moment of a world is a world too, so it holds at each moment
abbrev pub InEachWorld : (Config → List Happening → Type 0) → Type 0
InEachWorld Holds = (c : Config) → IsLawful c → (h : List Entry) → IsWorld c h → Holds c (trace h)

-- the party's events are a legal log of a new node with the party's ring
abbrev pub HasLegalLog : Config → List Entry → ℕ → Type 0
HasLegalLog c h n = IsLegal symbolic (new_node (ring_of c n) 0) (log_of n h)
