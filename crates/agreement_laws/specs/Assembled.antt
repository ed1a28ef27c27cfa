-- What several nodes did over a working sealing, in one order, and its replacement by symbolic sealing.
use Rattle.std.specs.Prelude.{◌≡◌, ℕ, Bool, false, List, [], ◌∷◌, ◌++◌, map, Option, Some, None, option_map, if◌then◌else◌}
use Rattle.term_values.specs.Trees.{Among, Bytes, Tree, blob}
use Rattle.term_values.specs.declared.small.Key.{Key}
use Rattle.term_values.specs.SameBytes.{same_bytes}
use Rattle.mech_rows.specs.Runs.{Opening, Step}
use Rattle.mech_rows.specs.Steps.{Sealer, symbolic_item}
use Rattle.agreement_laws.specs.Configs.{Config, keys_of, names_in, IsLawful}
use Rattle.agreement_laws.specs.Traces.{Delivered, IsFresh}
use Rattle.agreement_laws.specs.Replacement.{replaced, replaced_step, checks, ForwardsStill}
use Rattle.agreement_laws.specs.Nodes.{Event, Open, Issue, Commit, Drop, Restart, Node, new_node, node_after, Needs}
use Rattle.mech_rows.specs.Rings.{Peer, Ring}
use Rattle.agreement_laws.specs.Worlds.{Entry, At, Reveal, party_by, log_of, trace}

-- the ring of the party n has name, kind and window from the configuration, and so its peers' kinds and the parts that it has
pub record IsRingOf (c : Config) (n : ℕ) (ring : Ring) : Type 0 where
  pub me : ring.me ≡ n
  pub is_server : ring.is_server ≡ (party_by c.parties n).is_server
  pub kind : ring.kind ≡ (party_by c.parties n).kind
  pub window : ring.window ≡ (party_by c.parties n).window
  pub peers : (p : Peer) → Among p ring.peers → Among p.name (names_in c) × (p.is_server ≡ (party_by c.parties p.name).is_server)
  pub parts : (p : Peer) (x : Bytes) → Among p ring.peers → p.part ≡ Some x → keys_of c n p.name ≡ Some x

-- a ring for each party
abbrev pub AreRings : Config → (ℕ → Ring) → Type 0
AreRings c rings = (n : ℕ) → Among n (names_in c) → IsRingOf c n (rings n)

-- the node of the party, where it has that ring
abbrev pub node_with : (ℕ → Ring) → ℕ → List Entry → Node
node_with rings n h = node_after (new_node (rings n) 0) (log_of n h)

-- the events of each party are a legal log over the sealing, with the party's ring, and nothing is given away
abbrev pub IsAssembled : Sealer → Config → (ℕ → Ring) → List Entry → Type 0
IsAssembled opens c rings [] = Unit {0}
IsAssembled opens c rings (At n e ∷ h) = IsAssembled opens c rings h × Among n (names_in c) × Needs opens (node_with rings n h) e
IsAssembled opens c rings (Reveal id ∷ h) = ⊥

-- what a working sealing opens or tests are blobs
abbrev pub OpensBlobs : Sealer → Type 0
OpensBlobs opens = (b : Bool) (k : Key) (u t : Tree) → opens b k u t → (x : Bytes) × (u ≡ blob x)

-- an item with key and body in a step's lists, and whether it is a check
pub record Listed : Type 0 where
  pub is_check : Bool
  pub opening : Opening

-- the item, as one of that step: a check where the step's mechanism has checks
abbrev pub listed : Step → Opening → Listed
listed step o = record { is_check = checks step.before.head.mech; opening = o }

-- the items of a step: those that it made, and those that it opened or tested
abbrev pub items_of : Step → List Listed
items_of step = map (listed step) (step.sealed ++ step.opened)

-- the items of all commits
abbrev pub items_in : List Entry → List Listed
items_in [] = []
items_in (At n (Commit run now step) ∷ h) = items_of step ++ items_in h
items_in (At n (Open run head texts) ∷ h) = items_in h
items_in (At n (Issue now stamp) ∷ h) = items_in h
items_in (At n (Drop run) ∷ h) = items_in h
items_in (At n (Restart now last more) ∷ h) = items_in h
items_in (Reveal id ∷ h) = items_in h

-- the term is that blob
abbrev pub is_blob : Tree → Bytes → Bool
is_blob (blob y) x = same_bytes y x
is_blob _ x = false

-- the seal or check of the key and body with which the blob stands
abbrev pub look_up : List Listed → Bytes → Option Tree
look_up [] x = None
look_up (s ∷ ss) x = if is_blob s.opening.item x then Some (symbolic_item s.is_check s.opening.key s.opening.body) else look_up ss x

-- an item that stands twice in these lists stands there with one key and one body.
-- The other half of ideal sealing, that what opens was made before or could be made, is not asked: nothing needs it
abbrev pub SealsIdeally : List Listed → Type 0
SealsIdeally ss = (s t : Listed) → Among s ss → Among t ss → s.opening.item ≡ t.opening.item → (s.opening.key ≡ t.opening.key) × (s.opening.body ≡ t.opening.body)

-- the event with the items replaced; other events than commits have none
abbrev pub replaced_event : (Bytes → Option Tree) → Event → Event
replaced_event f (Commit run now step) = Commit run now (replaced_step f step)
replaced_event f (Open run head texts) = Open run head texts
replaced_event f (Issue now stamp) = Issue now stamp
replaced_event f (Drop run) = Drop run
replaced_event f (Restart now last more) = Restart now last more

-- the entry with the items replaced
abbrev pub replaced_entry : (Bytes → Option Tree) → Entry → Entry
replaced_entry f (At n e) = At n (replaced_event f e)
replaced_entry f (Reveal id) = Reveal id

-- the entries with the items replaced
abbrev pub replaced_entries : (Bytes → Option Tree) → List Entry → List Entry
replaced_entries f h = map (replaced_entry f) h

-- the wires after the replacement: messages that are taken are derivable, drawn values are new, and forwarded items are not too long
abbrev pub AllowsReplaced : (Bytes → Option Tree) → Config → List Entry → Event → Type 0
AllowsReplaced f c h (Commit run now step) = Delivered c (trace (replaced_entries f h)) (option_map (replaced f) step.taken) × IsFresh c (trace (replaced_entries f h)) (replaced_step f step) × ForwardsStill f step.after.notes
AllowsReplaced f c h _ = Unit {0}

-- that, of each event
abbrev pub IsNetworkWorld : (Bytes → Option Tree) → Config → List Entry → Type 0
IsNetworkWorld f c [] = Unit {0}
IsNetworkWorld f c (At n e ∷ h) = IsNetworkWorld f c h × AllowsReplaced f c h e
IsNetworkWorld f c (Reveal id ∷ h) = IsNetworkWorld f c h

-- what several nodes did over a working sealing, which was ideal for it, on wires that are a network after the replacement
pub record IsIdealNetwork (opens : Sealer) (c : Config) (rings : ℕ → Ring) (h : List Entry) : Type 0 where
  pub blobs : OpensBlobs opens
  pub lawful : IsLawful c
  pub from : AreRings c rings
  pub assembled : IsAssembled opens c rings h
  pub ideal : SealsIdeally (items_in h)
  pub network : IsNetworkWorld (look_up (items_in h)) c h

-- the entries with the symbolic items in place of the working ones
abbrev pub symbolic_entries : List Entry → List Entry
symbolic_entries h = replaced_entries (look_up (items_in h)) h

-- it holds of the entries of each ideal network after the replacement
abbrev pub OfEachIdealNetwork : Sealer → (Config → List Entry → Type 0) → Type 0
OfEachIdealNetwork opens Holds = (c : Config) (rings : ℕ → Ring) (h : List Entry) → IsIdealNetwork opens c rings h → Holds c (symbolic_entries h)
