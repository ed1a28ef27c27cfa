-- One node: its ring, issuer, store, runs and log, and how its events change it.
use Rattle.std.specs.Prelude.{◌≡◌, ◌≢◌, ◌<◌, ◌≤◌, ℕ, zero, suc, ◌+◌, Bool, true, false, List, [], ◌∷◌, ◌++◌, map, Option, Some, None, is_some, ◌==◌, ◌&&◌, ◌||◌, if◌then◌else◌}
use Rattle.std.specs.List.{list_any}
use Rattle.term_values.specs.Trees.{Among, Bytes}
use Rattle.term_values.specs.declared.small.Stamp.{Stamp}
use Rattle.mech_rows.specs.declared.kinds.Role.{Role}
use Rattle.mech_rows.specs.declared.kinds.Role.TheVariants.{P}
use Rattle.mech_rows.specs.Rows.{has_third, pairs_of}
use Rattle.mech_rows.specs.Heads.{Head, name_of, me, IsHead}
use Rattle.mech_rows.specs.Runs.{Run, Got, Step}
use Rattle.mech_rows.specs.declared.outcome.Outcome.{Outcome}
use Rattle.mech_rows.specs.declared.outcome.Outcome.TheVariants.{Going, Done}
use Rattle.mech_rows.specs.Steps.{Sealer, IsStep}
use Rattle.term_values.specs.declared.small.StampKind.{StampKind}
use Rattle.mech_rows.specs.Rings.{Peer, Ring, keys_in}
use Rattle.mech_rows.specs.Openings.{Texts, opened_run, uses}
use Rattle.replay_store.specs.Stamps.{Accepted, stamp_verdict, next_stamp, number_of}
use Rattle.replay_store.specs.declared.verdict.Verdict.TheVariants.{Fit}

-- the first peer of that name is a third party
abbrev pub server_by : List Peer → ℕ → Bool
server_by [] n = false
server_by (p ∷ ps) n = if p.name == n then p.is_server else server_by ps n

-- a ring knows the node's own name and those of its peers
abbrev pub knows : Ring → ℕ → Bool
knows ring n = (n == ring.me) || list_any (λ (p : Peer). p.name == n) ring.peers

-- the name is that of a third party: for the own name the ring says so, for another one the first peer of that name
abbrev pub serves : Ring → ℕ → Bool
serves ring n = if n == ring.me then ring.is_server else server_by ring.peers n

-- what happens at a node: a run is opened, a stamp is issued, a step is committed, a run is dropped, or the node restarts
pub data Event : Type 0 where
  Open : (run : ℕ) → Head → Texts → Event
  Issue : (now : ℕ) → Stamp → Event
  Commit : (run now : ℕ) → Step → Event
  Drop : (run : ℕ) → Event
  Restart : (now last : ℕ) (more : List Got) → Event

-- the events of a node, the newest first
abbrev pub Log : Type 0
Log = List Event

-- the now of an event, where it has one
abbrev pub now_of : Event → Option ℕ
now_of (Open run head texts) = None
now_of (Issue now stamp) = Some now
now_of (Commit run now step) = Some now
now_of (Drop run) = None
now_of (Restart now last more) = Some now

-- a run, and whether it is open
pub record Standing : Type 0 where
  pub run : Run
  pub is_open : Bool

-- the runs by their numbers, which begin at 1
abbrev pub Runs : Type 0
Runs = ℕ → Option Standing

-- what a node is: its ring, the last number that it issued, its now, the stamps that it accepted, its runs, and its log
pub record Node : Type 0 where
  pub ring : Ring
  pub last : ℕ
  pub now : ℕ
  pub accepted : List Accepted
  pub runs : Runs
  pub log : Log

-- a node before its first event
abbrev pub new_node : Ring → ℕ → Node
new_node ring last = record { ring = ring; last = last; now = 0; accepted = []; runs = λ n. None; log = [] }

-- how many runs were opened
abbrev pub opens_in : Log → ℕ
opens_in [] = 0
opens_in (Open run head texts ∷ log) = suc (opens_in log)
opens_in (_ ∷ log) = opens_in log

-- 1 for a run that is open, and else 0
abbrev pub if_open : Option Standing → ℕ
if_open None = 0
if_open (Some s) = if s.is_open then 1 else 0

-- how many of the runs 1 to n are open
abbrev pub open_among : Runs → ℕ → ℕ
open_among runs zero = 0
open_among runs (suc n) = if_open (runs (suc n)) + open_among runs n

-- none of the refusals of an opening: unknown name, wrong kind, own peer, no key, full table
pub record MayOpen (node : Node) (h : Head) : Type 0 where
  pub known : (r : Role) → (r ≡ P → has_third h.mech ≡ true) → knows node.ring (name_of h r) ≡ true
  pub parties : (serves node.ring h.a ≡ false) × (serves node.ring h.b ≡ false)
  pub server : has_third h.mech ≡ true → serves node.ring (name_of h P) ≡ true
  pub peers : h.a ≢ h.b
  pub keyed : (x y : Role) → Among (x, y) (pairs_of h.mech) → uses h.role (x, y) ≡ true → (p : Bytes) × (keys_in node.ring (name_of h x) (name_of h y) ≡ Some p)
  pub few_open : open_among node.runs (opens_in node.log) < 1024
  pub few_opened : opens_in node.log < 4_294_967_295

-- a run is opened with the next number, by the node that its own name names, where nothing refuses it
pub record NeedsOpen (node : Node) (run : ℕ) (h : Head) : Type 0 where
  pub number : run ≡ suc (opens_in node.log)
  pub is_head : IsHead h
  pub own : me h ≡ node.ring.me
  pub may : MayOpen node h

-- now does not fall, and the stamp is the next one
pub record NeedsIssue (node : Node) (now : ℕ) (stamp : Stamp) : Type 0 where
  pub later : node.now ≤ now
  pub is_next : next_stamp node.ring.kind node.last now ≡ Some stamp

-- the log has an Issue of the stamp
abbrev pub WasIssued : Stamp → Log → Type 0
WasIssued stamp log = (now : ℕ) × Among (Issue now stamp) log

-- a Commit of the log has issued it
pub record WasUsed (stamp : Stamp) (log : Log) : Type 0 where
  pub run : ℕ
  pub now : ℕ
  pub step : Step
  pub there : Among (Commit run now step) log
  pub issued : step.issued ≡ Some stamp

-- now does not fall; the run is open and stands as the step says; it is a step with the ring's keys; each stamp to judge is fit at that now; and a stamp that the step issued was issued by the node and used by no earlier commit
pub record NeedsCommit (opens : Sealer) (node : Node) (run now : ℕ) (step : Step) : Type 0 where
  pub later : node.now ≤ now
  pub is_open : node.runs run ≡ Some (record { run = step.before; is_open = true })
  pub is_step : IsStep opens (keys_in node.ring) step
  pub fit : (g : Got) → Among g step.got → stamp_verdict node.ring.window now node.accepted node.ring.kind g.sender g.tagged g.stamp ≡ Fit
  pub issued : (stamp : Stamp) → step.issued ≡ Some stamp → WasIssued stamp node.log × (WasUsed stamp node.log → ⊥)

-- the run is open
pub record NeedsDrop (node : Node) (run : ℕ) : Type 0 where
  pub last : Run
  pub is_open : node.runs run ≡ Some (record { run = last; is_open = true })

-- now is not below that of an earlier event, and the last number does not fall
pub record NeedsRestart (node : Node) (now last : ℕ) : Type 0 where
  pub later : (e : Event) (n : ℕ) → Among e node.log → now_of e ≡ Some n → n ≤ now
  pub no_less : node.last ≤ last

-- what an event needs
abbrev pub Needs : Sealer → Node → Event → Type 0
Needs opens node (Open run head texts) = NeedsOpen node run head
Needs opens node (Issue now stamp) = NeedsIssue node now stamp
Needs opens node (Commit run now step) = NeedsCommit opens node run now step
Needs opens node (Drop run) = NeedsDrop node run
Needs opens node (Restart now last more) = NeedsRestart node now last

-- the runs with that run at number n
abbrev pub put : ℕ → Standing → Runs → Runs
put n s runs m = if n == m then Some s else runs m

-- the run, no longer open
abbrev pub ended : Option Standing → Option Standing
ended None = None
ended (Some s) = Some (record s { is_open = false })

-- the runs with the run of that number ended
abbrev pub end_of : ℕ → Runs → Runs
end_of n runs m = if n == m then ended (runs m) else runs m

-- the run goes on
abbrev pub is_going : Outcome → Bool
is_going Going = true
is_going Done = false

-- the stamp as an accepted one
abbrev pub accepted_of : Got → Accepted
accepted_of g = record { sender = g.sender; tagged = g.tagged; stamp = g.stamp }

-- what an event changes; what isn't named stays
abbrev pub changed : Node → Event → Node
changed node (Open run head texts) = record node { runs = put run (record { run = opened_run head texts; is_open = true }) node.runs; log = Open run head texts ∷ node.log }
changed node (Issue now stamp) = record node { now = now; last = number_of stamp; log = Issue now stamp ∷ node.log }
changed node (Commit run now step) =
    record node {
      now = now;
      runs = put run (record { run = step.after; is_open = is_going step.outcome }) node.runs;
      accepted = map accepted_of step.got ++ node.accepted;
      log = Commit run now step ∷ node.log;
    }
changed node (Drop run) = record node { runs = end_of run node.runs; log = Drop run ∷ node.log }
changed node (Restart now last more) =
    record node {
      now = now;
      last = last;
      runs = λ n. ended (node.runs n);
      accepted = map accepted_of more ++ node.accepted;
      log = Restart now last more ∷ node.log;
    }

-- one event of a node, over a sealing
abbrev pub NodeStep : Sealer → Node → Event → Node → Type 0
NodeStep opens old event new = Needs opens old event × (new ≡ changed old event)

-- the node to which the events lead
abbrev pub node_after : Node → Log → Node
node_after first [] = first
node_after first (e ∷ log) = changed (node_after first log) e

-- the log leads from the first node through such events
abbrev pub IsLegal : Sealer → Node → Log → Type 0
IsLegal opens first [] = Unit {0}
IsLegal opens first (e ∷ log) = IsLegal opens first log × NodeStep opens (node_after first log) e (node_after first (e ∷ log))

-- it holds of each event and each earlier one
abbrev pub EachAndEarlier : (Event → Event → Type 0) → Log → Type 0
EachAndEarlier Ok [] = Unit {0}
EachAndEarlier Ok (e ∷ log) = EachAndEarlier Ok log × ((d : Event) → Among d log → Ok e d)

-- the event is a Commit that had the stamp judged
abbrev pub Judged : Got → Event → Type 0
Judged g (Commit run now step) = Among g step.got
Judged g _ = ⊥

-- the event is a Commit that issued the stamp
abbrev pub Used : Stamp → Event → Type 0
Used stamp (Commit run now step) = step.issued ≡ Some stamp
Used stamp _ = ⊥

-- the event issues the stamp
abbrev pub IsIssue : Stamp → Event → Type 0
IsIssue stamp (Issue now other) = other ≡ stamp
IsIssue stamp _ = ⊥

-- what two commits accepted differs in its sender, its tag or its stamp
abbrev pub AcceptsOnce : Log → Type 0
AcceptsOnce = EachAndEarlier (λ e d. (g k : Got) → Judged g e → Judged k d → accepted_of g ≡ accepted_of k → ⊥)

-- an issued stamp stands in at most one Commit
abbrev pub UsesOnce : Log → Type 0
UsesOnce = EachAndEarlier (λ e d. (stamp : Stamp) → Used stamp e → Used stamp d → ⊥)

-- each issued stamp has a greater number than those before
abbrev pub StampsRise : Log → Type 0
StampsRise = EachAndEarlier (λ e d. (stamp earlier : Stamp) → IsIssue stamp e → IsIssue earlier d → number_of earlier < number_of stamp)

-- now never falls
abbrev pub NowsRise : Log → Type 0
NowsRise = EachAndEarlier (λ e d. (now earlier : ℕ) → now_of e ≡ Some now → now_of d ≡ Some earlier → earlier ≤ now)

-- it holds of each legal log, over the sealing, of a new node with any ring and any first last
abbrev pub OfEachLegalLog : Sealer → (Log → Type 0) → Type 0
OfEachLegalLog opens Holds = (ring : Ring) (last : ℕ) (log : Log) → IsLegal opens (new_node ring last) log → Holds log
