-- The trace of a world meets the conditions from which the laws follow.
use Rattle.std.proofs.Common.{◌≡◌, ℕ, suc, ◌≤◌, ◌==◌, List, [], ◌∷◌, Bool, true, false, ◌&&◌, if◌then◌else◌, refl, sym, ap, subst, ◌∙◌, inl, inr, Option, Some, None, arith, eqb-true, eq-eqb}
use Rattle.term_values.specs.Trees.{text, stamp, Among, Bytes, Tree}
use Rattle.term_values.specs.declared.small.Stamp.{Stamp}
use Rattle.mech_rows.specs.Rows.{row_of, kind_of}
use Rattle.mech_rows.specs.declared.kinds.Kind.TheVariants.{Text as a_text}
use Rattle.mech_rows.specs.declared.kinds.Kind.{Kind}
use Rattle.mech_rows.specs.declared.kinds.Slot.{Slot}
use Rattle.mech_rows.specs.Heads.{Head, me}
use Rattle.mech_rows.specs.Runs.{Run, Got, Step, HasKind}
use Rattle.mech_rows.specs.Steps.{symbolic, IsStep}
use Rattle.agreement_laws.specs.Configs.{Config, IsLawful}
use Rattle.agreement_laws.specs.Traces.{RunId, current, Happening, Steps}
use Rattle.agreement_laws.specs.Nodes.{accepted_of, opens_in, Event, Open, Issue, Commit, Drop, Restart, Log, Standing, Node, new_node, put, ended, Needs, node_after, IsLegal, is_going, NeedsCommit}
use Rattle.mech_rows.specs.Openings.{is_text, Texts, opened_run, sends_slot, text_for}
use Rattle.mech_rows.specs.Rings.{keys_in, Ring}
use Rattle.agreement_laws.specs.Worlds.{Entry, At, Reveal, ring_of, log_of, node_of, run_id, trace, IsWorld}
use Rattle.agreement_laws.proofs.Traces.{AcceptsNew, IsOpening, IsTrace, IssuesNew}
use Rattle.term_values.proofs.Lists.{and_left}
use Rattle.agreement_laws.proofs.Nodes.{rings_stay, log_is, runs_are_own, AllOwn, accepts_new}
use Rattle.mech_rows.proofs.Judged.{drawn_stamp, judged_stamp}
use Rattle.agreement_laws.proofs.Rings.{ring_step}

abbrev pub run_of : Option Standing → Option Run
run_of None = None
run_of (Some s) = Some s.run

run_of_ended : (o : Option Standing) → run_of (ended o) ≡ run_of o
run_of_ended None = refl
run_of_ended (Some s) = refl

-- one more event of a log that is this run's party's, or of another
event_shows : (first : Node) (log : Log) (m : ℕ) (o : Option Run) → run_of ((node_after first log).runs m) ≡ o → (b : Bool) (k : ℕ) (s : Standing) → run_of (if b then put k s (node_after first log).runs m else (node_after first log).runs m) ≡ (if b && (k == m) then Some s.run else o)
event_shows first log m o e false k s = e
event_shows first log m o e true k s = go (k == m)
  where
    go : (d : Bool) → run_of (if d then Some s else (node_after first log).runs m) ≡ (if d then Some s.run else o)
    go true = refl
    go false = e

was_there : (o : Option Standing) (s : Standing) → ended o ≡ Some s → (t : Standing) × (o ≡ Some t)
was_there None s e = absurd (cc)
was_there (Some t) s e = (t, refl)

-- the runs of the nodes are those of the trace
module _ (first : Node) (log : Log) (m : ℕ) (o : Option Run) (e : run_of ((node_after first log).runs m) ≡ o) where
  by_open : (b : Bool) (k : ℕ) (head : Head) (texts : Texts) → run_of ((node_after first (if b then Open k head texts ∷ log else log)).runs m) ≡ (if b && (k == m) then Some (opened_run head texts) else o)
  by_open false k head texts = e
  by_open true k head texts = event_shows first log m o e true k (record { run = opened_run head texts; is_open = true })

  by_issue : (b : Bool) (now : ℕ) (x : Stamp) → run_of ((node_after first (if b then Issue now x ∷ log else log)).runs m) ≡ o
  by_issue false now x = e
  by_issue true now x = e

  by_commit : (b : Bool) (k now : ℕ) (step : Step) → run_of ((node_after first (if b then Commit k now step ∷ log else log)).runs m) ≡ (if b && (k == m) then Some step.after else o)
  by_commit false k now step = e
  by_commit true k now step = event_shows first log m o e true k (record { run = step.after; is_open = is_going step.outcome })

  by_drop : (b : Bool) (k : ℕ) → run_of ((node_after first (if b then Drop k ∷ log else log)).runs m) ≡ o
  by_drop false k = e
  by_drop true k = go (k == m)
    where
      go : (d : Bool) → run_of (if d then ended ((node_after first log).runs m) else (node_after first log).runs m) ≡ o
      go true = run_of_ended ((node_after first log).runs m) ∙ e
      go false = e

  by_restart : (b : Bool) (now last : ℕ) (more : List Got) → run_of ((node_after first (if b then Restart now last more ∷ log else log)).runs m) ≡ o
  by_restart false now last more = e
  by_restart true now last more = run_of_ended ((node_after first log).runs m) ∙ e

pub run_at : (c : Config) (n m : ℕ) (h : List Entry) → run_of ((node_of c n h).runs m) ≡ current (trace h) (run_id n m)
run_at c n m [] = refl
run_at c n m (Reveal id ∷ h) = run_at c n m h
run_at c n m (At k (Open run head texts) ∷ h) = by_open (new_node (ring_of c n) 0) (log_of n h) m (current (trace h) (run_id n m)) (run_at c n m h) (k == n) run head texts
run_at c n m (At k (Issue now x) ∷ h) = by_issue (new_node (ring_of c n) 0) (log_of n h) m (current (trace h) (run_id n m)) (run_at c n m h) (k == n) now x
run_at c n m (At k (Commit run now step) ∷ h) = by_commit (new_node (ring_of c n) 0) (log_of n h) m (current (trace h) (run_id n m)) (run_at c n m h) (k == n) run now step
run_at c n m (At k (Drop run) ∷ h) = by_drop (new_node (ring_of c n) 0) (log_of n h) m (current (trace h) (run_id n m)) (run_at c n m h) (k == n) run
run_at c n m (At k (Restart now last more) ∷ h) = by_restart (new_node (ring_of c n) 0) (log_of n h) m (current (trace h) (run_id n m)) (run_at c n m h) (k == n) now last more

-- the logs of a world are legal
pub logs_are_legal : (c : Config) (h : List Entry) → IsWorld c h → (n : ℕ) → IsLegal symbolic (new_node (ring_of c n) 0) (log_of n h)
logs_are_legal c [] w n = tt
logs_are_legal c (Reveal id ∷ h) w n = logs_are_legal c h w.0 n
logs_are_legal c (At k e ∷ h) w n = go (k == n) refl (logs_are_legal c h w.0 n)
  where
    go : (b : Bool) → (k == n) ≡ b → IsLegal symbolic (new_node (ring_of c n) 0) (log_of n h) → IsLegal symbolic (new_node (ring_of c n) 0) (if b then e ∷ log_of n h else log_of n h)
    go true f legal = (legal, (subst (λ (x : ℕ). Needs symbolic (node_of c x h) e) (eqb-true k n f) w.1.needs, refl))
    go false f legal = legal

pub own_runs : (c : Config) (h : List Entry) → IsWorld c h → (n : ℕ) → AllOwn n (node_of c n h).runs
own_runs c h w n = runs_are_own symbolic (new_node (ring_of c n) 0) (log_of n h) (λ m s e. absurd (cc)) (logs_are_legal c h w n)

node_log : (c : Config) (n : ℕ) (h : List Entry) → (node_of c n h).log ≡ log_of n h
node_log c n h = log_is (new_node (ring_of c n) 0) refl (log_of n h)

-- where a step of the trace stands
pub record StandsAt (c : Config) (h : List Entry) (id : RunId) (step : Step) : Type 0 where
  pub now : ℕ
  pub logged : Among (Commit id.number now step) (log_of id.party h)
  pub own : me step.before.head ≡ id.party
  pub is_step : IsStep symbolic (keys_in (ring_of c id.party)) step

more_logged : (k n : ℕ) (e x : Event) (h : List Entry) → Among x (log_of n h) → Among x (log_of n (At k e ∷ h))
more_logged k n e x h i = go (k == n)
  where
    go : (b : Bool) → Among x (if b then e ∷ log_of n h else log_of n h)
    go true = inr i
    go false = i

stands_later : (c : Config) (k : ℕ) (e : Event) (h : List Entry) (id : RunId) (step : Step) → StandsAt c h id step → StandsAt c (At k e ∷ h) id step
stands_later c k e h id step s = record { now = s.now; logged = more_logged k id.party e (Commit id.number s.now step) h s.logged; own = s.own; is_step = s.is_step }

abbrev Stands : Config → List Entry → Happening → Type 0
Stands c h (Steps id step) = StandsAt c h id step
Stands c h _ = Unit {0}

ring_is : (c : Config) (n : ℕ) (h : List Entry) → (node_of c n h).ring ≡ ring_of c n
ring_is c n h = rings_stay (new_node (ring_of c n) 0) (log_of n h)

commit_stands : (c : Config) (h : List Entry) → IsWorld c h → (k run now : ℕ) (step : Step) → NeedsCommit symbolic (node_of c k h) run now step → StandsAt c (At k (Commit run now step) ∷ h) (run_id k run) step
commit_stands c h w k run now step needs =
    record {
      now = now;
      logged = here (k == k) (eq-eqb k k refl);
      own = own_runs c h w k run (record { run = step.before; is_open = true }) needs.is_open;
      is_step = subst (λ (r : Ring). IsStep symbolic (keys_in r) step) (ring_is c k h) needs.is_step;
    }
  where
    here : (b : Bool) → b ≡ true → Among (Commit run now step) (if b then Commit run now step ∷ log_of k h else log_of k h)
    here true e = inl refl
    here false e = absurd (cc)

pub stands : (c : Config) (h : List Entry) → IsWorld c h → (id : RunId) (step : Step) → Among (Steps id step) (trace h) → StandsAt c h id step
stands c [] w id step i = elim i [ ]
stands c (Reveal n ∷ h) w id step (inl is) = absurd (cc)
stands c (Reveal n ∷ h) w id step (inr i) = let s = stands c h w.0 id step i in record { now = s.now; logged = s.logged; own = s.own; is_step = s.is_step }
stands c (At k (Open run head texts) ∷ h) w id step (inl is) = absurd (cc)
stands c (At k (Open run head texts) ∷ h) w id step (inr i) = stands_later c k (Open run head texts) h id step (stands c h w.0 id step i)
stands c (At k (Issue now x) ∷ h) w id step i = stands_later c k (Issue now x) h id step (stands c h w.0 id step i)
stands c (At k (Commit run now other) ∷ h) w id step (inl is) = subst (Stands c (At k (Commit run now other) ∷ h)) (sym is) (commit_stands c h w.0 k run now other w.1.needs)
stands c (At k (Commit run now other) ∷ h) w id step (inr i) = stands_later c k (Commit run now other) h id step (stands c h w.0 id step i)
stands c (At k (Drop run) ∷ h) w id step i = stands_later c k (Drop run) h id step (stands c h w.0 id step i)
stands c (At k (Restart now last more) ∷ h) w id step i = stands_later c k (Restart now last more) h id step (stands c h w.0 id step i)

-- runs have the numbers of the openings
numbered : (first : Node) → ((m : ℕ) → first.runs m ≡ None) → (log : Log) → IsLegal symbolic first log → first.log ≡ [] → (m : ℕ) (s : Standing) → (node_after first log).runs m ≡ Some s → m ≤ opens_in log
numbered first none [] legal empty m s e = let no : None ≡ Some s = sym (none m) ∙ e in absurd (cc)
numbered first none (Open run head texts ∷ log) legal empty m s e = go (run == m) refl e (numbered first none log legal.0 empty m s)
  where
    go : (b : Bool) → (run == m) ≡ b → (if b then Some (record { run = opened_run head texts; is_open = true }) else (node_after first log).runs m) ≡ Some s → ((node_after first log).runs m ≡ Some s → m ≤ opens_in log) → m ≤ suc (opens_in log)
    go true f g rest =
        let is : run ≡ m = eqb-true run m f in
        let number : run ≡ suc (opens_in (node_after first log).log) = legal.1.0.number in
        let the_log : opens_in (node_after first log).log ≡ opens_in log = ap opens_in (log_is first empty log) in
        omega (arith, is, number, the_log)
    go false f g rest = let l = rest g in omega (arith, l)
numbered first none (Issue now x ∷ log) legal empty m s e = numbered first none log legal.0 empty m s e
numbered first none (Commit run now step ∷ log) legal empty m s e = go (run == m) refl e (numbered first none log legal.0 empty)
  where
    go : (b : Bool) → (run == m) ≡ b → (if b then Some (record { run = step.after; is_open = is_going step.outcome }) else (node_after first log).runs m) ≡ Some s → ((k : ℕ) (t : Standing) → (node_after first log).runs k ≡ Some t → k ≤ opens_in log) → m ≤ opens_in log
    go true f g rest = subst (λ (k : ℕ). k ≤ opens_in log) (eqb-true run m f) (rest run (record { run = step.before; is_open = true }) legal.1.0.is_open)
    go false f g rest = rest m s g
numbered first none (Drop run ∷ log) legal empty m s e = go (run == m) e (numbered first none log legal.0 empty m)
  where
    go : (b : Bool) → (if b then ended ((node_after first log).runs m) else (node_after first log).runs m) ≡ Some s → ((t : Standing) → (node_after first log).runs m ≡ Some t → m ≤ opens_in log) → m ≤ opens_in log
    go true f rest = let t = was_there ((node_after first log).runs m) s f in rest t.0 t.1
    go false f rest = rest s f
numbered first none (Restart now last more ∷ log) legal empty m s e = let t = was_there ((node_after first log).runs m) s e in numbered first none log legal.0 empty m t.0 t.1

opening_is_new : (c : Config) (h : List Entry) → IsWorld c h → (n run : ℕ) (head : Head) (texts : Texts) → Needs symbolic (node_of c n h) (Open run head texts) → current (trace h) (run_id n run) ≡ None
opening_is_new c h w n run head texts needs = sym (run_at c n run h) ∙ go ((node_of c n h).runs run) refl
  where
    go : (o : Option Standing) → (node_of c n h).runs run ≡ o → run_of ((node_of c n h).runs run) ≡ None
    go None e = ap run_of e
    go (Some s) e =
        let few : run ≤ opens_in (log_of n h) = numbered (new_node (ring_of c n) 0) (λ m. refl) (log_of n h) (logs_are_legal c h w n) refl run s e in
        let number : run ≡ suc (opens_in (node_of c n h).log) = needs.number in
        let the_log : opens_in (node_of c n h).log ≡ opens_in (log_of n h) = ap opens_in (node_log c n h) in
        absurd (omega (arith, few, number, the_log))

opening_ok : (head : Head) (texts : Texts) → IsOpening (opened_run head texts)
opening_ok head texts = record { first = refl; texts = λ s t e. go s t (is_text (kind_of s) && sends_slot head.role s (row_of head.mech)) refl e }
  where
    text_kind : (k : Kind) → is_text k ≡ true → k ≡ a_text
    text_kind a_text e = refl
    text_kind _ e = absurd (cc)

    go : (s : Slot) (t : Tree) (b : Bool) → (is_text (kind_of s) && sends_slot head.role s (row_of head.mech)) ≡ b → (if b then Some (text (text_for texts s)) else None) ≡ Some t → (kind_of s ≡ a_text) × HasKind a_text t
    go s t true f e = (text_kind (kind_of s) (and_left (is_text (kind_of s)) (sends_slot head.role s (row_of head.mech)) f), (text_for texts s, cc))
    go s t false f e = absurd (cc)

module _ (c : Config) (h : List Entry) (w : IsWorld c h) (n run now : ℕ) (step : Step) (needs : NeedsCommit symbolic (node_of c n h) run now step) where
  mine : me step.before.head ≡ n
  mine = own_runs c h w n run (record { run = step.before; is_open = true }) needs.is_open

  -- a step of the same party stands in the same log
  in_log : (id : RunId) (other : Step) (s : StandsAt c h id other) → me other.before.head ≡ me step.before.head → Among (Commit id.number s.now other) (log_of n h)
  in_log id other s e = subst (λ (x : ℕ). Among (Commit id.number s.now other) (log_of x h)) (sym s.own ∙ (e ∙ mine)) s.logged

  issues_new : IssuesNew (trace h) step
  issues_new s u t id other k l d there party e =
      let at = stands c h w id other there in
      let a = drawn_stamp symbolic (keys_in (node_of c n h).ring) step needs.is_step s t k d in
      let b = drawn_stamp symbolic (keys_in (ring_of c id.party)) other at.is_step u t l e in
      let same : a.drawn ≡ b.drawn = stamp_inj a.drawn b.drawn (sym a.is ∙ b.is) in
      (needs.issued a.drawn a.issued).1 (record {
        run = id.number;
        now = at.now;
        step = other;
        there = subst (Among (Commit id.number at.now other)) (sym (node_log c n h)) (in_log id other at party);
        issued = b.issued ∙ ap Some (sym same);
      })
    where
      stamp_inj : (x y : Stamp) → stamp x ≡ stamp y → x ≡ y
      stamp_inj x y e = cc

  accepts_are_new : AcceptsNew (trace h) step
  accepts_are_new sender tag t id other j there party k =
      let at = stands c h w id other there in
      let a = judged_stamp symbolic (keys_in (node_of c n h).ring) step needs.is_step sender tag t j in
      let b = judged_stamp symbolic (keys_in (ring_of c id.party)) other at.is_step sender tag t k in
      accepts_new symbolic (new_node (ring_of c n) 0) (log_of n h) run now step needs id.number at.now other (in_log id other at party) a.got b.got a.there b.there
      (same_accepted a.got b.got (sym a.by ∙ b.by) (bytes_inj a.got.tagged b.got.tagged (sym a.under ∙ b.under)) (stamp_inj a.got.stamp b.got.stamp (sym a.is ∙ b.is)))
    where
      stamp_inj : (x y : Stamp) → stamp x ≡ stamp y → x ≡ y
      stamp_inj x y e = cc

      bytes_inj : (x y : Bytes) → Some x ≡ Some y → x ≡ y
      bytes_inj x y e = cc

      same_accepted : (g d : Got) → g.sender ≡ d.sender → g.tagged ≡ d.tagged → g.stamp ≡ d.stamp → accepted_of g ≡ accepted_of d
      same_accepted g d e f k = λ i. record { sender = e i; tagged = f i; stamp = k i }

-- the trace of a world
pub world_trace : (c : Config) → IsLawful c → (h : List Entry) → IsWorld c h → IsTrace c (trace h)
world_trace c lawful [] w = tt
world_trace c lawful (Reveal id ∷ h) w = (world_trace c lawful h w.0, record { run = w.1.run; runs = w.1.runs; done = w.1.done })
world_trace c lawful (At n (Open run head texts) ∷ h) w = (world_trace c lawful h w.0, (opening_is_new c h w.0 n run head texts w.1.needs, opening_ok head texts))
world_trace c lawful (At n (Issue now x) ∷ h) w = world_trace c lawful h w.0
world_trace c lawful (At n (Commit run now step) ∷ h) w = (
  world_trace c lawful h w.0,
  record {
    runs = sym (run_at c n run h) ∙ ap run_of w.1.needs.is_open;
    is_step = ring_step c lawful n step (mine c h w.0 n run now step w.1.needs) (subst (λ (r : Ring). IsStep symbolic (keys_in r) step) (ring_is c n h) w.1.needs.is_step);
    delivered = w.1.network.0;
    fresh = w.1.network.1;
    issues = issues_new c h w.0 n run now step w.1.needs;
    accepts = accepts_are_new c h w.0 n run now step w.1.needs;
  },
)
world_trace c lawful (At n (Drop run) ∷ h) w = world_trace c lawful h w.0
world_trace c lawful (At n (Restart now last more) ∷ h) w = world_trace c lawful h w.0

-- a run is its party's
pub owned : (c : Config) (h : List Entry) → IsWorld c h → (id : RunId) (r : Run) → current (trace h) id ≡ Some r → me r.head ≡ id.party
owned c h w id r is = go ((node_of c id.party h).runs id.number) refl (run_at c id.party id.number h ∙ is)
  where
    go : (o : Option Standing) → (node_of c id.party h).runs id.number ≡ o → run_of ((node_of c id.party h).runs id.number) ≡ Some r → me r.head ≡ id.party
    go None e f = let bad : None ≡ Some r = sym (ap run_of e) ∙ f in absurd (cc)
    go (Some s) e f = let same : Some s.run ≡ Some r = sym (ap run_of e) ∙ f in subst (λ (x : Run). me x.head ≡ id.party) (run_inj s.run r same) (own_runs c h w id.party id.number s e)
      where
        run_inj : (x y : Run) → Some x ≡ Some y → x ≡ y
        run_inj x y e = cc
