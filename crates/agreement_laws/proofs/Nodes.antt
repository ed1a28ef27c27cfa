-- Laws over legal logs: stamps are accepted once and used once, issued stamps rise, and a run keeps its node's name.
use Rattle.std.proofs.Common.{◌≡◌, ℕ, ◌<◌, ◌≤◌, ◌==◌, [], ◌∷◌, map, Bool, true, false, if◌then◌else◌, refl, sym, ap, subst, ◌∙◌, inl, inr, Option, Some, None, arith}
use Rattle.term_values.specs.Trees.{Among}
use Rattle.term_values.specs.declared.small.Stamp.{Stamp}
use Rattle.mech_rows.specs.Heads.{me}
use Rattle.mech_rows.specs.Runs.{Got, Step}
use Rattle.mech_rows.specs.Steps.{Sealer}
use Rattle.term_values.specs.declared.small.StampKind.{StampKind}
use Rattle.term_values.specs.declared.small.StampKind.TheVariants.{Time as by_time, Seq as by_number}
use Rattle.replay_store.specs.Stamps.{Accepted, stamp_of_kind, next_stamp, last_number, number_of}
use Rattle.agreement_laws.specs.Nodes.{Event, Open, Issue, Commit, Drop, Restart, Log, Standing, Runs, Node, put, ended, accepted_of, changed, Needs, NeedsCommit, node_after, IsLegal, AcceptsOnce, IsIssue, Judged, StampsRise, Used, UsesOnce, NowsRise, now_of}
use Rattle.mech_rows.specs.Openings.{opened_run}
use Rattle.mech_rows.specs.Rings.{Ring}
use Rattle.term_values.proofs.Lists.{map_among, among_left, among_right}
use Rattle.replay_store.proofs.Stamps.{fit_is_new}

-- what an event leaves
pub ring_stays : (node : Node) (e : Event) → (changed node e).ring ≡ node.ring
ring_stays node (Open run head texts) = refl
ring_stays node (Issue now stamp) = refl
ring_stays node (Commit run now step) = refl
ring_stays node (Drop run) = refl
ring_stays node (Restart now last more) = refl

pub rings_stay : (first : Node) (log : Log) → (node_after first log).ring ≡ first.ring
rings_stay first [] = refl
rings_stay first (e ∷ log) = ring_stays (node_after first log) e ∙ rings_stay first log

log_grows : (node : Node) (e : Event) → (changed node e).log ≡ e ∷ node.log
log_grows node (Open run head texts) = refl
log_grows node (Issue now stamp) = refl
log_grows node (Commit run now step) = refl
log_grows node (Drop run) = refl
log_grows node (Restart now last more) = refl

pub log_is : (first : Node) → first.log ≡ [] → (log : Log) → (node_after first log).log ≡ log
log_is first none [] = none
log_is first none (e ∷ log) = log_grows (node_after first log) e ∙ ap (λ (l : Log). e ∷ l) (log_is first none log)

-- what was accepted stays so
accepted_stays : (node : Node) (e : Event) (a : Accepted) → Among a node.accepted → Among a (changed node e).accepted
accepted_stays node (Open run head texts) a i = i
accepted_stays node (Issue now stamp) a i = i
accepted_stays node (Commit run now step) a i = among_right (map accepted_of step.got) node.accepted a i
accepted_stays node (Drop run) a i = i
accepted_stays node (Restart now last more) a i = among_right (map accepted_of more) node.accepted a i

pub commit_accepts : (first : Node) (log : Log) (run now : ℕ) (step : Step) (g : Got) → Among (Commit run now step) log → Among g step.got → Among (accepted_of g) (node_after first log).accepted
commit_accepts first [] run now step g i j = elim i [ ]
commit_accepts first (e ∷ log) run now step g (inl is) j =
    subst (λ (x : Event). Among (accepted_of g) (changed (node_after first log) x).accepted) is (among_left (map accepted_of step.got) (node_after first log).accepted (accepted_of g) (map_among accepted_of step.got g j))
commit_accepts first (e ∷ log) run now step g (inr i) j = accepted_stays (node_after first log) e (accepted_of g) (commit_accepts first log run now step g i j)

-- a Commit accepts nothing that an earlier one accepted
pub accepts_new : (opens : Sealer) (first : Node) (log : Log) (run now : ℕ) (step : Step) → NeedsCommit opens (node_after first log) run now step → (k later : ℕ) (other : Step) → Among (Commit k later other) log → (g d : Got) → Among g step.got → Among d other.got → accepted_of g ≡ accepted_of d → ⊥
accepts_new opens first log run now step needs k later other i g d j l same =
    let node = node_after first log in
    fit_is_new node.ring.window now node.accepted node.ring.kind g.sender g.tagged g.stamp (needs.fit g j)
    (subst (λ (a : Accepted). Among a node.accepted) (sym same) (commit_accepts first log k later other d i l))

-- the runs of a legal log have its node's name
abbrev pub AllOwn : ℕ → Runs → Type 0
AllOwn n runs = (m : ℕ) (s : Standing) → runs m ≡ Some s → me s.run.head ≡ n

put_own : (n : ℕ) (k : ℕ) (s : Standing) (runs : Runs) → me s.run.head ≡ n → AllOwn n runs → AllOwn n (put k s runs)
put_own n k s runs own all m t e = go (k == m) e
  where
    go : (b : Bool) → (if b then Some s else runs m) ≡ Some t → me t.run.head ≡ n
    go true f = let same : s ≡ t = cc in subst (λ (x : Standing). me x.run.head ≡ n) same own
    go false f = all m t f

ended_own : (n : ℕ) (o : Option Standing) → ((s : Standing) → o ≡ Some s → me s.run.head ≡ n) → (t : Standing) → ended o ≡ Some t → me t.run.head ≡ n
ended_own n None all t e = absurd (cc)
ended_own n (Some s) all t e = let same : record s { is_open = false } ≡ t = cc in subst (λ (x : Standing). me x.run.head ≡ n) same (all s refl)

pub runs_are_own : (opens : Sealer) (first : Node) (log : Log) → AllOwn first.ring.me first.runs → IsLegal opens first log → AllOwn first.ring.me (node_after first log).runs
runs_are_own opens first [] start legal = start
runs_are_own opens first (Open run head texts ∷ log) start legal =
    put_own first.ring.me run (record { run = opened_run head texts; is_open = true }) (node_after first log).runs (legal.1.0.own ∙ ap (λ (r : Ring). r.me) (rings_stay first log)) (runs_are_own opens first log start legal.0)
runs_are_own opens first (Issue now stamp ∷ log) start legal = runs_are_own opens first log start legal.0
runs_are_own opens first (Commit run now step ∷ log) start legal =
    put_own first.ring.me run (record { run = step.after; is_open = _ }) (node_after first log).runs
    (ap me legal.1.0.is_step.same_head ∙ runs_are_own opens first log start legal.0 run (record { run = step.before; is_open = true }) legal.1.0.is_open)
    (runs_are_own opens first log start legal.0)
runs_are_own opens first (Drop run ∷ log) start legal = λ m t e. go (run == m) m t (runs_are_own opens first log start legal.0) e
  where
    go : (b : Bool) (m : ℕ) (t : Standing) → AllOwn first.ring.me (node_after first log).runs → (if b then ended ((node_after first log).runs m) else (node_after first log).runs m) ≡ Some t → me t.run.head ≡ first.ring.me
    go true m t all e = ended_own first.ring.me ((node_after first log).runs m) (λ s f. all m s f) t e
    go false m t all e = all m t e
runs_are_own opens first (Restart now last more ∷ log) start legal = λ m t e. ended_own first.ring.me ((node_after first log).runs m) (λ s f. runs_are_own opens first log start legal.0 m s f) t e

-- issued stamps rise
raises : (kind : StampKind) (last now : ℕ) (stamp : Stamp) → next_stamp kind last now ≡ Some stamp → last < number_of stamp
raises kind last now stamp e = go (last == last_number) e
  where
    by_kind : (k : StampKind) → last < number_of (stamp_of_kind k last now)
    by_kind by_time = omega arith
    by_kind by_number = omega arith

    go : (b : Bool) → (if b then None else Some (stamp_of_kind kind last now)) ≡ Some stamp → last < number_of stamp
    go true f = absurd (cc)
    go false f = let same : stamp_of_kind kind last now ≡ stamp = cc in subst (λ (x : Stamp). last < number_of x) same (by_kind kind)

last_rises : (opens : Sealer) (node : Node) (e : Event) → Needs opens node e → node.last ≤ (changed node e).last
last_rises opens node (Open run head texts) needs = omega arith
last_rises opens node (Issue now stamp) needs = let l = raises node.ring.kind node.last now stamp needs.is_next in omega (arith, l)
last_rises opens node (Commit run now step) needs = omega arith
last_rises opens node (Drop run) needs = omega arith
last_rises opens node (Restart now last more) needs = needs.no_less

issued_below : (opens : Sealer) (first : Node) (log : Log) → IsLegal opens first log → (now : ℕ) (stamp : Stamp) → Among (Issue now stamp) log → number_of stamp ≤ (node_after first log).last
issued_below opens first [] legal now stamp i = elim i [ ]
issued_below opens first (e ∷ log) legal now stamp (inl is) =
    subst (λ (x : Event). number_of stamp ≤ (changed (node_after first log) x).last) is (omega arith)
issued_below opens first (e ∷ log) legal now stamp (inr i) =
    let l = issued_below opens first log legal.0 now stamp i in
    let m = last_rises opens (node_after first log) e legal.1.0 in
    omega (arith, l, m)

pub stamps_rise : (opens : Sealer) (first : Node) (log : Log) → IsLegal opens first log → (now : ℕ) (stamp : Stamp) → Needs opens (node_after first log) (Issue now stamp) → (earlier : ℕ) (other : Stamp) → Among (Issue earlier other) log → number_of other < number_of stamp
stamps_rise opens first log legal now stamp needs earlier other i =
    let l = issued_below opens first log legal earlier other i in
    let m = raises (node_after first log).ring.kind (node_after first log).last now stamp needs.is_next in
    omega (arith, l, m)

-- the three laws over whole logs
commit_new : (opens : Sealer) (first : Node) (log : Log) (run now : ℕ) (step : Step) → NeedsCommit opens (node_after first log) run now step → (g : Got) → Among g step.got → (d : Event) → Among d log → (k : Got) → Judged k d → accepted_of g ≡ accepted_of k → ⊥
commit_new opens first log run now step needs g j (Commit r n other) i k l same = accepts_new opens first log run now step needs r n other i g k j l same
commit_new opens first log run now step needs g j (Open r h ts) i k l same = l
commit_new opens first log run now step needs g j (Issue n x) i k l same = l
commit_new opens first log run now step needs g j (Drop r) i k l same = l
commit_new opens first log run now step needs g j (Restart n x more) i k l same = l

event_new : (opens : Sealer) (first : Node) (log : Log) (e : Event) → Needs opens (node_after first log) e → (d : Event) → Among d log → (g k : Got) → Judged g e → Judged k d → accepted_of g ≡ accepted_of k → ⊥
event_new opens first log (Commit run now step) needs d i g k j l same = commit_new opens first log run now step needs g j d i k l same
event_new opens first log (Open r h ts) needs d i g k j l same = j
event_new opens first log (Issue n x) needs d i g k j l same = j
event_new opens first log (Drop r) needs d i g k j l same = j
event_new opens first log (Restart n x more) needs d i g k j l same = j

pub accepts_once : (opens : Sealer) (first : Node) (log : Log) → IsLegal opens first log → AcceptsOnce log
accepts_once opens first [] legal = tt
accepts_once opens first (e ∷ log) legal = (accepts_once opens first log legal.0, event_new opens first log e legal.1.0)

use_new : (opens : Sealer) (first : Node) (log : Log) → first.log ≡ [] → (run now : ℕ) (step : Step) → NeedsCommit opens (node_after first log) run now step → (x : Stamp) → step.issued ≡ Some x → (d : Event) → Among d log → Used x d → ⊥
use_new opens first log empty run now step needs x e (Commit r n other) i u =
    (needs.issued x e).1 (record { run = r; now = n; step = other; there = subst (Among (Commit r n other)) (sym (log_is first empty log)) i; issued = u })
use_new opens first log empty run now step needs x e (Open r h ts) i u = u
use_new opens first log empty run now step needs x e (Issue n y) i u = u
use_new opens first log empty run now step needs x e (Drop r) i u = u
use_new opens first log empty run now step needs x e (Restart n y more) i u = u

use_of_event : (opens : Sealer) (first : Node) (log : Log) → first.log ≡ [] → (e : Event) → Needs opens (node_after first log) e → (d : Event) → Among d log → (x : Stamp) → Used x e → Used x d → ⊥
use_of_event opens first log empty (Commit run now step) needs d i x u v = use_new opens first log empty run now step needs x u d i v
use_of_event opens first log empty (Open r h ts) needs d i x u v = u
use_of_event opens first log empty (Issue n y) needs d i x u v = u
use_of_event opens first log empty (Drop r) needs d i x u v = u
use_of_event opens first log empty (Restart n y more) needs d i x u v = u

pub uses_once : (opens : Sealer) (first : Node) (log : Log) → first.log ≡ [] → IsLegal opens first log → UsesOnce log
uses_once opens first [] empty legal = tt
uses_once opens first (e ∷ log) empty legal = (uses_once opens first log empty legal.0, use_of_event opens first log empty e legal.1.0)

issue_rises : (opens : Sealer) (first : Node) (log : Log) → IsLegal opens first log → (now : ℕ) (y : Stamp) → Needs opens (node_after first log) (Issue now y) → (d : Event) → Among d log → (z : Stamp) → IsIssue z d → number_of z < number_of y
issue_rises opens first log legal now y needs (Issue n z) i v e = subst (λ (x : Stamp). number_of x < number_of y) e (stamps_rise opens first log legal now y needs n z i)
issue_rises opens first log legal now y needs (Commit r n other) i z e = elim e [ ]
issue_rises opens first log legal now y needs (Open r h ts) i z e = elim e [ ]
issue_rises opens first log legal now y needs (Drop r) i z e = elim e [ ]
issue_rises opens first log legal now y needs (Restart n x more) i z e = elim e [ ]

event_rises : (opens : Sealer) (first : Node) (log : Log) → IsLegal opens first log → (e : Event) → Needs opens (node_after first log) e → (d : Event) → Among d log → (y z : Stamp) → IsIssue y e → IsIssue z d → number_of z < number_of y
event_rises opens first log legal (Issue now x) needs d i y z e f = subst (λ (s : Stamp). number_of z < number_of s) e (issue_rises opens first log legal now x needs d i z f)
event_rises opens first log legal (Commit r n other) needs d i y z e f = elim e [ ]
event_rises opens first log legal (Open r h ts) needs d i y z e f = elim e [ ]
event_rises opens first log legal (Drop r) needs d i y z e f = elim e [ ]
event_rises opens first log legal (Restart n x more) needs d i y z e f = elim e [ ]

pub all_rise : (opens : Sealer) (first : Node) (log : Log) → IsLegal opens first log → StampsRise log
all_rise opens first [] legal = tt
all_rise opens first (e ∷ log) legal = (all_rise opens first log legal.0, event_rises opens first log legal.0 e legal.1.0)

-- now never falls
now_rises : (opens : Sealer) (first : Node) (e : Event) (log : Log) → first.log ≡ [] → Needs opens (node_after first log) e → ((d : Event) (m : ℕ) → Among d log → now_of d ≡ Some m → m ≤ (node_after first log).now) → (d : Event) (m : ℕ) → Among d log → now_of d ≡ Some m → m ≤ (changed (node_after first log) e).now
now_rises opens first (Open run head texts) log empty needs below d m i f = below d m i f
now_rises opens first (Issue now x) log empty needs below d m i f = let l = below d m i f in let k = needs.later in omega (arith, l, k)
now_rises opens first (Commit run now step) log empty needs below d m i f = let l = below d m i f in let k = needs.later in omega (arith, l, k)
now_rises opens first (Drop run) log empty needs below d m i f = below d m i f
now_rises opens first (Restart now last more) log empty needs below d m i f = needs.later d m (subst (Among d) (sym (log_is first empty log)) i) f

own_now : (node : Node) (e : Event) (m : ℕ) → now_of e ≡ Some m → m ≤ (changed node e).now
own_now node (Open run head texts) m f = absurd (cc)
own_now node (Issue now x) m f = same now m f
  where
    same : (a b : ℕ) → Some a ≡ Some b → b ≤ a
    same a b g = let h : a ≡ b = cc in omega (arith, h)
own_now node (Commit run now step) m f = same now m f
  where
    same : (a b : ℕ) → Some a ≡ Some b → b ≤ a
    same a b g = let h : a ≡ b = cc in omega (arith, h)
own_now node (Drop run) m f = absurd (cc)
own_now node (Restart now last more) m f = same now m f
  where
    same : (a b : ℕ) → Some a ≡ Some b → b ≤ a
    same a b g = let h : a ≡ b = cc in omega (arith, h)

pub nows_below : (opens : Sealer) (first : Node) → first.log ≡ [] → (log : Log) → IsLegal opens first log → (d : Event) (m : ℕ) → Among d log → now_of d ≡ Some m → m ≤ (node_after first log).now
nows_below opens first empty [] legal d m i f = elim i [ ]
nows_below opens first empty (e ∷ log) legal d m (inl is) f = own_now (node_after first log) e m (sym (ap now_of is) ∙ f)
nows_below opens first empty (e ∷ log) legal d m (inr i) f = now_rises opens first e log empty legal.1.0 (nows_below opens first empty log legal.0) d m i f

now_of_event : (opens : Sealer) (first : Node) → first.log ≡ [] → (log : Log) → IsLegal opens first log → (e : Event) → Needs opens (node_after first log) e → (d : Event) → Among d log → (n m : ℕ) → now_of e ≡ Some n → now_of d ≡ Some m → m ≤ n
now_of_event opens first empty log legal e needs d i n m f g = go e needs f
  where
    below : m ≤ (node_after first log).now
    below = nows_below opens first empty log legal d m i g

    with_later : (now : ℕ) → (node_after first log).now ≤ now → Some now ≡ Some n → m ≤ n
    with_later now l h = let k : now ≡ n = cc in omega (arith, below, l, k)

    restarted : (now : ℕ) → m ≤ now → Some now ≡ Some n → m ≤ n
    restarted now l h = let k : now ≡ n = cc in omega (arith, l, k)

    go : (x : Event) → Needs opens (node_after first log) x → now_of x ≡ Some n → m ≤ n
    go (Open run head texts) w h = absurd (cc)
    go (Issue now x) w h = with_later now w.later h
    go (Commit run now step) w h = with_later now w.later h
    go (Drop run) w h = absurd (cc)
    go (Restart now last more) w h = restarted now (w.later d m (subst (Among d) (sym (log_is first empty log)) i) g) h

pub nows_rise : (opens : Sealer) (first : Node) → first.log ≡ [] → (log : Log) → IsLegal opens first log → NowsRise log
nows_rise opens first empty [] legal = tt
nows_rise opens first empty (e ∷ log) legal = (nows_rise opens first empty log legal.0, now_of_event opens first empty log legal.0 e legal.1.0)
