-- What a world keeps when nothing of the runs that have a number changes.
use Rattle.std.proofs.Common.{◌≡◌, ◌==◌, ◌<◌, ◌≤◌, ◌+◌, ℕ, suc, max, Bool, true, false, if◌then◌else◌, cond, List, [], ◌∷◌, ◌++◌, length, map, reverse, count_by, Option, Some, None, refl, sym, ap, subst, ◌∙◌, inl, inr, arith, eqb-true}
use Rattle.std.proofs.lemmas.List.{append-nil, append_assoc}
use Rattle.std.proofs.lemmas.List.Sums.{count_by-le-length}
use Rattle.term_values.specs.Trees.{Among, Tree, part}
use Rattle.term_values.specs.declared.small.Stamp.{Stamp}
use Rattle.term_values.proofs.Lists.{among_append}
use Rattle.mech_rows.specs.Openings.{opened_state}
use Rattle.mech_rows.specs.Verdict.{State}
use Rattle.agreement_laws.specs.Configs.{Config, revealed_parts}
use Rattle.agreement_laws.specs.Nodes.{Node, changed, is_going}
use Rattle.agreement_laws.specs.Traces.{RunId}
use Rattle.agreement_laws.specs.Worlds.{ring_of, trace}
use Rattle.node_desk.specs.declared.event.Event.{Event}
use Rattle.node_desk.specs.declared.event.Event.TheVariants.{Open, Issue, Commit, Drop, Restart}
use Rattle.node_desk.specs.Desks.{node_at, node_of}
use Rattle.node_desk.specs.Events.{event_of}
use Rattle.node_desk.specs.Helds.{held_by, no_longer}
use Rattle.node_desk.proofs.Logs.{node_of-snoc}
use Rattle.world_run.specs.declared.scene.Scene.{Scene}
use Rattle.world_run.specs.Clocks.{clock_in}
use Rattle.world_run.specs.Kept.{HasStepped, IsGenuine, IsStepOf, IsKept, is_running, running_in, view_of}
use Rattle.world_run.specs.Parties.{PartiesView}
use Rattle.world_run.specs.Turns.{desk_in, made_by, moment, next_message, stamp_due, with_issue}
use Rattle.world_run.specs.Views.{Act, act, acts_of, entries, held_in, known_in, revealed_names, Shown, shown_as, shown_from, sent_in, told_by, told_of, Told, WorldView}
use Rattle.world_run.proofs.Acts.{acts_of_own, entries_snoc, held_own, held_other, sent_snoc}

-- ---- what is told of runs

pub shown_snoc : (acts : List Act) (k : ℕ) (ids : List RunId) (id : RunId) → shown_from acts k (ids ++ id ∷ []) ≡ shown_from acts k ids ++ shown_as (k + length ids) (held_in acts id)
shown_snoc acts k [] id = append-nil (shown_as k (held_in acts id)) ∙ ap (λ (m : ℕ). shown_as m (held_in acts id)) (omega arith)
shown_snoc acts k (i ∷ ids) id =
    ap (λ (xs : List Shown). shown_as k (held_in acts i) ++ xs) (shown_snoc acts (suc k) ids id)
    ∙ (sym (append_assoc (shown_as k (held_in acts i)) (shown_from acts (suc k) ids) (shown_as (suc k + length ids) (held_in acts id)))
    ∙ ap (λ (m : ℕ). (shown_as k (held_in acts i) ++ shown_from acts (suc k) ids) ++ shown_as m (held_in acts id)) (omega arith))

-- these runs stand as before
abbrev pub StandAs : List Act → List Act → List RunId → Type 0
StandAs acts more ids = (id : RunId) → Among id ids → held_in more id ≡ held_in acts id

pub shown_same : (acts more : List Act) (k : ℕ) (ids : List RunId) → StandAs acts more ids → shown_from more k ids ≡ shown_from acts k ids
shown_same acts more k [] same = refl
shown_same acts more k (id ∷ ids) same =
    let here : held_in more id ≡ held_in acts id = same id (inl refl) in
    let rest : shown_from more (suc k) ids ≡ shown_from acts (suc k) ids = shown_same acts more (suc k) ids (λ j i. same j (inr i)) in
    λ i. shown_as k (here i) ++ rest i

pub running_few : (w : WorldView) → running_in w ≤ length w.runs
running_few w = count_by-le-length (λ id. is_running (held_in w.acts id)) w.runs

-- ---- what is kept

-- nothing but the room and what is ready for a message has changed
pub kept_same : (s t : Scene) → IsKept s → view_of t ≡ view_of s → t.knowledge.given ≡ s.knowledge.given → t.history ≡ s.history → s.parties.room ≤ t.parties.room → IsKept t
kept_same s t k view given history room = record {
  genuine = subst IsGenuine (sym view) k.genuine;
  learnt = given ∙ (k.learnt ∙ ap known_in (sym view));
  told = ap told_by history ∙ (k.told ∙ ap told_of (sym view));
  room = let r = k.room in let e : running_in (view_of t) ≡ running_in (view_of s) = ap running_in view in omega (arith, r, e, room);
}

-- what is known of a configuration, and of what was sent
abbrev known_by : Config → List Tree → List Tree
known_by c sent = (map part c.own ++ revealed_parts c.pairs) ++ sent

-- what is told of a configuration, of runs and of what was sent
abbrev told_from : Config → List Shown → List Tree → Told
told_from c happened sent = record { revealed = revealed_names c.pairs; happened = happened; sent = sent; given = [] }

-- the runs with numbers stand as before, nothing was sent, and the world is genuine
pub kept_quiet : (s t : Scene) → IsKept s → IsGenuine (view_of t) → t.parties.config ≡ s.parties.config → t.runs.items ≡ s.runs.items → sent_in t.parties.acts ≡ sent_in s.parties.acts → StandAs s.parties.acts t.parties.acts s.runs.items
    → t.knowledge.given ≡ s.knowledge.given → t.history ≡ s.history → length s.runs.items ≤ t.parties.room → IsKept t
kept_quiet s t k genuine config runs sent stand given history room = record {
  genuine = genuine;
  learnt = given ∙ (k.learnt ∙ (λ i. known_by (sym config i) (sym sent i)));
  told = ap told_by history ∙ (k.told ∙ (λ i. told_from (sym config i) (sym happened i) (sym sent i)));
  room = let few = running_few (view_of t) in let e : length t.runs.items ≡ length s.runs.items = ap length runs in omega (arith, few, e, room);
}
  where
    happened : shown_from t.parties.acts 1 t.runs.items ≡ shown_from s.parties.acts 1 s.runs.items
    happened = ap (shown_from t.parties.acts 1) runs ∙ shown_same s.parties.acts t.parties.acts 1 s.runs.items stand

-- ---- events that are not about a run

-- the event is about the run of that number of its party
abbrev pub IsAbout : Event → ℕ → Type 0
IsAbout (Open run head texts) n = run ≡ n
IsAbout (Issue now stamp) n = ⊥
IsAbout (Commit run now step) n = run ≡ n
IsAbout (Drop run) n = run ≡ n
IsAbout (Restart now last more) n = Unit {0}

held_past : (e : Event) (past : List Event) (n : ℕ) → (IsAbout e n → ⊥) → held_by (e ∷ past) n ≡ held_by past n
held_past (Open run head texts) past n not = go (run == n) refl
  where
    go : (b : Bool) → (run == n) ≡ b → (if b then Some (record { state = opened_state head texts; is_open = true }) else held_by past n) ≡ held_by past n
    go true f = absurd (not (eqb-true run n f))
    go false f = refl
held_past (Issue now stamp) past n not = refl
held_past (Commit run now step) past n not = go (run == n) refl
  where
    go : (b : Bool) → (run == n) ≡ b → (if b then Some (record { state = step.after; is_open = is_going step.outcome }) else held_by past n) ≡ held_by past n
    go true f = absurd (not (eqb-true run n f))
    go false f = refl
held_past (Drop run) past n not = go (run == n) refl
  where
    go : (b : Bool) → (run == n) ≡ b → (if b then no_longer (held_by past n) else held_by past n) ≡ held_by past n
    go true f = absurd (not (eqb-true run n f))
    go false f = refl
held_past (Restart now last more) past n not = absurd (not tt)

-- a run that the event is not about stands as before
pub held_apart : (acts : List Act) (n : ℕ) (e : Event) (id : RunId) → (n ≡ id.party → IsAbout e id.number → ⊥) → held_in (acts ++ act n e ∷ []) id ≡ held_in acts id
held_apart acts n e id not = go (n == id.party) refl
  where
    go : (b : Bool) → (n == id.party) ≡ b → held_in (acts ++ act n e ∷ []) id ≡ held_in acts id
    go true f =
        let s : n ≡ id.party = eqb-true n id.party f in
        subst (λ (m : ℕ). held_in (acts ++ act m e ∷ []) id ≡ held_in acts id) (sym s)
        (held_own acts id.party id.number e ∙ held_past e (reverse (acts_of id.party acts)) id.number (not s))
    go false f = held_other acts n e id f

-- an event that is about a run leaves the others
pub others_stand : (acts : List Act) (n m : ℕ) (e : Event) (ids : List RunId) → ((k : ℕ) → IsAbout e k → m ≡ k) → (Among (record { party = n; number = m }) ids → ⊥) → StandAs acts (acts ++ act n e ∷ []) ids
others_stand acts n m e ids one new id i = held_apart acts n e id (λ p a. new (subst (λ (x : RunId). Among x ids) (sym (same p (one id.number a))) i))
  where
    same : n ≡ id.party → m ≡ id.number → ◌≡◌ {A = RunId} (record { party = n; number = m }) id
    same p q = λ j. record { party = p j; number = q j }

-- ---- the issue of a stamp

pub issue_sent : (acts : List Act) (n now : ℕ) (issued : Option Stamp) → sent_in (with_issue acts n now issued) ≡ sent_in acts
issue_sent acts n now None = refl
issue_sent acts n now (Some x) = sent_snoc acts n (Issue now x) ∙ append-nil (sent_in acts)

pub issue_stands : (acts : List Act) (n now : ℕ) (issued : Option Stamp) (id : RunId) → held_in (with_issue acts n now issued) id ≡ held_in acts id
issue_stands acts n now None id = refl
issue_stands acts n now (Some x) id = held_apart acts n (Issue now x) id (λ p a. a)

pub issue_trace : (acts : List Act) (n now : ℕ) (issued : Option Stamp) → trace (entries (with_issue acts n now issued)) ≡ trace (entries acts)
issue_trace acts n now None = refl
issue_trace acts n now (Some x) = ap trace (entries_snoc acts n (Issue now x))

pub issue_stepped : (acts : List Act) (n now : ℕ) (issued : Option Stamp) (id : RunId) → HasStepped (with_issue acts n now issued) id → HasStepped acts id
issue_stepped acts n now None id s = s
issue_stepped acts n now (Some x) id (a, i, p, q) = elim (among_append acts (act n (Issue now x) ∷ []) a i) [ inl j ↦ (a, j, p, q) | inr (inl e) ↦ absurd (subst (λ (b : Act). IsStepOf b.event id.number) e q) | inr (inr j) ↦ absurd j ]

-- the moment at which a party acts is not later for a stamp that it issued then
pub issue_moment : (w : WorldView) (n : ℕ) (issued : Option Stamp) → moment (record w { acts = with_issue w.acts n (moment w n) issued }) n ≡ moment w n
issue_moment w n None = refl
issue_moment w n (Some x) =
    let log : acts_of n (w.acts ++ act n (Issue (moment w n) x) ∷ []) ≡ acts_of n w.acts ++ Issue (moment w n) x ∷ [] = acts_of_own n w.acts (Issue (moment w n) x) in
    let node : node_of (ring_of w.config n) 0 (acts_of n (w.acts ++ act n (Issue (moment w n) x) ∷ [])) ≡ changed (node_of (ring_of w.config n) 0 (acts_of n w.acts)) (event_of (Issue (moment w n) x)) =
    ap (node_of (ring_of w.config n) 0) log ∙ node_of-snoc (ring_of w.config n) 0 (acts_of n w.acts) (Issue (moment w n) x) in
    ap (λ (y : Node). max y.now (clock_in w n)) node ∙ twice (node_at (desk_in w n)).now (clock_in w n)
  where
    twice : (a b : ℕ) → max (max a b) b ≡ max a b
    twice a b = omega arith

pub made_moment : (w : WorldView) (n : ℕ) (s : State) → moment (made_by w n s) n ≡ moment w n
made_moment w n s = issue_moment w n (stamp_due w n s)

pub made_next : (w : WorldView) (n : ℕ) (s : State) → next_message (made_by w n s) ≡ next_message w
made_next w n s = ap (λ (ts : List Tree). suc (length ts)) (issue_sent w.acts n (moment w n) (stamp_due w n s))

-- ---- a clock is raised

pub kept_raised : (s : Scene) (p : PartiesView) (clocks : List ℕ) → IsKept s → p ≡ record s.parties { clocks = clocks } → IsKept (record s { parties = p })
kept_raised s p clocks k e = subst (λ (q : PartiesView). IsKept (record s { parties = q })) (sym e) (record {
  genuine = record { conditions = k.genuine.conditions; world = k.genuine.world; born = k.genuine.born; runs = k.genuine.runs };
  learnt = k.learnt;
  told = k.told;
  room = k.room;
})
