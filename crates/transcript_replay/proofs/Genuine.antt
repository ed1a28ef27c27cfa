-- What the calls of a world do leaves a genuine world.
use Rattle.std.proofs.Common.{◌≡◌, ◌≢◌, ◌⊎◌, ◌==◌, ◌<◌, ◌≤◌, ◌+◌, ◌*◌, ◌^◌, ℕ, zero, suc, max, Bool, true, false, if◌then◌else◌, List, [], ◌∷◌, ◌++◌, map, reverse, Option, Some, None, Result, Ok, Err, refl, sym, ap, subst, ◌∙◌, inl, inr, arith, eqb-true, eq-eqb}
use Rattle.std.specs.Prelude.{IfSome, slice_get}
use Rattle.std.proofs.lemmas.List.{append-nil}
use Rattle.term_values.specs.Trees.{Among, Bytes, Tree, part}
use Rattle.term_values.specs.declared.small.Stamp.{Stamp}
use Rattle.term_values.proofs.Lists.{among_right}
use Rattle.attacker_model.specs.Derivation.{Derivable}
use Rattle.mech_rows.specs.declared.kinds.Mech.{Mech}
use Rattle.mech_rows.specs.declared.kinds.Slot.{Slot}
use Rattle.mech_rows.specs.declared.refusal.Refusal.{Refusal}
use Rattle.mech_rows.specs.declared.refusal.Refusal.TheVariants.{EndedRun}
use Rattle.mech_rows.specs.Found.{found}
use Rattle.mech_rows.specs.Heads.{Head, IsHead, me}
use Rattle.mech_rows.specs.Moves.{Move, middle_of, step_of}
use Rattle.mech_rows.specs.Openings.{Texts, opened_state}
use Rattle.mech_rows.specs.Runs.{Got}
use Rattle.mech_rows.specs.Steps.{symbolic}
use Rattle.mech_rows.specs.Verdict.{State, run_of}
use Rattle.seal_symbolic.specs.Symbolic.{body_of, is_check}
use Rattle.agreement_laws.specs.Configs.{Config, revealed_parts}
use Rattle.agreement_laws.specs.Nodes.{Log, Needs, NeedsCommit, Node, IsLegal, WasIssued, WasUsed, changed, new_node, node_after}
use Rattle.agreement_laws.specs.Nodes as node
use Rattle.agreement_laws.specs.Traces.{RunId}
use Rattle.agreement_laws.specs.Sound.{IsSound}
use Rattle.agreement_laws.specs.Worlds.{ring_of, trace}
use Rattle.agreement_laws.proofs.Conclusions.{world_sound}
use Rattle.agreement_laws.proofs.Nodes.{log_is as node_log_is, stamps_rise}
use Rattle.agreement_laws.proofs.Reduction.{logs_are_legal}
use Rattle.node_desk.specs.declared.event.Event.TheVariants.{Commit, Issue, Open}
use Rattle.node_desk.specs.Deliveries.{after_message, open_in}
use Rattle.node_desk.specs.Desks.{IsUnused, node_at, node_of}
use Rattle.node_desk.specs.Events.{log_of}
use Rattle.node_desk.specs.Helds.{Held, held_by}
use Rattle.node_desk.specs.Refusals.{got_refusal, run_refusal, stamps_refusal}
use Rattle.node_desk.proofs.Logs.{log_of-snoc, node_of-snoc}
use Rattle.world_run.specs.declared.given.Given.{Given}
use Rattle.world_run.specs.declared.opened.Opened.{Opened}
use Rattle.world_run.specs.Born.{HasUnborn}
use Rattle.world_run.specs.Clocks.{Raises, clock_in}
use Rattle.world_run.specs.Conditions.{KeepsConditions}
use Rattle.world_run.specs.Gives.{Drops, Gives, IsGiveRefused, IsGiven, IsJudged}
use Rattle.world_run.specs.Kept.{IsDue, IsGenuine, IsReady}
use Rattle.world_run.specs.Opens.{IsOpenRefused, IsOpened, Opens, Speaks, Waits, enlisted, id_of, next_run, open_refusal, opened_by}
use Rattle.world_run.specs.Turns.{SaysNext, desk_in, did, draws_for, issued_by, keys_at, made_by, moment, next_stamp_of, stamp_due, stepped, with_issue}
use Rattle.world_run.specs.Views.{Act, act, acts_of, entries, held_in, known_in, run_in, sent_in, standing_refusal, WorldView}
use Rattle.world_run.proofs.Acts.{acts_of_own, held_other, held_own, log_is, sent_snoc}
use Rattle.world_run.proofs.Commits.{genuine_commit}
use Rattle.world_run.proofs.Decided.{lawful}
use Rattle.world_run.proofs.Legal.{due_is_next, genuine_drop, genuine_issued, genuine_list, genuine_open, may_open_in, needs_issue}
use Rattle.world_run.proofs.Saying.{draws_few}
use Rattle.world_run.proofs.Verdicts.{middle_noted}
use Rattle.transcript_replay.specs.Players.{beginning}
use Rattle.transcript_replay.proofs.Answering.{silent_takes}

-- a world that is genuine, and has come so far in so many lines
pub record IsFit (lines : ℕ) (w : WorldView) : Type 0 where
  pub genuine : IsGenuine w
  pub draws : w.draws ≤ 15 * lines

-- ---- issued stamps

-- a stamp that was used was issued
used_issued : (first : Node) (log : Log) → first.log ≡ [] → IsLegal symbolic first log → (x : Stamp) → WasUsed x log → WasIssued x log
used_issued first [] none legal x u = absurd u.there
used_issued first (e ∷ log) none legal x u = go (used_issued first log none legal.0 x) u.there
  where
    go : (WasUsed x log → WasIssued x log) → Among (node.Commit u.run u.now u.step) (e ∷ log) → WasIssued x (e ∷ log)
    go before (inl is) =
        let needs : NeedsCommit symbolic (node_after first log) u.run u.now u.step = subst (λ (f : node.Event). Needs symbolic (node_after first log) f) (sym is) legal.1.0 in
        let i = (needs.issued x u.issued).0 in
        (i.0, inr (subst (Among (node.Issue i.0 x)) (node_log_is first none log) i.1))
    go before (inr i) = let r = before (record { run = u.run; now = u.now; step = u.step; there = i; issued = u.issued }) in (r.0, inr r.1)

module _ (w : WorldView) (g : IsGenuine w) (n : ℕ) where
  legal : IsLegal symbolic (new_node (ring_of w.config n) 0) (log_of (acts_of n w.acts))
  legal = subst (λ (l : Log). IsLegal symbolic (new_node (ring_of w.config n) 0) l) (log_is n w.acts) (logs_are_legal w.config (entries w.acts) g.world n)

  -- the next stamp was not used
  unused : (x : Stamp) → next_stamp_of w n ≡ Some x → IsUnused (Some x) (log_of (acts_of n (w.acts ++ act n (Issue (moment w n) x) ∷ [])))
  unused x next =
      subst (λ (l : Log). IsUnused (Some x) l) (sym (ap log_of (acts_of_own n w.acts (Issue (moment w n) x)) ∙ log_of-snoc (acts_of n w.acts) (Issue (moment w n) x)))
      (λ y e. subst (λ (z : Stamp). WasIssued z now × (WasUsed z now → ⊥)) (same y e) ((moment w n, inl refl), λ u. never u u.there))
    where
      now : Log
      now = node.Issue (moment w n) x ∷ log_of (acts_of n w.acts)

      same : (y : Stamp) → Some x ≡ Some y → x ≡ y
      same y e = cc

      never : (u : WasUsed x now) → Among (node.Commit u.run u.now u.step) now → ⊥
      never u (inl is) = cc
      never u (inr i) =
          let r = used_issued (new_node (ring_of w.config n) 0) (log_of (acts_of n w.acts)) refl legal x (record { run = u.run; now = u.now; step = u.step; there = i; issued = u.issued }) in
          let less = stamps_rise symbolic (new_node (ring_of w.config n) 0) (log_of (acts_of n w.acts)) legal (moment w n) x (needs_issue w n x next) r.0 x r.1 in
          omega (arith, less)

  unused_by : (issued : Option Stamp) → ((x : Stamp) → issued ≡ Some x → next_stamp_of w n ≡ Some x) → IsUnused issued (log_of (acts_of n (with_issue w.acts n (moment w n) issued)))
  unused_by None next = λ y e. absurd cc
  unused_by (Some x) next = unused x (next x refl)

-- ---- a stamp is issued: what stays

held_issue : (acts : List Act) (n m : ℕ) (x : Stamp) (id : RunId) → held_in (acts ++ act n (Issue m x) ∷ []) id ≡ held_in acts id
held_issue acts n m x id = go (n == id.party) refl
  where
    go : (b : Bool) → (n == id.party) ≡ b → held_in (acts ++ act n (Issue m x) ∷ []) id ≡ held_in acts id
    go true f = subst (λ (k : ℕ). held_in (acts ++ act k (Issue m x) ∷ []) id ≡ held_in acts id) (sym (eqb-true n id.party f)) (held_own acts id.party id.number (Issue m x))
    go false f = held_other acts n (Issue m x) id f

held_with : (acts : List Act) (n m : ℕ) (issued : Option Stamp) (id : RunId) → held_in (with_issue acts n m issued) id ≡ held_in acts id
held_with acts n m None id = refl
held_with acts n m (Some x) id = held_issue acts n m x id

sent_with : (acts : List Act) (n m : ℕ) (issued : Option Stamp) → sent_in (with_issue acts n m issued) ≡ sent_in acts
sent_with acts n m None = refl
sent_with acts n m (Some x) = sent_snoc acts n (Issue m x) ∙ append-nil (sent_in acts)

max_twice : (a b : ℕ) → max (max a b) b ≡ max a b
max_twice a b = omega arith

module _ (w : WorldView) (n : ℕ) where
  node_issue : (x : Stamp) → node_at (desk_in (issued_by w n (Some x)) n) ≡ changed (node_at (desk_in w n)) (node.Issue (moment w n) x)
  node_issue x = ap (node_of (ring_of w.config n) 0) (acts_of_own n w.acts (Issue (moment w n) x)) ∙ node_of-snoc (ring_of w.config n) 0 (acts_of n w.acts) (Issue (moment w n) x)

  moment_with : (issued : Option Stamp) → moment (issued_by w n issued) n ≡ moment w n
  moment_with None = refl
  moment_with (Some x) = ap (λ (y : Node). max y.now (clock_in w n)) (node_issue x) ∙ max_twice (node_at (desk_in w n)).now (clock_in w n)

  got_with : (issued : Option Stamp) (got : List Got) → got_refusal (node_at (desk_in (issued_by w n issued) n)) (clock_in w n) got ≡ got_refusal (node_at (desk_in w n)) (clock_in w n) got
  got_with None got = refl
  got_with (Some x) got =
      ap (λ (y : Node). got_refusal y (clock_in w n) got) (node_issue x)
      ∙ ap (λ (m : ℕ). stamps_refusal (node_at (desk_in w n)).ring.window m (node_at (desk_in w n)).accepted (node_at (desk_in w n)).ring.kind got) (max_twice (node_at (desk_in w n)).now (clock_in w n))

-- ---- a step

module _ (w : WorldView) (g : IsGenuine w) (few : w.draws + 15 < 2 ^ 64) (id : RunId) (numbered : Among id w.runs) (s : State) where
  abbrev made : WorldView
  made = made_by w id.party s

  less : w.draws ≤ w.draws + draws_for s
  less = omega arith

  genuine_made : IsGenuine made
  genuine_made = genuine_issued w g id.party (g.runs.declared id numbered) (stamp_due w id.party s) (due_is_next w id.party s) (w.draws + draws_for s) less

  known_made : known_in made ≡ known_in w
  known_made = ap (λ (ts : List Tree). (map part w.config.own ++ revealed_parts w.config.pairs) ++ ts) (sent_with w.acts id.party (moment w id.party) (stamp_due w id.party s))

  genuine_stepped : (step : Move) → held_in w.acts id ≡ open_in step.before → SaysNext w id.party s step
      → ((u : Slot) (t : Tree) → found s.notes u ≡ Some t → (step_of step).middle u ≢ None) → IsDue w w.draws step.taken
      → got_refusal (node_at (desk_in w id.party)) (clock_in w id.party) step.got ≡ None → IsGenuine (stepped w id s step)
  genuine_stepped step current says middle due fit =
      subst (λ (m : ℕ). IsGenuine (did made id.party (Commit id.number m step))) (moment_with w id.party (stamp_due w id.party s))
      (genuine_commit made genuine_made id step (g.runs.declared id numbered) ready (held_with w.acts id.party (moment w id.party) (stamp_due w id.party s) id ∙ current)
      (subst (λ (o : Option Stamp). IsUnused o (log_of (acts_of id.party made.acts))) (sym says.issued) (unused_by w g id.party (stamp_due w id.party s) (due_is_next w id.party s)))
      numbered (got_with w id.party (stamp_due w id.party s) step.got ∙ fit))
    where
      ready : IsReady made id.party step
      ready = record {
        before = w.draws;
        state = s;
        is_step = says.is_step;
        middle = middle;
        notes = says.notes;
        due = subst (λ (K : List Tree). IfSome step.taken (λ m. Derivable K m × (HasUnborn w.draws m → ⊥))) (sym known_made) due;
        born = (genuine_issued w g id.party (g.runs.declared id numbered) (stamp_due w id.party s) (due_is_next w id.party s) w.draws (omega arith)).born;
        draws = refl;
        few = let f = draws_few s in omega (arith, f, few);
      }

-- ---- openings

-- the run that its party opens stands as it is opened
pub opened_held : (w : WorldView) (h : Head) (texts : Texts) → held_in (opened_by w h texts).acts (id_of w h) ≡ open_in (opened_state h texts)
opened_held w h texts = held_own w.acts (me h) (next_run w (me h)) (Open (next_run w (me h)) h texts) ∙ own (next_run w (me h))
  where
    own : (m : ℕ) → held_by (Open m h texts ∷ reverse (acts_of (me h) w.acts)) m ≡ open_in (opened_state h texts)
    own m = ap (λ (b : Bool). if b then open_in (opened_state h texts) else held_by (reverse (acts_of (me h) w.acts)) m) (eq-eqb m m refl)

module _ (w : WorldView) (g : IsGenuine w) (few : w.draws + 15 < 2 ^ 64) (h : Head) (texts : Texts) (is : IsHead h) where
  genuine_speaks : (o : Opened) (v : WorldView) → open_refusal w h ≡ None → Speaks w h texts o v → IsGenuine v
  genuine_speaks o v may x =
      subst IsGenuine (sym x.leaves)
      (genuine_stepped (enlisted w h texts) (genuine_list w g h texts is may) few (id_of w h) (among_right w.runs (id_of w h ∷ []) (id_of w h) (inl refl)) (opened_state h texts) x.step
      (opened_held w h texts ∙ ap open_in (sym x.before)) x.says
      (λ u t e f. absurd (there u t e f)) (subst (λ (m : Option Tree). IsDue (enlisted w h texts) w.draws m) (sym x.takes) tt)
      (ap (got_refusal (node_at (desk_in (enlisted w h texts) (me h))) (clock_in (enlisted w h texts) (me h))) nothing))
    where
      nothing : x.step.got ≡ []
      nothing = (silent_takes (keys_at (enlisted w h texts) (me h)) (run_of x.step.before) x.step.taken (step_of x.step).middle x.step.opened x.step.got x.takes x.says.is_step.takes).1

      there : (u : Slot) (t : Tree) → found (opened_state h texts).notes u ≡ Some t → (step_of x.step).middle u ≡ None → ⊥
      there u t e f =
          let none : found x.step.before.notes u ≡ None = subst (λ (m : Option Tree). middle_of (run_of x.step.before) m (found x.step.after.notes) u ≡ None) x.takes f in
          let some : found x.step.before.notes u ≡ Some t = ap (λ (z : State). found z.notes u) x.before ∙ e in
          let both : Some t ≡ None = sym some ∙ none in cc

  genuine_opened : (o : Opened) (v : WorldView) → IsOpened w h texts o v → IsGenuine v
  genuine_opened o v x = go x.goes
    where
      go : Waits w h texts o v ⊎ Speaks w h texts o v → IsGenuine v
      go (inl y) = subst IsGenuine (sym y.leaves) (genuine_list w g h texts is x.may)
      go (inr y) = genuine_speaks o v x.may y

  genuine_unopened : (e : Refusal) (v : WorldView) → IsOpenRefused w h texts e v → IsGenuine v
  genuine_unopened e v (inl x) = subst IsGenuine (sym x.1) g
  genuine_unopened e v (inr x) =
      subst IsGenuine (sym x.2) (genuine_drop (opened_by w h texts) (genuine_open w g h texts is x.0) (id_of w h) (may_open_in w h x.0).declared (opened_state h texts) (opened_held w h texts))

  genuine_opens : (a : Result Opened Refusal) (v : WorldView) → Opens w h texts a v → IsGenuine v
  genuine_opens (Ok o) v x = genuine_opened o v x
  genuine_opens (Err e) v x = genuine_unopened e v x

-- ---- deliveries

slice_among : {X : Type 0} (xs : List X) (k : ℕ) (x : X) → slice_get xs k ≡ Some x → Among x xs
slice_among [] k x e = absurd cc
slice_among (y ∷ xs) zero x e = inl (cc)
slice_among (y ∷ xs) (suc k) x e = inr (slice_among xs k x e)

run_among : (ids : List RunId) (run : ℕ) (id : RunId) → run_in ids run ≡ Some id → Among id ids
run_among ids zero id e = absurd cc
run_among ids (suc k) id e = slice_among ids k id e

module _ (allow : Mech → Slot → Bytes → Bool) (w : WorldView) (g : IsGenuine w) (few : w.draws + 15 < 2 ^ 64) (run : ℕ) (m : Tree) where
  genuine_given : (a : Given) (v : WorldView) → IsGiven allow w run m a v → IsGenuine v
  genuine_given a v x =
      subst IsGenuine (sym x.leaves)
      (genuine_stepped w g few x.id (run_among w.runs run x.id x.is_run) (after_message x.step.before x.taken) x.step x.current x.says
      (middle_noted body_of is_check allow (keys_at w x.id.party) x.step m x.taken w.draws x.fits x.takes x.says.notes)
      (subst (λ (o : Option Tree). IsDue w w.draws o) (sym x.takes) (x.derivable, x.is_born))
      (ap (got_refusal (node_at (desk_in w x.id.party)) (clock_in w x.id.party)) x.got ∙ x.fit))

  genuine_judged : (id : RunId) (s : State) (e : Refusal) (v : WorldView) → Among id w.runs → IsJudged allow w id s m e v → IsGenuine v
  genuine_judged id s e v i (inl x) = subst IsGenuine (sym x.1) g
  genuine_judged id s e v i (inr (t, fits, inl x)) = subst IsGenuine (sym x.1) g
  genuine_judged id s e v i (inr (t, fits, inr x)) = subst IsGenuine (sym x.2) (genuine_made w g few id i (after_message s t))

  genuine_ungiven : (e : Refusal) (v : WorldView) → IsGiveRefused allow w run m e v → IsGenuine v
  genuine_ungiven e v (inl x) = subst IsGenuine (sym x.2) g
  genuine_ungiven e v (inr (d, inl x)) = subst IsGenuine (sym x.2) g
  genuine_ungiven e v (inr (d, inr (b, inl x))) = subst IsGenuine (sym x.1) g
  genuine_ungiven e v (inr (d, inr (b, inr (id, s, is, held, x)))) = genuine_judged id s e v (run_among w.runs run id is) x

  genuine_gives : (a : Result Given Refusal) (v : WorldView) → Gives allow w run m a v → IsGenuine v
  genuine_gives (Ok a) v x = genuine_given a v x
  genuine_gives (Err e) v x = genuine_ungiven e v x

-- ---- drops and clocks

pub open_held : (o : Option Held) → run_refusal o ≡ None → (s : State) × (o ≡ open_in s)
open_held None e = absurd cc
open_held (Some h) e = go h.is_open refl e
  where
    go : (b : Bool) → h.is_open ≡ b → ◌≡◌ {A = Option Refusal} (if b then None else Some EndedRun) None → (s : State) × (Some h ≡ open_in s)
    go true f x = (h.state, λ i. Some (record { state = h.state; is_open = f i }))
    go false f x = absurd cc

genuine_drops : (w v : WorldView) (run : ℕ) (a : Result (Unit {0}) Refusal) → IsGenuine w → Drops w run a v → IsGenuine v
genuine_drops w v run (Ok done) g x =
    let standing : run_refusal (held_in w.acts x.id) ≡ None = subst (λ (o : Option RunId). standing_refusal w.acts o ≡ None) x.is_run x.running in
    let held = open_held (held_in w.acts x.id) standing in
    subst IsGenuine (sym x.leaves) (genuine_drop w g x.id (g.runs.declared x.id (run_among w.runs run x.id x.is_run)) held.0 held.1)
genuine_drops w v run (Err e) g x = subst IsGenuine (sym x.1) g

genuine_raises : (w v : WorldView) (n time : ℕ) (a : Result ℕ Refusal) → IsGenuine w → Raises w n time a v → IsGenuine v
genuine_raises w v n time (Ok now) g x = subst IsGenuine (sym x.1) (record { conditions = g.conditions; world = g.world; born = g.born; runs = g.runs })
genuine_raises w v n time (Err e) g x = subst IsGenuine (sym x.2) g

-- a world before its first event
genuine_beginning : (c : Config) → KeepsConditions c → IsGenuine (beginning c)
genuine_beginning c k = record { conditions = k; world = tt; born = λ e v i u b. i; runs = record { there = λ id i. absurd i; declared = λ id i. absurd i; apart = tt; stepped = λ id x. absurd x.1 } }

-- ---- how much is drawn

made_few : (w : WorldView) (n : ℕ) (s : State) → (made_by w n s).draws ≤ w.draws + 15
made_few w n s = let f = draws_few s in omega (arith, f)

same_few : (w v : WorldView) → v ≡ w → v.draws ≤ w.draws + 15
same_few w v e = let f : v.draws ≡ w.draws = ap (λ (z : WorldView). z.draws) e in omega (arith, f)

opens_few : (w v : WorldView) (h : Head) (texts : Texts) (a : Result Opened Refusal) → Opens w h texts a v → v.draws ≤ w.draws + 15
opens_few w v h texts (Ok o) x = go x.goes
  where
    go : Waits w h texts o v ⊎ Speaks w h texts o v → v.draws ≤ w.draws + 15
    go (inl y) = let f : v.draws ≡ w.draws = ap (λ (z : WorldView). z.draws) y.leaves in omega (arith, f)
    go (inr y) = let f : v.draws ≡ w.draws + draws_for (opened_state h texts) = ap (λ (z : WorldView). z.draws) y.leaves in let k = draws_few (opened_state h texts) in omega (arith, f, k)
opens_few w v h texts (Err e) (inl x) = same_few w v x.1
opens_few w v h texts (Err e) (inr x) = let f : v.draws ≡ w.draws = ap (λ (z : WorldView). z.draws) x.2 in omega (arith, f)

module _ (allow : Mech → Slot → Bytes → Bool) where
  judged_few : (w v : WorldView) (id : RunId) (s : State) (m : Tree) (e : Refusal) → IsJudged allow w id s m e v → v.draws ≤ w.draws + 15
  judged_few w v id s m e (inl x) = same_few w v x.1
  judged_few w v id s m e (inr (t, fits, inl x)) = same_few w v x.1
  judged_few w v id s m e (inr (t, fits, inr x)) =
      let f : v.draws ≡ w.draws + draws_for (after_message s t) = ap (λ (z : WorldView). z.draws) x.2 in let k = draws_few (after_message s t) in omega (arith, f, k)

  gives_few : (w v : WorldView) (run : ℕ) (m : Tree) (a : Result Given Refusal) → Gives allow w run m a v → v.draws ≤ w.draws + 15
  gives_few w v run m (Ok a) x =
      let f : v.draws ≡ w.draws + draws_for (after_message x.step.before x.taken) = ap (λ (z : WorldView). z.draws) x.leaves in let k = draws_few (after_message x.step.before x.taken) in omega (arith, f, k)
  gives_few w v run m (Err e) (inl x) = same_few w v x.2
  gives_few w v run m (Err e) (inr (d, inl x)) = same_few w v x.2
  gives_few w v run m (Err e) (inr (d, inr (b, inl x))) = same_few w v x.1
  gives_few w v run m (Err e) (inr (d, inr (b, inr (id, s, is, held, x)))) = judged_few w v id s m e x

-- ---- the calls of a world

few_left : (k n : ℕ) → n ≤ 15 * k → k < 4096 → n + 15 < 2 ^ 64
few_left k n le lt = omega (arith, le, lt)

one_line_more : (k n m : ℕ) → n ≤ 15 * k → m ≤ n + 15 → m ≤ 15 * suc k
one_line_more k n m le more = omega (arith, le, more)

pub fit_begins : (k : ℕ) (c : Config) → KeepsConditions c → IsFit k (beginning c)
fit_begins k c h = record { genuine = genuine_beginning c h; draws = omega arith }

pub fit_more : (k : ℕ) (w : WorldView) → IsFit k w → IsFit (suc k) w
fit_more k w f = record { genuine = f.genuine; draws = let d = f.draws in omega (arith, d) }

pub clock_fit : (k : ℕ) (w v : WorldView) (n time : ℕ) (a : Result ℕ Refusal) → IsFit k w → Raises w n time a v → IsFit (suc k) v
clock_fit k w v n time a f x = record { genuine = genuine_raises w v n time a f.genuine x; draws = one_line_more k w.draws v.draws f.draws (few a x) }
  where
    few : (a : Result ℕ Refusal) → Raises w n time a v → v.draws ≤ w.draws + 15
    few (Ok now) y = let f : v.draws ≡ w.draws = ap (λ (z : WorldView). z.draws) y.1 in omega (arith, f)
    few (Err e) y = same_few w v y.2

pub open_fit : (k : ℕ) → k < 4096 → (w v : WorldView) (h : Head) (texts : Texts) (a : Result Opened Refusal) → IsFit k w → IsHead h → Opens w h texts a v → IsFit (suc k) v
open_fit k lt w v h texts a f is x = record {
  genuine = genuine_opens w f.genuine (few_left k w.draws f.draws lt) h texts is a v x;
  draws = one_line_more k w.draws v.draws f.draws (opens_few w v h texts a x);
}

pub give_fit : (k : ℕ) → k < 4096 → (allow : Mech → Slot → Bytes → Bool) (w v : WorldView) (run : ℕ) (m : Tree) (a : Result Given Refusal) → IsFit k w → Gives allow w run m a v → IsFit (suc k) v
give_fit k lt allow w v run m a f x = record {
  genuine = genuine_gives allow w f.genuine (few_left k w.draws f.draws lt) run m a v x;
  draws = one_line_more k w.draws v.draws f.draws (gives_few allow w v run m a x);
}

pub drop_fit : (k : ℕ) (w v : WorldView) (run : ℕ) (a : Result (Unit {0}) Refusal) → IsFit k w → Drops w run a v → IsFit (suc k) v
drop_fit k w v run a f x = record { genuine = genuine_drops w v run a f.genuine x; draws = one_line_more k w.draws v.draws f.draws (few a x) }
  where
    few : (a : Result (Unit {0}) Refusal) → Drops w run a v → v.draws ≤ w.draws + 15
    few (Ok done) y = let f : v.draws ≡ w.draws = ap (λ (z : WorldView). z.draws) y.leaves in omega (arith, f)
    few (Err e) y = same_few w v y.1

-- what the laws say of worlds
pub fit_sound : (k : ℕ) (w : WorldView) → IsFit k w → IsSound w.config (trace (entries w.acts))
fit_sound k w f = world_sound w.config (lawful w.config f.genuine.conditions) (entries w.acts) f.genuine.world
