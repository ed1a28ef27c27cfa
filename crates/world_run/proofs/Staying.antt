-- What the calls of a world may do to a genuine world is a genuine world.
use Rattle.std.proofs.Common.{◌≡◌, ◌≢◌, ◌⊎◌, ◌<◌, ◌≤◌, ◌+◌, ℕ, zero, suc, Bool, true, false, if◌then◌else◌, List, [], ◌∷◌, ◌++◌, map, reverse, Option, Some, None, Result, Ok, Err, refl, sym, ap, subst, ◌∙◌, inl, inr, arith, eq-eqb}
use Rattle.std.proofs.lemmas.List.{append-nil}
use Rattle.std.specs.Prelude.{slice_get}
use Rattle.term_values.specs.Trees.{Among, Bytes, Tree, part}
use Rattle.term_values.specs.declared.small.Stamp.{Stamp}
use Rattle.term_values.proofs.Lists.{among_right, any_among}
use Rattle.attacker_model.specs.Derivation.{Derivable}
use Rattle.mech_rows.specs.declared.kinds.Mech.{Mech}
use Rattle.mech_rows.specs.declared.kinds.Slot.{Slot}
use Rattle.mech_rows.specs.declared.refusal.Refusal.{Refusal}
use Rattle.mech_rows.specs.declared.refusal.Refusal.TheVariants.{EndedRun, WrongPass}
use Rattle.mech_rows.specs.Facts.{same_slot}
use Rattle.mech_rows.specs.Found.{found}
use Rattle.mech_rows.specs.Heads.{Head, IsHead, me}
use Rattle.mech_rows.specs.Lawful.{stands_in, tested_by}
use Rattle.mech_rows.specs.Moves.{Move, middle_of, or_else, seen_at, step_of}
use Rattle.mech_rows.specs.Openings.{Texts, opened_state}
use Rattle.mech_rows.specs.Replies.{new_slots, receives, sends, sends_first}
use Rattle.mech_rows.specs.Rows.{Pass, row_of}
use Rattle.mech_rows.specs.Runs.{Extends, nth, seen_slots}
use Rattle.mech_rows.specs.Steps.{Fits, symbolic}
use Rattle.mech_rows.specs.Verdict.{Noted, State, Taken, run_of, verdict}
use Rattle.mech_rows.proofs.RowUse.{same_slot_refl}
use Rattle.mech_rows.proofs.Stepping.{receives_pass}
use Rattle.mech_rows.proofs.VerdictFits.{verdict_fits}
use Rattle.text_hooks.specs.Drawn.{drawn_values}
use Rattle.seal_symbolic.specs.Symbolic.{body_of, is_check as is_check_of}
use Rattle.agreement_laws.specs.Configs.{names_in, revealed_parts}
use Rattle.agreement_laws.specs.Nodes.{Log, IsLegal, Node, WasIssued, WasUsed, new_node, node_after}
use Rattle.agreement_laws.specs.Nodes as node
use Rattle.agreement_laws.specs.Traces.{RunId}
use Rattle.agreement_laws.specs.Worlds.{Entry, ring_of, trace}
use Rattle.agreement_laws.specs.Worlds as world
use Rattle.agreement_laws.proofs.Nodes.{log_is as node_log_is, stamps_rise}
use Rattle.agreement_laws.proofs.Reduction.{logs_are_legal}
use Rattle.node_desk.specs.declared.event.Event.TheVariants.{Drop, Open, Issue, Commit}
use Rattle.node_desk.specs.Deliveries.{IssuedIs, after_message, open_in}
use Rattle.node_desk.specs.Desks.{IsUnused, node_at}
use Rattle.node_desk.specs.Events.{log_of}
use Rattle.node_desk.specs.Helds.{Held, held_by}
use Rattle.node_desk.specs.Refusals.{got_refusal, run_refusal}
use Rattle.node_desk.proofs.Delivering.{issued-node}
use Rattle.node_desk.proofs.Logs.{log_of-snoc}
use Rattle.world_run.specs.declared.given.Given.{Given}
use Rattle.world_run.specs.declared.opened.Opened.{Opened}
use Rattle.world_run.specs.Clocks.{Raises, clock_in}
use Rattle.world_run.specs.Gives.{Drops, Gives, IsDropped, IsGiveLeft, IsGiveRefused, IsGiven, IsJudged, verdict_in}
use Rattle.world_run.specs.Kept.{AreBorn, IsDue, IsGenuine, IsReady}
use Rattle.world_run.specs.Opens.{IsOpenLeft, IsOpenRefused, IsOpened, Opens, Speaks, Waits, enlisted, given_up, id_of, next_run, open_refusal, opened_by}
use Rattle.world_run.specs.Turns.{HasNumbers, IsPartAtMost, SaysNext, desk_in, did, draws_for, draws_from, issued_by, keys_at, made_by, moment, next_stamp_of, notes_after, stamp_due, stepped, with_issue}
use Rattle.world_run.specs.Views.{Act, act, acts_of, entries, held_in, known_in, run_in, sent_in, standing_refusal, WorldView}
use Rattle.world_run.proofs.Acting.{acted_now}
use Rattle.world_run.proofs.Acts.{acts_of_own, entries_snoc, held_own, log_is, sent_snoc}
use Rattle.world_run.proofs.Answering.{silent_takes}
use Rattle.world_run.proofs.Commits.{genuine_commit}
use Rattle.world_run.proofs.Legal.{due_is_next, genuine_drop, genuine_issued, genuine_list, genuine_more, genuine_open, may_open_in, needs_here, needs_issue}
use Rattle.world_run.proofs.Saying.{draws_few}

-- ---- runs with numbers

slice_among : {X : Type 0} (xs : List X) (k : ℕ) (x : X) → slice_get xs k ≡ Some x → Among x xs
slice_among [] k x e = absurd cc
slice_among (y ∷ xs) zero x e = inl cc
slice_among (y ∷ xs) (suc k) x e = inr (slice_among xs k x e)

pub run_among : (ids : List RunId) (n : ℕ) (id : RunId) → run_in ids n ≡ Some id → Among id ids
run_among ids zero id e = absurd cc
run_among ids (suc k) id e = slice_among ids k id e

pub open_run : (o : Option Held) → run_refusal o ≡ None → (s : State) × (o ≡ open_in s)
open_run None e = absurd cc
open_run (Some h) e = go h.is_open refl e
  where
    go : (b : Bool) → h.is_open ≡ b → ◌≡◌ {A = Option Refusal} (if b then None else Some EndedRun) None → (s : State) × (Some h ≡ open_in s)
    go true f none = (h.state, λ i. Some (record { state = h.state; is_open = f i }))
    go false f none = absurd cc

-- ---- clocks

pub stays_raised : (w v : WorldView) (n time : ℕ) (r : Result ℕ Refusal) → IsGenuine w → Raises w n time r v → IsGenuine v
stays_raised w v n time (Ok now) g x = subst IsGenuine (sym x.1) (record { conditions = g.conditions; world = g.world; born = g.born; runs = g.runs })
stays_raised w v n time (Err e) g x = subst IsGenuine (sym x.2) g

-- ---- drops

stays_dropped : (w v : WorldView) (run : ℕ) → IsGenuine w → IsDropped w run v → IsGenuine v
stays_dropped w v run g x =
    let running = open_run (held_in w.acts x.id) (subst (λ (o : Option RunId). standing_refusal w.acts o ≡ None) x.is_run x.running) in
    subst IsGenuine (sym x.leaves) (genuine_drop w g x.id (g.runs.declared x.id (run_among w.runs run x.id x.is_run)) running.0 running.1)

pub stays_drop : (w v : WorldView) (run : ℕ) (r : Result (Unit {0}) Refusal) → IsGenuine w → Drops w run r v → IsGenuine v
stays_drop w v run (Ok u) g x = stays_dropped w v run g x
stays_drop w v run (Err e) g x = subst IsGenuine (sym x.1) g

-- ---- a stamp was issued

-- a stamp that a commit of a legal log has used was issued before
used_issued : (first : Node) → first.log ≡ [] → (log : Log) → IsLegal symbolic first log → (x : Stamp) → WasUsed x log → WasIssued x log
used_issued first none [] legal x u = absurd u.there
used_issued first none (e ∷ log) legal x u = go u.there (used_issued first none log legal.0 x)
  where
    go : Among (node.Commit u.run u.now u.step) (e ∷ log) → (WasUsed x log → WasIssued x log) → WasIssued x (e ∷ log)
    go (inl is) rest =
        let needs = subst (node.Needs symbolic (node_after first log)) (sym is) legal.1.0 in
        let i = (needs.issued x u.issued).0 in
        (i.0, inr (subst (λ (l : Log). Among (node.Issue i.0 x) l) (node_log_is first none log) i.1))
    go (inr i) rest = let r = rest (record { run = u.run; now = u.now; step = u.step; there = i; issued = u.issued }) in (r.0, inr r.1)

-- the next stamp of a party is unused
next_unused : (w : WorldView) → IsGenuine w → (n : ℕ) (x : Stamp) → next_stamp_of w n ≡ Some x → WasUsed x (log_of (acts_of n w.acts)) → ⊥
next_unused w g n x next used =
    let first = new_node (ring_of w.config n) 0 in
    let log = world.log_of n (entries w.acts) in
    let legal = logs_are_legal w.config (entries w.acts) g.world n in
    let i = used_issued first refl log legal x (subst (WasUsed x) (sym (log_is n w.acts)) used) in
    let lt = stamps_rise symbolic first log legal (moment w n) x (needs_here w n (node.Issue (moment w n) x) (needs_issue w n x next)) i.0 x i.1 in
    omega (arith, lt)

module _ (w : WorldView) (g : IsGenuine w) (n : ℕ) where
  issued_unused : (issued : Option Stamp) → ((x : Stamp) → issued ≡ Some x → next_stamp_of w n ≡ Some x) → IsUnused issued (log_of (acts_of n (with_issue w.acts n (moment w n) issued)))
  issued_unused None next x e = absurd cc
  issued_unused (Some y) next x e = subst (λ (l : Log). WasIssued x l × (WasUsed x l → ⊥)) (sym is) ((moment w n, inl (ap (node.Issue (moment w n)) same)), not)
    where
      same : x ≡ y
      same = cc

      is : log_of (acts_of n (w.acts ++ act n (Issue (moment w n) y) ∷ [])) ≡ node.Issue (moment w n) y ∷ log_of (acts_of n w.acts)
      is = ap log_of (acts_of_own n w.acts (Issue (moment w n) y)) ∙ log_of-snoc (acts_of n w.acts) (Issue (moment w n) y)

      not : WasUsed x (node.Issue (moment w n) y ∷ log_of (acts_of n w.acts)) → ⊥
      not u = go u.there
        where
          go : Among (node.Commit u.run u.now u.step) (node.Issue (moment w n) y ∷ log_of (acts_of n w.acts)) → ⊥
          go (inl f) = cc
          go (inr i) = next_unused w g n x (next x e) (record { run = u.run; now = u.now; step = u.step; there = i; issued = u.issued })

  issued_known : (issued : Option Stamp) → known_in (issued_by w n issued) ≡ known_in w
  issued_known None = refl
  issued_known (Some x) = ap (λ (ts : List Tree). (map part w.config.own ++ revealed_parts w.config.pairs) ++ ts) (sent_snoc w.acts n (Issue (moment w n) x) ∙ append-nil (sent_in w.acts))

  issued_born : (k : ℕ) (issued : Option Stamp) → AreBorn k (trace (entries w.acts)) → AreBorn k (trace (entries (with_issue w.acts n (moment w n) issued)))
  issued_born k None b = b
  issued_born k (Some x) b = subst (λ (h : List Entry). AreBorn k (trace h)) (sym (entries_snoc w.acts n (Issue (moment w n) x))) b

  issued_desk : (issued : Option Stamp) → IssuedIs (desk_in w n) (desk_in (issued_by w n issued) n) (clock_in w n) issued
  issued_desk None = record { ring = refl; first = refl; log = refl }
  issued_desk (Some x) = record { ring = refl; first = refl; log = acts_of_own n w.acts (Issue (moment w n) x) }

held_issued : (w : WorldView) (id : RunId) (issued : Option Stamp) → held_in (with_issue w.acts id.party (moment w id.party) issued) id ≡ held_in w.acts id
held_issued w id None = refl
held_issued w id (Some x) = held_own w.acts id.party id.number (Issue (moment w id.party) x)

pub stays_made : (w : WorldView) → IsGenuine w → (n : ℕ) → Among n (names_in w.config) → (s : State) → IsGenuine (made_by w n s)
stays_made w g n declared s = genuine_issued w g n declared (stamp_due w n s) (due_is_next w n s) (w.draws + draws_for s) (omega arith)

-- ---- a step was entered

found_left : (ns ms : Noted) (s : Slot) (t : Tree) → found ns s ≡ Some t → found (ns ++ ms) s ≡ Some t
found_left [] ms s t e = absurd cc
found_left (n ∷ ns) ms s t e = go (same_slot n.0 s) (found_left ns ms s t) e
  where
    go : (b : Bool) → (found ns s ≡ Some t → found (ns ++ ms) s ≡ Some t) → (if b then Some n.1 else found ns s) ≡ Some t → (if b then Some n.1 else found (ns ++ ms) s) ≡ Some t
    go true rest f = f
    go false rest f = rest f

-- what a run knew, it knows after what it says
keeps_notes : (n : ℕ) (issued : Option Stamp) (s : State) (u : Slot) (t : Tree) → found s.notes u ≡ Some t → found (notes_after n issued s) u ≡ Some t
keeps_notes n issued s u t e = go (sends s) (drawn_values (draws_from n) issued (new_slots s))
  where
    go : (b : Bool) (ms : Noted) → found (if b then s.notes ++ ms else s.notes) u ≡ Some t
    go true ms = found_left s.notes ms u t e
    go false ms = e

known_before_it : (o x : Option Tree) (t : Tree) → o ≡ Some t → or_else o x ≡ None → ⊥
known_before_it None x t e f = cc
known_before_it (Some y) x t e f = cc

known_by_it : (o x : Option Tree) (b : Bool) (t : Tree) → b ≡ true → x ≡ Some t → or_else o (if b then x else None) ≡ None → ⊥
known_by_it None x true t e f g = cc
known_by_it (Some y) x true t e f g = cc
known_by_it o x false t e f g = cc

-- what was noted of a message was known when the run had taken it
module _ (before : State) (m : Tree) (notes last : Noted) (p : Pass) (at : nth (row_of before.head.mech) before.next ≡ Some p) (ext : Extends (found before.notes) (seen_slots p) (found notes)) (keeps : (u : Slot) (t : Tree) → found notes u ≡ Some t → found last u ≡ Some t) where
  taken_middle : (u : Slot) (t : Tree) → found notes u ≡ Some t → middle_of (run_of before) (Some m) (found last) u ≢ None
  taken_middle u t e = go (ext.only u t e)
    where
      go : (found before.notes u ≡ Some t) ⊎ Among u (seen_slots p) → middle_of (run_of before) (Some m) (found last) u ≢ None
      go (inl f) none = known_before_it (found before.notes u) _ t f none
      go (inr i) none =
          let stands : stands_in (seen_at (nth (row_of before.head.mech) before.next)) u ≡ true = subst (λ (o : Option Pass). stands_in (seen_at o) u ≡ true) (sym at) (any_among (λ (x : Slot). same_slot x u) (seen_slots p) u i (same_slot_refl u)) in
          known_by_it (found before.notes u) (found last u) _ t stands (keeps u t e) none

module _ (w : WorldView) (g : IsGenuine w) (numbers : w.draws < 18_446_744_073_709_551_600) (id : RunId) (numbered : Among id w.runs) (s : State) (step : Move) (current : held_in w.acts id ≡ open_in step.before) (says : SaysNext w id.party s step)
    (middle : (u : Slot) (t : Tree) → found s.notes u ≡ Some t → (step_of step).middle u ≢ None) (due : IsDue w w.draws step.taken) (fit : got_refusal (node_at (desk_in w id.party)) (clock_in w id.party) step.got ≡ None) where
  abbrev n : ℕ
  n = id.party

  abbrev v : WorldView
  v = made_by w n s

  abbrev issued : Option Stamp
  issued = stamp_due w n s

  declared : Among n (names_in w.config)
  declared = g.runs.declared id numbered

  due_made : IsDue v w.draws step.taken
  due_made = go step.taken due
    where
      go : (o : Option Tree) → IsDue w w.draws o → IsDue v w.draws o
      go None d = d
      go (Some m) d = (subst (λ (k : List Tree). Derivable k m) (sym (issued_known w g n issued)) d.0, d.1)

  ready : IsReady v n step
  ready = record {
    before = w.draws;
    state = s;
    is_step = says.is_step;
    middle = middle;
    notes = says.notes;
    due = due_made;
    born = issued_born w g n w.draws issued g.born;
    draws = refl;
    few = let f = draws_few s in omega (arith, numbers, f);
  }

  unused : IsUnused step.issued (log_of (acts_of n v.acts))
  unused = subst (λ (o : Option Stamp). IsUnused o (log_of (acts_of n v.acts))) (sym says.issued) (issued_unused w g n issued (due_is_next w n s))

  fit_made : got_refusal (node_at (desk_in v n)) (clock_in v n) step.got ≡ None
  fit_made = (issued-node (desk_in w n) (desk_in v n) (clock_in w n) issued (issued_desk w g n issued)).0 step.got ∙ fit

  same_moment : moment v n ≡ moment w n
  same_moment = (issued-node (desk_in w n) (desk_in v n) (clock_in w n) issued (issued_desk w g n issued)).1

  pub stays_stepped : IsGenuine (stepped w id s step)
  stays_stepped =
      subst (λ (m : ℕ). IsGenuine (did v n (Commit id.number m step))) same_moment
      (genuine_commit v (stays_made w g n declared s) id step declared ready (held_issued w id issued ∙ current) unused numbered fit_made)

-- ---- deliveries

module _ (allowed : Mech → Slot → Bytes → Bool) where
  verdict_taken : (w : WorldView) (n : ℕ) (s : State) (m : Tree) (t : Taken) → verdict_in allowed w n s m ≡ Ok t → (receives s ≡ true) × (verdict body_of is_check_of (keys_at w n) allowed s m ≡ Ok t)
  verdict_taken w n s m t e = go (receives s) refl e
    where
      go : (b : Bool) → receives s ≡ b → (if b then verdict body_of is_check_of (keys_at w n) allowed s m else Err WrongPass) ≡ Ok t → (receives s ≡ true) × (verdict body_of is_check_of (keys_at w n) allowed s m ≡ Ok t)
      go true f x = (f, x)
      go false f x = absurd cc

  -- a message that the verdict takes fits the run
  pub taken_fits_so : (w : WorldView) → IsGenuine w → (id : RunId) (s : State) (m : Tree) (t : Taken) → held_in w.acts id ≡ open_in s → verdict_in allowed w id.party s m ≡ Ok t → Fits (tested_by body_of is_check_of) (keys_at w id.party) (run_of s) m (found t.notes) t.opened t.got
  taken_fits_so w g id s m t is fits =
      let x = verdict_taken w id.party s m t fits in
      let p = receives_pass s x.0 in
      (verdict_fits body_of is_check_of allowed (keys_at w id.party) s p.pass m t (record { next = p.at; received = p.received; acted = acted_now w g id (record { state = s; is_open = true }) is }) x.1).fits

  stays_given : (w v : WorldView) (run : ℕ) (m : Tree) (h : Given) → w.draws < 18_446_744_073_709_551_600 → IsGenuine w → IsGiven allowed w run m h v → IsGenuine v
  stays_given w v run m h numbers g x = subst IsGenuine (sym x.leaves) (stays_stepped w g numbers x.id (run_among w.runs run x.id x.is_run) (after_message x.step.before x.taken) x.step x.current x.says middle due fit)
    where
      fits : Fits (tested_by body_of is_check_of) (keys_at w x.id.party) (run_of x.step.before) m (found x.taken.notes) x.taken.opened x.taken.got
      fits = taken_fits_so w g x.id x.step.before m x.taken x.current x.fits

      keeps : (u : Slot) (t : Tree) → found x.taken.notes u ≡ Some t → found x.step.after.notes u ≡ Some t
      keeps u t e = subst (λ (ns : Noted). found ns u ≡ Some t) (sym x.says.notes) (keeps_notes w.draws x.step.issued (after_message x.step.before x.taken) u t e)

      middle : (u : Slot) (t : Tree) → found x.taken.notes u ≡ Some t → (step_of x.step).middle u ≢ None
      middle u t e = subst (λ (o : Option Tree). middle_of (run_of x.step.before) o (found x.step.after.notes) u ≢ None) (sym x.takes) (taken_middle x.step.before m x.taken.notes x.step.after.notes fits.pass fits.at fits.extends keeps u t e)

      due : IsDue w w.draws x.step.taken
      due = subst (IsDue w w.draws) (sym x.takes) (x.derivable, x.is_born)

      fit : got_refusal (node_at (desk_in w x.id.party)) (clock_in w x.id.party) x.step.got ≡ None
      fit = ap (got_refusal (node_at (desk_in w x.id.party)) (clock_in w x.id.party)) x.got ∙ x.fit

  stays_judged : (w v : WorldView) (id : RunId) (s : State) (m : Tree) (e : Refusal) → IsGenuine w → Among id w.runs → IsJudged allowed w id s m e v → IsGenuine v
  stays_judged w v id s m e g i (inl x) = subst IsGenuine (sym x.1) g
  stays_judged w v id s m e g i (inr (t, fits, inl x)) = subst IsGenuine (sym x.1) g
  stays_judged w v id s m e g i (inr (t, fits, inr x)) = subst IsGenuine (sym x.2) (stays_made w g id.party (g.runs.declared id i) (after_message s t))

  stays_ungiven : (w v : WorldView) (run : ℕ) (m : Tree) (e : Refusal) → IsGenuine w → IsGiveRefused allowed w run m e v → IsGenuine v
  stays_ungiven w v run m e g (inl x) = subst IsGenuine (sym x.2) g
  stays_ungiven w v run m e g (inr (_, inl x)) = subst IsGenuine (sym x.2) g
  stays_ungiven w v run m e g (inr (_, inr (_, inl x))) = subst IsGenuine (sym x.1) g
  stays_ungiven w v run m e g (inr (_, inr (_, inr (id, s, is, held, x)))) = stays_judged w v id s m e g (run_among w.runs run id is) x

  pub stays_give : (w v : WorldView) (run : ℕ) (m : Tree) (r : Result Given Refusal) → HasNumbers w → IsGenuine w → Gives allowed w run m r v → IsGenuine v
  stays_give w v run m (Ok h) numbers g x = stays_given w v run m h numbers.draws g x
  stays_give w v run m (Err e) numbers g x = stays_ungiven w v run m e g x

-- ---- openings

pub held_opened : (w : WorldView) (h : Head) (texts : Texts) → held_in (opened_by w h texts).acts (id_of w h) ≡ open_in (opened_state h texts)
held_opened w h texts = held_own w.acts (me h) (next_run w (me h)) (Open (next_run w (me h)) h texts) ∙ own (next_run w (me h))
  where
    own : (m : ℕ) → held_by (Open m h texts ∷ reverse (acts_of (me h) w.acts)) m ≡ open_in (opened_state h texts)
    own m = ap (λ (b : Bool). if b then open_in (opened_state h texts) else held_by (reverse (acts_of (me h) w.acts)) m) (eq-eqb m m refl)

stays_opened : (w v : WorldView) (h : Head) (texts : Texts) (o : Opened) → IsHead h → w.draws < 18_446_744_073_709_551_600 → IsGenuine w → IsOpened w h texts o v → IsGenuine v
stays_opened w v h texts o is numbers g x = go x.goes
  where
    listed : IsGenuine (enlisted w h texts)
    listed = genuine_list w g h texts is x.may

    go : Waits w h texts o v ⊎ Speaks w h texts o v → IsGenuine v
    go (inl y) = subst IsGenuine (sym y.leaves) listed
    go (inr y) = subst IsGenuine (sym y.leaves) (stays_stepped (enlisted w h texts) listed numbers (id_of w h) (among_right w.runs (id_of w h ∷ []) (id_of w h) (inl refl)) (opened_state h texts) y.step current y.says middle due fit)
      where
        current : held_in (enlisted w h texts).acts (id_of w h) ≡ open_in y.step.before
        current = held_opened w h texts ∙ ap open_in (sym y.before)

        middle : (u : Slot) (t : Tree) → found (opened_state h texts).notes u ≡ Some t → (step_of y.step).middle u ≢ None
        middle u t e =
            subst (λ (q : Option Tree). middle_of (run_of y.step.before) q (found y.step.after.notes) u ≢ None) (sym y.takes)
            (subst (λ (s : State). found s.notes u ≢ None) (sym y.before) (λ none. known_before_it (found (opened_state h texts).notes u) None t e (ap (λ (q : Option Tree). or_else q None) none)))

        due : IsDue (enlisted w h texts) w.draws y.step.taken
        due = subst (IsDue (enlisted w h texts) w.draws) (sym y.takes) tt

        fit : got_refusal (node_at (desk_in (enlisted w h texts) (me h))) (clock_in (enlisted w h texts) (me h)) y.step.got ≡ None
        fit =
            let silent = silent_takes (keys_at (enlisted w h texts) (me h)) (run_of y.step.before) y.step.taken (step_of y.step).middle y.step.opened y.step.got y.takes y.says.is_step.takes in
            ap (got_refusal (node_at (desk_in (enlisted w h texts) (me h))) (clock_in (enlisted w h texts) (me h))) silent.1

-- a run that was opened may be given up, after its stamp was issued or before
module _ (w : WorldView) (h : Head) (texts : Texts) (is : IsHead h) (g : IsGenuine w) (may : open_refusal w h ≡ None) where
  opened : IsGenuine (opened_by w h texts)
  opened = genuine_open w g h texts is may

  declared_me : Among (me h) (names_in w.config)
  declared_me = (may_open_in w h may).declared

  stays_given_up : (issued : Option Stamp) → ((x : Stamp) → issued ≡ Some x → next_stamp_of (opened_by w h texts) (me h) ≡ Some x) → IsGenuine (given_up w h texts issued)
  stays_given_up issued next =
      genuine_drop (issued_by (opened_by w h texts) (me h) issued) (genuine_issued (opened_by w h texts) opened (me h) declared_me issued next w.draws (omega arith)) (id_of w h) declared_me (opened_state h texts)
      (held_issued (opened_by w h texts) (id_of w h) issued ∙ held_opened w h texts)

stays_unopened : (w v : WorldView) (h : Head) (texts : Texts) (e : Refusal) → IsHead h → IsGenuine w → IsOpenRefused w h texts e v → IsGenuine v
stays_unopened w v h texts e is g (inl x) = subst IsGenuine (sym x.1) g
stays_unopened w v h texts e is g (inr x) = subst IsGenuine (sym x.2) (stays_given_up w h texts is g x.0 None (λ y f. absurd cc))

pub stays_open : (w v : WorldView) (h : Head) (texts : Texts) (r : Result Opened Refusal) → IsHead h → HasNumbers w → IsGenuine w → Opens w h texts r v → IsGenuine v
stays_open w v h texts (Ok o) is numbers g x = stays_opened w v h texts o is numbers.draws g x
stays_open w v h texts (Err e) is numbers g x = stays_unopened w v h texts e is g x

-- ---- want of memory

-- a world that stands as a genuine one, but for its clocks and for values that were drawn
stays_drawn : (w u v : WorldView) → IsGenuine u → u.config ≡ w.config → u.runs ≡ w.runs → u.draws ≡ w.draws → v.acts ≡ u.acts → w.draws ≤ v.draws → v.config ≡ w.config → v.runs ≡ w.runs → IsGenuine v
stays_drawn w u v g config runs draws acts le same_config same_runs =
    let more = genuine_more u g v.draws (omega (arith, draws, le)) in
    let all : record u { draws = v.draws; clocks = v.clocks } ≡ v =
    λ i. record { config = (config ∙ sym same_config) i; acts = sym acts i; clocks = v.clocks; draws = v.draws; runs = (runs ∙ sym same_runs) i } in
    subst IsGenuine all (record { conditions = more.conditions; world = more.world; born = more.born; runs = more.runs })

pub stays_give_left : (allowed : Mech → Slot → Bytes → Bool) (w v : WorldView) (run : ℕ) (m : Tree) → IsGenuine w → IsGiveLeft allowed w run m v → IsGenuine v
stays_give_left allowed w v run m g (inl e) = subst IsGenuine (sym e) g
stays_give_left allowed w v run m g (inr x) = go x.part.0
  where
    go : (v.acts ≡ w.acts) ⊎ (v.acts ≡ (made_by w x.id.party x.state).acts) → IsGenuine v
    go (inl e) = stays_drawn w w v g refl refl refl e x.part.1 x.config x.runs
    go (inr e) =
        stays_drawn w (issued_by w x.id.party (stamp_due w x.id.party x.state)) v
        (genuine_issued w g x.id.party (g.runs.declared x.id (run_among w.runs run x.id x.is_run)) (stamp_due w x.id.party x.state) (due_is_next w x.id.party x.state) w.draws (omega arith)) refl refl refl e x.part.1 x.config x.runs

pub stays_open_left : (w v : WorldView) (h : Head) (texts : Texts) → IsHead h → IsGenuine w → IsOpenLeft w h texts v → IsGenuine v
stays_open_left w v h texts is g (inl e) = subst IsGenuine (sym e) g
stays_open_left w v h texts is g (inr x) = go x.part
  where
    -- it was given up after that
    by : (issued : Option Stamp) → ((y : Stamp) → issued ≡ Some y → next_stamp_of (opened_by w h texts) (me h) ≡ Some y) → x.acts ≡ (issued_by (opened_by w h texts) (me h) issued).acts → w.draws ≤ v.draws → IsGenuine v
    by issued next a less =
        stays_drawn w (given_up w h texts issued) v (stays_given_up w h texts is g x.may issued next) refl refl refl
        (x.gives_up ∙ ap (λ (acts : List Act). acts ++ act (me h) (Drop (next_run w (me h))) ∷ []) a) less x.config x.runs

    go : IsPartAtMost (λ s. (s ≡ opened_state h texts) × (sends_first s ≡ true)) (opened_by w h texts) (me h) x.acts v.draws → IsGenuine v
    go (inl (a, d)) = by None (λ y f. absurd cc) a (omega (arith, d))
    go (inr (s, due, (inl a, less, more))) = by None (λ y f. absurd cc) a less
    go (inr (s, due, (inr a, less, more))) = by (stamp_due (opened_by w h texts) (me h) s) (due_is_next (opened_by w h texts) (me h) s) a less
