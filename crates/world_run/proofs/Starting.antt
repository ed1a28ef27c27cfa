-- A run that its party has opened begins: it is given a number and says its first message, or its number is taken away again.
use Rattle.std.proofs.Common.{◌≡◌, ◌≢◌, ◌⊎◌, ◌==◌, ◌<◌, ◌≤◌, ◌+◌, ◌-◌, ℕ, zero, suc, Bool, true, false, if◌then◌else◌, List, [], ◌∷◌, ◌++◌, length, map, slice_get, take, Option, Some, None, IsSome, option_map, refl, sym, ap, subst, ◌∙◌, inl, inr, arith}
use Rattle.std.specs.Option.{option_to_list}
use Rattle.std.proofs.lemmas.List.{append-nil, length-append, length-map, map-append}
use Rattle.term_values.specs.Trees.{Among, Tree}
use Rattle.term_values.specs.declared.small.Stamp.{Stamp}
use Rattle.term_values.proofs.Lists.{among_left, among_right}
use Rattle.mech_rows.specs.declared.refusal.Refusal.{Refusal}
use Rattle.mech_rows.specs.declared.refusal.Refusal.TheVariants.{EndedRun}
use Rattle.mech_rows.specs.Heads.{Head, IsHead, me}
use Rattle.mech_rows.specs.Moves.{Move, middle_of, step_of}
use Rattle.mech_rows.specs.Notes.{terms_of}
use Rattle.mech_rows.specs.Openings.{Texts, opened_state}
use Rattle.mech_rows.specs.Replies.{in_order, needs_stamp, sends_first}
use Rattle.mech_rows.specs.Runs.{Keys}
use Rattle.mech_rows.specs.Steps.{IsStep, Takes, symbolic}
use Rattle.mech_rows.specs.Verdict.{Noted, State, run_of}
use Rattle.agreement_laws.specs.declared.history.Happened.{Happened}
use Rattle.agreement_laws.specs.Histories.{HistoryOf}
use Rattle.agreement_laws.specs.Configs.{AllDiffer, names_in}
use Rattle.agreement_laws.specs.Traces.{RunId}
use Rattle.agreement_laws.specs.Worlds.{trace}
use Rattle.node_desk.specs.declared.event.Event.{Event}
use Rattle.node_desk.specs.declared.event.Event.TheVariants.{Open, Commit, Drop}
use Rattle.node_desk.specs.Deliveries.{open_in, spent_refusal}
use Rattle.node_desk.specs.Desks.{node_at}
use Rattle.node_desk.specs.Helds.{Held, held_by}
use Rattle.node_desk.specs.Openings.{opening_refusal}
use Rattle.node_desk.specs.Refusals.{got_refusal, run_refusal}
use Rattle.world_run.specs.declared.given.Given.{Given}
use Rattle.world_run.specs.declared.opened.Opened.{Opened}
use Rattle.world_run.specs.declared.scene.Scene.{Scene}
use Rattle.world_run.specs.Clocks.{clock_in}
use Rattle.world_run.specs.Kept.{AreBorn, AreRuns, HasStepped, IsDue, IsEntered, IsGenuine, IsKept, IsReady, view_of}
use Rattle.world_run.specs.Makings.{HasBrokenOff, HasMade, IsBrokenOff, IsFirst, IsNotFirst, SaysFirst}
use Rattle.world_run.specs.Parties.{HasActed, PartiesView, as_world}
use Rattle.world_run.specs.Starts.{HasBegun, HasSpoken, HasWaited, IsListed, IsUnbegun, IsUnlisted, listed}
use Rattle.world_run.specs.Turns.{IsPartAtMost, SaysNext, desk_in, did, draws_for, issued_by, keys_at, made_by, moment, next_message, next_stamp_of, stamp_due, stepped, with_issue}
use Rattle.world_run.specs.Views.{Act, act, acts_of, entries, held_in, is_over, known_in, sent_in, Shown, shown_as, shown_from, shown_of, told_by, told_of, Told, WorldView}
use Rattle.world_run.proofs.Legal.{all_differ_and, among_and, due_is_next, genuine_issued, genuine_more}
use Rattle.world_run.proofs.Quiet.{issue_sent, issue_stands, issue_stepped, issue_trace, kept_quiet, made_moment, made_next, running_few, shown_snoc}
use Rattle.world_run.proofs.Saying.{draws_few, draws_most}

-- ---- states of open runs

abbrev state_or : State → Option Held → State
state_or s None = s
state_or s (Some h) = h.state

pub same_state : (s t : State) → open_in s ≡ open_in t → s ≡ t
same_state s t e = ap (state_or s) e

-- ---- a run is given a number

pub genuine_listed : (w : WorldView) → IsGenuine w → (h : Head) (id : RunId) → IsUnlisted w h id → IsGenuine (listed w id)
genuine_listed w g h id u = record {
  conditions = g.conditions;
  world = g.world;
  born = g.born;
  runs = record {
    there = λ x i. elim (among_and w.runs id x i) [ inl j ↦ g.runs.there x j | inr e ↦ subst (λ (y : RunId). (k : Held) × (held_in w.acts y ≡ Some k)) (sym e) (record { state = u.state; is_open = true }, u.current) ];
    declared = λ x i. elim (among_and w.runs id x i) [ inl j ↦ g.runs.declared x j | inr e ↦ subst (λ (y : RunId). Among y.party (names_in w.config)) (sym e) u.declared ];
    apart = all_differ_and w.runs id g.runs.apart u.unlisted;
    stepped = λ x s. among_left w.runs (id ∷ []) x (g.runs.stepped x s);
  };
}

-- the history tells this of a run that begins
pub record TellsOf (x : Happened) (number : ℕ) (h : Head) (s : State) : Type 0 where
  pub run : x.run ≡ number
  pub head : x.head ≡ h
  pub notes : terms_of x.notes ≡ in_order s.notes
  pub done : x.done ≡ is_over s
  pub exposed : x.exposed ≡ false

tells : (x : Happened) (n m : ℕ) (h : Head) (s : State) → TellsOf x n h s → s.head ≡ h → n ≡ m → shown_of x ∷ [] ≡ shown_as m (open_in s)
tells x n m h s t head number = λ i. record { run = (t.run ∙ number) i; head = (t.head ∙ sym head) i; notes = t.notes i; done = t.done i; exposed = t.exposed i } ∷ []

-- the same, with other runs
abbrev told_with : Told → List Shown → Told
told_with t hs = record t { happened = hs }

pub kept_listed : (s t : Scene) (h : Head) (id : RunId) (st : State) (x : Happened) → IsKept s → IsUnlisted (view_of s) h id → held_in s.parties.acts id ≡ open_in st → TellsOf x (length s.runs.items + 1) h st → view_of t ≡ listed (view_of s) id → t.knowledge.given ≡ s.knowledge.given
    → t.history ≡ record s.history { happened = s.history.happened ++ x ∷ [] } → length s.runs.items < t.parties.room → IsKept t
kept_listed s t h id st x k u current tell view given history room = record {
  genuine = subst IsGenuine (sym view) (genuine_listed (view_of s) k.genuine h id u);
  learnt = given ∙ (k.learnt ∙ ap (λ (v : WorldView). known_in v) (sym view));
  told = ap told_by history ∙ ((λ i. told_with (k.told i) (happened i)) ∙ ap told_of (sym view));
  room = let few = running_few (view_of t) in let len = ap length (ap (λ (v : WorldView). v.runs) view) ∙ length-append s.runs.items (id ∷ []) in omega (arith, few, len, room);
}
  where
    same : u.state ≡ st
    same = same_state u.state st (sym u.current ∙ current)

    here : shown_of x ∷ [] ≡ shown_as (1 + length s.runs.items) (held_in s.parties.acts id)
    here = tells x (length s.runs.items + 1) (1 + length s.runs.items) h st tell (subst (λ (y : State). y.head ≡ h) same u.head) (omega arith) ∙ ap (shown_as (1 + length s.runs.items)) (sym current)

    happened : map shown_of (s.history.happened ++ x ∷ []) ≡ shown_from s.parties.acts 1 (s.runs.items ++ id ∷ [])
    happened = map-append shown_of s.history.happened (x ∷ []) ∙ ((λ i. (k.told i).happened ++ here i) ∙ sym (shown_snoc s.parties.acts 1 s.runs.items id))

-- ---- the first message is made

pub says_in : (p : PartiesView) (k n : ℕ) (ids : List RunId) (s : State) (step : Move) → SaysNext (as_world p k) n s step → SaysNext (record (as_world p k) { runs = ids }) n s step
says_in p k n ids s step x = record { is_step = x.is_step; issued = x.issued; notes = x.notes }

pub made_view : (s t : Scene) (id : RunId) (st : State) (step : Move) → HasMade s.parties t.parties s.draws.place t.draws.place id st step → t.runs.items ≡ s.runs.items → view_of t ≡ made_by (view_of s) id.party st
made_view s t id st step m runs = λ i. record (m.leaves i) { runs = runs i }

pub kept_made : (s t : Scene) (id : RunId) (st : State) → IsKept s → Among id s.runs.items → view_of t ≡ made_by (view_of s) id.party st → t.knowledge.given ≡ s.knowledge.given → t.history ≡ s.history → length s.runs.items ≤ t.parties.room → IsKept t
kept_made s t id st k there view given history room =
    kept_quiet s t k (subst IsGenuine (sym view) genuine) (ap (λ (v : WorldView). v.config) view) (ap (λ (v : WorldView). v.runs) view)
    (ap (λ (v : WorldView). sent_in v.acts) view ∙ issue_sent s.parties.acts id.party now due)
    (λ x i. ap (λ (v : WorldView). held_in v.acts x) view ∙ issue_stands s.parties.acts id.party now due x)
    given history room
  where
    now : ℕ
    now = moment (view_of s) id.party

    due : Option Stamp
    due = stamp_due (view_of s) id.party st

    genuine : IsGenuine (made_by (view_of s) id.party st)
    genuine = genuine_issued (view_of s) k.genuine id.party (k.genuine.runs.declared id there) (stamp_due (view_of s) id.party st) (λ x e. due_is_next (view_of s) id.party st x e) (s.draws.place + draws_for st) (omega arith)

pub ready_first : (w : WorldView) → IsGenuine w → (id : RunId) (step : Move) → step.taken ≡ None → SaysNext w id.party step.before step → w.draws < 18_446_744_073_709_551_600 → IsReady (made_by w id.party step.before) id.party step
ready_first w g id step takes says few = record {
  before = w.draws;
  state = step.before;
  is_step = says.is_step;
  middle = λ u t e none. let m : (step_of step).middle u ≡ Some t = ap (λ (x : Option Tree). middle_of (run_of step.before) x (run_of step.after).notes u) takes ∙ e in let z : Some t ≡ None = sym m ∙ none in absurd (cc);
  notes = says.notes;
  due = subst (IsDue (made_by w id.party step.before) w.draws) (sym takes) tt;
  born = subst (AreBorn w.draws) (sym (issue_trace w.acts id.party (moment w id.party) (stamp_due w id.party step.before))) g.born;
  draws = refl;
  few = let f = draws_few step.before in omega (arith, few, f);
}

-- a step that takes no message was given no stamps
pub first_got : (keys : Keys) (step : Move) → step.taken ≡ None → IsStep symbolic keys (step_of step) → step.got ≡ []
first_got keys step takes is = (subst (λ (x : Option Tree). Takes symbolic keys (run_of step.before) x (step_of step).middle step.opened step.got) takes is.takes).2

pub first_fits : (w : WorldView) (id : RunId) (step : Move) (e : Refusal) → step.got ≡ [] → got_refusal (node_at (desk_in w id.party)) (clock_in w id.party) step.got ≡ Some e → ⊥
first_fits w id step e none refused = let z : None ≡ Some e = sym (ap (got_refusal (node_at (desk_in w id.party)) (clock_in w id.party)) none) ∙ refused in cc

sent_first : (w : WorldView) (id : RunId) (step : Move) (sent : Option ℕ) → step.reply ≢ None → sent ≡ option_map (λ _. next_message (made_by w id.party step.before)) step.reply → sent ≡ Some (next_message w)
sent_first w id step sent some e = go step.reply some e
  where
    go : (reply : Option Tree) → reply ≢ None → sent ≡ option_map (λ _. next_message (made_by w id.party step.before)) reply → sent ≡ Some (next_message w)
    go None not f = absurd (not refl)
    go (Some t) not f = f ∙ ap Some (made_next w id.party step.before)

pub has_spoken : (s : Scene) (id : RunId) (step : Move) (g : Given) (o : Opened) (v : WorldView) → IsFirst (as_world s.parties s.draws.place) id step → IsEntered (made_by (view_of s) id.party step.before) id step g v → o.run ≡ length s.runs.items → o.sent ≡ g.sent → o.done ≡ g.done → HasSpoken (view_of s) id o v
has_spoken s id step g o v f entered run sent done = record {
  step = step;
  current = f.current;
  first = f.first;
  not_spent = f.not_spent;
  takes = f.takes;
  says = says_in s.parties s.draws.place id.party s.runs.items step.before step f.says;
  run = run;
  sent = sent_first (view_of s) id step o.sent (f.says.is_step.acts f.takes).1 (sent ∙ entered.sent);
  done = done ∙ entered.done;
  leaves = entered.leaves ∙ ap (λ (m : ℕ). did (made_by (view_of s) id.party step.before) id.party (Commit id.number m step)) (made_moment (view_of s) id.party step.before);
}

-- ---- no first message is said

pub left_of : (s t : Scene) (id : RunId) → HasBrokenOff (SaysFirst (as_world s.parties s.draws.place) id) s.parties t.parties s.draws.place t.draws.place id.party → t.runs.items ≡ s.runs.items → IsBrokenOff (SaysFirst (view_of s) id) (view_of s) (view_of t) id.party
left_of s t id l runs = record { part = l.part; config = l.config; clocks = l.clocks; runs = runs }

pub left_made : (w v : WorldView) (id : RunId) (s : State) → held_in w.acts id ≡ open_in s → sends_first s ≡ true → v ≡ made_by w id.party s → IsBrokenOff (SaysFirst w id) w v id.party
left_made w v id s held first e =
    let d = ap (λ (x : WorldView). x.draws) e in
    let f = draws_most s in
    record {
      part = inr (s, (held, first), (inr (ap (λ (x : WorldView). x.acts) e), omega (arith, d), omega (arith, d, f)));
      config = ap (λ (x : WorldView). x.config) e;
      clocks = ap (λ (x : WorldView). x.clocks) e;
      runs = ap (λ (x : WorldView). x.runs) e;
    }

-- the acts that are left are the old ones, or those with the stamp that was due
pub record IsIssueAtMost (w v : WorldView) (n : ℕ) : Type 0 where
  pub issued : Option Stamp
  pub next : (x : Stamp) → issued ≡ Some x → next_stamp_of w n ≡ Some x
  pub acts : v.acts ≡ with_issue w.acts n (moment w n) issued
  pub no_less : w.draws ≤ v.draws

module _ (Due : State → Type 0) where
  issue_left : (w v : WorldView) (n : ℕ) → IsBrokenOff Due w v n → IsIssueAtMost w v n
  issue_left w v n l = go l.part
    where
      go : IsPartAtMost Due w n v.acts v.draws → IsIssueAtMost w v n
      go (inl (a, d)) = record { issued = None; next = λ x f. absurd (cc); acts = a; no_less = omega (arith, d) }
      go (inr (s, due, (inl a, less, more))) = record { issued = None; next = λ x f. absurd (cc); acts = a; no_less = less }
      go (inr (s, due, (inr a, less, more))) = record { issued = stamp_due w n s; next = due_is_next w n s; acts = a; no_less = less }

  genuine_left : (w v : WorldView) → IsGenuine w → (n : ℕ) → Among n (names_in w.config) → IsBrokenOff Due w v n → IsGenuine v
  genuine_left w v g n declared l =
      let z = issue_left w v n l in
      subst IsGenuine (λ i. record { config = sym l.config i; acts = sym z.acts i; clocks = sym l.clocks i; draws = v.draws; runs = sym l.runs i }) (genuine_issued w g n declared z.issued z.next v.draws z.no_less)

  -- what is the same of the acts where they are as before, or a stamp was issued
  left_same : {X : Type 0} (f : List Act → X) (w v : WorldView) (n : ℕ) → ((issued : Option Stamp) → f (with_issue w.acts n (moment w n) issued) ≡ f w.acts) → IsBrokenOff Due w v n → f v.acts ≡ f w.acts
  left_same f w v n same l = let z = issue_left w v n l in ap f z.acts ∙ same z.issued

  pub kept_left : (s t : Scene) (n : ℕ) → IsKept s → Among n (names_in s.parties.config) → IsBrokenOff Due (view_of s) (view_of t) n → t.knowledge.given ≡ s.knowledge.given → t.history ≡ s.history → length s.runs.items ≤ t.parties.room → IsKept t
  kept_left s t n k declared l given history room =
      kept_quiet s t k (genuine_left (view_of s) (view_of t) k.genuine n declared l) l.config l.runs
      (left_same sent_in (view_of s) (view_of t) n (issue_sent s.parties.acts n (moment (view_of s) n)) l)
      (λ x i. left_same (λ (acts : List Act). held_in acts x) (view_of s) (view_of t) n (λ issued. issue_stands s.parties.acts n (moment (view_of s) n) issued x) l)
      given history room

  pub left_stepped : (w v : WorldView) (n : ℕ) (id : RunId) → IsBrokenOff Due w v n → HasStepped v.acts id → HasStepped w.acts id
  left_stepped w v n id l s = let z = issue_left w v n l in issue_stepped w.acts n (moment w n) z.issued id (subst (λ (acts : List Act). HasStepped acts id) z.acts s)

  pub left_held : (w v : WorldView) (n : ℕ) (id : RunId) → IsBrokenOff Due w v n → held_in v.acts id ≡ held_in w.acts id
  left_held w v n id l = left_same (λ (acts : List Act). held_in acts id) w v n (λ issued. issue_stands w.acts n (moment w n) issued id) l

-- ---- a number is taken away

-- the list without its last element
abbrev all_but : {X : Type 0} → X → List X → List X
all_but x [] = []
all_but x (y ∷ ys) = x ∷ all_but y ys

abbrev short : {X : Type 0} → List X → List X
short [] = []
short (x ∷ xs) = all_but x xs

short_snoc : {X : Type 0} (xs : List X) (x : X) → short (xs ++ x ∷ []) ≡ xs
short_snoc [] x = refl
short_snoc {X = X} (y ∷ ys) x = go y ys
  where
    go : (z : X) (zs : List X) → all_but z (zs ++ x ∷ []) ≡ z ∷ zs
    go z [] = refl
    go z (u ∷ us) = ap (λ (r : List X). z ∷ r) (go u us)

pub same_before : {X : Type 0} (xs ys : List X) (x y : X) → xs ++ x ∷ [] ≡ ys ++ y ∷ [] → xs ≡ ys
same_before xs ys x y e = sym (short_snoc xs x) ∙ (ap short e ∙ short_snoc ys y)

differ_before : {X : Type 0} (xs : List X) (x : X) → AllDiffer (xs ++ x ∷ []) → AllDiffer xs
differ_before [] x d = tt
differ_before (y ∷ ys) x d = ((λ i. d.0 (among_left ys (x ∷ []) y i)), differ_before ys x d.1)

genuine_unlisted : (w : WorldView) → IsGenuine w → (ids : List RunId) (id : RunId) → w.runs ≡ ids ++ id ∷ [] → (HasStepped w.acts id → ⊥) → IsGenuine (record w { runs = ids })
genuine_unlisted w g ids id e not = record {
  conditions = g.conditions;
  world = g.world;
  born = g.born;
  runs = record {
    there = λ x i. r.there x (among_left ids (id ∷ []) x i);
    declared = λ x i. r.declared x (among_left ids (id ∷ []) x i);
    apart = differ_before ids id r.apart;
    stepped = λ x s. elim (among_and ids id x (r.stepped x s)) [ inl j ↦ j | inr is ↦ absurd (not (subst (HasStepped w.acts) is s)) ];
  };
}
  where
    r : AreRuns w.config w.acts (ids ++ id ∷ [])
    r = subst (AreRuns w.config w.acts) e g.runs

-- the last run of so many, as it is told
abbrev last_of : List RunId → Held → Shown
last_of ids h = record { run = 1 + length ids; head = h.state.head; notes = in_order h.state.notes; done = is_over h.state; exposed = false }

told_before : (acts : List Act) (ids : List RunId) (id : RunId) (hs rest : List Happened) (o : Option Happened) → hs ≡ rest ++ option_to_list o → (0 < length hs → IsSome o) → map shown_of hs ≡ shown_from acts 1 (ids ++ id ∷ []) → (h : Held) → held_in acts id ≡ Some h → map shown_of rest ≡ shown_from acts 1 ids
told_before acts ids id hs rest o e some told h held = go o e some
  where
    all : map shown_of hs ≡ shown_from acts 1 ids ++ last_of ids h ∷ []
    all = told ∙ (shown_snoc acts 1 ids id ∙ ap (λ (x : Option Held). shown_from acts 1 ids ++ shown_as (1 + length ids) x) held)

    go : (x : Option Happened) → hs ≡ rest ++ option_to_list x → (0 < length hs → IsSome x) → map shown_of rest ≡ shown_from acts 1 ids
    go (Some x) f is = same_before (map shown_of rest) (shown_from acts 1 ids) (shown_of x) (last_of ids h) (sym (map-append shown_of rest (x ∷ [])) ∙ (sym (ap (map shown_of) f) ∙ all))
    go None f is = let z : false ≡ true = is lt in absurd (cc)
      where
        lt : 0 < length hs
        lt = let a = ap length all in let b = length-append (shown_from acts 1 ids) (last_of ids h ∷ []) in let m = length-map hs shown_of in omega (arith, a, b, m)

pub kept_unlisted : (s t : Scene) (ids : List RunId) (id : RunId) (rest : List Happened) (o : Option Happened) → IsKept s → s.runs.items ≡ ids ++ id ∷ [] → (HasStepped s.parties.acts id → ⊥) → view_of t ≡ record (view_of s) { runs = ids } → t.knowledge.given ≡ s.knowledge.given
    → t.history ≡ record s.history { happened = rest } → s.history.happened ≡ rest ++ option_to_list o → (0 < length s.history.happened → IsSome o) → length ids ≤ t.parties.room → IsKept t
kept_unlisted s t ids id rest o k e not view given history popped some room = record {
  genuine = subst IsGenuine (sym view) (genuine_unlisted (view_of s) k.genuine ids id e not);
  learnt = given ∙ (k.learnt ∙ ap (λ (v : WorldView). known_in v) (sym view));
  told = ap told_by history ∙ ((λ i. told_with (k.told i) (happened i)) ∙ ap told_of (sym view));
  room = let few = running_few (view_of t) in let len = ap length (ap (λ (v : WorldView). v.runs) view) in omega (arith, few, len, room);
}
  where
    there : (h : Held) × (held_in s.parties.acts id ≡ Some h)
    there = k.genuine.runs.there id (subst (Among id) (sym e) (among_right ids (id ∷ []) id (inl refl)))

    happened : map shown_of rest ≡ shown_from s.parties.acts 1 ids
    happened = told_before s.parties.acts ids id s.history.happened rest o popped some ((λ i. (k.told i).happened) ∙ ap (shown_from s.parties.acts 1) e) there.0 there.1

-- ---- the run begins, or it does not

pub has_waited : (w v : WorldView) (id : RunId) (first : Bool) (o : Opened) → IsListed w id first v → first ≡ false → o.run ≡ length v.runs → o.sent ≡ None → o.done ≡ false → HasWaited w id o v
has_waited w v id first o l not run sent done = record {
  state = l.state;
  current = l.current;
  silent = sym l.first_is ∙ not;
  run = run ∙ (ap (λ (x : WorldView). length x.runs) l.leaves ∙ (length-append w.runs (id ∷ []) ∙ omega arith));
  sent = sent;
  done = done;
  leaves = l.leaves;
}

open_runs : (held : Option Held) (s : State) (e : Refusal) → held ≡ open_in s → run_refusal held ≡ Some e → ⊥
open_runs held s e is r = let z : None ≡ Some e = sym (ap run_refusal is) ∙ r in cc

pub is_unbegun : (w : WorldView) (id : RunId) (s : State) (e : Refusal) → held_in w.acts id ≡ open_in s → sends_first s ≡ true → IsNotFirst w id e → IsUnbegun w id e
is_unbegun w id s e current first (inl r) = absurd (open_runs (held_in w.acts id) s e current r)
is_unbegun w id s e current first (inr (t, held, inl r)) =
    let same : s ≡ t = same_state s t (sym current ∙ held) in
    let z : true ≡ false = sym first ∙ (ap sends_first same ∙ r.0) in absurd (cc)
is_unbegun w id s e current first (inr (t, held, inr r)) = record { state = t; current = held; first = r.0; spent = r.1 }

pub unlisted_left : (w v u : WorldView) (id : RunId) → IsBrokenOff (SaysFirst (listed w id) id) (listed w id) v id.party → u ≡ record v { runs = w.runs } → IsBrokenOff (SaysFirst w id) w u id.party
unlisted_left w v u id l e = record {
  part = subst (λ (x : WorldView). IsPartAtMost (SaysFirst w id) w id.party x.acts x.draws) (sym e) l.part;
  config = ap (λ (x : WorldView). x.config) e ∙ l.config;
  clocks = ap (λ (x : WorldView). x.clocks) e ∙ l.clocks;
  runs = ap (λ (x : WorldView). x.runs) e;
}

-- ---- the last of a list

last_at : {X : Type 0} (xs : List X) (x : X) → slice_get (xs ++ x ∷ []) (length xs) ≡ Some x
last_at [] x = refl
last_at (y ∷ ys) x = last_at ys x

pub last_is : {X : Type 0} (ys xs : List X) (x : X) → ys ≡ xs ++ x ∷ [] → slice_get ys (length ys - 1) ≡ Some x
last_is {X = X} ys xs x e = ap (λ (zs : List X). slice_get zs (length zs - 1)) e ∙ (ap (slice_get (xs ++ x ∷ [])) len ∙ last_at xs x)
  where
    len : length (xs ++ x ∷ []) - 1 ≡ length xs
    len = let m = length-append xs (x ∷ []) in omega (arith, m)

pub last_among : {X : Type 0} (xs : List X) (k : ℕ) (x : X) → slice_get xs k ≡ Some x → Among x xs
last_among [] k x e = absurd (cc)
last_among (y ∷ ys) zero x e = inl cc
last_among (y ∷ ys) (suc k) x e = inr (last_among ys k x e)

take_all : {X : Type 0} (xs : List X) (x : X) → take (length xs) (xs ++ x ∷ []) ≡ xs
take_all [] x = refl
take_all {X = X} (y ∷ ys) x = ap (λ (zs : List X). y ∷ zs) (take_all ys x)

pub rest_is : {X : Type 0} (ys xs : List X) (x : X) → ys ≡ xs ++ x ∷ [] → take (length ys - 1) ys ≡ xs
rest_is {X = X} ys xs x e = ap (λ (zs : List X). take (length zs - 1) zs) e ∙ (ap (λ (m : ℕ). take m (xs ++ x ∷ [])) len ∙ take_all xs x)
  where
    len : length (xs ++ x ∷ []) - 1 ≡ length xs
    len = let m = length-append xs (x ∷ []) in omega (arith, m)

-- what was popped
pub popped : {X : Type 0} (ys xs : List X) (o : Option X) → ys ≡ xs ++ option_to_list o → 0 < length ys → (0 < length ys → IsSome o) → (x : X) × (ys ≡ xs ++ x ∷ [])
popped ys xs None e lt some = let z : false ≡ true = some lt in absurd (cc)
popped ys xs (Some x) e lt some = (x, e)
