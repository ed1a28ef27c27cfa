-- The step that a party made in its turn, as its desk tells it, in the words of the parties.
use Rattle.std.proofs.Common.{◌≡◌, ◌≢◌, ◌⊎◌, ◌<◌, ◌≤◌, ◌+◌, ◌-◌, ◌^◌, ◌==◌, ℕ, suc, max, Bool, true, false, if◌then◌else◌, ◌&&◌, nat_lt, List, [], ◌∷◌, ◌++◌, length, get_or, set, map, drop, Option, Some, None, Result, Ok, Err, IfErr, IfOk, OnErr, is_some, IfSome, refl, sym, ap, subst, ◌∙◌, inl, inr, arith}
use Rattle.std.proofs.lemmas.Bool.{ltb-true}
use Rattle.term_values.specs.Trees.{Bytes, Tree}
use Rattle.term_values.specs.declared.small.Stamp.{Stamp}
use Rattle.tagged_codec.specs.Grammar.{IsSpelling}
use Rattle.tagged_codec.proofs.Whole.{no_whole_fault}
use Rattle.tagged_codec.proofs.Terms.{one_form_is}
use Rattle.outside.specs.Told.{Told}
use Rattle.replay_store.specs.Stamps.{last_number, next_stamp}
use Rattle.mech_rows.specs.declared.kinds.Mech.{Mech}
use Rattle.mech_rows.specs.declared.kinds.Slot.{Slot}
use Rattle.mech_rows.specs.declared.refusal.Refusal.{Refusal}
use Rattle.mech_rows.specs.declared.refusal.Refusal.TheVariants.{DrawFault, EndedRun, Malformed, Memory, StampsSpent}
use Rattle.mech_rows.specs.Lawful.{tested_by}
use Rattle.mech_rows.specs.Moves.{Move, step_of}
use Rattle.mech_rows.specs.Replies.{made_in, needs_stamp, new_slots, next_pass, run_verdict, sends, sends_first}
use Rattle.mech_rows.specs.Rings.{Ring, keys_in}
use Rattle.mech_rows.specs.Runs.{Keys, Opening, after_taking, reply_pass}
use Rattle.mech_rows.specs.Steps.{IsStep, Replies}
use Rattle.mech_rows.specs.Verdict.{State, Taken}
use Rattle.seal_symbolic.specs.Symbolic.{body_of, is_check}
use Rattle.text_hooks.specs.Drawn.{DrawsAre, MovedOn, after_slots, drawn_values}
use Rattle.text_hooks.specs.Refused.{IsNoSpelling}
use Rattle.agreement_laws.specs.Configs.{Config}
use Rattle.agreement_laws.specs.Traces.{RunId}
use Rattle.agreement_laws.specs.Nodes.{Node}
use Rattle.agreement_laws.specs.Worlds.{ring_of}
use Rattle.node_desk.specs.declared.event.Event.{Event}
use Rattle.node_desk.specs.declared.event.Event.TheVariants.{Issue}
use Rattle.node_desk.specs.Deliveries.{FirstFor, HasMovedDraws, HasMovedDrawsFirst, HasIssued, IssuedAtMost, IssuedAtMostFirst, IsFit, IsTurnedAway, IsFirstRefused, MayHaveIssued, IsUnfit, IsUnmade, IsUnsaid, IssuedIs, MadeFor, MayCommit, after_message, most_drawn, open_in, spent_refusal}
use Rattle.node_desk.specs.Desks.{DeskView, IsLegalLog, IsMadeWith, IsUnused, Untouched, node_at, run_at}
use Rattle.node_desk.specs.Events.{log_of}
use Rattle.node_desk.specs.Helds.{Held, held_at}
use Rattle.node_desk.specs.Refusals.{issue_refusal, run_refusal}
use Rattle.world_run.specs.declared.seat.Seat.{Seat}
use Rattle.world_run.specs.Gives.{HasTaken}
use Rattle.world_run.specs.Makings.{HasAnswered, HasBrokenOff, HasMade, IsAnswered, IsFirst, IsNotFirst, IsUnanswered, SaysFirst}
use Rattle.world_run.specs.Parties.{AreParties, PartiesView, as_world, log_in, merged, seat_clock, seat_name}
use Rattle.world_run.specs.Turns.{SaysNext, desk_in, draws_for, draws_from, drawn_count, keys_at, made_by, moment, next_stamp_of, notes_after, stamp_due, with_issue, IsPartMade, IsPartAtMost}
use Rattle.world_run.specs.Views.{Act, acts_of, held_in, WorldView}
use Rattle.world_run.proofs.Issues.{HasNoted, issued_noted}
use Rattle.world_run.proofs.Saying.{moved_few, sends_none, sends_some, slots_drawn}
use Rattle.world_run.proofs.Sealings.{symbolic_step}
use Rattle.world_run.proofs.Seats.{IsSeatOf, clocks_stay, is_named, seat_is, written_is}
use Rattle.world_run.proofs.Turned.{due_by, held_now, moment_now, node_now, spent_now}

-- ---- bytes that are a spelling

no_spelling : (m : Tree) (bytes : Bytes) (e : Refusal) → IsSpelling m bytes → IsNoSpelling bytes e → ⊥
no_spelling m bytes (Malformed place why) sp f = no_whole_fault bytes m place why sp f
no_spelling m bytes e sp f = f

-- bytes spell one term
one_term : (m u : Tree) (bytes : Bytes) → IsSpelling m bytes → IsSpelling u bytes → u ≡ m
one_term m u bytes sp q = (one_form_is u m bytes bytes [] [] q sp refl).0

-- ---- refusals that are no failed draw

run_draws : (held : Option Held) → run_refusal held ≡ Some DrawFault → ⊥
run_draws None e = cc
run_draws (Some h) e = go h.is_open e
  where
    go : (b : Bool) → ◌≡◌ {A = Option Refusal} (if b then None else Some EndedRun) (Some DrawFault) → ⊥
    go true f = cc
    go false f = cc

spent_draws : (d : DeskView) (s : State) → spent_refusal d s ≡ Some DrawFault → ⊥
spent_draws d s e = go (needs_stamp s) ((node_at d).last == last_number) e
  where
    go : (a b : Bool) → ◌≡◌ {A = Option Refusal} (if a then (if b then Some StampsSpent else None) else None) (Some DrawFault) → ⊥
    go true true f = cc
    go true false f = cc
    go false b f = cc

abbrev state_or : State → Option Held → State
state_or s None = s
state_or s (Some h) = h.state

-- what was taken
abbrev taken_or : Taken → Result Taken Refusal → Taken
taken_or t (Ok u) = u
taken_or t (Err e) = t

same_taken : (t u : Taken) → ◌≡◌ {A = Result Taken Refusal} (Ok t) (Ok u) → t ≡ u
same_taken t u e = ap (taken_or t) e

same_state : (s t : State) → open_in s ≡ open_in t → s ≡ t
same_state s t e = ap (state_or s) e

first_part : (s : State) → sends_first s ≡ true → sends s ≡ true
first_part s e = go (sends s) (s.next == 0) e
  where
    go : (a b : Bool) → (a && b) ≡ true → a ≡ true
    go true b f = refl
    go false b f = f

-- ---- what is drawn

-- the notes after the draws of what a run says
noted_now : (k : ℕ) (s : State) (issued : Option Stamp) (after : _) → sends s ≡ true → after ≡ s.notes ++ drawn_values (draws_from k) issued (new_slots s) → after ≡ notes_after k issued s
noted_now k s issued after sent e = e ∙ sym (ap (λ (b : Bool). if b then s.notes ++ drawn_values (draws_from k) issued (new_slots s) else s.notes) sent)

-- the draws after what a run says
abbrev place_or : ℕ → Option Told → ℕ
place_or n None = n
place_or n (Some t) = t.place

some_place : (j m : ℕ) → Some (draws_from j) ≡ Some (draws_from m) → j ≡ m
some_place j m e = ap (place_or j) e

drawn_now : (k j : ℕ) (s : State) → sends s ≡ true → Some (draws_from j) ≡ Some (after_slots (draws_from k) (new_slots s)) → j ≡ k + draws_for s
drawn_now k j s sent e =
    let all : Some (draws_from j) ≡ Some (draws_from (k + drawn_count (new_slots s))) = e ∙ ap (λ (t : Told). Some t) (slots_drawn k (new_slots s)) in
    some_place j (k + drawn_count (new_slots s)) all ∙ sym (ap (λ (b : Bool). k + (if b then drawn_count (new_slots s) else 0)) sent)

undrawn : (k : ℕ) (s : State) → sends s ≡ false → k + draws_for s ≡ k
undrawn k s e = ap (λ (b : Bool). k + (if b then drawn_count (new_slots s) else 0)) e ∙ omega arith

-- ---- the length of the order

pub len_more : (b : Bool) (len more : ℕ) → more ≡ (if b then len + 1 else len) → more ≤ len + 1
len_more true len more e = omega (arith, e)
len_more false len more e = omega (arith, e)

pub len_same : (x d : DeskView) (len more : ℕ) → Untouched x d → more ≡ (if nat_lt (length x.log) (length d.log) then len + 1 else len) → more ≡ len
len_same x d len more u e = e ∙ go (nat_lt (length x.log) (length d.log)) refl
  where
    go : (b : Bool) → nat_lt (length x.log) (length d.log) ≡ b → (if b then len + 1 else len) ≡ len
    go false f = refl
    go true f = let lt = ltb-true (length x.log) (length d.log) f in let same = ap length u.log in omega (arith, lt, same)

-- ---- results

pub if_ok : {P Q : Move → Type 0} (r : Result Move Refusal) → IfOk r P → ((step : Move) → P step → Q step) → IfOk r Q
if_ok (Ok step) h f = f step h
if_ok (Err e) h f = tt

pub if_err : {P Q : Refusal → Type 0} (r : Result Move Refusal) → IfErr r P → ((e : Refusal) → P e → Q e) → IfErr r Q
if_err (Ok step) h f = tt
if_err (Err e) h f = f e h

pub if_err_both : {P Q R S : Refusal → Type 0} (r : Result Move Refusal) → IfErr r P → IfErr r Q → IfErr r R → ((e : Refusal) → P e → Q e → R e → S e) → IfErr r S
if_err_both (Ok step) h g k f = tt
if_err_both (Err e) h g k f = f e h g k

pub if_err_all : {P Q R S T : Refusal → Type 0} (r : Result Move Refusal) → IfErr r P → IfErr r Q → IfErr r R → IfErr r S → ((e : Refusal) → P e → Q e → R e → S e → T e) → IfErr r T
if_err_all (Ok step) h g k l f = tt
if_err_all (Err e) h g k l f = f e h g k l

pub on_err : {X Y : Type 0} (r : Result Move Refusal) → OnErr r X → (X → Y) → OnErr r Y
on_err (Ok step) h f = tt
on_err (Err e) h f = f h

-- the same of equal views
pub made_from : (v u new : PartiesView) (k j : ℕ) (id : RunId) (r : Result Move Refusal) → v ≡ u → IfOk r (λ step. HasMade v new k j id step.before step) → IfOk r (λ step. HasMade u new k j id step.before step)
made_from v u new k j id r is h = subst (λ (x : PartiesView). IfOk r (λ step. HasMade x new k j id step.before step)) is h

pub answered_from : (allowed : Mech → Slot → Bytes → Bool) (v u new : PartiesView) (k j : ℕ) (id : RunId) (m : Tree) (r : Result Move Refusal) → v ≡ u → IfOk r (λ step. HasAnswered allowed v new k j id m step) → IfOk r (λ step. HasAnswered allowed u new k j id m step)
answered_from allowed v u new k j id m r is h = subst (λ (x : PartiesView). IfOk r (λ step. HasAnswered allowed x new k j id m step)) is h

pub broken_from : (Due : WorldView → State → Type 0) (v u new : PartiesView) (k j n : ℕ) (r : Result Move Refusal) → v ≡ u → OnErr r (HasBrokenOff (Due (as_world v k)) v new k j n) → OnErr r (HasBrokenOff (Due (as_world u k)) u new k j n)
broken_from Due v u new k j n r is h = subst (λ (x : PartiesView). OnErr r (HasBrokenOff (Due (as_world x k)) x new k j n)) is h

-- a turn that did nothing
pub broken_same : (Due : State → Type 0) (v : PartiesView) (k n : ℕ) → HasBrokenOff Due v v k k n
broken_same Due v k n = record { part = inl (refl, refl); config = refl; clocks = refl; room = omega arith }

pub stays_from : (v u new : PartiesView) (k j : ℕ) (r : Result Move Refusal) → v ≡ u → IfErr r (λ e. e ≢ Memory → (new ≡ v) × (j ≡ k)) → IfErr r (λ e. e ≢ Memory → (new ≡ u) × (j ≡ k))
stays_from v u new k j r is h = subst (λ (x : PartiesView). IfErr r (λ e. e ≢ Memory → (new ≡ x) × (j ≡ k))) is h

pub any_issued : {P : Move → Type 0} (old new : DeskView) (clock : ℕ) (r : Result Move Refusal) → IfOk r P → ((step : Move) → P step → IssuedIs old new clock step.issued) → OnErr r (MayHaveIssued old new clock) → MayHaveIssued old new clock
any_issued old new clock (Ok step) f by g = (step.issued, by step f)
any_issued old new clock (Err e) f by g = g

module _ (c : Config) (ss : List Seat) (order : List ℕ) (a : AreParties c ss order) (places : List Seat) (same : places ≡ ss) (i n : ℕ) (x : Seat) (within : i < length places) (named : (d : Seat) → seat_name (get_or places i d) ≡ n) (at : x ≡ get_or ss i x) (d : DeskView) (legal : IsLegalLog d.ring d.first d.log) (more : List ℕ) (noted : more ≡ (if nat_lt (length x.desk.log) (length d.log) then order ++ n ∷ [] else order)) where
  abbrev acts : List Act
  acts = merged (log_in ss) order

  abbrev old : ℕ → PartiesView
  old room = record { config = c; acts = acts; clocks = map seat_clock ss; room = room }

  -- the world of the parties, where so many values were drawn
  abbrev w : ℕ → WorldView
  w k = record { config = c; acts = acts; clocks = map seat_clock ss; draws = k; runs = [] }

  abbrev seat : Seat
  seat = record { desk = d; clock = x.clock }

  abbrev new : ℕ → PartiesView
  new room = record { config = c; acts = merged (log_in (set ss i seat)) more; clocks = map seat_clock (set ss i seat); room = room }

  is_x : IsSeatOf c acts x n
  is_x = seat_is c ss order a places same i n x within named at

  held : (run : ℕ) → run_at x.desk run ≡ held_in acts (record { party = n; number = run })
  held run = held_now c ss order a places same i n x within named at run

  spent : (k : ℕ) (s : State) → spent_refusal x.desk s ≡ spent_refusal (desk_in (w k) n) s
  spent k s = spent_now c ss order a places same i n x within named at k s

  now_is : (k : ℕ) → max (node_at x.desk).now x.clock ≡ moment (w k) n
  now_is k = moment_now c ss order a places same i n x within named at k

  noted_by : (issued : Option Stamp) → IssuedIs x.desk d x.clock issued → HasNoted c ss order i n seat (max (node_at x.desk).now x.clock) more issued
  noted_by issued u = issued_noted c ss order a places same i n x within named at d legal more x.clock issued u noted

  pub made_parties : MayHaveIssued x.desk d x.clock → AreParties c (set ss i seat) more
  made_parties is = (noted_by is.0 is.1).parties

  ring_by : (issued : Option Stamp) → IssuedIs x.desk d x.clock issued → d.ring ≡ x.desk.ring
  ring_by None u = u.ring
  ring_by (Some y) u = u.ring

  next_by : (k : ℕ) (issued : Option Stamp) → IssuedIs x.desk d x.clock issued → (y : Stamp) → issued ≡ Some y → next_stamp_of (w k) n ≡ Some y
  next_by k issued u y e = subst (λ (m : ℕ). next_stamp (ring_of c n).kind (node_at (desk_in (w k) n)).last m ≡ Some y) (now_is k) ((noted_by issued u).next y e)

  acts_by : (k : ℕ) (issued : Option Stamp) → IssuedIs x.desk d x.clock issued → merged (log_in (set ss i seat)) more ≡ with_issue acts n (moment (w k) n) issued
  acts_by k issued u = (noted_by issued u).acts ∙ ap (λ (m : ℕ). with_issue acts n m issued) (now_is k)

  clocks_by : (issued : Option Stamp) → IssuedIs x.desk d x.clock issued → map seat_clock (set ss i seat) ≡ map seat_clock ss
  clocks_by issued u = clocks_stay c ss order a places same i n x within named at seat (ring_by issued u) (first_by issued u) refl
    where
      first_by : (o : Option Stamp) → IssuedIs x.desk d x.clock o → d.first ≡ x.desk.first
      first_by None v = v.first
      first_by (Some y) v = v.first

  due : (k : ℕ) (s : State) (issued : Option Stamp) → IssuedIs x.desk d x.clock issued → is_some issued ≡ needs_stamp s → issued ≡ stamp_due (w k) n s
  due k s issued u needs = due_by (w k) n s issued needs (next_by k issued u)

  -- the step says what the run says next
  says_next : (k : ℕ) (s : State) (step : Move) → IssuedIs x.desk d x.clock step.issued → is_some step.issued ≡ needs_stamp s → IsStep (tested_by body_of is_check) (keys_in x.desk.ring) (step_of step) → step.after.notes ≡ notes_after k step.issued s → SaysNext (w k) n s step
  says_next k s step u needs is_step notes = record {
    is_step = symbolic_step (keys_at (w k) n) (step_of step) (subst (λ (r : Ring). IsStep (tested_by body_of is_check) (keys_in r) (step_of step)) is_x.ring is_step);
    issued = due k s step.issued u needs;
    notes = notes;
  }

  may_by : (j room run : ℕ) (step : Move) → IssuedIs x.desk d x.clock step.issued → MayCommit d run step → MayCommit (desk_in (record { config = c; acts = merged (log_in (set ss i seat)) more; clocks = map seat_clock (set ss i seat); draws = j; runs = [] }) n) run step
  may_by j room run step u m =
      let name : seat_name seat ≡ n = ap (λ (r : Ring). r.me) (ring_by step.issued u) ∙ is_x.name in
      let is : IsSeatOf c (merged (log_in (set ss i seat)) more) seat n = written_is c ss order a places same i n x within named at seat more name (noted_by step.issued u).parties in
      record {
        made = subst (λ (r : Ring). IsMadeWith (keys_in r) step) is.ring m.made;
        unused = subst (λ (es : List Event). IsUnused step.issued (log_of es)) is.log m.unused;
        current = ap (λ (es : List Event). held_at es run) (sym is.log) ∙ m.current;
      }

  -- the party made what the run says
  has_made : (k j room left run : ℕ) (s : State) (step : Move) → room ≤ left + 1 → IssuedIs x.desk d x.clock step.issued → is_some step.issued ≡ needs_stamp s → j ≡ k + draws_for s → MayCommit d run step → HasMade (old room) (new left) k j (record { party = n; number = run }) s step
  has_made k j room left run s step le u needs drawn may = record {
    leaves = λ m. record {
      config = c;
      acts = (acts_by k step.issued u ∙ ap (with_issue acts n (moment (w k) n)) (due k s step.issued u needs)) m;
      clocks = clocks_by step.issued u m;
      draws = drawn m;
      runs = [];
    };
    may = may_by j left run step u may;
    room = le;
  }

  -- the party made a part of what a run says
  broken : (Due : State → Type 0) (k j room left : ℕ) (issued : Option Stamp) → room ≤ left + 1 → IssuedIs x.desk d x.clock issued → IsPartAtMost Due (w k) n (merged (log_in (set ss i seat)) more) j → HasBrokenOff Due (old room) (new left) k j n
  broken Due k j room left issued le u part = record { part = part; config = refl; clocks = clocks_by issued u; room = le }

  parted : (k j : ℕ) (s : State) → (merged (log_in (set ss i seat)) more ≡ acts) ⊎ (merged (log_in (set ss i seat)) more ≡ (made_by (w k) n s).acts) → (k ≤ j) × (j ≤ k + most_drawn s) → IsPartMade (w k) n s (merged (log_in (set ss i seat)) more) j
  parted k j s a b = (a, b.0, b.1)

  stayed : (k j : ℕ) (s : State) → k ≡ j → (k ≤ j) × (j ≤ k + most_drawn s)
  stayed k j s e = (omega (arith, e), omega (arith, e))

  moved_by : (k j : ℕ) (s s' : State) → s' ≡ s → MovedOn (most_drawn s') (Some (draws_from k)) (Some (draws_from j)) → (k ≤ j) × (j ≤ k + most_drawn s)
  moved_by k j s s' e mv = subst (λ (z : State). (k ≤ j) × (j ≤ k + most_drawn z)) e (mv.1.1, mv.1.2)

  -- the stamp that was due was issued
  acts_due : (k : ℕ) (s : State) (y : Stamp) → needs_stamp s ≡ true → IssuedIs x.desk d x.clock (Some y) → merged (log_in (set ss i seat)) more ≡ (made_by (w k) n s).acts
  acts_due k s y needs u = acts_by k (Some y) u ∙ ap (with_issue acts n (moment (w k) n)) (due k s (Some y) u (sym needs))

  -- nothing has changed
  stays_so : (room left : ℕ) → room ≡ left → Untouched x.desk d → new left ≡ old room
  stays_so room left is u = λ m. record { config = c; acts = (noted_by None u).acts m; clocks = clocks_by None u m; room = sym is m }

  -- ---- a first message

  pub first_is : (k j run : ℕ) (step : Move) → FirstFor body_of is_check (λ item. None) false (Some (draws_from k)) (Some (draws_from j)) x.desk d run x.clock step → IsFirst (w k) (record { party = n; number = run }) step
  first_is k j run step f = record {
    current = sym (held run) ∙ f.current;
    first = f.first;
    not_spent = sym (spent k step.before) ∙ f.not_spent;
    takes = f.takes;
    says = says_next k step.before step f.issued f.needs f.is_step (noted_now k step.before step.issued step.after.notes (first_part step.before f.first) f.drawn.0);
  }

  pub first_made : (k j room left run : ℕ) (step : Move) → room ≤ left + 1 → FirstFor body_of is_check (λ item. None) false (Some (draws_from k)) (Some (draws_from j)) x.desk d run x.clock step → HasMade (old room) (new left) k j (record { party = n; number = run }) step.before step
  first_made k j room left run step le f = has_made k j room left run step.before step le f.issued f.needs (drawn_now k j step.before (first_part step.before f.first) f.drawn.1) f.ready

  pub first_refused : (k run : ℕ) (rose : Type 0) → (rose → ⊥) → (e : Refusal) → IsFirstRefused x.desk run rose e → IsNotFirst (w k) (record { party = n; number = run }) e
  first_refused k run rose not e (inl r) = inl (ap run_refusal (sym (held run)) ∙ r)
  first_refused k run rose not e (inr (s, current, inl r)) = inr (s, sym (held run) ∙ current, inl r)
  first_refused k run rose not e (inr (s, current, inr (first, inl r))) = inr (s, sym (held run) ∙ current, inr (first, sym (spent k s) ∙ r))
  first_refused k run rose not e (inr (s, current, inr (first, inr r))) = absurd (not r.2)

  first_draws : (run : ℕ) (rose : Type 0) → (rose → ⊥) → (e : Refusal) → IsFirstRefused x.desk run rose e → e ≢ DrawFault
  first_draws run rose not e (inl r) is = run_draws (run_at x.desk run) (r ∙ ap Some is)
  first_draws run rose not e (inr (s, current, inl r)) is = let z = sym r.1 ∙ is in cc
  first_draws run rose not e (inr (s, current, inr (first, inl r))) is = spent_draws x.desk s (r ∙ ap Some is)
  first_draws run rose not e (inr (s, current, inr (first, inr r))) is = not r.2

  pub first_stays : (k j room left run : ℕ) (rose : Type 0) → (rose → ⊥) → (Untouched x.desk d → room ≡ left) → (e : Refusal) → (e ≢ Memory → IsFirstRefused x.desk run rose e) → (e ≢ Memory → e ≢ DrawFault → Untouched x.desk d) → (e ≢ Memory → e ≢ DrawFault → j ≡ k) → e ≢ Memory → (new left ≡ old room) × (j ≡ k)
  first_stays k j room left run rose not is e refused stays undrawn other =
      let draws = first_draws run rose not e (refused other) in
      (stays_so room left (is (stays other draws)) (stays other draws), undrawn other draws)

  pub first_moved : (k j run : ℕ) → HasMovedDrawsFirst x.desk run (Some (draws_from k)) (Some (draws_from j)) → (k ≤ j) × (j ≤ k + 15)
  first_moved k j run (inl e) = let p = some_place j k e in (omega (arith, p), omega (arith, p))
  first_moved k j run (inr (s, current, first, m)) = moved_few k j s m

  pub first_broken : (k j room left run : ℕ) → room ≤ left + 1 → IssuedAtMostFirst x.desk d run x.clock → HasMovedDrawsFirst x.desk run (Some (draws_from k)) (Some (draws_from j)) → HasBrokenOff (SaysFirst (w k) (record { party = n; number = run })) (old room) (new left) k j n
  first_broken k j room left run le issued moved = go issued moved
    where
      Due : State → Type 0
      Due = SaysFirst (w k) (record { party = n; number = run })

      go : IssuedAtMostFirst x.desk d run x.clock → HasMovedDrawsFirst x.desk run (Some (draws_from k)) (Some (draws_from j)) → HasBrokenOff Due (old room) (new left) k j n
      go (inl u) (inl e) = broken Due k j room left None le u (inl (acts_by k None u, some_place j k e))
      go (inl u) (inr (s, current, first, mv)) = broken Due k j room left None le u (inr (s, (sym (held run) ∙ current, first), parted k j s (inl (acts_by k None u)) (mv.1.1, mv.1.2)))
      go (inr (s, current, first, (needs, y, next, u))) (inl e) = broken Due k j room left (Some y) le u (inr (s, (sym (held run) ∙ current, first), parted k j s (inr (acts_due k s y needs u)) (stayed k j s (sym (some_place j k e)))))
      go (inr (s, current, first, (needs, y, next, u))) (inr (s', current', first', mv)) = broken Due k j room left (Some y) le u (inr (s, (sym (held run) ∙ current, first), parted k j s (inr (acts_due k s y needs u)) (moved_by k j s s' (same_state s' s (sym current' ∙ current)) mv)))

  -- ---- a message that was given

  module _ (allowed : Mech → Slot → Bytes → Bool) (m : Tree) (bytes : Bytes) (sp : IsSpelling m bytes) where
    verdict_is : (k : ℕ) (s : State) (u : Tree) (r : Result Taken Refusal) → IsSpelling u bytes → run_verdict body_of is_check allowed (keys_in x.desk.ring) s u ≡ r → run_verdict body_of is_check allowed (keys_at (w k) n) s m ≡ r
    verdict_is k s u r q e = sym (λ j. run_verdict body_of is_check allowed (keys_in (is_x.ring j)) s (one_term m u bytes sp q j)) ∙ e

    pub step_refused : (k run : ℕ) (rose : Type 0) → (rose → ⊥) → (e : Refusal) → IsUnmade body_of is_check allowed x.desk run bytes rose e → IsUnanswered allowed (w k) (record { party = n; number = run }) m e
    step_refused k run rose not e (inl (inl r)) = inl (ap run_refusal (sym (held run)) ∙ r)
    step_refused k run rose not e (inl (inr (s, current, inl r))) = absurd (no_spelling m bytes e sp r)
    step_refused k run rose not e (inl (inr (s, current, inr (u, q, r)))) = inr (s, sym (held run) ∙ current, inl (verdict_is k s u (Err e) q r))
    step_refused k run rose not e (inr (s, u, t, fit, inl r)) = inr (s, sym (held run) ∙ fit.current, inr (t, verdict_is k s u (Ok t) fit.spells fit.fits, sym (spent k (after_message s t)) ∙ r))
    step_refused k run rose not e (inr (s, u, t, fit, inr r)) = absurd (not r.2)

    step_draws : (run : ℕ) (rose : Type 0) → (rose → ⊥) → (e : Refusal) → IsUnmade body_of is_check allowed x.desk run bytes rose e → (e ≡ DrawFault → HasIssued body_of is_check allowed x.desk d run bytes x.clock) → e ≢ DrawFault
    step_draws run rose not e (inl (inl r)) has is = run_draws (run_at x.desk run) (r ∙ ap Some is)
    step_draws run rose not e (inl (inr (s, current, inl r))) has is = no_spelling m bytes e sp r
    step_draws run rose not e (inl (inr (s, current, inr (u, q, r)))) has is =
        let fit = (has is).3 in
        let t = (has is).2 in
        let state : s ≡ (has is).0 = same_state s (has is).0 (sym current ∙ fit.current) in
        let term : u ≡ (has is).1 = one_term (has is).1 u bytes fit.spells q in
        let z : Err e ≡ Ok t = sym r ∙ ((λ j. run_verdict body_of is_check allowed (keys_in x.desk.ring) (state j) (term j)) ∙ fit.fits) in cc
    step_draws run rose not e (inr (s, u, t, fit, inl r)) has is = spent_draws x.desk (after_message s t) (r ∙ ap Some is)
    step_draws run rose not e (inr (s, u, t, fit, inr r)) has is = not r.2

    pub step_stays : (k j room left run : ℕ) (rose : Type 0) → (rose → ⊥) → (Untouched x.desk d → room ≡ left) → (e : Refusal) → (e ≢ Memory → IsUnmade body_of is_check allowed x.desk run bytes rose e) → (e ≡ DrawFault → HasIssued body_of is_check allowed x.desk d run bytes x.clock) → (e ≢ Memory → e ≢ DrawFault → Untouched x.desk d) → (e ≢ Memory → e ≢ DrawFault → j ≡ k) → e ≢ Memory → (new left ≡ old room) × (j ≡ k)
    step_stays k j room left run rose not is e refused has stays undrawn other =
        let draws = step_draws run rose not e (refused other) has in
        (stays_so room left (is (stays other draws)) (stays other draws), undrawn other draws)

    pub step_moved : (k j run : ℕ) → HasMovedDraws body_of is_check allowed x.desk run bytes (Some (draws_from k)) (Some (draws_from j)) → (k ≤ j) × (j ≤ k + 15)
    step_moved k j run (inl e) = let p = some_place j k e in (omega (arith, p), omega (arith, p))
    step_moved k j run (inr (s, u, t, fit, moved)) = moved_few k j (after_message s t) moved

    -- one message is taken so at most
    same_after : (run : ℕ) (s s' : State) (u u' : Tree) (t t' : Taken) → IsFit body_of is_check allowed x.desk run bytes s u t → IsFit body_of is_check allowed x.desk run bytes s' u' t' → after_message s t ≡ after_message s' t'
    same_after run s s' u u' t t' fit fit' =
        let state : s ≡ s' = same_state s s' (sym fit.current ∙ fit'.current) in
        let term : u ≡ u' = one_term u' u bytes fit'.spells fit.spells in
        let taken : t ≡ t' = same_taken t t' (sym fit.fits ∙ ((λ j. run_verdict body_of is_check allowed (keys_in x.desk.ring) (state j) (term j)) ∙ fit'.fits)) in
        λ j. after_message (state j) (taken j)

    pub step_broken : (k j room left run : ℕ) → room ≤ left + 1 → IssuedAtMost body_of is_check allowed x.desk d run bytes x.clock → HasMovedDraws body_of is_check allowed x.desk run bytes (Some (draws_from k)) (Some (draws_from j)) → HasBrokenOff (HasTaken allowed (w k) (record { party = n; number = run }) m) (old room) (new left) k j n
    step_broken k j room left run le issued moved = go issued moved
      where
        Due : State → Type 0
        Due = HasTaken allowed (w k) (record { party = n; number = run }) m

        taken : (s : State) (u : Tree) (t : Taken) → IsFit body_of is_check allowed x.desk run bytes s u t → Due (after_message s t)
        taken s u t fit = (s, t, sym (held run) ∙ fit.current, verdict_is k s u (Ok t) fit.spells fit.fits, refl)

        go : IssuedAtMost body_of is_check allowed x.desk d run bytes x.clock → HasMovedDraws body_of is_check allowed x.desk run bytes (Some (draws_from k)) (Some (draws_from j)) → HasBrokenOff Due (old room) (new left) k j n
        go (inl u) (inl e) = broken Due k j room left None le u (inl (acts_by k None u, some_place j k e))
        go (inl u) (inr (s, v, t, fit, mv)) = broken Due k j room left None le u (inr (after_message s t, taken s v t fit, parted k j (after_message s t) (inl (acts_by k None u)) (mv.1.1, mv.1.2)))
        go (inr (s, v, t, fit, (needs, y, next, u))) (inl e) = broken Due k j room left (Some y) le u (inr (after_message s t, taken s v t fit, parted k j (after_message s t) (inr (acts_due k (after_message s t) y needs u)) (stayed k j (after_message s t) (sym (some_place j k e)))))
        go (inr (s, v, t, fit, (needs, y, next, u))) (inr (s', v', t', fit', mv)) = broken Due k j room left (Some y) le u (inr (after_message s t, taken s v t fit, parted k j (after_message s t) (inr (acts_due k (after_message s t) y needs u)) (moved_by k j (after_message s t) (after_message s' t') (same_after run s' s v' v t' t fit' fit) mv)))

    pub step_answered : (k j room left run : ℕ) (step : Move) → room ≤ left + 1 → MadeFor body_of is_check allowed (λ item. None) false (Some (draws_from k)) (Some (draws_from j)) x.desk d run bytes x.clock step → HasAnswered allowed (old room) (new left) k j (record { party = n; number = run }) m step
    step_answered k j room left run step le f =
        let both = drawn step.reply f.drawn f.silent (replies f.takes) in
        record {
          taken = f.taken;
          answers = record {
            current = sym (held run) ∙ f.current;
            fits = verdict_is k step.before f.message (Ok f.taken) f.spells f.fits;
            not_spent = sym (spent k s) ∙ f.not_spent;
            takes = f.takes ∙ ap Some (one_term m f.message bytes sp f.spells);
            opened = f.opened;
            got = f.got;
            says = says_next k s step f.issued f.needs f.is_step both.0;
          };
          made = has_made k j room left run s step le f.issued f.needs both.1 f.ready;
        }
      where
        s : State
        s = after_message step.before f.taken

        replies : {u : Tree} → step.taken ≡ Some u → Replies (tested_by body_of is_check) (keys_in x.desk.ring) s.head s.next (step_of step).middle (step_of step).after.notes step.reply step.sealed
        replies e = subst (λ (o : Option Tree). Replies (tested_by body_of is_check) (keys_in x.desk.ring) s.head (after_taking step.before.next o) (step_of step).middle (step_of step).after.notes step.reply step.sealed) e f.is_step.replies

        drawn : (reply : Option Tree) → IfSome reply (λ _. DrawsAre (λ item. None) false (Some (draws_from k)) (Some (draws_from j)) step.issued (new_slots s) (made_in (next_pass s).covers) f.taken.notes step.after.notes step.sealed) → (reply ≡ None → (step.after ≡ s) × (Some (draws_from j) ≡ Some (draws_from k)))
            → Replies (tested_by body_of is_check) (keys_in x.desk.ring) s.head s.next (step_of step).middle (step_of step).after.notes reply step.sealed → (step.after.notes ≡ notes_after k step.issued s) × (j ≡ k + draws_for s)
        drawn None h silent r =
            let not : sends s ≡ false = sends_none (tested_by body_of is_check) (keys_in x.desk.ring) s _ _ None step.sealed r refl in
            let quiet = silent refl in
            (ap (λ (z : State). z.notes) quiet.0 ∙ sym (ap (λ (b : Bool). if b then s.notes ++ drawn_values (draws_from k) step.issued (new_slots s) else s.notes) not), some_place j k quiet.1 ∙ sym (undrawn k s not))
        drawn (Some t) h silent r =
            let sent : sends s ≡ true = sends_some (tested_by body_of is_check) (keys_in x.desk.ring) s _ _ t (Some t) step.sealed r refl in
            (noted_now k s step.issued step.after.notes sent h.0, drawn_now k j s sent h.1)
