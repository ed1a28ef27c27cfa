-- What a party did in its turn, as its desk tells it, in the words of the parties.
use Rattle.std.proofs.Common.{◌≡◌, ◌≢◌, ◌⊎◌, ◌<◌, ◌≤◌, ◌+◌, ◌-◌, ◌^◌, ℕ, suc, max, Bool, true, false, if◌then◌else◌, nat_lt, List, [], ◌∷◌, ◌++◌, length, get_or, set, map, Option, Some, None, is_some, IfSome, refl, sym, ap, subst, ◌∙◌, inl, inr, arith}
use Rattle.term_values.specs.Trees.{Tree}
use Rattle.term_values.specs.declared.small.Stamp.{Stamp}
use Rattle.replay_store.specs.Stamps.{next_stamp}
use Rattle.mech_rows.specs.declared.refusal.Refusal.{Refusal}
use Rattle.mech_rows.specs.Lawful.{tested_by}
use Rattle.mech_rows.specs.Moves.{Move, step_of}
use Rattle.mech_rows.specs.Replies.{needs_stamp, sends}
use Rattle.mech_rows.specs.Rings.{Ring, keys_in}
use Rattle.mech_rows.specs.Steps.{IsStep}
use Rattle.mech_rows.specs.Verdict.{State}
use Rattle.seal_symbolic.specs.Symbolic.{body_of, is_check}
use Rattle.agreement_laws.specs.Configs.{Config, names_in}
use Rattle.agreement_laws.specs.Nodes.{Log, NeedsOpen, opens_in}
use Rattle.agreement_laws.specs.Worlds.{ring_of}
use Rattle.node_desk.specs.declared.event.Event.{Event}
use Rattle.node_desk.specs.declared.event.Event.TheVariants.{Open, Issue, Commit}
use Rattle.node_desk.specs.Deliveries.{IssuedIs, MayCommit, open_in, spent_refusal}
use Rattle.node_desk.specs.Desks.{CommitAnswers, DeskView, Entered, IsLegalLog, IsMadeWith, IsStepEvent, IsUnused, Untouched, node_at, node_of, run_at}
use Rattle.node_desk.specs.Events.{log_of}
use Rattle.node_desk.specs.Helds.{Held, held_at}
use Rattle.node_desk.specs.Refusals.{AnswerIs, CommitAnswer, got_refusal, issue_refusal, run_refusal}
use Rattle.node_desk.proofs.Logs.{node_log}
use Rattle.world_run.specs.declared.seat.Seat.{Seat}
use Rattle.world_run.specs.Clocks.{clock_in}
use Rattle.world_run.specs.Opens.{next_run}
use Rattle.world_run.specs.Parties.{AreParties, HasActed, PartiesView, log_in, merged, seat_clock, seat_name}
use Rattle.world_run.specs.Turns.{SaysNext, desk_in, made_by, moment, next_stamp_of, notes_after, stamp_due, with_issue}
use Rattle.world_run.specs.Views.{Act, act, acts_of, held_in, WorldView}
use Rattle.world_run.proofs.Issues.{HasNoted, issued_noted, needs_last, party_steps}
use Rattle.world_run.proofs.Sealings.{symbolic_step}
use Rattle.world_run.proofs.Seats.{IsSeatOf, clock_at, clocks_stay, seat_is, wrote_acts, wrote_more, wrote_same, acts_stay, written_is}

-- where the run is open in the state in which the step begins, a commit answers what the stamps say
pub current_answers : (held : Option Held) (step : Move) (stamps answer : Option Refusal) → held ≡ open_in step.before → CommitAnswer held step stamps answer → answer ≡ stamps
current_answers held step stamps answer e h = go (subst (λ (o : Option Refusal). AnswerIs o held step stamps answer) (ap run_refusal e) h)
  where
    go : AnswerIs None held step stamps answer → answer ≡ stamps
    go (inl r) = absurd (r.0 e)
    go (inr r) = r.1

-- a desk that has had the event after it stayed as it was
pub then_entered : (x d y : DeskView) (e f : Event) → Untouched x d → Entered d y e → e ≡ f → Entered x y f
then_entered x d y e f u v is = record { ring = v.ring ∙ u.ring; first = v.first ∙ u.first; log = v.log ∙ (ap (λ (es : List Event). es ++ e ∷ []) u.log ∙ ap (λ (g : Event). x.log ++ g ∷ []) is) }

pub then_same : (x d y : DeskView) → Untouched x d → y ≡ d → Untouched x y
then_same x d y u is = subst (Untouched x) (sym is) u

pub acted_from : (v u new : PartiesView) (n : ℕ) (e : Event) → v ≡ u → HasActed v new n e → HasActed u new n e
acted_from v u new n e is h = subst (λ (x : PartiesView). HasActed x new n e) is h

-- a stamp that is there where one is needed is the one that is due
pub due_by : (w : WorldView) (n : ℕ) (s : State) (issued : Option Stamp) → is_some issued ≡ needs_stamp s → ((y : Stamp) → issued ≡ Some y → next_stamp_of w n ≡ Some y) → issued ≡ stamp_due w n s
due_by w n s None needs next = sym (ap (λ (b : Bool). if b then next_stamp_of w n else None) (sym needs))
due_by w n s (Some y) needs next = sym (ap (λ (b : Bool). if b then next_stamp_of w n else None) (sym needs) ∙ next y refl)

module _ (c : Config) (ss : List Seat) (order : List ℕ) (a : AreParties c ss order) (places : List Seat) (same : places ≡ ss) (i n : ℕ) (x : Seat) (within : i < length places) (named : (d : Seat) → seat_name (get_or places i d) ≡ n) (at : x ≡ get_or ss i x) where
  abbrev acts : List Act
  acts = merged (log_in ss) order

  -- the world of the parties, where so many values were drawn
  abbrev w : ℕ → WorldView
  w k = record { config = c; acts = acts; clocks = map seat_clock ss; draws = k; runs = [] }

  is_x : IsSeatOf c acts x n
  is_x = seat_is c ss order a places same i n x within named at

  pub held_now : (run : ℕ) → run_at x.desk run ≡ held_in acts (record { party = n; number = run })
  held_now run = ap (λ (es : List Event). held_at es run) is_x.log

  pub node_now : (k : ℕ) → node_at x.desk ≡ node_at (desk_in (w k) n)
  node_now k = λ j. node_of (is_x.ring j) (is_x.first j) (is_x.log j)

  pub moment_now : (k : ℕ) → max (node_at x.desk).now x.clock ≡ moment (w k) n
  moment_now k = λ j. max (node_now k j).now (sym (clock_at c ss order a places same i n x within named at) j)

  pub got_now : (k : ℕ) (step : Move) → got_refusal (node_at x.desk) x.clock step.got ≡ got_refusal (node_at (desk_in (w k) n)) (clock_in (w k) n) step.got
  got_now k step = λ j. got_refusal (node_now k j) (sym (clock_at c ss order a places same i n x within named at) j) step.got

  pub spent_now : (k : ℕ) (s : State) → spent_refusal x.desk s ≡ spent_refusal (desk_in (w k) n) s
  spent_now k s = λ j. if needs_stamp s then issue_refusal (node_now k j) else None

  module _ (d : DeskView) where
    -- the desk is as it was
    module _ (u : Untouched x.desk d) where
      pub stay_parties : AreParties c (set ss i (record { desk = d; clock = x.clock })) order
      stay_parties = wrote_same c ss order a places same i n x within named at (record { desk = d; clock = x.clock }) u.ring u.first order u.log refl

      pub stay_view : (room : ℕ) → ◌≡◌ {A = PartiesView} (record { config = c; acts = merged (log_in (set ss i (record { desk = d; clock = x.clock }))) order; clocks = map seat_clock (set ss i (record { desk = d; clock = x.clock })); room = room }) (record { config = c; acts = acts; clocks = map seat_clock ss; room = room })
      stay_view room = λ j. record {
        config = c;
        acts = acts_stay c ss order a places same i n x within named at (record { desk = d; clock = x.clock }) u.ring u.first order u.log refl j;
        clocks = clocks_stay c ss order a places same i n x within named at (record { desk = d; clock = x.clock }) u.ring u.first refl j;
        room = room;
      }

      pub may_made : (step : Move) → IsMadeWith (keys_in (ring_of c n)) step → IsMadeWith (keys_in d.ring) step
      may_made step m = subst (λ (r : Ring). IsMadeWith (keys_in r) step) (sym (u.ring ∙ is_x.ring)) m

      pub may_unused : (step : Move) → IsUnused step.issued (log_of (acts_of n acts)) → IsUnused step.issued (log_of d.log)
      may_unused step m = subst (λ (es : List Event). IsUnused step.issued (log_of es)) (sym (u.log ∙ is_x.log)) m

      pub may_answers : (k run : ℕ) (step : Move) (answer : Option Refusal) → held_in acts (record { party = n; number = run }) ≡ open_in step.before → CommitAnswers d run step x.clock answer → answer ≡ got_refusal (node_at (desk_in (w k) n)) (clock_in (w k) n) step.got
      may_answers k run step answer current h =
          let held : run_at d run ≡ held_in acts (record { party = n; number = run }) = ap (λ (es : List Event). held_at es run) (u.log ∙ is_x.log) in
          let node : node_at d ≡ node_at x.desk = λ j. node_of (u.ring j) (u.first j) (u.log j) in
          current_answers (run_at d run) step (got_refusal (node_at d) x.clock step.got) answer (held ∙ current) h ∙ (ap (λ y. got_refusal y x.clock step.got) node ∙ got_now k step)

      pub moment_stays : (k : ℕ) → max (node_at d).now x.clock ≡ moment (w k) n
      moment_stays k =
          let node : node_at d ≡ node_at x.desk = λ j. node_of (u.ring j) (u.first j) (u.log j) in
          ap (λ y. max y.now x.clock) node ∙ moment_now k

    -- the desk had the event
    module _ (e : Event) (u : Entered x.desk d e) (more : List ℕ) (o : more ≡ order ++ n ∷ []) where
      pub more_parties : IsStepEvent (tested_by body_of is_check) (keys_in (ring_of c n)) e → AreParties c (set ss i (record { desk = d; clock = x.clock })) more
      more_parties st = wrote_more c ss order a places same i n x within named at (record { desk = d; clock = x.clock }) u.ring u.first e more u.log o st

      pub more_acted : (room left : ℕ) → room ≡ left + 1 → HasActed (record { config = c; acts = acts; clocks = map seat_clock ss; room = room }) (record { config = c; acts = merged (log_in (set ss i (record { desk = d; clock = x.clock }))) more; clocks = map seat_clock (set ss i (record { desk = d; clock = x.clock })); room = left }) n e
      more_acted room left r = record {
        config = refl;
        acts = wrote_acts c ss order a places same i n x within named at (record { desk = d; clock = x.clock }) u.ring u.first e more u.log o;
        clocks = clocks_stay c ss order a places same i n x within named at (record { desk = d; clock = x.clock }) u.ring u.first refl;
        room = r;
      }

    -- the number of a run that was opened
    pub run_opened : (k run : ℕ) (h : _) (texts : _) → Entered x.desk d (Open run h texts) → IsLegalLog d.ring d.first d.log → run ≡ next_run (w k) n
    run_opened k run h texts u legal =
        let ring : d.ring ≡ ring_of c n = u.ring ∙ is_x.ring in
        let log : d.log ≡ acts_of n acts ++ Open run h texts ∷ [] = u.log ∙ ap (λ (es : List Event). es ++ Open run h texts ∷ []) is_x.log in
        let now : IsLegalLog (ring_of c n) 0 (acts_of n acts ++ Open run h texts ∷ []) =
        subst (λ (es : List Event). IsLegalLog (ring_of c n) 0 es) log
        (subst (λ (m : ℕ). IsLegalLog (ring_of c n) m d.log) (u.first ∙ is_x.first)
        (subst (λ (r : Ring). IsLegalLog r d.first d.log) ring legal)) in
        let needs : NeedsOpen (node_of (ring_of c n) 0 (acts_of n acts)) run h = needs_last (ring_of c n) 0 (acts_of n acts) (Open run h texts) now (party_steps c acts n a.steps) tt in
        needs.number ∙ ap (λ (l : Log). suc (opens_in l)) (node_log (ring_of c n) 0 (acts_of n acts))
