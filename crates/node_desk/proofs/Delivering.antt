-- The steps of a delivery, put together.
use Rattle.std.proofs.Common.{◌≡◌, ◌≢◌, ◌⊎◌, ℕ, max, Bool, true, false, if◌then◌else◌, List, [], ◌∷◌, ◌++◌, Option, Some, None, is_some, Result, Ok, Err, refl, sym, ap, subst, subst₂, ◌∙◌, inl, inr, arith}
use Rattle.std.specs.Prelude.{IfErr, IfOk, OnOk, OnErr, IfSome}
use Rattle.term_values.specs.Trees.{Bytes, Tree}
use Rattle.term_values.specs.declared.small.Key.{Key}
use Rattle.term_values.specs.declared.small.Stamp.{Stamp}
use Rattle.tagged_codec.specs.Grammar.{IsInLimits, IsSpelling}
use Rattle.outside.specs.Told.{Told}
use Rattle.mech_rows.specs.declared.kinds.Mech.{Mech}
use Rattle.mech_rows.specs.declared.kinds.Slot.{Slot}
use Rattle.mech_rows.specs.declared.refusal.Refusal.{Refusal}
use Rattle.mech_rows.specs.declared.refusal.Refusal.TheVariants.{WrongPass, DrawFault}
use Rattle.mech_rows.specs.Runs.{Keys, Got}
use Rattle.mech_rows.specs.Replies.{receives, sends_first, needs_stamp, new_slots, next_pass, made_in, run_verdict}
use Rattle.mech_rows.specs.Verdict.{State, Taken, verdict}
use Rattle.text_hooks.specs.Refused.{IsNoSpelling}
use Rattle.mech_rows.specs.Rings.{Ring, keys_in}
use Rattle.mech_rows.specs.Lawful.{tested_by}
use Rattle.mech_rows.specs.Moves.{Move, step_of, Ready, Fitted}
use Rattle.mech_rows.specs.Steps.{IsStep}
use Rattle.text_hooks.specs.Drawn.{DrawsAre}
use Rattle.agreement_laws.specs.Nodes.{Node}
use Rattle.node_desk.specs.declared.event.Event.{Event}
use Rattle.node_desk.specs.declared.event.Event.TheVariants.{Issue, Commit}
use Rattle.node_desk.specs.Events.{log_of}
use Rattle.node_desk.specs.Helds.{Held, held_at}
use Rattle.node_desk.specs.Refusals.{IsCurrent, CommitAnswer, stamps_refusal, got_refusal}
use Rattle.node_desk.specs.Desks.{DeskView, node_of, node_at, run_at, Entered, Untouched, CommitAnswers, IsMadeWith, IsUnused}
use Rattle.node_desk.specs.Deliveries.{open_in, after_message, IssuedIs, spent_refusal, is_of_stamp, IsUnsaid, IsUnfit, IsUnmade, IsRefused, IsStampRefused, MayCommit, MadeFor, FirstFor, Delivered}
use Rattle.node_desk.proofs.Logs.{node_of-snoc, held_at-snoc}
use Rattle.node_desk.proofs.Causes.{stamps-late}

pub err-then : {X : Type 0} {P Q : Refusal → Type 0} → (r : Result X Refusal) → IfErr r P → ((e : Refusal) → P e → Q e) → IfErr r Q
err-then (Ok x) h f = tt
err-then (Err e) h f = f e h

pub ok-then : {X : Type 0} {P Q : X → Type 0} {R S : Type 0} → (r : Result X Refusal) → IfOk r P → OnOk r R → OnOk r S → ((x : X) → P x → R → S → Q x) → IfOk r Q
ok-then (Ok x) h a b f = f x h a b
ok-then (Err e) h a b f = tt

pub errs-then : {X : Type 0} {P Q : Refusal → Type 0} {R : Type 0} → (r : Result X Refusal) → IfErr r P → OnErr r R → ((e : Refusal) → P e → R → Q e) → IfErr r Q
errs-then (Ok x) h a f = tt
errs-then (Err e) h a f = f e h a

pub on-err-then : {X : Type 0} {P Q : Type 0} → (r : Result X Refusal) → OnErr r P → (P → Q) → OnErr r Q
on-err-then (Ok x) h f = tt
on-err-then (Err e) h f = f h

-- a desk that issued a stamp, or none
pub issued-ring : (old mid : DeskView) (clock : ℕ) (stamp : Option Stamp) → IssuedIs old mid clock stamp → mid.ring ≡ old.ring
issued-ring old mid clock None h = h.ring
issued-ring old mid clock (Some x) h = h.ring

pub issued-same : (old mid new : DeskView) (clock : ℕ) (stamp : Option Stamp) → IssuedIs old mid clock stamp → Untouched mid new → IssuedIs old new clock stamp
issued-same old mid new clock None h same = record { ring = same.ring ∙ h.ring; first = same.first ∙ h.first; log = same.log ∙ h.log }
issued-same old mid new clock (Some x) h same = record { ring = same.ring ∙ h.ring; first = same.first ∙ h.first; log = same.log ∙ h.log }

pub issued-run : (old mid : DeskView) (clock : ℕ) (stamp : Option Stamp) → IssuedIs old mid clock stamp → (n : ℕ) → run_at mid n ≡ run_at old n
issued-run old mid clock None h n = ap (λ (l : List Event). held_at l n) h.log
issued-run old mid clock (Some x) h n = ap (λ (l : List Event). held_at l n) h.log ∙ held_at-snoc old.log (Issue (max (node_at old).now clock) x) n

same-node : (old mid : DeskView) (log : List Event) → mid.ring ≡ old.ring → mid.first ≡ old.first → mid.log ≡ log → node_at mid ≡ node_of old.ring old.first log
same-node old mid log r f l = λ i. node_of (r i) (f i) (l i)

-- what is said of the stamps, and the moment, stay
pub issued-node : (old mid : DeskView) (clock : ℕ) (stamp : Option Stamp) → IssuedIs old mid clock stamp → ((got : List Got) → got_refusal (node_at mid) clock got ≡ got_refusal (node_at old) clock got) × (max (node_at mid).now clock ≡ max (node_at old).now clock)
issued-node old mid clock None h =
    let same = same-node old mid old.log h.ring h.first h.log in
    ((λ got. ap (λ (n : Node). got_refusal n clock got) same), ap (λ (n : Node). max n.now clock) same)
issued-node old mid clock (Some x) h =
    let event : Event = Issue (max (node_at old).now clock) x in
    let same = same-node old mid (old.log ++ event ∷ []) h.ring h.first h.log ∙ node_of-snoc old.ring old.first old.log event in
    let moment : max (max (node_at old).now clock) clock ≡ max (node_at old).now clock = omega arith in
    ((λ got. ap (λ (n : Node). got_refusal n clock got) same ∙ ap (λ (n : ℕ). stamps_refusal (node_at old).ring.window n (node_at old).accepted (node_at old).ring.kind got) moment), ap (λ (n : Node). max n.now clock) same ∙ moment)

-- where the step is current, a commit answers what is said of its stamps
stamps-answer : (step : Move) (stamps answer : Option Refusal) (stale : Refusal) → (((IsCurrent (Some (record { state = step.before; is_open = true })) step → ⊥) × (answer ≡ Some stale)) ⊎ (IsCurrent (Some (record { state = step.before; is_open = true })) step × (answer ≡ stamps))) → stamps ≡ answer
stamps-answer step stamps answer stale (inl h) = absurd (h.0 refl)
stamps-answer step stamps answer stale (inr h) = sym h.1

pub commit-stamps : (old mid : DeskView) (run clock : ℕ) (stamp : Option Stamp) (step : Move) (answer : Option Refusal) → IssuedIs old mid clock stamp → run_at old run ≡ Some (record { state = step.before; is_open = true }) → CommitAnswers mid run step clock answer → got_refusal (node_at old) clock step.got ≡ answer
commit-stamps old mid run clock stamp step answer issued current h =
    let held = issued-run old mid clock stamp issued run ∙ current in
    sym ((issued-node old mid clock stamp issued).0 step.got)
    ∙ stamps-answer step (got_refusal (node_at mid) clock step.got) answer _ (subst (λ (o : Option Held). CommitAnswer o step (got_refusal (node_at mid) clock step.got) answer) held h)

module _ (opens : Key → Tree → Option Tree) (checks : Key → Tree → Tree → Bool) (allowed : Mech → Slot → Bytes → Bool) (keys : Keys) (s : State) (bytes : Bytes) where
  -- bytes for a run whose role doesn't receive its next pass
  pub unawaited-unfit : (e : Refusal) → receives s ≡ false → (IsNoSpelling bytes e ⊎ ((m : Tree) × IsSpelling m bytes × (e ≡ WrongPass))) → IsUnfit opens checks allowed keys s bytes e
  unawaited-unfit e not_received (inl h) = inl h
  unawaited-unfit e not_received (inr (m, spells, is)) =
      inr (m, spells, ap (λ (b : Bool). if b then verdict opens checks keys allowed s m else Err WrongPass) not_received ∙ ap (λ (x : Refusal). Err x) (sym is))

  -- bytes for a run whose role receives it
  pub received-unfit : (e : Refusal) → receives s ≡ true → (IsNoSpelling bytes e ⊎ ((m : Tree) × IsSpelling m bytes × (verdict opens checks keys allowed s m ≡ Err e))) → IsUnfit opens checks allowed keys s bytes e
  received-unfit e is_received (inl h) = inl h
  received-unfit e is_received (inr (m, spells, is)) =
      inr (m, spells, ap (λ (b : Bool). if b then verdict opens checks keys allowed s m else Err WrongPass) is_received ∙ is)

-- what a message gave
abbrev pub given : Ready → Taken
given p = record { notes = p.after.notes; opened = p.opened; got = p.got }

-- a message that fits leads to the state after it
pub after-is : (opens : Key → Tree → Option Tree) (checks : Key → Tree → Tree → Bool) (keys : Keys) (p : Ready) → Fitted opens checks keys p → p.after ≡ after_message p.before (given p)
after-is opens checks keys p fitted = λ i. record { head = fitted.same_head i; next = fitted.moves i; notes = p.after.notes }

-- a step that the desk may commit, as it stands after a stamp was issued
pub may-commit : (opens : Key → Tree → Option Tree) (checks : Key → Tree → Tree → Bool) (old mid : DeskView) (ring : Ring) (run clock : ℕ) (stamp : Option Stamp) (step : Move)
    → ring ≡ mid.ring → IssuedIs old mid clock stamp → IsUnused stamp (log_of mid.log) → step.issued ≡ stamp
    → IsStep (tested_by opens checks) (keys_in ring) (step_of step) → run_at old run ≡ open_in step.before
    → MayCommit mid run step
may-commit opens checks old mid ring run clock stamp step r issued unused is_issued is_step current =
    record {
      made = record { opens = opens; checks = checks; is_step = subst (λ (x : Ring). IsStep (tested_by opens checks) (keys_in x) (step_of step)) r is_step };
      unused = subst (λ (x : Option Stamp). IsUnused x (log_of mid.log)) (sym is_issued) unused;
      current = issued-run old mid clock stamp issued run ∙ current;
    }

-- a step that says the first message of a run
pub first-for : (opens : Key → Tree → Option Tree) (checks : Key → Tree → Tree → Bool) (old : DeskView) (run clock : ℕ) (s : State) (iv_of : Tree → Option Bytes) (wants : Bool) (told_old told_new : Option Told) (mid : DeskView) (ring : Ring) (stamp : Option Stamp) (step : Move)
    → run_at old run ≡ open_in s → sends_first s ≡ true
    → ring ≡ mid.ring → IssuedIs old mid clock stamp → IsUnused stamp (log_of mid.log) → is_some stamp ≡ needs_stamp s → spent_refusal old s ≡ None
    → step.before ≡ s → (step.taken ≡ None) × (step.opened ≡ []) × (step.got ≡ []) → step.issued ≡ stamp → step.reply ≢ None
    → IsStep (tested_by opens checks) (keys_in ring) (step_of step) → IfSome step.reply IsInLimits
    → DrawsAre iv_of wants told_old told_new stamp (new_slots step.before) (made_in (next_pass step.before).covers) step.before.notes step.after.notes step.sealed
    → FirstFor opens checks iv_of wants told_old told_new old mid run clock step
first-for opens checks old run clock s iv_of wants told_old told_new mid ring stamp step current sends r issued unused needs spent before silent is_issued says is_step limits drawn =
    let standing : run_at old run ≡ open_in step.before = current ∙ ap open_in (sym before) in
    record {
      current = standing;
      first = ap sends_first before ∙ sends;
      takes = silent.0;
      opened = silent.1;
      got = silent.2;
      says = says;
      is_step = subst (λ (x : Ring). IsStep (tested_by opens checks) (keys_in x) (step_of step)) (r ∙ issued-ring old mid clock stamp issued) is_step;
      not_spent = ap (spent_refusal old) before ∙ spent;
      needs = ap is_some is_issued ∙ (needs ∙ ap needs_stamp (sym before));
      issued = subst (IssuedIs old mid clock) (sym is_issued) issued;
      limits = limits;
      drawn = subst (λ (x : Option Stamp). DrawsAre iv_of wants told_old told_new x (new_slots step.before) (made_in (next_pass step.before).covers) step.before.notes step.after.notes step.sealed) (sym is_issued) drawn;
      ready = may-commit opens checks old mid ring run clock stamp step r issued unused is_issued is_step standing;
    }

module _ (opens : Key → Tree → Option Tree) (checks : Key → Tree → Tree → Bool) (allowed : Mech → Slot → Bytes → Bool) (old : DeskView) (run clock : ℕ) (bytes : Bytes) (p : Ready) (spells : IsSpelling p.taken bytes) (current : run_at old run ≡ open_in p.before) (fit : run_verdict opens checks allowed (keys_in old.ring) p.before p.taken ≡ Ok (given p)) (fitted : Fitted opens checks (keys_in old.ring) p) where
  -- refused after the message was judged fit
  pub unmade-late : (rose : Type 0) (e : Refusal) → IsUnsaid old rose p.after e → IsUnmade opens checks allowed old run bytes rose e
  unmade-late rose e h =
      inr (p.before, p.taken, given p, record { current = current; spells = spells; fits = fit }, subst (λ (s : State). IsUnsaid old rose s e) (after-is opens checks (keys_in old.ring) p fitted) h)

  -- a step that took it
  pub made-for : (iv_of : Tree → Option Bytes) (wants : Bool) (told_old told_new : Option Told) (mid : DeskView) (ring : Ring) (stamp : Option Stamp) (step : Move)
      → ring ≡ mid.ring → IssuedIs old mid clock stamp → IsUnused stamp (log_of mid.log) → is_some stamp ≡ needs_stamp p.after → spent_refusal old p.after ≡ None
      → step.before ≡ p.before → step.taken ≡ Some p.taken → step.opened ≡ p.opened → step.got ≡ p.got → step.issued ≡ stamp
      → IsStep (tested_by opens checks) (keys_in ring) (step_of step) → IfSome step.reply IsInLimits
      → IfSome step.reply (λ _. DrawsAre iv_of wants told_old told_new stamp (new_slots p.after) (made_in (next_pass p.after).covers) p.after.notes step.after.notes step.sealed)
      → (step.reply ≡ None → (step.after ≡ p.after) × (told_new ≡ told_old))
      → MadeFor opens checks allowed iv_of wants told_old told_new old mid run bytes clock step
  made-for iv_of wants told_old told_new mid ring stamp step r issued unused needs spent before takes opened got is_issued is_step limits drawn silent =
      let after : p.after ≡ after_message step.before (given p) = after-is opens checks (keys_in old.ring) p fitted ∙ ap (λ (s : State). after_message s (given p)) (sym before) in
      let standing : run_at old run ≡ open_in step.before = current ∙ ap open_in (sym before) in
      record {
        message = p.taken;
        spells = spells;
        current = standing;
        taken = given p;
        fits = ap (λ (s : State). run_verdict opens checks allowed (keys_in old.ring) s p.taken) before ∙ fit;
        takes = takes;
        opened = opened;
        got = got;
        is_step = subst (λ (x : Ring). IsStep (tested_by opens checks) (keys_in x) (step_of step)) (r ∙ issued-ring old mid clock stamp issued) is_step;
        not_spent = ap (spent_refusal old) (sym after) ∙ spent;
        needs = ap is_some is_issued ∙ (needs ∙ ap needs_stamp after);
        issued = subst (IssuedIs old mid clock) (sym is_issued) issued;
        limits = limits;
        drawn = subst₂ (λ (s : State) (x : Option Stamp). IfSome step.reply (λ _. DrawsAre iv_of wants told_old told_new x (new_slots s) (made_in (next_pass s).covers) p.after.notes step.after.notes step.sealed)) after (sym is_issued) drawn;
        silent = λ none. ((silent none).0 ∙ after, (silent none).1);
        ready = may-commit opens checks old mid ring run clock stamp step r issued unused is_issued is_step standing;
      }

-- a desk that is as it was may commit what it could
pub may-same : (old new : DeskView) (run : ℕ) (step : Move) → Untouched old new → MayCommit old run step → MayCommit new run step
may-same old new run step same h =
    record {
      made = subst (λ (x : Ring). IsMadeWith (keys_in x) step) (sym same.ring) h.made;
      unused = subst (λ (x : List Event). IsUnused step.issued (log_of x)) (sym same.log) h.unused;
      current = ap (λ (x : List Event). held_at x run) same.log ∙ h.current;
    }

module _ (opens : Key → Tree → Option Tree) (checks : Key → Tree → Tree → Bool) (allowed : Mech → Slot → Bytes → Bool) (iv_of : Tree → Option Bytes) (wants : Bool) (told_old told_new : Option Told) (old mid : DeskView) (run : ℕ) (bytes : Bytes) (clock : ℕ) (step : Move) (made : MadeFor opens checks allowed iv_of wants told_old told_new old mid run bytes clock step) where
  -- what a commit of it answers is what the node said of its stamps
  pub made-stamps : (answer : Option Refusal) → CommitAnswers mid run step clock answer → got_refusal (node_at old) clock step.got ≡ answer
  made-stamps answer h = commit-stamps old mid run clock step.issued step answer made.issued made.current h

  -- refused at the commit
  pub made-late : (e : Refusal) → CommitAnswers mid run step clock (Some e) → is_of_stamp e ≡ true
  made-late e h = stamps-late (node_at old).ring.window (max (node_at old).now clock) (node_at old).accepted (node_at old).ring.kind step.got e (made-stamps (Some e) h)

  pub made-refused : (rose : Type 0) (e : Refusal) → CommitAnswers mid run step clock (Some e) → IsRefused opens checks allowed old run bytes clock rose e
  made-refused rose e h =
      inr (step.before, made.message, made.taken, record { current = made.current; spells = made.spells; fits = made.fits }, made.not_spent, ap (got_refusal (node_at old) clock) (sym made.got) ∙ made-stamps (Some e) h)

  pub made-judged : (new : DeskView) (e : Refusal) → Untouched mid new → CommitAnswers mid run step clock (Some e) → IsStampRefused opens checks allowed iv_of wants told_old told_new old new run bytes clock e
  made-judged new e same h =
      record {
        step = step;
        made = record {
          message = made.message;
          spells = made.spells;
          current = made.current;
          taken = made.taken;
          fits = made.fits;
          takes = made.takes;
          opened = made.opened;
          got = made.got;
          is_step = made.is_step;
          not_spent = made.not_spent;
          needs = made.needs;
          issued = issued-same old mid new clock step.issued made.issued same;
          limits = made.limits;
          drawn = made.drawn;
          silent = made.silent;
          ready = may-same mid new run step same made.ready;
        };
        refused = made-stamps (Some e) h;
      }

  -- entered
  pub delivered : (new : DeskView) (reply : Option Tree) → Entered mid new (Commit run (max (node_at mid).now clock) step) → CommitAnswers mid run step clock None → reply ≡ step.reply → Delivered opens checks allowed iv_of wants told_old told_new old new run bytes clock reply
  delivered new reply entered answer replied =
      record {
        step = step;
        mid = mid;
        made = made;
        fit = made-stamps None answer;
        entered = subst (λ (n : ℕ). Entered mid new (Commit run n step)) (issued-node old mid clock step.issued made.issued).1 entered;
        replied = replied;
      }
