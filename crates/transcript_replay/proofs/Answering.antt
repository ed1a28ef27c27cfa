-- The calls of a world have one answer each, and lead to one world.
use Rattle.std.proofs.Common.{◌≡◌, ◌⊎◌, inl, inr, ℕ, suc, Bool, true, false, List, [], ◌∷◌, ◌++◌, map, Option, Some, None, option_map, Result, Ok, Err, refl, sym, ap, ap₂, subst, ◌∙◌}
use Rattle.term_values.specs.Trees.{Bytes, Tree, tag, trees, tuple}
use Rattle.term_values.specs.declared.small.Stamp.{Stamp}
use Rattle.mech_rows.specs.declared.kinds.Mech.{Mech}
use Rattle.mech_rows.specs.declared.kinds.Slot.{Slot}
use Rattle.mech_rows.specs.declared.refusal.Refusal.{Refusal}
use Rattle.mech_rows.specs.Found.{found}
use Rattle.mech_rows.specs.Heads.{Head, me}
use Rattle.mech_rows.specs.Moves.{Move, middle_of, step_of}
use Rattle.mech_rows.specs.Openings.{Texts, opened_state}
use Rattle.mech_rows.specs.Rows.{Cover, Pass, row_of, tag_of}
use Rattle.mech_rows.specs.declared.outcome.Outcome.{Outcome}
use Rattle.mech_rows.specs.Runs.{Got, Keys, Notes, Opening, Run, after_taking, clear_item, made, next_act, nth, outcome_of, passed}
use Rattle.mech_rows.specs.Steps.{IsStep, ItemBy, ItemsAre, Replies, Sends, Takes, openings, symbolic}
use Rattle.mech_rows.specs.Verdict.{Noted, State, Taken, run_of}
use Rattle.agreement_laws.specs.Traces.{RunId}
use Rattle.node_desk.specs.Deliveries.{after_message, open_in, spent_refusal}
use Rattle.node_desk.specs.declared.event.Event.TheVariants.{Drop}
use Rattle.node_desk.specs.Helds.{Held}
use Rattle.world_run.specs.declared.given.Given.{Given}
use Rattle.world_run.specs.declared.opened.Opened.{Opened}
use Rattle.world_run.specs.Clocks.{Raises, clock_in}
use Rattle.world_run.specs.Gives.{Drops, Gives, IsGiveRefused, IsGiven, IsJudged, IsRefusedBy, stamps_refusal_in, verdict_in}
use Rattle.world_run.specs.Opens.{IsOpenRefused, IsOpened, Opens, Speaks, Waits, begin_refusal, enlisted, id_of, open_refusal}
use Rattle.world_run.specs.Turns.{SaysNext, desk_in, did, keys_at, made_by, next_message, notes_after, stepped}
use Rattle.world_run.specs.Views.{WorldView, held_in, is_over, number_refusal, run_in}
use Rattle.transcript_replay.proofs.Once.{AnswerOnce}

abbrev given : {X : Type 0} → X → Option X
given x = Some x

some_once : {X : Type 0} (x y : X) → given x ≡ given y → x ≡ y
some_once x y e = cc

-- what is there is not absent
there_not : {X : Type 0} (o : Option X) (x : X) → o ≡ Some x → o ≡ None → ⊥
there_not o x e f = cc

both_some : {X : Type 0} (o : Option X) (x y : X) → o ≡ Some x → o ≡ Some y → x ≡ y
both_some o x y e f = cc

ok_once : (r : Result Taken Refusal) (t u : Taken) → r ≡ Ok t → r ≡ Ok u → t ≡ u
ok_once r t u e f = cc

err_once : (r : Result Taken Refusal) (d e : Refusal) → r ≡ Err d → r ≡ Err e → d ≡ e
err_once r d e f g = cc

ok_not : (r : Result Taken Refusal) (t : Taken) (e : Refusal) → r ≡ Ok t → r ≡ Err e → ⊥
ok_not r t e f g = cc

-- ---- steps over symbolic sealing

item_once : (keys : Keys) (h : Head) (notes : Notes) (c : Cover) (u v : Tree) (b : Bool) → ItemBy b symbolic keys h notes c u → ItemBy b symbolic keys h notes c v → u ≡ v
item_once keys h notes c u v true x y = x ∙ sym y
item_once keys h notes c u v false x y = x ∙ sym y

items_once : (keys : Keys) (h : Head) (notes : Notes) (knows : Cover → Bool) (cs : List Cover) (us vs : List Tree) → ItemsAre symbolic keys h notes knows cs us → ItemsAre symbolic keys h notes knows cs vs → us ≡ vs
items_once keys h notes knows [] us vs x y = x ∙ sym y
items_once keys h notes knows (c ∷ cs) [] vs x y = absurd x
items_once keys h notes knows (c ∷ cs) (u ∷ us) [] x y = absurd y
items_once keys h notes knows (c ∷ cs) (u ∷ us) (v ∷ vs) x y = ap₂ (λ (t : Tree) (ts : List Tree). t ∷ ts) (item_once keys h notes c u v (knows c) x.0 y.0) (items_once keys h notes knows cs us vs x.1 y.1)

module _ (keys : Keys) (h : Head) (k : ℕ) (old new : Notes) where
  sends_once : (t u : Tree) (sealed more : List Opening) → Sends symbolic keys h k old new t sealed → Sends symbolic keys h k old new u more → (t ≡ u) × (sealed ≡ more)
  sends_once t u sealed more x y =
      let pass : x.pass ≡ y.pass = both_some (nth (row_of h.mech) k) x.pass y.pass x.at y.at in
      let each = subst (λ (q : Pass). ItemsAre symbolic keys h new made q.covers y.shows.items) (sym pass) y.shows.each in
      let items = items_once keys h new made x.pass.covers x.shows.items y.shows.items x.shows.each each in (
        x.shows.is ∙ ap₂ (λ (q : Pass) (us : List Tree). tuple (trees (tag (tag_of h.mech (suc k) 0) ∷ (map (clear_item h new) q.clear ++ us)))) pass items ∙ sym y.shows.is,
        x.seals_are ∙ ap₂ (λ (q : Pass) (us : List Tree). openings keys h new made q.covers us) pass items ∙ sym y.seals_are,
      )

  replies_once : (r s : Option Tree) (sealed more : List Opening) → Replies symbolic keys h k old new r sealed → Replies symbolic keys h k old new s more → (r ≡ s) × (sealed ≡ more)
  replies_once None None sealed more x y = (refl, x.1 ∙ sym y.1)
  replies_once None (Some u) sealed more x y = absurd (x.2 y.pass y.at y.sent)
  replies_once (Some t) None sealed more x y = absurd (y.2 x.pass x.at x.sent)
  replies_once (Some t) (Some u) sealed more x y = let e = sends_once t u sealed more x y in (ap (λ (z : Tree). given z) e.0, e.1)

-- two steps that agree in what they take and in their last notes are one
module _ (keys : Keys) (before : State) (taken : Option Tree) (opened : List Opening) (got : List Got) (issued : Option Stamp) (notes : Noted) where
  abbrev move_of : Head → ℕ → List Opening → Option Tree → Outcome → Move
  move_of h n sealed reply outcome = record { before = before; after = record { head = h; next = n; notes = notes }; taken = taken; opened = opened; got = got; issued = issued; sealed = sealed; reply = reply; outcome = outcome }

  made_once : (h g : Head) (n m : ℕ) (sealed more : List Opening) (r s : Option Tree) (o p : Outcome)
      → IsStep symbolic keys (step_of (move_of h n sealed r o)) → IsStep symbolic keys (step_of (move_of g m more s p)) → move_of h n sealed r o ≡ move_of g m more s p
  made_once h g n m sealed more r s o p x y =
      let k = after_taking before.next taken in
      let old = middle_of (run_of before) taken (found notes) in
      let e = replies_once keys before.head k old (found notes) r s sealed more x.replies y.replies in
      let head : h ≡ g = x.same_head ∙ sym y.same_head in
      let next : n ≡ m = x.moves ∙ ap (λ (z : Option Tree). next_act before.head (passed k z)) e.0 ∙ sym y.moves in
      let outcome : o ≡ p = x.outcome ∙ (λ i. outcome_of (record { head = head i; next = next i; notes = found notes })) ∙ sym y.outcome in
      λ i. move_of (head i) (next i) (e.1 i) (e.0 i) (outcome i)

move_once : (keys : Keys) (a b : Move) → a.before ≡ b.before → a.taken ≡ b.taken → a.opened ≡ b.opened → a.got ≡ b.got → a.issued ≡ b.issued → a.after.notes ≡ b.after.notes
    → IsStep symbolic keys (step_of a) → IsStep symbolic keys (step_of b) → a ≡ b
move_once keys a b before taken opened got issued notes x y =
    let back : (move_of keys a.before a.taken a.opened a.got a.issued a.after.notes b.after.head b.after.next b.sealed b.reply b.outcome) ≡ b =
    λ i. record {
      before = before i;
      after = record { head = b.after.head; next = b.after.next; notes = notes i };
      taken = taken i;
      opened = opened i;
      got = got i;
      issued = issued i;
      sealed = b.sealed;
      reply = b.reply;
      outcome = b.outcome;
    } in
    made_once keys a.before a.taken a.opened a.got a.issued a.after.notes a.after.head b.after.head a.after.next b.after.next a.sealed b.sealed a.reply b.reply a.outcome b.outcome x
    (subst (λ (z : Move). IsStep symbolic keys (step_of z)) (sym back) y)
    ∙ back

-- a run that takes nothing opens nothing and judges no stamp
pub silent_takes : (keys : Keys) (run : Run) (t : Option Tree) (notes : Notes) (opened : List Opening) (got : List Got) → t ≡ None → Takes symbolic keys run t notes opened got → (opened ≡ []) × (got ≡ [])
silent_takes keys run None notes opened got e x = (x.1, x.2)
silent_takes keys run (Some t) notes opened got e x = absurd cc

-- what a run says next is determined
says_once : (w : WorldView) (n : ℕ) (s : State) (a b : Move) → a.before ≡ b.before → a.taken ≡ b.taken → a.opened ≡ b.opened → a.got ≡ b.got → SaysNext w n s a → SaysNext w n s b → a ≡ b
says_once w n s a b before taken opened got x y =
    let issued = x.issued ∙ sym y.issued in
    move_once (keys_at w n) a b before taken opened got issued (x.notes ∙ ap (λ (z : Option Stamp). notes_after w.draws z s) issued ∙ sym y.notes) x.is_step y.is_step

-- ---- clocks

raises_once : (w : WorldView) (n time : ℕ) (a b : Result ℕ Refusal) (u v : WorldView) → Raises w n time a u → Raises w n time b v → (u ≡ v) × (a ≡ b)
raises_once w n time (Ok c) (Ok d) u v x y =
    let same = x.1 ∙ sym y.1 in
    let now : c ≡ d = x.2 ∙ ap (λ (z : WorldView). clock_in z n) same ∙ sym y.2 in
    (same, λ i. Ok (now i))
raises_once w n time (Ok c) (Err e) u v x y = absurd (y.0 x.0)
raises_once w n time (Err e) (Ok d) u v x y = absurd (x.0 y.0)
raises_once w n time (Err d) (Err e) u v x y = let same : d ≡ e = x.1 ∙ sym y.1 in (x.2 ∙ sym y.2, λ i. Err (same i))

-- ---- drops

drops_once : (w : WorldView) (run : ℕ) (a b : Result (Unit {0}) Refusal) (u v : WorldView) → Drops w run a u → Drops w run b v → (u ≡ v) × (a ≡ b)
drops_once w run (Ok c) (Ok d) u v x y =
    let id : x.id ≡ y.id = both_some (run_in w.runs run) x.id y.id x.is_run y.is_run in
    (x.leaves ∙ ap (λ (z : RunId). did w z.party (Drop z.number)) id ∙ sym y.leaves, refl)
drops_once w run (Ok c) (Err e) u v x y = absurd (there_not (number_refusal w run) e y.0 x.running)
drops_once w run (Err e) (Ok d) u v x y = absurd (there_not (number_refusal w run) e x.0 y.running)
drops_once w run (Err d) (Err e) u v x y = let same : d ≡ e = both_some (number_refusal w run) d e x.0 y.0 in (x.1 ∙ sym y.1, λ i. Err (same i))

-- ---- openings

waits_not : (b : Bool) → b ≡ false → b ≡ true → ⊥
waits_not b e f = cc

opened_once : (w : WorldView) (h : Head) (texts : Texts) (o p : Opened) (u v : WorldView) → IsOpened w h texts o u → IsOpened w h texts p v → (u ≡ v) × (o ≡ p)
opened_once w h texts o p u v x y = go x.goes y.goes
  where
    run : o.run ≡ p.run
    run = x.run ∙ sym y.run

    go : Waits w h texts o u ⊎ Speaks w h texts o u → Waits w h texts p v ⊎ Speaks w h texts p v → (u ≡ v) × (o ≡ p)
    go (inl s) (inl t) = (s.leaves ∙ sym t.leaves, let sent = s.sent ∙ sym t.sent in let done = s.done ∙ sym t.done in λ i. record { run = run i; sent = sent i; done = done i })
    go (inl s) (inr t) = absurd (waits_not _ s.silent t.first)
    go (inr s) (inl t) = absurd (waits_not _ t.silent s.first)
    go (inr s) (inr t) =
        let one = silent_takes (keys_at (enlisted w h texts) (me h)) (run_of s.step.before) s.step.taken (middle_of (run_of s.step.before) s.step.taken (found s.step.after.notes)) s.step.opened s.step.got s.takes s.says.is_step.takes in
        let other = silent_takes (keys_at (enlisted w h texts) (me h)) (run_of t.step.before) t.step.taken (middle_of (run_of t.step.before) t.step.taken (found t.step.after.notes)) t.step.opened t.step.got t.takes t.says.is_step.takes in
        let step : s.step ≡ t.step = says_once (enlisted w h texts) (me h) (opened_state h texts) s.step t.step (s.before ∙ sym t.before) (s.takes ∙ sym t.takes) (one.0 ∙ sym other.0) (one.1 ∙ sym other.1) s.says t.says in
        let sent = s.sent ∙ sym t.sent in
        let done = s.done ∙ ap (λ (z : Move). is_over z.after) step ∙ sym t.done in
        (s.leaves ∙ ap (stepped (enlisted w h texts) (id_of w h) (opened_state h texts)) step ∙ sym t.leaves, λ i. record { run = run i; sent = sent i; done = done i })

unopened_once : (w : WorldView) (h : Head) (texts : Texts) (d e : Refusal) (u v : WorldView) → IsOpenRefused w h texts d u → IsOpenRefused w h texts e v → (u ≡ v) × (d ≡ e)
unopened_once w h texts d e u v (inl x) (inl y) = (x.1 ∙ sym y.1, both_some (open_refusal w h) d e x.0 y.0)
unopened_once w h texts d e u v (inl x) (inr y) = absurd (there_not (open_refusal w h) d x.0 y.0)
unopened_once w h texts d e u v (inr x) (inl y) = absurd (there_not (open_refusal w h) e y.0 x.0)
unopened_once w h texts d e u v (inr x) (inr y) = (x.2 ∙ sym y.2, both_some (begin_refusal w h texts) d e x.1 y.1)

opened_not : (w : WorldView) (h : Head) (texts : Texts) (o : Opened) (e : Refusal) (u v : WorldView) → IsOpened w h texts o u → IsOpenRefused w h texts e v → ⊥
opened_not w h texts o e u v x (inl y) = there_not (open_refusal w h) e y.0 x.may
opened_not w h texts o e u v x (inr y) = there_not (begin_refusal w h texts) e y.1 x.begins

opens_once : (w : WorldView) (h : Head) (texts : Texts) (a b : Result Opened Refusal) (u v : WorldView) → Opens w h texts a u → Opens w h texts b v → (u ≡ v) × (a ≡ b)
opens_once w h texts (Ok o) (Ok p) u v x y = let e = opened_once w h texts o p u v x y in (e.0, λ i. Ok (e.1 i))
opens_once w h texts (Ok o) (Err e) u v x y = absurd (opened_not w h texts o e u v x y)
opens_once w h texts (Err d) (Ok p) u v x y = absurd (opened_not w h texts p d v u y x)
opens_once w h texts (Err d) (Err e) u v x y = let s = unopened_once w h texts d e u v x y in (s.0, λ i. Err (s.1 i))

-- ---- deliveries

held_once : (s t : State) → open_in s ≡ open_in t → s ≡ t
held_once s t e = ap (λ (h : Held). h.state) (some_once (record { state = s; is_open = true }) (record { state = t; is_open = true }) e)

-- a run that is open is not refused by its number
open_number : (w : WorldView) (run : ℕ) (id : RunId) (s : State) → run_in w.runs run ≡ Some id → held_in w.acts id ≡ open_in s → number_refusal w run ≡ None
open_number w run id s e f = rw e (rw f refl)

module _ (allowed : Mech → Slot → Bytes → Bool) where
  given_once : (w : WorldView) (run : ℕ) (m : Tree) (g h : Given) (u v : WorldView) → IsGiven allowed w run m g u → IsGiven allowed w run m h v → (u ≡ v) × (g ≡ h)
  given_once w run m g h u v x y =
      let id : x.id ≡ y.id = both_some (run_in w.runs run) x.id y.id x.is_run y.is_run in
      let before : x.step.before ≡ y.step.before = held_once x.step.before y.step.before (sym x.current ∙ ap (held_in w.acts) id ∙ y.current) in
      let taken : x.taken ≡ y.taken =
      ok_once (verdict_in allowed w y.id.party y.step.before m) x.taken y.taken (ap₂ (λ (z : RunId) (s : State). verdict_in allowed w z.party s m) (sym id) (sym before) ∙ x.fits) y.fits in
      let says : SaysNext w y.id.party (after_message y.step.before y.taken) x.step =
      subst (λ (z : RunId). SaysNext w z.party (after_message y.step.before y.taken) x.step) id
      (subst (λ (s : State). SaysNext w x.id.party s x.step) (ap₂ after_message before taken) x.says) in
      let step : x.step ≡ y.step =
      says_once w y.id.party (after_message y.step.before y.taken) x.step y.step before (x.takes ∙ sym y.takes)
      (x.opened ∙ ap (λ (t : Taken). t.opened) taken ∙ sym y.opened) (x.got ∙ ap (λ (t : Taken). t.got) taken ∙ sym y.got) says y.says in
      let pass = x.pass ∙ ap (λ (s : State). suc s.next) before ∙ sym y.pass in
      let sent = x.sent ∙ ap (λ (z : Move). option_map (λ _. next_message w) z.reply) step ∙ sym y.sent in
      let done = x.done ∙ ap (λ (z : Move). is_over z.after) step ∙ sym y.done in
      let after : stepped w x.id (after_message x.step.before x.taken) x.step ≡ stepped w y.id (after_message y.step.before y.taken) y.step =
      λ i. stepped w (id i) (after_message (before i) (taken i)) (step i) in
      (x.leaves ∙ after ∙ sym y.leaves, λ i. record { pass = pass i; sent = sent i; done = done i })

  judged_once : (w : WorldView) (id : RunId) (s : State) (m : Tree) (d e : Refusal) (u v : WorldView) → IsJudged allowed w id s m d u → IsJudged allowed w id s m e v → (u ≡ v) × (d ≡ e)
  judged_once w id s m d e u v (inl x) (inl y) = (x.1 ∙ sym y.1, err_once (verdict_in allowed w id.party s m) d e x.0 y.0)
  judged_once w id s m d e u v (inl x) (inr y) = absurd (ok_not (verdict_in allowed w id.party s m) y.0 d y.1 x.0)
  judged_once w id s m d e u v (inr x) (inl y) = absurd (ok_not (verdict_in allowed w id.party s m) x.0 e x.1 y.0)
  judged_once w id s m d e u v (inr (t, fits, x)) (inr (z, also, y)) = late t (subst (λ (k : Taken). Late k e v) (sym (ok_once (verdict_in allowed w id.party s m) t z fits also)) y) x
    where
      Late : Taken → Refusal → WorldView → Type 0
      Late k r n =
          ((spent_refusal (desk_in w id.party) (after_message s k) ≡ Some r) × (n ≡ w))
          ⊎ ((spent_refusal (desk_in w id.party) (after_message s k) ≡ None) × (stamps_refusal_in w id.party k ≡ Some r) × (n ≡ made_by w id.party (after_message s k)))

      late : (k : Taken) → Late k e v → Late k d u → (u ≡ v) × (d ≡ e)
      late k (inl q) (inl p) = (p.1 ∙ sym q.1, both_some (spent_refusal (desk_in w id.party) (after_message s k)) d e p.0 q.0)
      late k (inr q) (inl p) = absurd (there_not (spent_refusal (desk_in w id.party) (after_message s k)) d p.0 q.0)
      late k (inl q) (inr p) = absurd (there_not (spent_refusal (desk_in w id.party) (after_message s k)) e q.0 p.0)
      late k (inr q) (inr p) = (p.2 ∙ sym q.2, both_some (stamps_refusal_in w id.party k) d e p.1 q.1)

  refused_once : (w : WorldView) (run : ℕ) (m : Tree) (d e : Refusal) (u v : WorldView) → IsRefusedBy allowed w run m d u → IsRefusedBy allowed w run m e v → (u ≡ v) × (d ≡ e)
  refused_once w run m d e u v (inl x) (inl y) = (x.1 ∙ sym y.1, both_some (number_refusal w run) d e x.0 y.0)
  refused_once w run m d e u v (inl x) (inr (id, s, is, held, y)) = absurd (there_not (number_refusal w run) d x.0 (open_number w run id s is held))
  refused_once w run m d e u v (inr (id, s, is, held, x)) (inl y) = absurd (there_not (number_refusal w run) e y.0 (open_number w run id s is held))
  refused_once w run m d e u v (inr (id, s, is, held, x)) (inr (id', s', is', held', y)) =
      let same : id' ≡ id = both_some (run_in w.runs run) id' id is' is in
      let state : s' ≡ s = held_once s' s (sym held' ∙ ap (held_in w.acts) same ∙ held) in
      judged_once w id s m d e u v x (subst (λ (z : RunId). IsJudged allowed w z s m e v) same (subst (λ (z : State). IsJudged allowed w id' z m e v) state y))

  ungiven_once : (w : WorldView) (run : ℕ) (m : Tree) (d e : Refusal) (u v : WorldView) → IsGiveRefused allowed w run m d u → IsGiveRefused allowed w run m e v → (u ≡ v) × (d ≡ e)
  ungiven_once w run m d e u v (inl x) (inl y) = (x.2 ∙ sym y.2, x.1 ∙ sym y.1)
  ungiven_once w run m d e u v (inl x) (inr y) = absurd (x.0 y.0)
  ungiven_once w run m d e u v (inr x) (inl y) = absurd (y.0 x.0)
  ungiven_once w run m d e u v (inr (_, inl x)) (inr (_, inl y)) = (x.2 ∙ sym y.2, x.1 ∙ sym y.1)
  ungiven_once w run m d e u v (inr (_, inl x)) (inr (_, inr y)) = absurd (y.0 x.0)
  ungiven_once w run m d e u v (inr (_, inr x)) (inr (_, inl y)) = absurd (x.0 y.0)
  ungiven_once w run m d e u v (inr (_, inr x)) (inr (_, inr y)) = refused_once w run m d e u v x.1 y.1

  given_judged : (w : WorldView) (run : ℕ) (m : Tree) (g : Given) (e : Refusal) (u v : WorldView) → (x : IsGiven allowed w run m g u) → IsJudged allowed w x.id x.step.before m e v → ⊥
  given_judged w run m g e u v x (inl y) = ok_not (verdict_in allowed w x.id.party x.step.before m) x.taken e x.fits y.0
  given_judged w run m g e u v x (inr (t, fits, y)) = late y
    where
      same : t ≡ x.taken
      same = ok_once (verdict_in allowed w x.id.party x.step.before m) t x.taken fits x.fits

      late : ((spent_refusal (desk_in w x.id.party) (after_message x.step.before t) ≡ Some e) × (v ≡ w))
          ⊎ ((spent_refusal (desk_in w x.id.party) (after_message x.step.before t) ≡ None) × (stamps_refusal_in w x.id.party t ≡ Some e) × (v ≡ made_by w x.id.party (after_message x.step.before t))) → ⊥
      late (inl p) = there_not (spent_refusal (desk_in w x.id.party) (after_message x.step.before x.taken)) e (ap (λ (z : Taken). spent_refusal (desk_in w x.id.party) (after_message x.step.before z)) (sym same) ∙ p.0) x.not_spent
      late (inr p) = there_not (stamps_refusal_in w x.id.party x.taken) e (ap (stamps_refusal_in w x.id.party) (sym same) ∙ p.1) x.fit

  given_not : (w : WorldView) (run : ℕ) (m : Tree) (g : Given) (e : Refusal) (u v : WorldView) → IsGiven allowed w run m g u → IsGiveRefused allowed w run m e v → ⊥
  given_not w run m g e u v x (inl y) = y.0 x.derivable
  given_not w run m g e u v x (inr (_, inl y)) = x.is_born y.0
  given_not w run m g e u v x (inr (_, inr (_, inl y))) = there_not (number_refusal w run) e y.0 (open_number w run x.id x.step.before x.is_run x.current)
  given_not w run m g e u v x (inr (_, inr (_, inr (id, s, is, held, y)))) =
      let same : id ≡ x.id = both_some (run_in w.runs run) id x.id is x.is_run in
      let state : s ≡ x.step.before = held_once s x.step.before (sym held ∙ ap (held_in w.acts) same ∙ x.current) in
      given_judged w run m g e u v x (subst (λ (z : RunId). IsJudged allowed w z x.step.before m e v) same (subst (λ (z : State). IsJudged allowed w id z m e v) state y))

  gives_once : (w : WorldView) (run : ℕ) (m : Tree) (a b : Result Given Refusal) (u v : WorldView) → Gives allowed w run m a u → Gives allowed w run m b v → (u ≡ v) × (a ≡ b)
  gives_once w run m (Ok g) (Ok h) u v x y = let e = given_once w run m g h u v x y in (e.0, λ i. Ok (e.1 i))
  gives_once w run m (Ok g) (Err e) u v x y = absurd (given_not w run m g e u v x y)
  gives_once w run m (Err d) (Ok h) u v x y = absurd (given_not w run m h d v u y x)
  gives_once w run m (Err d) (Err e) u v x y = let s = ungiven_once w run m d e u v x y in (s.0, λ i. Err (s.1 i))

-- the calls of a world have one answer each
pub answer_once : AnswerOnce
answer_once = record { clock = raises_once; open_run = opens_once; give = gives_once; drop_run = drops_once }
