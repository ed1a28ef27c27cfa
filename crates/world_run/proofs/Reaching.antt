-- In each genuine world each call has an answer.
use Rattle.std.proofs.Common.{◌≡◌, ◌≢◌, ◌⊎◌, ◌==◌, ◌<◌, ◌≤◌, ◌&&◌, ℕ, suc, Bool, true, false, nat_le, if◌then◌else◌, List, [], ◌∷◌, ◌++◌, length, Option, Some, None, is_some, option_map, Result, Ok, Err, refl, sym, ap, subst, ◌∙◌, inl, inr, arith, eqb-true, eq-eqb, leb-true, le-leb, max}
use Rattle.std.proofs.lemmas.Bool.{cases_lt}
use Rattle.std.specs.List.{list_any}
use Rattle.term_values.specs.Trees.{Among, Bytes, Tree, Trees, name, stamp, nonce, part, text, tag, blob, tuple, seal, check, none, item}
use Rattle.term_values.specs.declared.small.Key.{Key}
use Rattle.term_values.specs.declared.small.Key.TheVariants.{One, Two}
use Rattle.term_values.specs.declared.small.Stamp.{Stamp}
use Rattle.term_values.proofs.Lists.{and_left}
use Rattle.outside.specs.Told.{DrawKind, Told, nonce_draw, part_draw}
use Rattle.fresh_values.specs.Counts.{first_byte}
use Rattle.replay_store.specs.Stamps.{last_number}
use Rattle.attacker_model.specs.Decided.{is_derivable}
use Rattle.attacker_model.specs.Derivation.{Derivable}
use Rattle.attacker_model.proofs.Decided.{decided}
use Rattle.mech_rows.specs.declared.kinds.Mech.{Mech}
use Rattle.mech_rows.specs.declared.kinds.Slot.{Slot}
use Rattle.mech_rows.specs.declared.refusal.Refusal.{Refusal}
use Rattle.mech_rows.specs.declared.refusal.Refusal.TheVariants.{Memory, NotDerivable, StampsSpent, Unborn, UnknownParty}
use Rattle.mech_rows.specs.Found.{found}
use Rattle.mech_rows.specs.Heads.{Head, IsHead, me}
use Rattle.mech_rows.specs.Moves.{Fitted, Move, Ready, step_of}
use Rattle.mech_rows.specs.Openings.{Texts, opened_state}
use Rattle.mech_rows.specs.Replies.{Says, new_slots, sends, sends_first}
use Rattle.mech_rows.specs.Rows.{Pass, kind_of, row_of}
use Rattle.mech_rows.specs.Runs.{Extends, HasKind, Keys, nth, outcome_of, seen_slots, sent_slots}
use Rattle.mech_rows.specs.Verdict.{Noted, State, Taken, run_of}
use Rattle.mech_rows.proofs.Stepping.{answered, began, ended}
use Rattle.text_hooks.specs.Drawn.{drawn_values}
use Rattle.seal_symbolic.specs.Symbolic.{body_of, is_check}
use Rattle.agreement_laws.specs.Traces.{RunId}
use Rattle.agreement_laws.proofs.Held.{no_self}
use Rattle.node_desk.specs.Deliveries.{after_message, open_in, spent_refusal}
use Rattle.node_desk.specs.Desks.{node_at}
use Rattle.node_desk.proofs.Stamped.{stamps-not-memory}
use Rattle.world_run.specs.declared.given.Given.{Given}
use Rattle.world_run.specs.Answers.{HasAnswer}
use Rattle.world_run.specs.Born.{BeginsLater, HasUnborn, HoldsLater, IsLaterDraw, ItemsHoldLater, KeyHoldsLater, number_from}
use Rattle.world_run.specs.Clocks.{Raises, clock_in, raised}
use Rattle.world_run.specs.Gives.{Drops, Gives, IsJudged, stamps_refusal_in, verdict_in}
use Rattle.world_run.specs.Kept.{IsGenuine}
use Rattle.world_run.specs.Opens.{Opens, begin_refusal, enlisted, given_up, id_of, open_refusal, opened_by}
use Rattle.world_run.specs.Turns.{SaysNext, desk_in, draws_from, has_name, keys_at, made_by, next_message, next_stamp_of, notes_after, stamp_due, stepped}
use Rattle.world_run.specs.Views.{WorldView, held_in, is_over, known_in, run_in, standing_refusal}
use Rattle.world_run.proofs.Acting.{can_say}
use Rattle.world_run.proofs.Legal.{genuine_list, has_name_is, is_has_name}
use Rattle.world_run.proofs.Numbers.{of_unborn, unborn_of}
use Rattle.world_run.proofs.Otherwise.{begin_other, opening_other, run_other, spent_other, verdict_other}
use Rattle.world_run.proofs.Replying.{ActsIn, CanSay, after_saying, of_stamp, said_then, says_so, sealed_then}
use Rattle.world_run.proofs.Sealings.{symbolic_step}
use Rattle.world_run.proofs.Staying.{held_opened, open_run, taken_fits_so}

-- ---- what can be decided

abbrev Decides : Type 0 → Type 0
Decides X = X ⊎ (X → ⊥)

by_test : (X : Type 0) (b : Bool) → (b ≡ true → X) → (X → b ≡ true) → Decides X
by_test X true f g = inl (f refl)
by_test X false f g = inr (λ x. let e = g x in cc)

derives : (K : List Tree) (t : Tree) → Decides (Derivable K t)
derives K t = by_test (Derivable K t) (is_derivable K t) (decided K t).0 (decided K t).1

both_so : {X Y : Type 0} → Decides X → Decides Y → Decides (X × Y)
both_so (inl x) (inl y) = inl (x, y)
both_so (inr f) d = inr (λ p. f p.0)
both_so (inl x) (inr f) = inr (λ p. f p.1)

either_so : {X Y : Type 0} → Decides X → Decides Y → Decides (X ⊎ Y)
either_so (inl x) d = inl (inl x)
either_so (inr f) (inl y) = inl (inr y)
either_so (inr f) (inr g) = inr (λ s. elim s [ inl x ↦ f x | inr y ↦ g y ])

begins_later : (lead n : ℕ) (bs : Bytes) → Decides (BeginsLater lead n bs)
begins_later lead n [] = inr (λ x. x)
begins_later lead n (b ∷ bs) = both_so (by_test (b ≡ lead) (b == lead) (eqb-true b lead) (eq-eqb b lead)) (by_test (n ≤ number_from 0 bs) (nat_le n (number_from 0 bs)) (leb-true n (number_from 0 bs)) (le-leb n (number_from 0 bs)))

draw_later : (kind : DrawKind) (n : ℕ) (bs : Bytes) → Decides (IsLaterDraw kind n bs)
draw_later kind n bs = begins_later (first_byte kind) n bs

key_later : (n : ℕ) (k : Key) → Decides (KeyHoldsLater n k)
key_later n (One p) = draw_later part_draw n p
key_later n (Two p q) = either_so (draw_later part_draw n p) (draw_later part_draw n q)

mutual
  holds_later : (n : ℕ) (t : Tree) → Decides (HoldsLater n t)
  holds_later n (nonce b) = draw_later nonce_draw n b
  holds_later n (part p) = draw_later part_draw n p
  holds_later n (tuple ts) = items_later n ts
  holds_later n (seal k t) = either_so (key_later n k) (holds_later n t)
  holds_later n (check k t) = either_so (key_later n k) (holds_later n t)
  holds_later n (name m) = inr (λ x. x)
  holds_later n (stamp m) = inr (λ x. x)
  holds_later n (text m) = inr (λ x. x)
  holds_later n (tag m) = inr (λ x. x)
  holds_later n (blob m) = inr (λ x. x)

  items_later : (n : ℕ) (ts : Trees) → Decides (ItemsHoldLater n ts)
  items_later n none = inr (λ x. x)
  items_later n (item t ts) = either_so (holds_later n t) (items_later n ts)

is_unborn : (n : ℕ) (t : Tree) → Decides (HasUnborn n t)
is_unborn n t = go (holds_later n t)
  where
    go : Decides (HoldsLater n t) → Decides (HasUnborn n t)
    go (inl h) = inl (unborn_of n t h)
    go (inr f) = inr (λ u. f (of_unborn n t u))

-- ---- what a run says

-- where stamps are left, one is issued exactly where one is needed
needs_so : (w : WorldView) (n : ℕ) (s : State) → sends s ≡ true → spent_refusal (desk_in w n) s ≡ None → is_some (stamp_due w n s) ≡ list_any of_stamp (new_slots s)
needs_so w n s sending spent = go (sends s) (list_any of_stamp (new_slots s)) ((node_at (desk_in w n)).last == last_number) _ sending spent
  where
    go : (a b c : Bool) (x : Stamp) → a ≡ true → ◌≡◌ {A = Option Refusal} (if a && b then (if c then Some StampsSpent else None) else None) None → is_some (if a && b then (if c then None else Some x) else None) ≡ b
    go true true true x e f = absurd cc
    go true true false x e f = refl
    go true false c x e f = refl
    go false b c x e f = absurd cc

-- the notes after a message are those that the run should have
can_say_then : (s : State) → CanSay s → (p : Pass) (notes : Noted) → nth (row_of s.head.mech) s.next ≡ Some p → p.to ≡ s.head.role → Extends (found s.notes) (seen_slots p) (found notes) → CanSay (record { head = s.head; next = suc s.next; notes = notes })
can_say_then s can p notes at to ext = record {
  kinds = λ u t e. by_kind u t e (ext.only u t e);
  texts = λ u e f. let x = can.texts u e f in (x.0, ext.kept u x.0 x.1);
  acted = λ u x. by_place u x (cases_lt x.place s.next);
}
  where
    by_kind : (u : Slot) (t : Tree) → found notes u ≡ Some t → (found s.notes u ≡ Some t) ⊎ Among u (seen_slots p) → HasKind (kind_of u) t
    by_kind u t e (inl f) = can.kinds u t f
    by_kind u t e (inr i) = ext.kinds u t i e

    same_pass : (o : Option Pass) (q r : Pass) → o ≡ Some q → o ≡ Some r → q ≡ r
    same_pass o q r e f = cc

    shown : (u : Slot) (q : Pass) → p ≡ q → ((q.from ≡ s.head.role) × Among u (sent_slots q)) ⊎ ((q.to ≡ s.head.role) × Among u (seen_slots q)) → (t : Tree) × (found notes u ≡ Some t)
    shown u q same (inl x) = absurd (no_self s.head.mech s.next p s.head.role at (ap (λ (y : Pass). y.from) same ∙ x.0) to)
    shown u q same (inr x) = let n = ext.noted u (subst (λ (y : Pass). Among u (seen_slots y)) (sym same) x.1) in (n.0, n.1)

    by_place : (u : Slot) → (x : ActsIn s.head.role (suc s.next) (row_of s.head.mech) u) → (x.place < s.next) ⊎ (s.next ≤ x.place) → (t : Tree) × (found notes u ≡ Some t)
    by_place u x (inl lt) = let n = can.acted u (record { place = x.place; pass = x.pass; earlier = lt; at = x.at; shows = x.shows }) in (n.0, ext.kept u n.0 n.1)
    by_place u x (inr le) =
        let lt = x.earlier in
        let is : x.place ≡ s.next = omega (arith, lt, le) in
        shown u x.pass (same_pass (nth (row_of s.head.mech) s.next) p x.pass at (ap (nth (row_of s.head.mech)) (sym is) ∙ x.at)) x.shows

said_notes : (w : WorldView) (s : State) (issued : Option Stamp) → sends s ≡ true → s.notes ++ drawn_values (draws_from w.draws) issued (new_slots s) ≡ notes_after w.draws issued s
said_notes w s issued e = sym (ap (λ (b : Bool). if b then s.notes ++ drawn_values (draws_from w.draws) issued (new_slots s) else s.notes) e)

kept_notes : (w : WorldView) (s : State) (issued : Option Stamp) → sends s ≡ false → s.notes ≡ notes_after w.draws issued s
kept_notes w s issued e = sym (ap (λ (b : Bool). if b then s.notes ++ drawn_values (draws_from w.draws) issued (new_slots s) else s.notes) e)

no_stamp : (w : WorldView) (n : ℕ) (s : State) → sends s ≡ false → None ≡ stamp_due w n s
no_stamp w n s e = go (sends s) (list_any of_stamp (new_slots s)) (next_stamp_of w n) e
  where
    go : (b c : Bool) (x : Option Stamp) → b ≡ false → None ≡ (if b && c then x else None)
    go false c x f = refl
    go true c x f = absurd cc

-- the step that takes the message and says nothing
abbrev quiet_step : State → Tree → Taken → Move
quiet_step s m t = record { before = s; after = after_message s t; taken = Some m; opened = t.opened; got = t.got; issued = None; sealed = []; reply = None; outcome = outcome_of (run_of (after_message s t)) }

-- the step that takes the message and says the next one, with these draws and this stamp
abbrev answer_step : Keys → Told → Option Stamp → State → Tree → Taken → Move
answer_step keys draws issued s m t = record {
  before = s;
  after = after_saying (after_message s t) draws issued;
  taken = Some m;
  opened = t.opened;
  got = t.got;
  issued = issued;
  sealed = sealed_then keys (after_message s t) draws issued;
  reply = Some (said_then keys (after_message s t) draws issued);
  outcome = outcome_of (run_of (after_saying (after_message s t) draws issued));
}

-- the step that says the first message
abbrev first_step : Keys → Told → Option Stamp → State → Move
first_step keys draws issued s = record {
  before = s;
  after = after_saying s draws issued;
  taken = None;
  opened = [];
  got = [];
  issued = issued;
  sealed = sealed_then keys s draws issued;
  reply = Some (said_then keys s draws issued);
  outcome = outcome_of (run_of (after_saying s draws issued));
}

-- ---- answers

ok_is : {X : Type 0} (R : Result X Refusal → WorldView → Type 0) (x : X) (v : WorldView) → R (Ok x) v → HasAnswer R
ok_is R x v f = (Ok x, v, f, λ e. cc)

err_is : {X : Type 0} (R : Result X Refusal → WorldView → Type 0) (o : Option Refusal) (d : Refusal) (v : WorldView) → o ≡ Some d → o ≢ Some Memory → R (Err d) v → HasAnswer R
err_is R o d v is other f = (Err d, v, f, λ e. let same : d ≡ Memory = cc in other (is ∙ ap Some same))

-- ---- deliveries

module _ (allowed : Mech → Slot → Bytes → Bool) (w : WorldView) (g : IsGenuine w) (run : ℕ) (m : Tree) (due : Derivable (known_in w) m) (born : HasUnborn w.draws m → ⊥) (id : RunId) (is_run : run_in w.runs run ≡ Some id) (s : State) (held : held_in w.acts id ≡ open_in s) where
  abbrev keys : Keys
  keys = keys_at w id.party

  abbrev R : Result Given Refusal → WorldView → Type 0
  R = Gives allowed w run m

  module _ (t : Taken) (fits : verdict_in allowed w id.party s m ≡ Ok t) (spent : spent_refusal (desk_in w id.party) (after_message s t) ≡ None) (fit : stamps_refusal_in w id.party t ≡ None) where
    abbrev after : State
    after = after_message s t

    abbrev ready : Ready
    ready = record { before = s; after = after; taken = m; opened = t.opened; got = t.got }

    fitted : Fitted body_of is_check keys ready
    fitted = record { fits = taken_fits_so allowed w g id s m t held fits; same_head = refl; moves = refl }

    given : (step : Move) → step.before ≡ s → step.taken ≡ Some m → step.opened ≡ t.opened → step.got ≡ t.got → SaysNext w id.party after step → HasAnswer R
    given step before takes opened got says =
        ok_is R (record { pass = suc s.next; sent = option_map (λ _. next_message w) step.reply; done = is_over step.after }) (stepped w id after step)
        (record {
          derivable = due;
          is_born = born;
          id = id;
          is_run = is_run;
          step = step;
          current = held ∙ ap open_in (sym before);
          taken = t;
          fits = ap (λ (x : State). verdict_in allowed w id.party x m) before ∙ fits;
          not_spent = ap (λ (x : State). spent_refusal (desk_in w id.party) (after_message x t)) before ∙ spent;
          fit = fit;
          takes = takes;
          opened = opened;
          got = got;
          says = subst (λ (x : State). SaysNext w id.party (after_message x t) step) (sym before) says;
          pass = ap (λ (x : State). suc x.next) (sym before);
          sent = refl;
          done = refl;
          leaves = ap (λ (x : State). stepped w id (after_message x t) step) (sym before);
        })

    quiet : sends after ≡ false → HasAnswer R
    quiet e = given (quiet_step s m t) refl refl refl refl (record { is_step = symbolic_step keys (step_of (quiet_step s m t)) (ended body_of is_check keys ready fitted e); issued = no_stamp w id.party after e; notes = kept_notes w after None e })

    abbrev issued : Option Stamp
    issued = stamp_due w id.party after

    abbrev draws : Told
    draws = draws_from w.draws

    can : CanSay after
    can = can_say_then s (can_say w g id (record { state = s; is_open = true }) held) fitted.fits.pass t.notes fitted.fits.at fitted.fits.received fitted.fits.extends

    speaks : sends after ≡ true → HasAnswer R
    speaks e =
        let says = says_so keys after can e draws issued (needs_so w id.party after e spent) in
        given (answer_step keys draws issued s m t) refl refl refl refl
        (record { is_step = symbolic_step keys (step_of (answer_step keys draws issued s m t)) (answered body_of is_check keys ready (after_saying after draws issued) issued (sealed_then keys after draws issued) (said_then keys after draws issued) fitted e says); issued = refl; notes = said_notes w after issued e })

    answer : HasAnswer R
    answer = go (sends after) refl
      where
        go : (b : Bool) → sends after ≡ b → HasAnswer R
        go true e = speaks e
        go false e = quiet e

  refused : (o : Option Refusal) (e : Refusal) (v : WorldView) → o ≡ Some e → o ≢ Some Memory → IsJudged allowed w id s m e v → HasAnswer R
  refused o e v is other judged = err_is R o e v is other (inr (due, inr (born, inr (id, s, is_run, held, judged))))

  by_stamps : (t : Taken) → verdict_in allowed w id.party s m ≡ Ok t → spent_refusal (desk_in w id.party) (after_message s t) ≡ None → (o : Option Refusal) → stamps_refusal_in w id.party t ≡ o → HasAnswer R
  by_stamps t fits spent None e = answer t fits spent e
  by_stamps t fits spent (Some d) e =
      let x = node_at (desk_in w id.party) in
      refused (stamps_refusal_in w id.party t) d (made_by w id.party (after_message s t)) e (stamps-not-memory x.ring.window (max x.now (clock_in w id.party)) x.accepted x.ring.kind t.got) (inr (t, fits, inr (spent, e, refl)))

  by_spent : (t : Taken) → verdict_in allowed w id.party s m ≡ Ok t → (o : Option Refusal) → spent_refusal (desk_in w id.party) (after_message s t) ≡ o → HasAnswer R
  by_spent t fits None e = by_stamps t fits e (stamps_refusal_in w id.party t) refl
  by_spent t fits (Some d) e = refused (spent_refusal (desk_in w id.party) (after_message s t)) d w e (spent_other (desk_in w id.party) (after_message s t)) (inr (t, fits, inl (e, refl)))

  by_verdict : (r : Result Taken Refusal) → verdict_in allowed w id.party s m ≡ r → HasAnswer R
  by_verdict (Ok t) e = by_spent t e (spent_refusal (desk_in w id.party) (after_message s t)) refl
  by_verdict (Err d) e = (Err d, w, inr (due, inr (born, inr (id, s, is_run, held, inl (e, refl)))), λ x. let same : d ≡ Memory = cc in verdict_other keys allowed s m (e ∙ ap Err same))

module _ (allowed : Mech → Slot → Bytes → Bool) (w : WorldView) (g : IsGenuine w) (run : ℕ) (m : Tree) where
  standing_other : (o : Option RunId) → standing_refusal w.acts o ≢ Some Memory
  standing_other None = λ e. cc
  standing_other (Some id) = run_other (held_in w.acts id)

  by_run : Derivable (known_in w) m → (HasUnborn w.draws m → ⊥) → (o : Option RunId) → run_in w.runs run ≡ o → (q : Option Refusal) → standing_refusal w.acts o ≡ q → HasAnswer (Gives allowed w run m)
  by_run due born o is (Some d) e = err_is (Gives allowed w run m) (standing_refusal w.acts o) d w e (standing_other o) (inr (due, inr (born, inl (ap (standing_refusal w.acts) is ∙ e, refl))))
  by_run due born None is None e = absurd cc
  by_run due born (Some id) is None e = let s = open_run (held_in w.acts id) e in by_verdict allowed w g run m due born id is s.0 s.1 (verdict_in allowed w id.party s.0 m) refl

  by_birth : Derivable (known_in w) m → Decides (HasUnborn w.draws m) → HasAnswer (Gives allowed w run m)
  by_birth due (inl x) = (Err Unborn, w, inr (due, inl (x, refl, refl)), λ e. cc)
  by_birth due (inr f) = by_run due f (run_in w.runs run) refl (standing_refusal w.acts (run_in w.runs run)) refl

  by_term : Decides (Derivable (known_in w) m) → HasAnswer (Gives allowed w run m)
  by_term (inl d) = by_birth d (is_unborn w.draws m)
  by_term (inr f) = (Err NotDerivable, w, inl (f, refl, refl), λ e. cc)

  pub some_given : HasAnswer (Gives allowed w run m)
  some_given = by_term (derives (known_in w) m)

-- ---- openings

module _ (w : WorldView) (g : IsGenuine w) (h : Head) (texts : Texts) (is : IsHead h) where
  abbrev first : State
  first = opened_state h texts

  waits : open_refusal w h ≡ None → begin_refusal w h texts ≡ None → sends_first first ≡ false → HasAnswer (Opens w h texts)
  waits may begins silent =
      ok_is (Opens w h texts) (record { run = suc (length w.runs); sent = None; done = false }) (enlisted w h texts)
      (record { may = may; begins = begins; run = refl; goes = inl (record { silent = silent; sent = refl; done = refl; leaves = refl }) })

  abbrev listed : WorldView
  listed = enlisted w h texts

  abbrev keys_first : Keys
  keys_first = keys_at listed (me h)

  abbrev issued_first : Option Stamp
  issued_first = stamp_due listed (me h) first

  abbrev draws_first : Told
  draws_first = draws_from w.draws

  abbrev step_first : Move
  step_first = first_step keys_first draws_first issued_first first

  speaks_first : open_refusal w h ≡ None → begin_refusal w h texts ≡ None → sends_first first ≡ true → HasAnswer (Opens w h texts)
  speaks_first may begins early =
      ok_is (Opens w h texts) (record { run = suc (length w.runs); sent = Some (next_message w); done = is_over step_first.after }) (stepped listed (id_of w h) first step_first)
      (record { may = may; begins = begins; run = refl; goes = inr (record { first = early; step = step_first; before = refl; takes = refl; says = next; sent = refl; done = refl; leaves = refl }) })
    where
      sending : sends first ≡ true
      sending = and_left (sends first) (first.next == 0) early

      spent : spent_refusal (desk_in listed (me h)) first ≡ None
      spent = sym (ap (λ (b : Bool). if b then spent_refusal (desk_in (opened_by w h texts) (me h)) first else None) early) ∙ begins

      can : CanSay first
      can = can_say listed (genuine_list w g h texts is may) (id_of w h) (record { state = first; is_open = true }) (held_opened w h texts)

      says : Says body_of is_check keys_first first step_first.after (said_then keys_first first draws_first issued_first) (sealed_then keys_first first draws_first issued_first) issued_first
      says = says_so keys_first first can sending draws_first issued_first (needs_so listed (me h) first sending spent)

      next : SaysNext listed (me h) first step_first
      next = record { is_step = symbolic_step keys_first (step_of step_first) (began body_of is_check keys_first first step_first.after issued_first (sealed_then keys_first first draws_first issued_first) (said_then keys_first first draws_first issued_first) early says); issued = refl; notes = said_notes listed first issued_first sending }

  by_begin : open_refusal w h ≡ None → (o : Option Refusal) → begin_refusal w h texts ≡ o → (b : Bool) → sends_first first ≡ b → HasAnswer (Opens w h texts)
  by_begin may None e true f = speaks_first may e f
  by_begin may None e false f = waits may e f
  by_begin may (Some d) e b f = err_is (Opens w h texts) (begin_refusal w h texts) d (given_up w h texts None) e (begin_other w h texts) (inr (may, e, refl))

  by_open : (o : Option Refusal) → open_refusal w h ≡ o → HasAnswer (Opens w h texts)
  by_open None e = by_begin e (begin_refusal w h texts) refl (sends_first first) refl
  by_open (Some d) e = err_is (Opens w h texts) (open_refusal w h) d w e (opening_other w h) (inl (e, refl))

  pub some_opened : HasAnswer (Opens w h texts)
  some_opened = by_open (open_refusal w h) refl

-- ---- clocks and drops

pub some_raised : (w : WorldView) (n time : ℕ) → HasAnswer (Raises w n time)
some_raised w n time = go (has_name w n) refl
  where
    go : (b : Bool) → has_name w n ≡ b → HasAnswer (Raises w n time)
    go true e = ok_is (Raises w n time) (clock_in (raised w n time) n) (raised w n time) (has_name_is w n e, refl, refl)
    go false e = (Err UnknownParty, w, ((λ i. let f = is_has_name w n i in cc), refl, refl), λ x. cc)

pub some_dropped : (w : WorldView) (run : ℕ) → HasAnswer (Drops w run)
some_dropped w run = go (run_in w.runs run) refl (standing_refusal w.acts (run_in w.runs run)) refl
  where
    other : (o : Option RunId) → standing_refusal w.acts o ≢ Some Memory
    other None = λ e. cc
    other (Some id) = run_other (held_in w.acts id)

    go : (o : Option RunId) → run_in w.runs run ≡ o → (q : Option Refusal) → standing_refusal w.acts (run_in w.runs run) ≡ q → HasAnswer (Drops w run)
    go o is (Some d) e = err_is (Drops w run) (standing_refusal w.acts (run_in w.runs run)) d w e (other (run_in w.runs run)) (e, refl)
    go None is None e = let f = ap (standing_refusal w.acts) is in absurd cc
    go (Some id) is None e = ok_is (Drops w run) tt _ (record { running = e; id = id; is_run = is; leaves = refl })
