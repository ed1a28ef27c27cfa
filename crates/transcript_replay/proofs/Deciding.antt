-- Each call of a genuine world has an answer.
use Rattle.std.proofs.Common.{◌≡◌, ◌⊎◌, ◌==◌, ◌<◌, ℕ, suc, Bool, true, false, ◌&&◌, if◌then◌else◌, List, [], ◌∷◌, ◌++◌, length, nat_le, Option, Some, None, Result, Ok, Err, refl, sym, ap, subst, ◌∙◌, inl, inr, eqb-true, eq-eqb}
use Rattle.std.specs.Prelude.{is_some, option_map}
use Rattle.std.specs.List.{list_any}
use Rattle.std.proofs.lemmas.Bool.{leb-true, le-leb}
use Rattle.term_values.specs.Trees.{Among, Bytes, Tree, Trees, text, nonce, part, name, stamp, tag, blob, tuple, seal, check, none, item}
use Rattle.term_values.specs.declared.small.Key.{Key}
use Rattle.term_values.specs.declared.small.Key.TheVariants.{One, Two}
use Rattle.term_values.specs.declared.small.Stamp.{Stamp}
use Rattle.replay_store.specs.Stamps.{last_number, stamp_of_kind}
use Rattle.outside.specs.Told.{nonce_draw, part_draw}
use Rattle.fresh_values.specs.Counts.{first_byte}
use Rattle.attacker_model.specs.Decided.{is_derivable}
use Rattle.attacker_model.specs.Derivation.{Derivable}
use Rattle.attacker_model.proofs.Decided.{decided}
use Rattle.mech_rows.specs.declared.kinds.Mech.{Mech}
use Rattle.mech_rows.specs.declared.kinds.Slot.{Slot}
use Rattle.mech_rows.specs.declared.refusal.Refusal.{Refusal}
use Rattle.mech_rows.specs.declared.refusal.Refusal.TheVariants.{NotDerivable, StampsSpent, Unborn, UnknownParty, UnknownRun}
use Rattle.mech_rows.specs.Facts.{same_role}
use Rattle.mech_rows.specs.Found.{found}
use Rattle.mech_rows.specs.Heads.{Head, IsHead, me}
use Rattle.mech_rows.specs.Moves.{Fitted, Move, step_of}
use Rattle.mech_rows.specs.Openings.{Texts, is_text, opened_run, opened_state, sends_slot, text_for}
use Rattle.mech_rows.specs.Replies.{needs_stamp, new_slots, said, sends, sends_first}
use Rattle.mech_rows.specs.Rows.{Pass, is_stamp, kind_of, row_of}
use Rattle.mech_rows.specs.Runs.{Keys, Notes, Opening, Run, Step, nth, outcome_of, reply_pass, seen_slots, sent_slots}
use Rattle.mech_rows.specs.Verdict.{State, Taken, run_of}
use Rattle.mech_rows.proofs.RowUse.{same_role_is}
use Rattle.mech_rows.proofs.Stepping.{answered, began, ended}
use Rattle.mech_rows.proofs.Symbolic.{IsSymbolicStep, SymbolicReplies, SymbolicTakes}
use Rattle.seal_symbolic.specs.Symbolic.{body_of, is_check}
use Rattle.text_hooks.specs.Drawn.{drawn_values}
use Rattle.agreement_laws.specs.Configs.{Config, IsLawful, keys_of}
use Rattle.agreement_laws.specs.Nodes.{Commit, Drop, Issue, Open, Restart}
use Rattle.agreement_laws.specs.Traces.{RunId, current, same_id}
use Rattle.agreement_laws.proofs.Traces.{IsTrace}
use Rattle.agreement_laws.specs.Worlds.{At, Entry, IsWorld, Reveal, ring_of, run_id, trace}
use Rattle.agreement_laws.proofs.Agreement.{kinds}
use Rattle.agreement_laws.proofs.Held.{held}
use Rattle.agreement_laws.proofs.Reduction.{world_trace}
use Rattle.term_values.proofs.Lists.{among_append, and_left}
use Rattle.node_desk.specs.declared.event.Event.TheVariants as events
use Rattle.node_desk.specs.Deliveries.{after_message, open_in, spent_refusal}
use Rattle.node_desk.specs.Desks.{node_at}
use Rattle.world_run.specs.declared.given.Given.{Given}
use Rattle.world_run.specs.declared.opened.Opened.{Opened}
use Rattle.world_run.specs.Born.{BeginsLater, HasUnborn, HoldsLater, ItemsHoldLater, KeyHoldsLater, number_from}
use Rattle.world_run.specs.Clocks.{Raises, clock_in, raised}
use Rattle.world_run.specs.Gives.{Drops, Gives, IsJudged, stamps_refusal_in, verdict_in}
use Rattle.world_run.specs.Kept.{IsGenuine}
use Rattle.world_run.specs.Opens.{Opens, begin_refusal, enlisted, given_up, id_of, open_refusal, opened_by}
use Rattle.world_run.specs.Turns.{SaysNext, desk_in, did, draws_from, has_name, keys_at, made_by, moment, next_message, next_stamp_of, notes_after, stamp_due, stepped}
use Rattle.world_run.specs.Views.{entries, held_in, is_over, known_in, number_refusal, run_in, standing_refusal, WorldView}
use Rattle.world_run.proofs.Acts.{current_is, run_shown}
use Rattle.world_run.proofs.Decided.{lawful}
use Rattle.world_run.proofs.Legal.{genuine_list, has_name_is, is_has_name}
use Rattle.world_run.proofs.Numbers.{of_unborn, unborn_of}
use Rattle.world_run.proofs.Sealings.{symbolic_step}
use Rattle.transcript_replay.proofs.Decided.{OrNot}
use Rattle.transcript_replay.proofs.Genuine.{open_held, opened_held}
use Rattle.transcript_replay.proofs.Speaking.{CanSay, after_saying, fitted_by, made_for, ready_by, says_so, then_can_say}

-- ---- the texts of runs

abbrev TextsThere : Run → Type 0
TextsThere run = (u : Slot) → (is_text (kind_of u) && sends_slot run.head.role u (row_of run.head.mech)) ≡ true → (t : Tree) × (run.notes u ≡ Some t)

opened_texts : (h : Head) (texts : Texts) → TextsThere (opened_run h texts)
opened_texts h texts u e = (text (text_for texts u), ap (λ (b : Bool). if b then Some (text (text_for texts u)) else None) e)

took_keeps : (keys : Keys) (before : Run) (middle : Notes) (o : Option Tree) → SymbolicTakes keys before o middle → (u : Slot) (t : Tree) → before.notes u ≡ Some t → middle u ≡ Some t
took_keeps keys before middle None x u t e = ap (λ (n : Notes). n u) x ∙ e
took_keeps keys before middle (Some m) x u t e = x.extends.kept u t e

reply_keeps : (keys : Keys) (h : Head) (k : ℕ) (old new : Notes) (o : Option Tree) → SymbolicReplies keys h k old new o → (u : Slot) (t : Tree) → old u ≡ Some t → new u ≡ Some t
reply_keeps keys h k old new None x u t e = ap (λ (n : Notes). n u) x.0 ∙ e
reply_keeps keys h k old new (Some m) x u t e = x.extends.kept u t e

stepped_texts : (keys : Keys) (step : Step) → IsSymbolicStep keys step → TextsThere step.before → TextsThere step.after
stepped_texts keys step s before u e =
    let b = before u (subst (λ (h : Head). (is_text (kind_of u) && sends_slot h.role u (row_of h.mech)) ≡ true) s.same_head e) in
    (b.0, reply_keeps keys step.before.head (reply_pass step) step.middle step.after.notes step.reply s.replies u b.0 (took_keeps keys step.before step.middle step.taken s.takes u b.0 b.1))

run_or : (now : Run) (o : Option Run) (b : Bool) (run : Run) → (if b then Some now else o) ≡ Some run → TextsThere now → ((r : Run) → o ≡ Some r → TextsThere r) → TextsThere run
run_or now o true run e f rest = let same : now ≡ run = cc in subst TextsThere same f
run_or now o false run e f rest = rest run e

texts_there : (c : Config) → IsLawful c → (h : List Entry) → IsWorld c h → (id : RunId) (run : Run) → current (trace h) id ≡ Some run → TextsThere run
texts_there c l [] w id run is = absurd cc
texts_there c l (Reveal i ∷ h) w id run is = texts_there c l h w.0 id run is
texts_there c l (At n (Open r head texts) ∷ h) w id run is = run_or (opened_run head texts) (current (trace h) id) (same_id (run_id n r) id) run is (opened_texts head texts) (texts_there c l h w.0 id)
texts_there c l (At n (Issue now x) ∷ h) w id run is = texts_there c l h w.0 id run is
texts_there c l (At n (Commit r now step) ∷ h) w id run is =
    let t = world_trace c l (At n (Commit r now step) ∷ h) w in
    run_or step.after (current (trace h) id) (same_id (run_id n r) id) run is (stepped_texts (keys_of c) step t.1.is_step (texts_there c l h w.0 (run_id n r) step.before t.1.runs)) (texts_there c l h w.0 id)
texts_there c l (At n (Drop r) ∷ h) w id run is = texts_there c l h w.0 id run is
texts_there c l (At n (Restart now last more) ∷ h) w id run is = texts_there c l h w.0 id run is

-- ---- an open run can say what comes next

own_then : (a b : Bool) (xs ys : List Slot) (u : Slot) → Among u ((if a then xs else []) ++ (if b then ys else [])) → ((a ≡ true) × Among u xs) ⊎ ((b ≡ true) × Among u ys)
own_then true true xs ys u i = elim (among_append xs ys u i) [ inl j ↦ inl (refl, j) | inr j ↦ inr (refl, j) ]
own_then true false xs ys u i = elim (among_append xs [] u i) [ inl j ↦ inl (refl, j) | inr j ↦ absurd j ]
own_then false true xs ys u i = inr (refl, i)
own_then false false xs ys u i = absurd i

pub can_say : (w : WorldView) → IsGenuine w → (id : RunId) (s : State) → held_in w.acts id ≡ open_in s → CanSay s
can_say w g id s is = record {
  kinds = λ u t e. kinds w.config (lawful w.config g.conditions) (trace (entries w.acts)) there id (run_of s) now u t e;
  texts = texts_there w.config (lawful w.config g.conditions) (entries w.acts) g.world id (run_of s) now;
  acted = λ j p lt at u i. own j p lt at u (own_then (same_role p.from s.head.role) (same_role p.to s.head.role) (sent_slots p) (seen_slots p) u i);
}
  where
    there : IsTrace w.config (trace (entries w.acts))
    there = world_trace w.config (lawful w.config g.conditions) (entries w.acts) g.world

    now : current (trace (entries w.acts)) id ≡ Some (run_of s)
    now = current_is w id ∙ ap run_shown is

    own : (j : ℕ) (p : Pass) → j < s.next → nth (row_of s.head.mech) j ≡ Some p → (u : Slot) → ((same_role p.from s.head.role ≡ true) × Among u (sent_slots p)) ⊎ ((same_role p.to s.head.role ≡ true) × Among u (seen_slots p)) → (t : Tree) × (found s.notes u ≡ Some t)
    own j p lt at u (inl (e, i)) = let x = (held w.config (trace (entries w.acts)) there id (run_of s) now).said j p u lt at (same_role_is p.from s.head.role e) i in (x.tree, x.is)
    own j p lt at u (inr (e, i)) = let x = (held w.config (trace (entries w.acts)) there id (run_of s) now).saw j p u lt at (same_role_is p.to s.head.role e) i in (x.tree, x.is)

-- ---- stamps

-- where one is needed and not all are spent, there is one
due_some : (w : WorldView) (n : ℕ) (s : State) → spent_refusal (desk_in w n) s ≡ None → is_some (stamp_due w n s) ≡ needs_stamp s
due_some w n s e = go (needs_stamp s) ((node_at (desk_in w n)).last == last_number) (stamp_of_kind (ring_of w.config n).kind (node_at (desk_in w n)).last (moment w n)) e
  where
    go : (a b : Bool) (x : Stamp) → ◌≡◌ {A = Option Refusal} (if a then (if b then Some StampsSpent else None) else None) None → is_some (if a then (if b then None else Some x) else None) ≡ a
    go true true x f = absurd cc
    go true false x f = refl
    go false b x f = refl

none_due : (w : WorldView) (n : ℕ) (s : State) → sends s ≡ false → None ≡ stamp_due w n s
none_due w n s e = go (sends s) (list_any (λ u. is_stamp (kind_of u)) (new_slots s)) (next_stamp_of w n) e
  where
    go : (b x : Bool) (o : Option Stamp) → b ≡ false → None ≡ (if b && x then o else None)
    go true x o f = absurd cc
    go false x o f = refl

-- ---- what a run says

module _ (w : WorldView) (n : ℕ) (s : State) where
  -- what it says, where it says something
  abbrev after_now : State
  after_now = after_saying s w.draws (stamp_due w n s)

  abbrev made_now : List Opening
  made_now = made_for (keys_at w n) s w.draws (stamp_due w n s)

  notes_now : sends s ≡ true → after_now.notes ≡ notes_after w.draws (stamp_due w n s) s
  notes_now sent = sym (ap (λ (b : Bool). if b then s.notes ++ drawn_values (draws_from w.draws) (stamp_due w n s) (new_slots s) else s.notes) sent)

  -- the step that says the first message
  abbrev first_step : Move
  first_step = record {
    before = s;
    after = after_now;
    taken = None;
    opened = [];
    got = [];
    issued = stamp_due w n s;
    sealed = made_now;
    reply = Some (said s after_now.notes made_now);
    outcome = outcome_of (run_of after_now);
  }

  first_says : CanSay s → sends_first s ≡ true → spent_refusal (desk_in w n) s ≡ None → SaysNext w n s first_step
  first_says c first spent =
      let sent : sends s ≡ true = and_left (sends s) (s.next == 0) first in
      record {
        is_step = symbolic_step (keys_at w n) (step_of first_step)
            (began body_of is_check (keys_at w n) s after_now (stamp_due w n s) made_now (said s after_now.notes made_now) first (says_so s c sent w.draws (stamp_due w n s) (due_some w n s spent) (keys_at w n)));
        issued = refl;
        notes = notes_now sent;
      }

-- ---- what is decided

begins_or_not : (lead n : ℕ) (bytes : Bytes) → OrNot (BeginsLater lead n bytes)
begins_or_not lead n [] = inr (λ x. x)
begins_or_not lead n (b ∷ bs) = go (b == lead) refl (nat_le n (number_from 0 bs)) refl
  where
    go : (x : Bool) → (b == lead) ≡ x → (y : Bool) → nat_le n (number_from 0 bs) ≡ y → OrNot (BeginsLater lead n (b ∷ bs))
    go true e true f = inl (eqb-true b lead e, leb-true n (number_from 0 bs) f)
    go true e false f = inr (λ z. let t = le-leb n (number_from 0 bs) z.1 in cc)
    go false e y f = inr (λ z. let t = eq-eqb b lead z.0 in cc)

either : {X Y : Type 0} → OrNot X → OrNot Y → OrNot (X ⊎ Y)
either (inl x) q = inl (inl x)
either (inr x) (inl y) = inl (inr y)
either (inr x) (inr y) = inr (λ z. elim z [ inl a ↦ x a | inr b ↦ y b ])

key_or_not : (n : ℕ) (k : Key) → OrNot (KeyHoldsLater n k)
key_or_not n (One p) = begins_or_not (first_byte part_draw) n p
key_or_not n (Two p q) = either (begins_or_not (first_byte part_draw) n p) (begins_or_not (first_byte part_draw) n q)

mutual
  holds_or_not : (n : ℕ) (t : Tree) → OrNot (HoldsLater n t)
  holds_or_not n (nonce bytes) = begins_or_not (first_byte nonce_draw) n bytes
  holds_or_not n (part bytes) = begins_or_not (first_byte part_draw) n bytes
  holds_or_not n (tuple ts) = items_or_not n ts
  holds_or_not n (seal k t) = either (key_or_not n k) (holds_or_not n t)
  holds_or_not n (check k t) = either (key_or_not n k) (holds_or_not n t)
  holds_or_not n (name m) = inr (λ x. x)
  holds_or_not n (stamp m) = inr (λ x. x)
  holds_or_not n (text m) = inr (λ x. x)
  holds_or_not n (tag m) = inr (λ x. x)
  holds_or_not n (blob m) = inr (λ x. x)

  items_or_not : (n : ℕ) (ts : Trees) → OrNot (ItemsHoldLater n ts)
  items_or_not n none = inr (λ x. x)
  items_or_not n (item t ts) = either (holds_or_not n t) (items_or_not n ts)

unborn_or_not : (n : ℕ) (t : Tree) → OrNot (HasUnborn n t)
unborn_or_not n t = elim (holds_or_not n t) [ inl x ↦ inl (unborn_of n t x) | inr x ↦ inr (λ y. x (of_unborn n t y)) ]

derivable_or_not : (K : List Tree) (t : Tree) → OrNot (Derivable K t)
derivable_or_not K t = go (is_derivable K t) refl
  where
    go : (b : Bool) → is_derivable K t ≡ b → OrNot (Derivable K t)
    go true e = inl ((decided K t).0 e)
    go false e = inr (λ d. let f = (decided K t).1 d in cc)

-- ---- answers

module _ (w : WorldView) where
  pub clock_some : (n time : ℕ) → (a : Result ℕ Refusal) × (v : WorldView) × Raises w n time a v
  clock_some n time = go (has_name w n) refl
    where
      go : (b : Bool) → has_name w n ≡ b → (a : Result ℕ Refusal) × (v : WorldView) × Raises w n time a v
      go true e = (Ok (clock_in (raised w n time) n), raised w n time, (has_name_is w n e, refl, refl))
      go false e = (Err UnknownParty, w, ((λ i. let t = is_has_name w n i in cc), refl, refl))

  -- where nothing is said against a number, it is that of a run
  numbered : (run : ℕ) → number_refusal w run ≡ None → (id : RunId) × (run_in w.runs run ≡ Some id)
  numbered run e = go (run_in w.runs run) refl
    where
      go : (o : Option RunId) → run_in w.runs run ≡ o → (id : RunId) × (run_in w.runs run ≡ Some id)
      go None f = let x : Some UnknownRun ≡ None = sym (ap (standing_refusal w.acts) f) ∙ e in absurd cc
      go (Some id) f = (id, f)

  pub drop_some : (run : ℕ) → (a : Result (Unit {0}) Refusal) × (v : WorldView) × Drops w run a v
  drop_some run = go (number_refusal w run) refl
    where
      go : (o : Option Refusal) → number_refusal w run ≡ o → (a : Result (Unit {0}) Refusal) × (v : WorldView) × Drops w run a v
      go (Some e) f = (Err e, w, (f, refl))
      go None f = let x = numbered run f in (Ok tt, did w x.0.party (events.Drop x.0.number), record { running = f; id = x.0; is_run = x.1; leaves = refl })

  module _ (g : IsGenuine w) where
    module _ (h : Head) (texts : Texts) (is : IsHead h) where
      abbrev Starting : Type 0
      Starting = (a : Result Opened Refusal) × (v : WorldView) × Opens w h texts a v

      speaks : open_refusal w h ≡ None → begin_refusal w h texts ≡ None → sends_first (opened_state h texts) ≡ true → Starting
      speaks may begins first =
          let s = opened_state h texts in
          let c = can_say (enlisted w h texts) (genuine_list w g h texts is may) (id_of w h) s (opened_held w h texts) in
          let spent : spent_refusal (desk_in (enlisted w h texts) (me h)) s ≡ None = sym (ap (λ (b : Bool). if b then spent_refusal (desk_in (opened_by w h texts) (me h)) s else None) first) ∙ begins in
          let step = first_step (enlisted w h texts) (me h) s in (
            Ok (record { run = suc (length w.runs); sent = Some (next_message w); done = is_over step.after }),
            stepped (enlisted w h texts) (id_of w h) s step,
            record {
              may = may;
              begins = begins;
              run = refl;
              goes = inr (record { first = first; step = step; before = refl; takes = refl; says = first_says (enlisted w h texts) (me h) s c first spent; sent = refl; done = refl; leaves = refl });
            },
          )

      begun : open_refusal w h ≡ None → begin_refusal w h texts ≡ None → (b : Bool) → sends_first (opened_state h texts) ≡ b → Starting
      begun may begins true e = speaks may begins e
      begun may begins false e = (
        Ok (record { run = suc (length w.runs); sent = None; done = false }),
        enlisted w h texts,
        record { may = may; begins = begins; run = refl; goes = inl (record { silent = e; sent = refl; done = refl; leaves = refl }) },
      )

      beginning : open_refusal w h ≡ None → (o : Option Refusal) → begin_refusal w h texts ≡ o → Starting
      beginning may (Some e) f = (Err e, given_up w h texts None, inr (may, f, refl))
      beginning may None f = begun may f (sends_first (opened_state h texts)) refl

      opening : (o : Option Refusal) → open_refusal w h ≡ o → Starting
      opening (Some e) f = (Err e, w, inl (f, refl))
      opening None f = beginning f (begin_refusal w h texts) refl

      pub open_some : (a : Result Opened Refusal) × (v : WorldView) × Opens w h texts a v
      open_some = opening (open_refusal w h) refl

    module _ (allow : Mech → Slot → Bytes → Bool) (run : ℕ) (m : Tree) where
      abbrev Giving : Type 0
      Giving = (a : Result Given Refusal) × (v : WorldView) × Gives allow w run m a v

      module _ (d : Derivable (known_in w) m) (b : HasUnborn w.draws m → ⊥) (id : RunId) (r : run_in w.runs run ≡ Some id) (s : State) (open_run : held_in w.acts id ≡ open_in s) where
        module _ (t : Taken) (fits : verdict_in allow w id.party s m ≡ Ok t) (spent : spent_refusal (desk_in w id.party) (after_message s t) ≡ None) (fit : stamps_refusal_in w id.party t ≡ None) where
          abbrev next : State
          next = after_message s t

          abbrev step_with : State → Option Stamp → List Opening → Option Tree → Move
          step_with after issued sealed reply = record { before = s; after = after; taken = Some m; opened = t.opened; got = t.got; issued = issued; sealed = sealed; reply = reply; outcome = outcome_of (run_of after) }

          given_by : (after : State) (issued : Option Stamp) (sealed : List Opening) (reply : Option Tree) → SaysNext w id.party next (step_with after issued sealed reply) → Giving
          given_by after issued sealed reply says = (
            Ok (record { pass = suc s.next; sent = option_map (λ _. next_message w) reply; done = is_over after }),
            stepped w id next (step_with after issued sealed reply),
            record {
              derivable = d;
              is_born = b;
              id = id;
              is_run = r;
              step = step_with after issued sealed reply;
              current = open_run;
              taken = t;
              fits = fits;
              not_spent = spent;
              fit = fit;
              takes = refl;
              opened = refl;
              got = refl;
              says = says;
              pass = refl;
              sent = refl;
              done = refl;
              leaves = refl;
            },
          )

          can : CanSay s
          can = can_say w g id s open_run

          fitted : Fitted body_of is_check (keys_at w id.party) (ready_by allow (keys_at w id.party) s can m t)
          fitted = fitted_by allow (keys_at w id.party) s can m t fits

          giving : (x : Bool) → sends next ≡ x → Giving
          giving true e =
              given_by (after_now w id.party next) (stamp_due w id.party next) (made_now w id.party next) (Some (said next (after_now w id.party next).notes (made_now w id.party next)))
              (record {
                is_step = symbolic_step (keys_at w id.party) _
                    (answered body_of is_check (keys_at w id.party) (ready_by allow (keys_at w id.party) s can m t) (after_now w id.party next) (stamp_due w id.party next) (made_now w id.party next) (said next (after_now w id.party next).notes (made_now w id.party next)) fitted e
                    (says_so next (then_can_say allow (keys_at w id.party) s can m t fitted) e w.draws (stamp_due w id.party next) (due_some w id.party next spent) (keys_at w id.party)));
                issued = refl;
                notes = notes_now w id.party next e;
              })
          giving false e =
              given_by next None [] None
              (record {
                is_step = symbolic_step (keys_at w id.party) _ (ended body_of is_check (keys_at w id.party) (ready_by allow (keys_at w id.party) s can m t) fitted e);
                issued = none_due w id.party next e;
                notes = sym (ap (λ (x : Bool). if x then next.notes ++ drawn_values (draws_from w.draws) None (new_slots next) else next.notes) e);
              })

        refused : (e : Refusal) (v : WorldView) → IsJudged allow w id s m e v → Giving
        refused e v j = (Err e, v, inr (d, inr (b, inr (id, s, r, open_run, j))))

        judging : (t : Taken) → verdict_in allow w id.party s m ≡ Ok t → (o : Option Refusal) → spent_refusal (desk_in w id.party) (after_message s t) ≡ o → (p : Option Refusal) → stamps_refusal_in w id.party t ≡ p → Giving
        judging t fits (Some e) f p q = refused e w (inr (t, fits, inl (f, refl)))
        judging t fits None f (Some e) q = refused e (made_by w id.party (after_message s t)) (inr (t, fits, inr (f, q, refl)))
        judging t fits None f None q = giving t fits f q (sends (after_message s t)) refl

        verdict_on : (o : Result Taken Refusal) → verdict_in allow w id.party s m ≡ o → Giving
        verdict_on (Err e) f = refused e w (inl (f, refl))
        verdict_on (Ok t) f = judging t f (spent_refusal (desk_in w id.party) (after_message s t)) refl (stamps_refusal_in w id.party t) refl

      numbering : Derivable (known_in w) m → (HasUnborn w.draws m → ⊥) → (o : Option Refusal) → number_refusal w run ≡ o → Giving
      numbering d b (Some e) f = (Err e, w, inr (d, inr (b, inl (f, refl))))
      numbering d b None f =
          let x = numbered run f in
          let o = open_held (held_in w.acts x.0) (subst (λ (i : Option RunId). standing_refusal w.acts i ≡ None) x.1 f) in
          verdict_on d b x.0 x.1 o.0 o.1 (verdict_in allow w x.0.party o.0 m) refl

      bearing : Derivable (known_in w) m → OrNot (HasUnborn w.draws m) → Giving
      bearing d (inl u) = (Err Unborn, w, inr (d, inl (u, refl, refl)))
      bearing d (inr b) = numbering d b (number_refusal w run) refl

      derived : OrNot (Derivable (known_in w) m) → Giving
      derived (inr never) = (Err NotDerivable, w, inl (never, refl, refl))
      derived (inl d) = bearing d (unborn_or_not w.draws m)

      pub give_some : (a : Result Given Refusal) × (v : WorldView) × Gives allow w run m a v
      give_some = derived (derivable_or_not (known_in w) m)
