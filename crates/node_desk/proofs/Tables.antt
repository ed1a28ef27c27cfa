-- The table of runs, where the log has one more event.
use Rattle.std.proofs.Common.{◌≡◌, ◌==◌, ◌<◌, ◌≤◌, ◌+◌, ℕ, zero, suc, List, [], ◌∷◌, ◌++◌, length, reverse, Bool, true, false, if◌then◌else◌, Option, Some, None, refl, sym, ap, subst, ◌∙◌, arith, eqb-true, eq-eqb}
use Rattle.std.specs.Prelude.{slice_get, slice_set}
use Rattle.std.proofs.lemmas.List.{length-append, length-set}
use Rattle.term_values.specs.declared.small.Stamp.{Stamp}
use Rattle.mech_rows.specs.Heads.{Head}
use Rattle.mech_rows.specs.Moves.{Move}
use Rattle.mech_rows.specs.Openings.{Texts, opened_state}
use Rattle.mech_rows.specs.Verdict.{State}
use Rattle.agreement_laws.specs.Nodes.{is_going, opens_in}
use Rattle.node_desk.specs.declared.live.Live.{Live}
use Rattle.node_desk.specs.declared.event.Event.{Event}
use Rattle.node_desk.specs.declared.event.Event.TheVariants.{Open, Issue, Commit, Drop}
use Rattle.node_desk.specs.declared.run_slot.RunSlot.{RunSlot}
use Rattle.node_desk.specs.Events.{event_of, log_of}
use Rattle.node_desk.specs.Lives.{live_state}
use Rattle.node_desk.specs.Helds.{Held, no_longer, held_by, held_at, after_some, state_from, shown_in, shown, table_at, IsWithin, AreHeld}
use Rattle.node_desk.proofs.Logs.{log_of-snoc, held_at-snoc}

-- a look-up in a longer list, or after a write
slice-left : {X : Type 0} (xs ys : List X) (k : ℕ) → k < length xs → slice_get (xs ++ ys) k ≡ slice_get xs k
slice-left [] ys k l = absurd (omega (arith, l))
slice-left (x ∷ xs) ys zero l = refl
slice-left (x ∷ xs) ys (suc k) l = slice-left xs ys k (omega (arith, l))

slice-seam : {X : Type 0} (xs : List X) (y : X) → slice_get (xs ++ y ∷ []) (length xs) ≡ Some y
slice-seam [] y = refl
slice-seam (x ∷ xs) y = slice-seam xs y

slice-past : {X : Type 0} (xs : List X) (y : X) (k : ℕ) → (length xs ≡ k → ⊥) → slice_get (xs ++ y ∷ []) k ≡ slice_get xs k
slice-past [] y zero n = absurd (n refl)
slice-past [] y (suc k) n = refl
slice-past (x ∷ xs) y zero n = refl
slice-past (x ∷ xs) y (suc k) n = slice-past xs y k (λ e. n (ap suc e))

slice-set : {X : Type 0} (xs : List X) (k : ℕ) (y : X) → k < length xs → slice_get (slice_set xs k y) k ≡ Some y
slice-set [] k y l = absurd (omega (arith, l))
slice-set (x ∷ xs) zero y l = refl
slice-set (x ∷ xs) (suc k) y l = slice-set xs k y (omega (arith, l))

slice-other : {X : Type 0} (xs : List X) (k m : ℕ) (y : X) → (k ≡ m → ⊥) → slice_get (slice_set xs k y) m ≡ slice_get xs m
slice-other [] k m y n = refl
slice-other (x ∷ xs) zero zero y n = absurd (n refl)
slice-other (x ∷ xs) zero (suc m) y n = refl
slice-other (x ∷ xs) (suc k) zero y n = refl
slice-other (x ∷ xs) (suc k) (suc m) y n = slice-other xs k m y (λ e. n (ap suc e))

-- a longer log shows the same
after-longer : (start : State) (log : List Event) (event : Event) (at : Option ℕ) → IsWithin (length log) at → state_from start (log ++ event ∷ []) at ≡ state_from start log at
after-longer start log event None l = refl
after-longer start log event (Some at) l = ap (after_some start) (slice-left log (event ∷ []) at l)

shown-longer : (log : List Event) (event : Event) (run_slot : RunSlot) → IsWithin (length log) run_slot.at → shown_in (log ++ event ∷ []) run_slot ≡ shown_in log run_slot
shown-longer log event run_slot l = ap (λ (s : State). record { state = s; is_open = run_slot.«open» }) (after-longer (live_state run_slot.start) log event run_slot.at l)

some-longer : (log : List Event) (event : Event) (o : Option RunSlot) → ((p : RunSlot) → o ≡ Some p → IsWithin (length log) p.at) → shown (log ++ event ∷ []) o ≡ shown log o
some-longer log event None all = refl
some-longer log event (Some p) all = ap (λ (h : Held). Some h) (shown-longer log event p (all p refl))

table-longer : (log : List Event) (event : Event) (run_slots : List RunSlot) → AreHeld log run_slots → (n : ℕ) → table_at (log ++ event ∷ []) run_slots n ≡ table_at log run_slots n
table-longer log event run_slots held zero = refl
table-longer log event run_slots held (suc k) = some-longer log event (slice_get run_slots k) (held.within k)

within-more : (n m : ℕ) (at : Option ℕ) → n ≤ m → IsWithin n at → IsWithin m at
within-more n m None l w = tt
within-more n m (Some at) l w = omega (arith, l, w)

length-snoc : (log : List Event) (event : Event) → length (log ++ event ∷ []) ≡ length log + 1
length-snoc log event = length-append log (event ∷ [])

-- a case on a number
if-at : {X : Type 0} (run n : ℕ) (x y z : X) → (run ≡ n → x ≡ z) → ((run ≡ n → ⊥) → y ≡ z) → (if run == n then x else y) ≡ z
if-at run n x y z same other = go (run == n) refl
  where
    go : (b : Bool) → (run == n) ≡ b → (if b then x else y) ≡ z
    go true e = same (eqb-true run n e)
    go false e = other (λ i. let yes : (run == n) ≡ true = eq-eqb run n i in absurd (cc))

-- an event that leaves the runs
pub held-same : (log : List Event) (run_slots : List RunSlot) (event : Event) → AreHeld log run_slots → ((n : ℕ) → held_by (event ∷ reverse log) n ≡ held_at log n) → opens_in (event_of event ∷ log_of log) ≡ opens_in (log_of log) → AreHeld (log ++ event ∷ []) run_slots
held-same log run_slots event held stays count =
    record {
      each = λ n. held_at-snoc log event n ∙ (stays n ∙ (held.each n ∙ sym (table-longer log event run_slots held n)));
      within = λ k p e. within-more (length log) _ p.at (omega (arith, length-snoc log event)) (held.within k p e);
      count = ap opens_in (log_of-snoc log event) ∙ (count ∙ held.count);
    }

pub held-issue : (log : List Event) (run_slots : List RunSlot) (now : ℕ) (stamp : Stamp) → AreHeld log run_slots → AreHeld (log ++ Issue now stamp ∷ []) run_slots
held-issue log run_slots now stamp held = held-same log run_slots (Issue now stamp) held (λ n. refl) refl

table-past : (log : List Event) (run_slots : List RunSlot) (run_slot : RunSlot) (n : ℕ) → (suc (length run_slots) ≡ n → ⊥) → table_at log (run_slots ++ run_slot ∷ []) n ≡ table_at log run_slots n
table-past log run_slots run_slot zero other = refl
table-past log run_slots run_slot (suc k) other = ap (shown log) (slice-past run_slots run_slot k (λ e. other (ap suc e)))

table-other : (log : List Event) (run_slots : List RunSlot) (run_slot : RunSlot) (at n : ℕ) → (suc at ≡ n → ⊥) → table_at log (slice_set run_slots at run_slot) n ≡ table_at log run_slots n
table-other log run_slots run_slot at zero other = refl
table-other log run_slots run_slot at (suc k) other = ap (shown log) (slice-other run_slots at k run_slot (λ e. other (ap suc e)))

-- a run that is opened
pub held-open : (log : List Event) (run_slots : List RunSlot) (run : ℕ) (head : Head) (texts : Texts) (start : Live) → AreHeld log run_slots → run ≡ suc (length run_slots) → live_state start ≡ opened_state head texts
    → AreHeld (log ++ Open run head texts ∷ []) (run_slots ++ record { start = start; at = None; «open» = true } ∷ [])
held-open log run_slots run head texts start held is begun =
    let event : Event = Open run head texts in
    let run_slot : RunSlot = record { start = start; at = None; «open» = true } in
    record {
      each = λ n. held_at-snoc log event n
          ∙ if-at run n _ _ _
          (λ e. subst (λ (m : ℕ). Some (record { state = opened_state head texts; is_open = true }) ≡ table_at (log ++ event ∷ []) (run_slots ++ run_slot ∷ []) m) (sym is ∙ e)
          (ap (λ (s : State). Some (record { state = s; is_open = true })) (sym begun) ∙ sym (ap (shown (log ++ event ∷ [])) (slice-seam run_slots run_slot))))
          (λ other. held.each n ∙ (sym (table-longer log event run_slots held n) ∙ sym (table-past (log ++ event ∷ []) run_slots run_slot n (λ e. other (is ∙ e)))));
      within = λ k p e. opened-within k p e (length-snoc log event);
      count = ap opens_in (log_of-snoc log event) ∙ (ap suc held.count ∙ sym (length-append run_slots (run_slot ∷ []) ∙ omega arith));
    }
  where
    opened-within : (k : ℕ) (p : RunSlot) → slice_get (run_slots ++ record { start = start; at = None; «open» = true } ∷ []) k ≡ Some p → length (log ++ Open run head texts ∷ []) ≡ length log + 1 → IsWithin (length (log ++ Open run head texts ∷ [])) p.at
    opened-within k p e l = go (length run_slots == k) refl
      where
        run_slot : RunSlot
        run_slot = record { start = start; at = None; «open» = true }

        go : (b : Bool) → (length run_slots == k) ≡ b → IsWithin (length (log ++ Open run head texts ∷ [])) p.at
        go true is =
            let same : Some run_slot ≡ Some p = sym (slice-seam run_slots run_slot) ∙ (ap (slice_get (run_slots ++ run_slot ∷ [])) (eqb-true (length run_slots) k is) ∙ e) in
            let at : run_slot ≡ p = cc in
            subst (λ (q : RunSlot). IsWithin (length (log ++ Open run head texts ∷ [])) q.at) at tt
        go false is =
            within-more (length log) _ p.at (omega (arith, l)) (held.within k p (sym (slice-past run_slots run_slot k (λ i. let yes : (length run_slots == k) ≡ true = eq-eqb (length run_slots) k i in absurd (cc))) ∙ e))

-- a run that is written over
written-within : (log : List Event) (run_slots : List RunSlot) (m : ℕ) (at : ℕ) (run_slot : RunSlot) → AreHeld log run_slots → length log ≤ m → at < length run_slots → IsWithin m run_slot.at
    → (k : ℕ) (p : RunSlot) → slice_get (slice_set run_slots at run_slot) k ≡ Some p → IsWithin m p.at
written-within log run_slots m at run_slot held longer l within k p e = go (at == k) refl
  where
    go : (b : Bool) → (at == k) ≡ b → IsWithin m p.at
    go true is =
        let same : Some run_slot ≡ Some p = sym (slice-set run_slots at run_slot l) ∙ (ap (slice_get (slice_set run_slots at run_slot)) (eqb-true at k is) ∙ e) in
        let one : run_slot ≡ p = cc in
        subst (λ (q : RunSlot). IsWithin m q.at) one within
    go false is =
        within-more (length log) m p.at longer (held.within k p (sym (slice-other run_slots at k run_slot (λ i. let yes : (at == k) ≡ true = eq-eqb at k i in absurd (cc))) ∙ e))

pub held-commit : (log : List Event) (run_slots : List RunSlot) (run now at : ℕ) (step : Move) (start : Live) → AreHeld log run_slots → suc at ≡ run → at < length run_slots
    → AreHeld (log ++ Commit run now step ∷ []) (slice_set run_slots at (record { start = start; at = Some (length log); «open» = is_going step.outcome }))
held-commit log run_slots run now at step start held is l =
    let event : Event = Commit run now step in
    let run_slot : RunSlot = record { start = start; at = Some (length log); «open» = is_going step.outcome } in
    record {
      each = λ n. held_at-snoc log event n
          ∙ if-at run n _ _ _
          (λ e. subst (λ (m : ℕ). Some (record { state = step.after; is_open = is_going step.outcome }) ≡ table_at (log ++ event ∷ []) (slice_set run_slots at run_slot) m) (is ∙ e)
          (sym (ap (shown (log ++ event ∷ [])) (slice-set run_slots at run_slot l)
          ∙ ap (λ (o : Option Event). Some (record { state = after_some (live_state start) o; is_open = is_going step.outcome })) (slice-seam log event))))
          (λ other. held.each n ∙ (sym (table-longer log event run_slots held n) ∙ sym (table-other (log ++ event ∷ []) run_slots run_slot at n (λ e. other (sym is ∙ e)))));
      within = written-within log run_slots (length (log ++ event ∷ [])) at run_slot held (omega (arith, length-snoc log event)) l (let n = length-snoc log event in omega (arith, n));
      count = ap opens_in (log_of-snoc log event) ∙ (held.count ∙ sym (length-set run_slots at run_slot));
    }

pub held-drop : (log : List Event) (run_slots : List RunSlot) (run at : ℕ) (p : RunSlot) → AreHeld log run_slots → suc at ≡ run → at < length run_slots → slice_get run_slots at ≡ Some p
    → AreHeld (log ++ Drop run ∷ []) (slice_set run_slots at (record { start = p.start; at = p.at; «open» = false }))
held-drop log run_slots run at p held is l there =
    let event : Event = Drop run in
    let run_slot : RunSlot = record { start = p.start; at = p.at; «open» = false } in
    let within : IsWithin (length log) p.at = held.within at p there in
    record {
      each = λ n. held_at-snoc log event n
          ∙ if-at run n _ _ _
          (λ e. subst (λ (m : ℕ). no_longer (held_at log m) ≡ table_at (log ++ event ∷ []) (slice_set run_slots at run_slot) m) (is ∙ e)
          (ap no_longer (held.each (suc at) ∙ ap (shown log) there)
          ∙ (ap (λ (s : State). Some (record { state = s; is_open = false })) (sym (after-longer (live_state p.start) log event p.at within))
          ∙ sym (ap (shown (log ++ event ∷ [])) (slice-set run_slots at run_slot l)))))
          (λ other. held.each n ∙ (sym (table-longer log event run_slots held n) ∙ sym (table-other (log ++ event ∷ []) run_slots run_slot at n (λ e. other (sym is ∙ e)))));
      within = written-within log run_slots (length (log ++ event ∷ [])) at run_slot held (omega (arith, length-snoc log event)) l (within-more (length log) _ p.at (omega (arith, length-snoc log event)) within);
      count = ap opens_in (log_of-snoc log event) ∙ (held.count ∙ sym (length-set run_slots at run_slot));
    }
