-- Steps that are computed from a run's head, the place of its pass and the slots that it has seen and sent, where each slot has one value.
use Rattle.std.proofs.Common.{◌≡◌, ◌≢◌, ◌⊎◌, ◌↔◌, ℕ, suc, List, [], ◌∷◌, ◌++◌, map, Bool, true, false, not, ◌&&◌, ◌||◌, if◌then◌else◌, refl, sym, ap, subst, ◌∙◌, inl, inr, Option, Some, None, option_map}
use Rattle.std.specs.List.{list_all, list_any}
use Rattle.term_values.specs.Trees.{Among, Tree, stamp, text}
use Rattle.term_values.specs.declared.small.Stamp.{Stamp}
use Rattle.mech_rows.specs.declared.kinds.Slot.{Slot}
use Rattle.mech_rows.specs.declared.kinds.Kind.{Kind}
use Rattle.mech_rows.specs.declared.kinds.Kind.TheVariants.{Nonce as a_nonce, Stamp as a_stamp, Part as a_part, Text as a_text, Item as an_item}
use Rattle.mech_rows.specs.Rows.{kind_of, is_stamp, Pass, row_of}
use Rattle.mech_rows.specs.Facts.{same_slot}
use Rattle.mech_rows.specs.Rounds.{stands}
use Rattle.mech_rows.specs.Heads.{Head}
use Rattle.mech_rows.specs.Runs.{Notes, Run, Keys, made, seen, nth, sent_slots, seen_slots, HasKind, Extends, Step, Draws, next_act, outcome_of}
use Rattle.mech_rows.specs.Says.{item_as, message}
use Rattle.mech_rows.specs.Steps.{symbolic, stamp_in, openings, got_of, IsStep}
use Rattle.mech_rows.specs.Openings.{opening_notes, is_text, sends_slot}
use Rattle.term_values.proofs.Lists.{all_among, implied, and_left, and_right, among_append, among_left, among_right}
use Rattle.mech_rows.proofs.RowUse.{same_slot_is}
use Rattle.mech_rows.proofs.Unique.{items_said}
use Rattle.agreement_laws.proofs.Own.{stands_among, among_stands}

-- the first of these stamp slots that is new
abbrev pub first_stamp : List Slot → List Slot → Option Slot
first_stamp old [] = None
first_stamp old (s ∷ ss) = if is_stamp (kind_of s) && not (stands s old) then Some s else first_stamp old ss

abbrev pub is_that : Option Slot → Slot → Bool
is_that None s = false
is_that (Some u) s = same_slot u s

-- there is at most one new stamp slot among these
abbrev pub has_one_stamp : List Slot → List Slot → Bool
has_one_stamp old ss = list_all (λ s. not (is_stamp (kind_of s) && not (stands s old)) || is_that (first_stamp old ss) s) ss

module _ (vals : Slot → Tree) where
  -- the notes of a run that was opened without texts and has seen or sent these slots
  abbrev pub notes_with : Head → List Slot → Notes
  notes_with h ss s = if stands s ss then Some (vals s) else opening_notes h [] s

  abbrev pub stamp_for : Option Slot → Option Stamp
  stamp_for = option_map (λ s. stamp_in (vals s))

  -- the run sends the first message
  abbrev pub begins : Keys → Head → Pass → Step
  begins keys h q =
      let new = sent_slots q in
      let after : Run = record { head = h; next = next_act h 1; notes = notes_with h new } in
      record {
        before = record { head = h; next = 0; notes = notes_with h [] };
        taken = None;
        middle = notes_with h [];
        after = after;
        opened = [];
        got = [];
        issued = stamp_for (first_stamp [] new);
        sealed = openings keys h (notes_with h new) made q.covers (map (item_as keys h (notes_with h new) made) q.covers);
        reply = Some (message keys h (notes_with h new) made 0 q);
        outcome = outcome_of after;
      }

  -- the run takes pass k, under these slots, and sends the next one
  abbrev pub answers : Keys → Head → ℕ → List Slot → Pass → Pass → Step
  answers keys h k old p q =
      let mid = old ++ seen_slots p in
      let new = mid ++ sent_slots q in
      let after : Run = record { head = h; next = next_act h (suc (suc k)); notes = notes_with h new } in
      record {
        before = record { head = h; next = k; notes = notes_with h old };
        taken = Some (message keys h (notes_with h mid) seen k p);
        middle = notes_with h mid;
        after = after;
        opened = openings keys h (notes_with h mid) seen p.covers (map (item_as keys h (notes_with h mid) seen) p.covers);
        got = got_of h (notes_with h old) (notes_with h mid) p.covers;
        issued = stamp_for (first_stamp mid (sent_slots q));
        sealed = openings keys h (notes_with h new) made q.covers (map (item_as keys h (notes_with h new) made) q.covers);
        reply = Some (message keys h (notes_with h new) made (suc k) q);
        outcome = outcome_of after;
      }

  -- the run takes pass k, under these slots, and sends nothing
  abbrev pub ends : Keys → Head → ℕ → List Slot → Pass → Step
  ends keys h k old p =
      let mid = old ++ seen_slots p in
      let after : Run = record { head = h; next = next_act h (suc k); notes = notes_with h mid } in
      record {
        before = record { head = h; next = k; notes = notes_with h old };
        taken = Some (message keys h (notes_with h mid) seen k p);
        middle = notes_with h mid;
        after = after;
        opened = openings keys h (notes_with h mid) seen p.covers (map (item_as keys h (notes_with h mid) seen) p.covers);
        got = got_of h (notes_with h old) (notes_with h mid) p.covers;
        issued = None;
        sealed = [];
        reply = None;
        outcome = outcome_of after;
      }

  module _ (kinds : (s : Slot) → HasKind (kind_of s) (vals s)) (texts : (s : Slot) → is_text (kind_of s) ≡ true → vals s ≡ text []) where
    there : (h : Head) (ss : List Slot) (s : Slot) → Among s ss → notes_with h ss s ≡ Some (vals s)
    there h ss s i = ap (λ (b : Bool). if b then Some (vals s) else opening_notes h [] s) (among_stands s ss i)

    -- a value that is noted is that of the slot
    value_is : (h : Head) (ss : List Slot) (s : Slot) (t : Tree) → notes_with h ss s ≡ Some t → t ≡ vals s
    value_is h ss s t e = go (stands s ss) e
      where
        text_is : (b c : Bool) → is_text (kind_of s) ≡ b → (if b && c then Some (text []) else None) ≡ Some t → t ≡ vals s
        text_is true true k f = let g : text [] ≡ t = cc in sym g ∙ sym (texts s k)
        text_is true false k f = absurd (cc)
        text_is false c k f = absurd (cc)

        go : (b : Bool) → (if b then Some (vals s) else opening_notes h [] s) ≡ Some t → t ≡ vals s
        go true f = cc
        go false f = text_is (is_text (kind_of s)) (sends_slot h.role s (row_of h.mech)) refl f

    grows : (h : Head) (old slots : List Slot) → Extends (notes_with h old) slots (notes_with h (old ++ slots))
    grows h old slots =
        record {
          kept = λ s t e. kept s t e (stands s (old ++ slots)) refl;
          noted = λ s i. (vals s, there h (old ++ slots) s (among_right old slots s i));
          only = λ s t e. only s t e (stands s (old ++ slots)) refl;
          kinds = λ s t i e. subst (HasKind (kind_of s)) (sym (value_is h (old ++ slots) s t e)) (kinds s);
        }
      where
        not_old : (s : Slot) → stands s (old ++ slots) ≡ false → stands s old ≡ false
        not_old s e = go (stands s old) refl
          where
            go : (b : Bool) → stands s old ≡ b → b ≡ false
            go false f = refl
            go true f = let g : stands s (old ++ slots) ≡ true = among_stands s (old ++ slots) (among_left old slots s (stands_among s old f)) in absurd (cc)

        same_opening : (s : Slot) → stands s (old ++ slots) ≡ false → notes_with h old s ≡ notes_with h (old ++ slots) s
        same_opening s e = ap (λ (b : Bool). if b then Some (vals s) else opening_notes h [] s) (not_old s e ∙ sym e)

        kept : (s : Slot) (t : Tree) → notes_with h old s ≡ Some t → (b : Bool) → stands s (old ++ slots) ≡ b → notes_with h (old ++ slots) s ≡ Some t
        kept s t e true f = there h (old ++ slots) s (stands_among s (old ++ slots) f) ∙ ap Some (sym (value_is h old s t e))
        kept s t e false f = sym (same_opening s f) ∙ e

        only : (s : Slot) (t : Tree) → notes_with h (old ++ slots) s ≡ Some t → (b : Bool) → stands s (old ++ slots) ≡ b → (notes_with h old s ≡ Some t) ⊎ Among s slots
        only s t e false f = inl (same_opening s f ∙ e)
        only s t e true f = go (among_append old slots s (stands_among s (old ++ slots) f))
          where
            go : Among s old ⊎ Among s slots → (notes_with h old s ≡ Some t) ⊎ Among s slots
            go (inl i) = inl (there h old s i ∙ ap Some (sym (value_is h (old ++ slots) s t e)))
            go (inr i) = inr i

    stamp_kind : (k : Kind) → is_stamp k ≡ true → k ≡ a_stamp
    stamp_kind a_stamp e = refl
    stamp_kind _ e = absurd (cc)

    stamp_is : (s : Slot) → kind_of s ≡ a_stamp → vals s ≡ stamp (stamp_in (vals s))
    stamp_is s e = let k : HasKind a_stamp (vals s) = subst (λ (k : Kind). HasKind k (vals s)) e (kinds s) in k.1 ∙ ap stamp (sym (ap stamp_in k.1))

    no_text : (h : Head) (s : Slot) → kind_of s ≡ a_stamp → opening_notes h [] s ≡ None
    no_text h s e = ap (λ (k : Kind). if is_text k && sends_slot h.role s (row_of h.mech) then Some (text []) else None) e

    not_there : (h : Head) (ss : List Slot) (s : Slot) → kind_of s ≡ a_stamp → stands s ss ≡ false → notes_with h ss s ≡ None
    not_there h ss s k e = ap (λ (b : Bool). if b then Some (vals s) else opening_notes h [] s) e ∙ no_text h s k

    -- what is issued is what is new among the stamps that are sent
    issues : (h : Head) (old slots : List Slot) (step : Step) → step.middle ≡ notes_with h old → step.after.notes ≡ notes_with h (old ++ slots) → has_one_stamp old slots ≡ true → (t : Stamp) → stamp_for (first_stamp old slots) ≡ Some t ↔ ((s : Slot) × (kind_of s ≡ a_stamp) × Draws step s (stamp t))
    issues h old slots step middle after one t = (forth, back)
      where
        Found : Slot → Type 0
        Found s = Among s slots × (is_stamp (kind_of s) ≡ true) × (stands s old ≡ false)

        first : (ss : List Slot) → ((s : Slot) → Among s ss → Among s slots) → (u : Slot) → first_stamp old ss ≡ Some u → Found u
        first [] sub u e = absurd (cc)
        first (s ∷ ss) sub u e = go (is_stamp (kind_of s)) (stands s old) refl refl e (first ss (λ x i. sub x (inr i)) u)
          where
            go : (b c : Bool) → is_stamp (kind_of s) ≡ b → stands s old ≡ c → (if b && not c then Some s else first_stamp old ss) ≡ Some u → (first_stamp old ss ≡ Some u → Found u) → Found u
            go true false k n f rest = let is : s ≡ u = cc in subst Found is (sub s (inl refl), k, n)
            go true true k n f rest = rest f
            go false c k n f rest = rest f

        drawn : (u : Slot) → Found u → stamp_in (vals u) ≡ t → (s : Slot) × (kind_of s ≡ a_stamp) × Draws step s (stamp t)
        drawn u (i, k, n) e =
            let kind = stamp_kind (kind_of u) k in (
              u,
              kind,
              record {
                is_new = ap (λ (x : Notes). x u) middle ∙ not_there h old u kind n;
                is = ap (λ (x : Notes). x u) after ∙ (there h (old ++ slots) u (among_right old slots u i) ∙ ap Some (stamp_is u kind ∙ ap stamp e));
              },
            )

        forth : stamp_for (first_stamp old slots) ≡ Some t → (s : Slot) × (kind_of s ≡ a_stamp) × Draws step s (stamp t)
        forth e = go (first_stamp old slots) refl e
          where
            go : (o : Option Slot) → first_stamp old slots ≡ o → stamp_for o ≡ Some t → (s : Slot) × (kind_of s ≡ a_stamp) × Draws step s (stamp t)
            go None f g = absurd (cc)
            go (Some u) f g = drawn u (first slots (λ s i. i) u f) (cc)

        none_some : {X : Type 0} (x : X) → None ≡ Some x → ⊥
        none_some x e = cc

        back : (s : Slot) × (kind_of s ≡ a_stamp) × Draws step s (stamp t) → stamp_for (first_stamp old slots) ≡ Some t
        back (s, k, d) = at (stands s old) refl
          where
            new_is : notes_with h (old ++ slots) s ≡ Some (stamp t)
            new_is = sym (ap (λ (x : Notes). x s) after) ∙ d.is

            middle_is : notes_with h old s ≡ None
            middle_is = sym (ap (λ (x : Notes). x s) middle) ∙ d.is_new

            from_first : (o : Option Slot) → is_that o s ≡ true → stamp_for o ≡ Some (stamp_in (vals s))
            from_first None e = absurd (cc)
            from_first (Some u) e = ap (λ (x : Slot). Some (stamp_in (vals x))) (same_slot_is u s e)

            sent : Among s slots → stands s old ≡ false → stamp_for (first_stamp old slots) ≡ Some t
            sent i n =
                let test = implied (is_stamp (kind_of s) && not (stands s old)) (is_that (first_stamp old slots) s) (all_among (λ (x : Slot). not (is_stamp (kind_of x) && not (stands x old)) || is_that (first_stamp old slots) x) slots one s i) (new_stamp (kind_of s) k (stands s old) n) in
                from_first (first_stamp old slots) test ∙ ap Some (sym (ap stamp_in (value_is h (old ++ slots) s (stamp t) new_is)))
              where
                new_stamp : (x : Kind) → x ≡ a_stamp → (b : Bool) → b ≡ false → (is_stamp x && not b) ≡ true
                new_stamp x e b f = ap (λ (y : Kind). is_stamp y && not b) e ∙ ap not f

            at : (b : Bool) → stands s old ≡ b → stamp_for (first_stamp old slots) ≡ Some t
            at true e = absurd (none_some (vals s) (sym middle_is ∙ there h old s (stands_among s old e)))
            at false e = by (stands s (old ++ slots)) refl
              where
                by : (b : Bool) → stands s (old ++ slots) ≡ b → stamp_for (first_stamp old slots) ≡ Some t
                by false f = absurd (none_some (stamp t) (sym (not_there h (old ++ slots) s k f) ∙ new_is))
                by true f = go (among_append old slots s (stands_among s (old ++ slots) f))
                  where
                    go : Among s old ⊎ Among s slots → stamp_for (first_stamp old slots) ≡ Some t
                    go (inl i) = let g : stands s old ≡ true = among_stands s old i in absurd (cc)
                    go (inr i) = sent i e

    pub begins_is_step : (keys : Keys) (h : Head) (q : Pass) → nth (row_of h.mech) 0 ≡ Some q → q.from ≡ h.role → has_one_stamp [] (sent_slots q) ≡ true → IsStep symbolic keys (begins keys h q)
    begins_is_step keys h q at from one =
        record {
          same_head = refl;
          acts = λ e. (refl, λ f. absurd (cc));
          takes = (refl, refl, refl);
          replies = record {
            pass = q;
            at = at;
            sent = from;
            extends = grows h [] (sent_slots q);
            shows = record { items = map (item_as keys h (notes_with h (sent_slots q)) made) q.covers; is = refl; each = items_said keys h (notes_with h (sent_slots q)) made q.covers };
            seals_are = refl;
          };
          moves = refl;
          issues = issues h [] (sent_slots q) (begins keys h q) refl refl one;
          outcome = refl;
        }

    pub answers_is_step : (keys : Keys) (h : Head) (k : ℕ) (old : List Slot) (p q : Pass) → nth (row_of h.mech) k ≡ Some p → p.to ≡ h.role → nth (row_of h.mech) (suc k) ≡ Some q → q.from ≡ h.role → has_one_stamp (old ++ seen_slots p) (sent_slots q) ≡ true → IsStep symbolic keys (answers keys h k old p q)
    answers_is_step keys h k old p q at to next from one =
        record {
          same_head = refl;
          acts = λ e. absurd (cc);
          takes = record {
            pass = p;
            at = at;
            received = to;
            extends = grows h old (seen_slots p);
            shows = record { items = map (item_as keys h (notes_with h (old ++ seen_slots p)) seen) p.covers; is = refl; each = items_said keys h (notes_with h (old ++ seen_slots p)) seen p.covers };
            opens_are = refl;
            got_is = refl;
          };
          replies = record {
            pass = q;
            at = next;
            sent = from;
            extends = grows h (old ++ seen_slots p) (sent_slots q);
            shows = record { items = map (item_as keys h (notes_with h ((old ++ seen_slots p) ++ sent_slots q)) made) q.covers; is = refl; each = items_said keys h (notes_with h ((old ++ seen_slots p) ++ sent_slots q)) made q.covers };
            seals_are = refl;
          };
          moves = refl;
          issues = issues h (old ++ seen_slots p) (sent_slots q) (answers keys h k old p q) refl refl one;
          outcome = refl;
        }

    pub ends_is_step : (keys : Keys) (h : Head) (k : ℕ) (old : List Slot) (p : Pass) → nth (row_of h.mech) k ≡ Some p → p.to ≡ h.role → ((q : Pass) → nth (row_of h.mech) (suc k) ≡ Some q → q.from ≢ h.role) → IsStep symbolic keys (ends keys h k old p)
    ends_is_step keys h k old p at to last =
        record {
          same_head = refl;
          acts = λ e. absurd (cc);
          takes = record {
            pass = p;
            at = at;
            received = to;
            extends = grows h old (seen_slots p);
            shows = record { items = map (item_as keys h (notes_with h (old ++ seen_slots p)) seen) p.covers; is = refl; each = items_said keys h (notes_with h (old ++ seen_slots p)) seen p.covers };
            opens_are = refl;
            got_is = refl;
          };
          replies = (refl, refl, last);
          moves = refl;
          issues = λ t. ((λ e. absurd (cc)), λ d. absurd (none_drawn d.0 (stamp t) d.2));
          outcome = refl;
        }
      where
        none_drawn : (s : Slot) (t : Tree) → Draws (ends keys h k old p) s t → ⊥
        none_drawn s t d = let bad : None ≡ Some t = sym d.is_new ∙ d.is in cc
