-- After the replacement a step over a working sealing is a step over symbolic sealing.
use Rattle.std.proofs.Common.{◌≡◌, ℕ, suc, ◌==◌, ◌⊎◌, List, [], ◌∷◌, ◌++◌, map, Bool, true, false, not, is_none, ◌&&◌, if◌then◌else◌, refl, sym, ap, ap₂, subst, ◌∙◌, inl, inr, Option, Some, None, option_map}
use Rattle.std.specs.List.{list_all}
use Rattle.term_values.specs.Trees.{Among, Bytes, Tree, stamp, name, tag, blob, tuple, item, trees}
use Rattle.term_values.specs.declared.small.Key.{Key}
use Rattle.term_values.specs.declared.small.Key.TheVariants.{One}
use Rattle.term_values.specs.declared.small.Stamp.{Stamp}
use Rattle.term_values.specs.declared.small.Stamp.TheVariants.{Seq}
use Rattle.mech_rows.specs.declared.kinds.Mech.{Mech}
use Rattle.mech_rows.specs.declared.kinds.Role.TheVariants.{P}
use Rattle.mech_rows.specs.Rows.{family, kind_of, is_stamp, issuer, Cover, Pass, tag_of, row_of, has_third}
use Rattle.mech_rows.specs.declared.kinds.Slot.{Slot}
use Rattle.mech_rows.specs.declared.kinds.Slot.TheVariants.{Fa, Fwd}
use Rattle.mech_rows.specs.declared.kinds.Kind.{Kind}
use Rattle.mech_rows.specs.declared.kinds.Kind.TheVariants.{Nonce as a_nonce, Stamp as a_stamp, Part as a_part, Text as a_text, Item as an_item}
use Rattle.mech_rows.specs.declared.kinds.Under.{Under}
use Rattle.mech_rows.specs.declared.kinds.Under.TheVariants.{Pair, Drawn}
use Rattle.mech_rows.specs.declared.kinds.Clear.{Clear}
use Rattle.mech_rows.specs.declared.kinds.Clear.TheVariants.{Slot as Shown, NameOfB}
use Rattle.mech_rows.specs.Heads.{Head, name_of}
use Rattle.mech_rows.specs.Runs.{IsForwardable, reply_pass, Notes, Keys, value, noted_or_empty, part_bytes, key_under, names, body, clear_item, made, seen, nth, sent_slots, seen_slots, HasKind, Extends, Opening, Step, Draws, after_taking, passed, next_act}
use Rattle.mech_rows.specs.Steps.{Sealer, symbolic_item, symbolic, ItemBy, ItemsAre, IsMessage, openings, stamp_in, got_of_slots, got_of, Takes, Replies, IsStep}
use Rattle.agreement_laws.specs.Replacement.{or_blob, replaced, all_replaced, replaced_notes, replaced_run, replaced_opening, replaced_step, checks, BecomesSymbolic, IsIdealFor, ForwardsStill}
use Rattle.mech_rows.proofs.Facts.{checks_by_family_holds}
use Rattle.term_values.proofs.Lists.{all_among, not_true}
use Rattle.mech_rows.proofs.RowUse.{nth_among}
use Rattle.mech_rows.proofs.Judged.{drawn_stamp}

module _ (f : Bytes → Option Tree) where
  of_trees : (us : List Tree) → all_replaced f (trees us) ≡ trees (map (replaced f) us)
  of_trees [] = refl
  of_trees (u ∷ us) = ap (item (replaced f u)) (of_trees us)

  of_append : (us vs : List Tree) → map (replaced f) (us ++ vs) ≡ map (replaced f) us ++ map (replaced f) vs
  of_append [] vs = refl
  of_append (u ∷ us) vs = ap (λ xs. replaced f u ∷ xs) (of_append us vs)

  pub of_value : (notes : Notes) (s : Slot) → replaced f (value notes s) ≡ value (replaced_notes f notes) s
  of_value notes s = go (notes s)
    where
      go : (o : Option Tree) → replaced f (noted_or_empty o) ≡ noted_or_empty (option_map (replaced f) o)
      go None = refl
      go (Some t) = refl

  of_values : (notes : Notes) (ss : List Slot) → map (replaced f) (map (value notes) ss) ≡ map (value (replaced_notes f notes)) ss
  of_values notes [] = refl
  of_values notes (s ∷ ss) = ap₂ (λ (x : Tree) (xs : List Tree). x ∷ xs) (of_value notes s) (of_values notes ss)

  of_clear : (h : Head) (notes : Notes) (x : Clear) → replaced f (clear_item h notes x) ≡ clear_item h (replaced_notes f notes) x
  of_clear h notes (Shown s) = of_value notes s
  of_clear h notes NameOfB = refl

  of_clears : (h : Head) (notes : Notes) (xs : List Clear) → map (replaced f) (map (clear_item h notes) xs) ≡ map (clear_item h (replaced_notes f notes)) xs
  of_clears h notes [] = refl
  of_clears h notes (x ∷ xs) = ap₂ (λ (y : Tree) (ys : List Tree). y ∷ ys) (of_clear h notes x) (of_clears h notes xs)

  of_names : (h : Head) → map (replaced f) (names h) ≡ names h
  of_names h = go (has_third h.mech)
    where
      go : (b : Bool) → map (replaced f) (if b then name h.a ∷ name h.b ∷ name (name_of h P) ∷ [] else name h.a ∷ name h.b ∷ []) ≡ (if b then name h.a ∷ name h.b ∷ name (name_of h P) ∷ [] else name h.a ∷ name h.b ∷ [])
      go true = refl
      go false = refl

  pub of_body : (h : Head) (notes : Notes) (c : Cover) → replaced f (body h notes c) ≡ body h (replaced_notes f notes) c
  of_body h notes c =
      let inside : map (replaced f) (names h ++ map (value notes) c.slots) ≡ names h ++ map (value (replaced_notes f notes)) c.slots =
      of_append (names h) (map (value notes) c.slots) ∙ ap₂ (λ (xs ys : List Tree). xs ++ ys) (of_names h) (of_values notes c.slots) in
      ap (λ us. tuple (item (tag c.tagged) us)) (of_trees (names h ++ map (value notes) c.slots) ∙ ap trees inside)

  -- notes that extend
  some_back : (o : Option Tree) (t : Tree) → option_map (replaced f) o ≡ Some t → (u : Tree) × (o ≡ Some u) × (t ≡ replaced f u)
  some_back None t e = absurd (cc)
  some_back (Some u) t e = (u, refl, cc)

  kind_of_replaced : (k : Kind) (t : Tree) → (k ≡ an_item → IsForwardable (replaced f t)) → HasKind k t → HasKind k (replaced f t)
  kind_of_replaced a_nonce t still h = (h.0, ap (replaced f) h.1)
  kind_of_replaced a_stamp t still h = (h.0, ap (replaced f) h.1)
  kind_of_replaced a_part t still h = (h.0, ap (replaced f) h.1)
  kind_of_replaced a_text t still h = (h.0, ap (replaced f) h.1)
  kind_of_replaced an_item t still h = still refl

  forwarded : (s : Slot) → kind_of s ≡ an_item → s ≡ Fwd
  forwarded Fwd e = refl
  forwarded _ e = absurd (cc)

  short_slot : (notes : Notes) → ForwardsStill f notes → (s : Slot) (t : Tree) → notes s ≡ Some t → kind_of s ≡ an_item → IsForwardable (replaced f t)
  short_slot notes still s t e k = still t (subst (λ (x : Slot). notes x ≡ Some t) (forwarded s k) e)

  of_extends : (old new : Notes) (ss : List Slot) → ForwardsStill f new → Extends old ss new → Extends (replaced_notes f old) ss (replaced_notes f new)
  of_extends old new ss still ext =
      record {
        kept = λ s t e. let u = some_back (old s) t e in ap (option_map (replaced f)) (ext.kept s u.0 u.1) ∙ ap Some (sym u.2);
        noted = λ s i. let n = ext.noted s i in (replaced f n.0, ap (option_map (replaced f)) n.1);
        only = λ s t e. let u = some_back (new s) t e in old_or s t u.0 u.2 (ext.only s u.0 u.1);
        kinds = λ s t i e. let u = some_back (new s) t e in subst (HasKind (kind_of s)) (sym u.2) (kind_of_replaced (kind_of s) u.0 (short_slot new still s u.0 u.1) (ext.kinds s u.0 i u.1));
      }
    where
      old_or : (s : Slot) (t u : Tree) → t ≡ replaced f u → (old s ≡ Some u) ⊎ Among s ss → (replaced_notes f old s ≡ Some t) ⊎ Among s ss
      old_or s t u e (inl o) = inl (ap (option_map (replaced f)) o ∙ ap Some (sym e))
      old_or s t u e (inr i) = inr i

module _ (f : Bytes → Option Tree) (items_alone : (x : Bytes) (t : Tree) → f x ≡ Some t → (b : Bool) × (k : Key) × (u : Tree) × (t ≡ symbolic_item b k u)) where
  part_of_item : (b : Bool) (k : Key) (u : Tree) → part_bytes (symbolic_item b k u) ≡ []
  part_of_item true k u = refl
  part_of_item false k u = refl

  stamp_of_item : (b : Bool) (k : Key) (u : Tree) → stamp_in (symbolic_item b k u) ≡ Seq 0
  stamp_of_item true k u = refl
  stamp_of_item false k u = refl

  same_part : (t : Tree) → part_bytes (replaced f t) ≡ part_bytes t
  same_part (blob x) = go (f x) refl
    where
      go : (o : Option Tree) → f x ≡ o → part_bytes (or_blob x o) ≡ []
      go None e = refl
      go (Some t) e = let i = items_alone x t e in ap part_bytes i.3 ∙ part_of_item i.0 i.1 i.2
  same_part (tuple ts) = refl
  same_part _ = refl

  same_stamp : (t : Tree) → stamp_in (replaced f t) ≡ stamp_in t
  same_stamp (blob x) = go (f x) refl
    where
      go : (o : Option Tree) → f x ≡ o → stamp_in (or_blob x o) ≡ Seq 0
      go None e = refl
      go (Some t) e = let i = items_alone x t e in ap stamp_in i.3 ∙ stamp_of_item i.0 i.1 i.2
  same_stamp (tuple ts) = refl
  same_stamp _ = refl

  of_key : (keys : Keys) (h : Head) (notes : Notes) (u : Under) → key_under keys h (replaced_notes f notes) u ≡ key_under keys h notes u
  of_key keys h notes (Pair x y) = refl
  of_key keys h notes Drawn = ap One (ap part_bytes (sym (of_value f notes Fa)) ∙ same_part (value notes Fa))

  module _ (opens : Sealer) (keys : Keys) (h : Head) (notes : Notes) (knows : Cover → Bool) where
    items_symbolic : (cs : List Cover) (us : List Tree) → ItemsAre opens keys h notes knows cs us → ((c : Cover) → Among c cs → c.is_check ≡ checks h.mech) → ((o : Opening) → Among o (openings keys h notes knows cs us) → BecomesSymbolic f h.mech o) → ItemsAre symbolic keys h (replaced_notes f notes) knows cs (map (replaced f) us)
    items_symbolic [] us e flags ideal = ap (map (replaced f)) e
    items_symbolic (c ∷ cs) [] e flags ideal = elim e [ ]
    items_symbolic (c ∷ cs) (u ∷ us) e flags ideal = (here (knows c) e.0 ideal, items_symbolic cs us e.1 (λ d i. flags d (inr i)) (λ o i. ideal o (later (knows c) o i)))
      where
        later : (b : Bool) (o : Opening) → Among o (openings keys h notes knows cs us) → Among o (if b then record { key = key_under keys h notes c.under; item = u; body = body h notes c } ∷ openings keys h notes knows cs us else openings keys h notes knows cs us)
        later true o i = inr i
        later false o i = i

        here : (b : Bool) → ItemBy b opens keys h notes c u → ((o : Opening) → Among o (if b then record { key = key_under keys h notes c.under; item = u; body = body h notes c } ∷ openings keys h notes knows cs us else openings keys h notes knows cs us) → BecomesSymbolic f h.mech o) → ItemBy b symbolic keys h (replaced_notes f notes) c (replaced f u)
        here true is becomes =
            becomes (record { key = key_under keys h notes c.under; item = u; body = body h notes c }) (inl refl)
            ∙ (ap (λ (x : Bool). symbolic_item x (key_under keys h notes c.under) (replaced f (body h notes c))) (sym (flags c (inl refl)))
            ∙ ap₂ (λ (k : Key) (t : Tree). symbolic_item c.is_check k t) (sym (of_key keys h notes c.under)) (of_body f h notes c))
        here false is becomes = ap (replaced f) is ∙ of_value f notes Fwd

    openings_same : (cs : List Cover) (us : List Tree) → openings keys h (replaced_notes f notes) knows cs (map (replaced f) us) ≡ map (replaced_opening f) (openings keys h notes knows cs us)
    openings_same [] us = refl
    openings_same (c ∷ cs) [] = refl
    openings_same (c ∷ cs) (u ∷ us) = go (knows c) (openings_same cs us)
      where
        go : (b : Bool) → openings keys h (replaced_notes f notes) knows cs (map (replaced f) us) ≡ map (replaced_opening f) (openings keys h notes knows cs us) → (if b then record { key = key_under keys h (replaced_notes f notes) c.under; item = replaced f u; body = body h (replaced_notes f notes) c } ∷ openings keys h (replaced_notes f notes) knows cs (map (replaced f) us) else openings keys h (replaced_notes f notes) knows cs (map (replaced f) us)) ≡ map (replaced_opening f) (if b then record { key = key_under keys h notes c.under; item = u; body = body h notes c } ∷ openings keys h notes knows cs us else openings keys h notes knows cs us)
        go true e = λ i. record { key = of_key keys h notes c.under i; item = replaced f u; body = sym (of_body f h notes c) i } ∷ e i
        go false e = e

    of_message : (k : ℕ) (p : Pass) (t : Tree) → (m : IsMessage opens keys h notes knows k p t) → ((c : Cover) → Among c p.covers → c.is_check ≡ checks h.mech) → ((o : Opening) → Among o (openings keys h notes knows p.covers m.items) → BecomesSymbolic f h.mech o) → IsMessage symbolic keys h (replaced_notes f notes) knows k p (replaced f t)
    of_message k p t m flags ideal =
        record {
          items = map (replaced f) m.items;
          is = ap (replaced f) m.is ∙ ap (λ us. tuple (item (tag (tag_of h.mech (suc k) 0)) us)) (of_trees f (map (clear_item h notes) p.clear ++ m.items) ∙ ap trees (of_append f (map (clear_item h notes) p.clear) m.items ∙ ap (λ (xs : List Tree). xs ++ map (replaced f) m.items) (of_clears f h notes p.clear)));
          each = items_symbolic p.covers m.items m.each flags ideal;
        }

  -- the stamps to judge stay
  got_slots_same : (h : Head) (old new : Notes) (t : Bytes) (ss : List Slot) → got_of_slots h (replaced_notes f old) (replaced_notes f new) t ss ≡ got_of_slots h old new t ss
  got_slots_same h old new t [] = refl
  got_slots_same h old new t (s ∷ ss) = λ i. if is_stamp (kind_of s) && none_same (old s) i then record { slot = s; sender = name_of h (issuer s); tagged = t; stamp = stamp_same i } ∷ got_slots_same h old new t ss i else got_slots_same h old new t ss i
    where
      none_same : (o : Option Tree) → is_none (option_map (replaced f) o) ≡ is_none o
      none_same None = refl
      none_same (Some x) = refl

      stamp_same : stamp_in (value (replaced_notes f new) s) ≡ stamp_in (value new s)
      stamp_same = ap stamp_in (sym (of_value f new s)) ∙ same_stamp (value new s)

  got_same : (h : Head) (old new : Notes) (cs : List Cover) → got_of h (replaced_notes f old) (replaced_notes f new) cs ≡ got_of h old new cs
  got_same h old new [] = refl
  got_same h old new (c ∷ cs) = λ i. (if c.seen then got_slots_same h old new c.tagged c.slots i else []) ++ got_same h old new cs i

-- by the fact checks_by_family
flag_is : (m : Mech) (k : ℕ) (p : Pass) → nth (row_of m) k ≡ Some p → (c : Cover) → Among c p.covers → c.is_check ≡ checks m
flag_is m k p at c i = go (checks m) (all_among (λ (c : Cover). if family m == 2 then c.is_check else not c.is_check) p.covers (all_among (λ (p : Pass). list_all (λ (c : Cover). if family m == 2 then c.is_check else not c.is_check) p.covers) (row_of m) (checks_by_family_holds m) p (nth_among (row_of m) k p at)) c i)
  where
    go : (b : Bool) → (if b then c.is_check else not c.is_check) ≡ true → c.is_check ≡ b
    go true e = e
    go false e = not_true c.is_check e

pub of_step : (opens : Sealer) (f : Bytes → Option Tree) (keys : Keys) (step : Step) → IsIdealFor f step → IsStep opens keys step → IsStep symbolic keys (replaced_step f step)
unfolding of_message
of_step opens f keys step ideal is =
    record {
      same_head = is.same_head;
      acts = λ e. let a = is.acts (none_back step.taken e) in (a.0, λ g. a.1 (none_back step.reply g));
      takes = takes step.taken is.takes;
      replies = replies step.taken step.reply is.replies;
      moves = moves step.taken step.reply is.moves;
      issues = λ t. (there t, back t);
      outcome = is.outcome;
    }
  where
    middle_kept : (r : Option Tree) → Replies opens keys step.before.head (reply_pass step) step.middle step.after.notes r step.sealed → (t : Tree) → step.middle Fwd ≡ Some t → step.after.notes Fwd ≡ Some t
    middle_kept None e t m = ap (λ (n : Notes). n Fwd) e.0 ∙ m
    middle_kept (Some r) sends t m = sends.extends.kept Fwd t m

    still_middle : ForwardsStill f step.middle
    still_middle t m = ideal.forwards t (middle_kept step.reply is.replies t m)

    none_back : (o : Option Tree) → option_map (replaced f) o ≡ None → o ≡ None
    none_back None e = refl
    none_back (Some t) e = absurd (cc)

    takes : (o : Option Tree) → Takes opens keys step.before o step.middle step.opened step.got → Takes symbolic keys (replaced_run f step.before) (option_map (replaced f) o) (replaced_notes f step.middle) (map (replaced_opening f) step.opened) step.got
    takes None e = (ap (replaced_notes f) e.0, ap (map (replaced_opening f)) e.1, e.2)
    takes (Some t) fits = record {
      pass = fits.pass;
      at = fits.at;
      received = fits.received;
      extends = of_extends f step.before.notes step.middle (seen_slots fits.pass) still_middle fits.extends;
      shows = of_message f ideal.items_alone opens keys step.before.head step.middle seen step.before.next fits.pass t fits.shows (flag_is step.before.head.mech step.before.next fits.pass fits.at) (λ o i. ideal.opened o (subst (Among o) (sym fits.opens_are) i));
      opens_are = ap (map (replaced_opening f)) fits.opens_are ∙ sym (openings_same f ideal.items_alone opens keys step.before.head step.middle seen fits.pass.covers fits.shows.items);
      got_is = fits.got_is ∙ sym (got_same f ideal.items_alone step.before.head step.before.notes step.middle fits.pass.covers);
    }

    at_pass : (k : ℕ) (o : Option Tree) → Replies opens keys step.before.head k step.middle step.after.notes o step.sealed → Replies symbolic keys step.before.head k (replaced_notes f step.middle) (replaced_notes f step.after.notes) (option_map (replaced f) o) (map (replaced_opening f) step.sealed)
    at_pass k None e = (ap (replaced_notes f) e.0, ap (map (replaced_opening f)) e.1, e.2)
    at_pass k (Some t) sends = record {
      pass = sends.pass;
      at = sends.at;
      sent = sends.sent;
      extends = of_extends f step.middle step.after.notes (sent_slots sends.pass) ideal.forwards sends.extends;
      shows = of_message f ideal.items_alone opens keys step.before.head step.after.notes made k sends.pass t sends.shows (flag_is step.before.head.mech k sends.pass sends.at) (λ o i. ideal.sealed o (subst (Among o) (sym sends.seals_are) i));
      seals_are = ap (map (replaced_opening f)) sends.seals_are ∙ sym (openings_same f ideal.items_alone opens keys step.before.head step.after.notes made sends.pass.covers sends.shows.items);
    }

    replies : (o r : Option Tree) → Replies opens keys step.before.head (after_taking step.before.next o) step.middle step.after.notes r step.sealed → Replies symbolic keys step.before.head (after_taking step.before.next (option_map (replaced f) o)) (replaced_notes f step.middle) (replaced_notes f step.after.notes) (option_map (replaced f) r) (map (replaced_opening f) step.sealed)
    replies None r e = at_pass step.before.next r e
    replies (Some t) r e = at_pass (suc step.before.next) r e

    moves : (o r : Option Tree) → step.after.next ≡ next_act step.before.head (passed (after_taking step.before.next o) r) → step.after.next ≡ next_act step.before.head (passed (after_taking step.before.next (option_map (replaced f) o)) (option_map (replaced f) r))
    moves None None e = e
    moves None (Some r) e = e
    moves (Some t) None e = e
    moves (Some t) (Some r) e = e

    there : (t : Stamp) → step.issued ≡ Some t → (s : Slot) × (kind_of s ≡ a_stamp) × Draws (replaced_step f step) s (stamp t)
    there t e = let d = (is.issues t).0 e in (d.0, d.1, record { is_new = ap (option_map (replaced f)) d.2.is_new; is = ap (option_map (replaced f)) d.2.is })

    back : (t : Stamp) → (s : Slot) × (kind_of s ≡ a_stamp) × Draws (replaced_step f step) s (stamp t) → step.issued ≡ Some t
    back t (s, k, d) = go (some_back f (step.after.notes s) (stamp t) d.is)
      where
        stamp_inj : (x y : Stamp) → stamp x ≡ stamp y → y ≡ x
        stamp_inj x y e = cc

        go : (u : Tree) × (step.after.notes s ≡ Some u) × (stamp t ≡ replaced f u) → step.issued ≡ Some t
        go (u, e, r) =
            let a = drawn_stamp opens keys step is s u k (record { is_new = none_back (step.middle s) d.is_new; is = e }) in
            a.issued ∙ ap Some (stamp_inj t a.drawn (r ∙ ap (replaced f) a.is))
