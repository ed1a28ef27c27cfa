-- A test whether what a step draws is fresh.
use Rattle.std.proofs.Common.{◌≡◌, ◌⊎◌, ℕ, List, [], ◌∷◌, ◌++◌, Bool, true, false, not, ◌&&◌, ◌||◌, if◌then◌else◌, refl, sym, ap, subst, ◌∙◌, inl, inr, Option, Some, None}
use Rattle.std.specs.List.{list_all, list_any}
use Rattle.term_values.specs.Trees.{Among, Bytes, Tree, name, stamp, nonce, part, text, tag, blob, tuple, seal, check, Trees, none, item, Occurs, OccursInItems, StandsInKey}
use Rattle.term_values.specs.SameBytes.{same_bytes}
use Rattle.term_values.specs.declared.small.Key.{Key}
use Rattle.term_values.specs.declared.small.Key.TheVariants.{One, Two}
use Rattle.mech_rows.specs.declared.kinds.Slot.{Slot}
use Rattle.mech_rows.specs.declared.kinds.Slot.TheVariants.{Ra, Rb, Ra2, Ta, Tb, Tp, Fa, Fb, X1, X2, X3, X4, X5, X6, X7, X8, X9, Fwd}
use Rattle.mech_rows.specs.Rows.{kind_of}
use Rattle.mech_rows.specs.Facts.{same_slot}
use Rattle.mech_rows.specs.Runs.{Notes, Step, Draws}
use Rattle.agreement_laws.specs.Configs.{Config, LongTerm}
use Rattle.agreement_laws.specs.Traces.{Happening, Opens, Steps, Reveals, OccursIn, OccursInNotes, OccursInMessage, OccursInConfig, is_drawn_kind, IsFresh}
use Rattle.term_values.proofs.Lists.{all_among, any_among, implied, and_left, and_right, or_cases}
use Rattle.term_values.proofs.SameBytes.{same_bytes_refl}
use Rattle.mech_rows.proofs.RowUse.{same_slot_is}

abbrev pub all_slots : List Slot
all_slots = Ra ∷ Rb ∷ Ra2 ∷ Ta ∷ Tb ∷ Tp ∷ Fa ∷ Fb ∷ X1 ∷ X2 ∷ X3 ∷ X4 ∷ X5 ∷ X6 ∷ X7 ∷ X8 ∷ X9 ∷ Fwd ∷ []

pub each_slot : (s : Slot) → Among s all_slots
each_slot s = go s
  where
    go : (s : Slot) → Among s all_slots
    go Ra = inl refl
    go Rb = inr (inl refl)
    go Ra2 = inr (inr (inl refl))
    go Ta = inr (inr (inr (inl refl)))
    go Tb = inr (inr (inr (inr (inl refl))))
    go Tp = inr (inr (inr (inr (inr (inl refl)))))
    go Fa = inr (inr (inr (inr (inr (inr (inl refl))))))
    go Fb = inr (inr (inr (inr (inr (inr (inr (inl refl)))))))
    go X1 = inr (inr (inr (inr (inr (inr (inr (inr (inl refl))))))))
    go X2 = inr (inr (inr (inr (inr (inr (inr (inr (inr (inl refl)))))))))
    go X3 = inr (inr (inr (inr (inr (inr (inr (inr (inr (inr (inl refl))))))))))
    go X4 = inr (inr (inr (inr (inr (inr (inr (inr (inr (inr (inr (inl refl)))))))))))
    go X5 = inr (inr (inr (inr (inr (inr (inr (inr (inr (inr (inr (inr (inl refl))))))))))))
    go X6 = inr (inr (inr (inr (inr (inr (inr (inr (inr (inr (inr (inr (inr (inl refl)))))))))))))
    go X7 = inr (inr (inr (inr (inr (inr (inr (inr (inr (inr (inr (inr (inr (inr (inl refl))))))))))))))
    go X8 = inr (inr (inr (inr (inr (inr (inr (inr (inr (inr (inr (inr (inr (inr (inr (inl refl)))))))))))))))
    go X9 = inr (inr (inr (inr (inr (inr (inr (inr (inr (inr (inr (inr (inr (inr (inr (inr (inl refl))))))))))))))))
    go Fwd = inr (inr (inr (inr (inr (inr (inr (inr (inr (inr (inr (inr (inr (inr (inr (inr (inr (inl refl)))))))))))))))))

-- nonces and parts: what may be drawn
abbrev pub is_leaf : Tree → Bool
is_leaf (nonce b) = true
is_leaf (part b) = true
is_leaf _ = false

abbrev pub same_leaf : Tree → Tree → Bool
same_leaf (nonce a) (nonce b) = same_bytes a b
same_leaf (part a) (part b) = same_bytes a b
same_leaf _ _ = false

same_leaf_refl : (v : Tree) → is_leaf v ≡ true → same_leaf v v ≡ true
same_leaf_refl (nonce b) h = same_bytes_refl b
same_leaf_refl (part b) h = same_bytes_refl b
same_leaf_refl _ h = absurd (cc)

is_same_leaf : (v t : Tree) → is_leaf v ≡ true → v ≡ t → same_leaf v t ≡ true
is_same_leaf v t h e = subst (λ (x : Tree). same_leaf v x ≡ true) e (same_leaf_refl v h)

abbrev pub key_shows : Tree → Key → Bool
key_shows v (One p) = same_leaf v (part p)
key_shows v (Two p q) = same_leaf v (part p) || same_leaf v (part q)

abbrev mutual
  pub shows : Tree → Tree → Bool
  shows v (tuple ts) = shows_any v ts
  shows v (seal k t) = key_shows v k || shows v t
  shows v (check k t) = key_shows v k || shows v t
  shows v t = same_leaf v t

  pub shows_any : Tree → Trees → Bool
  shows_any v none = false
  shows_any v (item t ts) = shows v t || shows_any v ts

or_left : (a b : Bool) → a ≡ true → (a || b) ≡ true
or_left true b h = refl
or_left false b h = absurd (cc)

or_right : (a b : Bool) → b ≡ true → (a || b) ≡ true
or_right true b h = refl
or_right false b h = h

key_shown : (v : Tree) (k : Key) → is_leaf v ≡ true → StandsInKey v k → key_shows v k ≡ true
key_shown v (One p) h e = is_same_leaf v (part p) h e
key_shown v (Two p q) h (inl e) = or_left (same_leaf v (part p)) (same_leaf v (part q)) (is_same_leaf v (part p) h e)
key_shown v (Two p q) h (inr e) = or_right (same_leaf v (part p)) (same_leaf v (part q)) (is_same_leaf v (part q) h e)

no_leaf : (v t : Tree) → is_leaf v ≡ true → is_leaf t ≡ false → v ≡ t → ⊥
no_leaf v t h n e = let g : is_leaf t ≡ true = subst (λ (x : Tree). is_leaf x ≡ true) e h in cc

mutual
  shown : (v t : Tree) → is_leaf v ≡ true → Occurs v t → shows v t ≡ true
  shown v (tuple ts) h (inl e) = absurd (no_leaf v (tuple ts) h refl e)
  shown v (tuple ts) h (inr o) = shown_any v ts h o
  shown v (seal k t) h (inl e) = absurd (no_leaf v (seal k t) h refl e)
  shown v (seal k t) h (inr (inl o)) = or_left (key_shows v k) (shows v t) (key_shown v k h o)
  shown v (seal k t) h (inr (inr o)) = or_right (key_shows v k) (shows v t) (shown v t h o)
  shown v (check k t) h (inl e) = absurd (no_leaf v (check k t) h refl e)
  shown v (check k t) h (inr (inl o)) = or_left (key_shows v k) (shows v t) (key_shown v k h o)
  shown v (check k t) h (inr (inr o)) = or_right (key_shows v k) (shows v t) (shown v t h o)
  shown v (name n) h e = is_same_leaf v (name n) h e
  shown v (stamp s) h e = is_same_leaf v (stamp s) h e
  shown v (nonce b) h e = is_same_leaf v (nonce b) h e
  shown v (part b) h e = is_same_leaf v (part b) h e
  shown v (text b) h e = is_same_leaf v (text b) h e
  shown v (tag b) h e = is_same_leaf v (tag b) h e
  shown v (blob b) h e = is_same_leaf v (blob b) h e

  shown_any : (v : Tree) (ts : Trees) → is_leaf v ≡ true → OccursInItems v ts → shows_any v ts ≡ true
  shown_any v none h o = elim o [ ]
  shown_any v (item t ts) h (inl o) = or_left (shows v t) (shows_any v ts) (shown v t h o)
  shown_any v (item t ts) h (inr o) = or_right (shows v t) (shows_any v ts) (shown_any v ts h o)

abbrev pub option_shows : Tree → Option Tree → Bool
option_shows v None = false
option_shows v (Some t) = shows v t

abbrev pub notes_show : Tree → Notes → Bool
notes_show v notes = list_any (λ s. option_shows v (notes s)) all_slots

abbrev pub happening_shows : Tree → Happening → Bool
happening_shows v (Opens id run) = notes_show v run.notes
happening_shows v (Steps id step) = notes_show v step.after.notes || (option_shows v step.taken || option_shows v step.reply)
happening_shows v (Reveals id) = false

notes_shown : (v : Tree) (notes : Notes) → is_leaf v ≡ true → OccursInNotes v notes → notes_show v notes ≡ true
notes_shown v notes h (s, t, e, o) = any_among (λ (x : Slot). option_shows v (notes x)) all_slots s (each_slot s) (ap (option_shows v) e ∙ shown v t h o)

option_shown : (v : Tree) (o : Option Tree) → is_leaf v ≡ true → OccursInMessage v o → option_shows v o ≡ true
option_shown v None h o = elim o [ ]
option_shown v (Some t) h o = shown v t h o

happening_shown : (v : Tree) (e : Happening) → is_leaf v ≡ true → OccursIn v e → happening_shows v e ≡ true
happening_shown v (Opens id run) h o = notes_shown v run.notes h o
happening_shown v (Steps id step) h (inl o) = or_left (notes_show v step.after.notes) (option_shows v step.taken || option_shows v step.reply) (notes_shown v step.after.notes h o)
happening_shown v (Steps id step) h (inr (inl o)) = or_right (notes_show v step.after.notes) (option_shows v step.taken || option_shows v step.reply) (or_left (option_shows v step.taken) (option_shows v step.reply) (option_shown v step.taken h o))
happening_shown v (Steps id step) h (inr (inr o)) = or_right (notes_show v step.after.notes) (option_shows v step.taken || option_shows v step.reply) (or_right (option_shows v step.taken) (option_shows v step.reply) (option_shown v step.reply h o))
happening_shown v (Reveals id) h o = elim o [ ]

abbrev pub config_shows : Tree → Config → Bool
config_shows v c = list_any (λ p. same_leaf v (part p)) c.own || list_any (λ (l : LongTerm). same_leaf v (part l.part)) c.pairs

config_shown : (v : Tree) (c : Config) → is_leaf v ≡ true → OccursInConfig v c → config_shows v c ≡ true
config_shown v c h (inl (p, i, e)) = or_left (list_any (λ x. same_leaf v (part x)) c.own) (list_any (λ (l : LongTerm). same_leaf v (part l.part)) c.pairs) (any_among (λ (x : Bytes). same_leaf v (part x)) c.own p i (is_same_leaf v (part p) h e))
config_shown v c h (inr (l, i, e)) = or_right (list_any (λ x. same_leaf v (part x)) c.own) (list_any (λ (x : LongTerm). same_leaf v (part x.part)) c.pairs) (any_among (λ (x : LongTerm). same_leaf v (part x.part)) c.pairs l i (is_same_leaf v (part l.part) h e))

-- what a step notes for the slot beyond its middle
abbrev pub new_value : Option Tree → Option Tree → Option Tree
new_value None after = after
new_value (Some t) after = None

abbrev pub drawn_value : Step → Slot → Option Tree
drawn_value step s = if is_drawn_kind (kind_of s) then new_value (step.middle s) (step.after.notes s) else None

abbrev pub is_new_value : Config → List Happening → Step → Option Tree → Bool
is_new_value c h step None = true
is_new_value c h step (Some v) = is_leaf v && (not (config_shows v c) && (list_all (λ e. not (happening_shows v e)) h && not (option_shows v step.taken)))

abbrev pub same_values : Option Tree → Option Tree → Bool
same_values (Some v) (Some t) = same_leaf v t
same_values _ _ = false

abbrev pub is_fresh : Config → List Happening → Step → Bool
is_fresh c h step =
    list_all (λ s. is_new_value c h step (drawn_value step s)) all_slots
    && list_all (λ s. list_all (λ u. not (same_values (drawn_value step s) (new_value (step.middle u) (step.after.notes u))) || same_slot s u) all_slots) all_slots

module _ (c : Config) (h : List Happening) (step : Step) (ok : is_fresh c h step ≡ true) where
  new_is : (s : Slot) (t : Tree) → Draws step s t → new_value (step.middle s) (step.after.notes s) ≡ Some t
  new_is s t d = ap (λ (o : Option Tree). new_value o (step.after.notes s)) d.is_new ∙ d.is

  drawn_is : (s : Slot) (t : Tree) → is_drawn_kind (kind_of s) ≡ true → Draws step s t → drawn_value step s ≡ Some t
  drawn_is s t k d = ap (λ (b : Bool). if b then new_value (step.middle s) (step.after.notes s) else None) k ∙ new_is s t d

  tested : (s : Slot) (t : Tree) → is_drawn_kind (kind_of s) ≡ true → Draws step s t → is_new_value c h step (Some t) ≡ true
  tested s t k d =
      subst (λ (o : Option Tree). is_new_value c h step o ≡ true) (drawn_is s t k d)
      (all_among (λ (x : Slot). is_new_value c h step (drawn_value step x)) all_slots (and_left (list_all (λ x. is_new_value c h step (drawn_value step x)) all_slots) (list_all (λ x. list_all (λ u. not (same_values (drawn_value step x) (new_value (step.middle u) (step.after.notes u))) || same_slot x u) all_slots) all_slots) ok) s (each_slot s))

  both : {b : Bool} → not b ≡ true → b ≡ true → ⊥
  both {b = true} n e = cc
  both {b = false} n e = cc

  parts : (t : Tree) → is_new_value c h step (Some t) ≡ true → (is_leaf t ≡ true) × (not (config_shows t c) ≡ true) × (list_all (λ e. not (happening_shows t e)) h ≡ true) × (not (option_shows t step.taken) ≡ true)
  parts t e =
      let rest = and_right (is_leaf t) (not (config_shows t c) && (list_all (λ x. not (happening_shows t x)) h && not (option_shows t step.taken))) e in
      let more = and_right (not (config_shows t c)) (list_all (λ x. not (happening_shows t x)) h && not (option_shows t step.taken)) rest in (
        and_left (is_leaf t) (not (config_shows t c) && (list_all (λ x. not (happening_shows t x)) h && not (option_shows t step.taken))) e,
        and_left (not (config_shows t c)) (list_all (λ x. not (happening_shows t x)) h && not (option_shows t step.taken)) rest,
        and_left (list_all (λ x. not (happening_shows t x)) h) (not (option_shows t step.taken)) more,
        and_right (list_all (λ x. not (happening_shows t x)) h) (not (option_shows t step.taken)) more,
      )

  pub fresh_by_test : IsFresh c h step
  fresh_by_test =
      record {
        in_config = λ s t k d o. let p = parts t (tested s t k d) in both p.1 (config_shown t c p.0 o);
        in_earlier = λ s t e k d i o. let p = parts t (tested s t k d) in both (all_among (λ (x : Happening). not (happening_shows t x)) h p.2 e i) (happening_shown t e p.0 o);
        in_taken = λ s t k d o. let p = parts t (tested s t k d) in both p.3 (option_shown t step.taken p.0 o);
        apart = λ s u t k d e. one s u t k d e;
      }
    where
      one : (s u : Slot) (t : Tree) → is_drawn_kind (kind_of s) ≡ true → Draws step s t → Draws step u t → s ≡ u
      one s u t k d e =
          let p = parts t (tested s t k d) in
          let rows = and_right (list_all (λ x. is_new_value c h step (drawn_value step x)) all_slots) (list_all (λ x. list_all (λ y. not (same_values (drawn_value step x) (new_value (step.middle y) (step.after.notes y))) || same_slot x y) all_slots) all_slots) ok in
          let row = all_among (λ (x : Slot). list_all (λ y. not (same_values (drawn_value step x) (new_value (step.middle y) (step.after.notes y))) || same_slot x y) all_slots) all_slots rows s (each_slot s) in
          let test = all_among (λ (y : Slot). not (same_values (drawn_value step s) (new_value (step.middle y) (step.after.notes y))) || same_slot s y) all_slots row u (each_slot u) in
          same_slot_is s u (implied (same_values (drawn_value step s) (new_value (step.middle u) (step.after.notes u))) (same_slot s u) test (values t p.0 (drawn_value step s) (new_value (step.middle u) (step.after.notes u)) (drawn_is s t k d) (new_is u t e)))
        where
          values : (t : Tree) → is_leaf t ≡ true → (a b : Option Tree) → a ≡ Some t → b ≡ Some t → same_values a b ≡ true
          values t leaf a b f g = subst (λ (x : Option Tree). same_values x b ≡ true) (sym f) (subst (λ (x : Option Tree). same_values (Some t) x ≡ true) (sym g) (same_leaf_refl t leaf))
