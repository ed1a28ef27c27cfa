-- The row facts, as facts on one pass, one protected item and one slot.
use Rattle.std.proofs.Common.{◌≡◌, ℕ, zero, suc, ◌<◌, ◌⊎◌, List, [], ◌∷◌, true, false, not, ◌&&◌, ◌||◌, if◌then◌else◌, refl, sym, ap, subst, inl, inr, Some, arith, eqb-true, get_or, ◌∙◌, None}
use Rattle.std.specs.List.{list_all, list_any}
use Rattle.term_values.specs.Trees.{Among}
use Rattle.mech_rows.specs.declared.kinds.Mech.{Mech}
use Rattle.mech_rows.specs.declared.kinds.Role.{Role}
use Rattle.mech_rows.specs.declared.kinds.Role.TheVariants.{A, B, P}
use Rattle.mech_rows.specs.declared.kinds.Slot.{Slot}
use Rattle.mech_rows.specs.declared.kinds.Slot.TheVariants.{Ra, Rb, Ra2, Ta, Tb, Tp, Fa, Fb, X1, X2, X3, X4, X5, X6, X7, X8, X9, Fwd}
use Rattle.mech_rows.specs.declared.kinds.Under.TheVariants.{Pair}
use Rattle.mech_rows.specs.declared.kinds.Clear.{Clear}
use Rattle.mech_rows.specs.declared.kinds.Clear.TheVariants.{Slot as Shown, NameOfB}
use Rattle.mech_rows.specs.Rows.{Cover, Pass, row_of, pairs_of}
use Rattle.mech_rows.specs.Facts.{same_role, slot_number, same_slot, is_part, is_fwd, covers_of, covered_slots, acts, is_pair, lawful_under, clear_is_no_part, clear_is_no_fwd, draws_own, each_draws_own}
use Rattle.mech_rows.specs.Runs.{nth, clear_slots, sent_in, seen_in}
use Rattle.mech_rows.proofs.Facts.{lawful_keys_holds, parts_stand_under_pairs_holds, parts_are_drawn_holds, bodies_are_flat_holds}
use Rattle.term_values.proofs.Lists.{among_append, among_left, among_right, among_if, and_left, and_right, or_cases, not_true, all_among, none_among, some_among, and_both, any_among}

pub nth_among : (ps : List Pass) (k : ℕ) (p : Pass) → nth ps k ≡ Some p → Among p ps
nth_among [] k p e = absurd (cc)
nth_among (q ∷ qs) zero p e = inl (let f : Some q ≡ Some p = e in cc)
nth_among (q ∷ qs) (suc k) p e = inr (nth_among qs k p e)

pub among_covers : (ps : List Pass) (p : Pass) (c : Cover) → Among p ps → Among c p.covers → Among c (covers_of ps)
among_covers [] p c i j = elim i [ ]
among_covers (q ∷ qs) p c (inl e) j = among_left q.covers (covers_of qs) c (subst (λ r. Among c r.covers) e j)
among_covers (q ∷ qs) p c (inr i) j = among_right q.covers (covers_of qs) c (among_covers qs p c i j)

pub among_covered : (cs : List Cover) (c : Cover) (s : Slot) → Among c cs → Among s c.slots → Among s (covered_slots cs)
among_covered [] c s i j = elim i [ ]
among_covered (d ∷ ds) c s (inl e) j = among_left d.slots (covered_slots ds) s (subst (λ r. Among s r.slots) e j)
among_covered (d ∷ ds) c s (inr i) j = among_right d.slots (covered_slots ds) s (among_covered ds c s i j)

-- the slots that a role saw or sent, by the items that hold them
pub seen_case : (cs : List Cover) (s : Slot) → Among s (seen_in cs) → (c : Cover) × Among c cs × (((c.seen ≡ true) × Among s c.slots) ⊎ ((c.seen ≡ false) × Among s (Fwd ∷ [])))
seen_case [] s i = elim i [ ]
seen_case (c ∷ cs) s i = go (among_append _ (seen_in cs) s i) (seen_case cs s)
  where
    go : Among s (if c.seen then c.slots else Fwd ∷ []) ⊎ Among s (seen_in cs) → (Among s (seen_in cs) → (d : Cover) × Among d cs × (((d.seen ≡ true) × Among s d.slots) ⊎ ((d.seen ≡ false) × Among s (Fwd ∷ [])))) → (d : Cover) × Among d (c ∷ cs) × (((d.seen ≡ true) × Among s d.slots) ⊎ ((d.seen ≡ false) × Among s (Fwd ∷ [])))
    go (inl j) r = (c, inl refl, among_if c.seen c.slots (Fwd ∷ []) s j)
    go (inr j) r = let d = r j in (d.0, inr d.1, d.2)

pub sent_case : (cs : List Cover) (s : Slot) → Among s (sent_in cs) → (c : Cover) × Among c cs × (c.made ≡ true) × Among s c.slots
sent_case [] s i = elim i [ ]
sent_case (c ∷ cs) s i = go (among_append _ (sent_in cs) s i) (sent_case cs s)
  where
    here : ((c.made ≡ true) × Among s c.slots) ⊎ ((c.made ≡ false) × Among s []) → (d : Cover) × Among d (c ∷ cs) × (d.made ≡ true) × Among s d.slots
    here (inl j) = (c, inl refl, j.0, j.1)
    here (inr j) = absurd j.1

    go : Among s (if c.made then c.slots else []) ⊎ Among s (sent_in cs) → (Among s (sent_in cs) → (d : Cover) × Among d cs × (d.made ≡ true) × Among s d.slots) → (d : Cover) × Among d (c ∷ cs) × (d.made ≡ true) × Among s d.slots
    go (inl j) r = here (among_if c.made c.slots [] s j)
    go (inr j) r = let d = r j in (d.0, inr d.1, d.2, d.3)

pub clear_case : (cs : List Clear) (s : Slot) → Among s (clear_slots cs) → Among (Shown s) cs
clear_case [] s i = elim i [ ]
clear_case (Shown u ∷ cs) s (inl e) = inl (ap Shown e)
clear_case (Shown u ∷ cs) s (inr i) = inr (clear_case cs s i)
clear_case (NameOfB ∷ cs) s i = inr (clear_case cs s i)

pub same_role_is : (x y : Role) → same_role x y ≡ true → x ≡ y
same_role_is A A h = refl
same_role_is B B h = refl
same_role_is P P h = refl
same_role_is _ _ h = absurd (cc)

pub lawful_pair : (m : Mech) (x y : Role) → lawful_under m (Pair x y) ≡ true → Among (x, y) (pairs_of m)
lawful_pair m x y h =
    let found = some_among (λ (q : Role × Role). same_role q.0 x && same_role q.1 y) (pairs_of m) h in
    let first : found.0.0 ≡ x = same_role_is found.0.0 x (and_left _ _ found.2) in
    let second : found.0.1 ≡ y = same_role_is found.0.1 y (and_right _ _ found.2) in
    subst (λ (q : Role × Role). Among q (pairs_of m)) (λ i. (first i, second i)) found.1

module _ (m : Mech) (k : ℕ) (p : Pass) (at : nth (row_of m) k ≡ Some p) where
  here : Among p (row_of m)
  here = nth_among (row_of m) k p at

  -- 2
  pub pair_is_of_row : (c : Cover) → Among c p.covers → (x y : Role) → c.under ≡ Pair x y → Among (x, y) (pairs_of m)
  pair_is_of_row c i x y e =
      lawful_pair m x y (subst (λ u. lawful_under m u ≡ true) e (all_among (λ d. lawful_under m d.under) (covers_of (row_of m)) (lawful_keys_holds m) c (among_covers (row_of m) p c here i)))

  three : (list_all clear_is_no_part p.clear && list_all (λ c. is_pair c.under || not (list_any is_part c.slots)) p.covers) ≡ true
  three = all_among (λ q. list_all clear_is_no_part q.clear && list_all (λ c. is_pair c.under || not (list_any is_part c.slots)) q.covers) (row_of m) (parts_stand_under_pairs_holds m) p here

  six : (list_all clear_is_no_fwd p.clear && list_all (λ c. not (list_any is_fwd c.slots)) p.covers) ≡ true
  six = all_among (λ q. list_all clear_is_no_fwd q.clear && list_all (λ c. not (list_any is_fwd c.slots)) q.covers) (row_of m) (bodies_are_flat_holds m) p here

  -- 3
  pub no_clear_part : (s : Slot) → Among s (clear_slots p.clear) → is_part s ≡ false
  no_clear_part s i = not_true _ (all_among clear_is_no_part p.clear (and_left _ _ three) (Shown s) (clear_case p.clear s i))

  pub parts_under_pairs : (c : Cover) (s : Slot) → Among c p.covers → Among s c.slots → is_part s ≡ true → is_pair c.under ≡ true
  parts_under_pairs c s i j e = go (or_cases _ _ (all_among (λ d. is_pair d.under || not (list_any is_part d.slots)) p.covers (and_right _ _ three) c i))
    where
      go : (is_pair c.under ≡ true) ⊎ (not (list_any is_part c.slots) ≡ true) → is_pair c.under ≡ true
      go (inl h) = h
      go (inr h) = let no = none_among is_part c.slots (not_true _ h) s j in cc

  -- 6
  pub no_clear_fwd : (s : Slot) → Among s (clear_slots p.clear) → is_fwd s ≡ false
  no_clear_fwd s i = not_true _ (all_among clear_is_no_fwd p.clear (and_left _ _ six) (Shown s) (clear_case p.clear s i))

  pub no_fwd_inside : (c : Cover) (s : Slot) → Among c p.covers → Among s c.slots → is_fwd s ≡ false
  no_fwd_inside c s i j = none_among is_fwd c.slots (not_true _ (all_among (λ d. not (list_any is_fwd d.slots)) p.covers (and_right _ _ six) c i)) s j

-- by the fact parts_are_drawn
apart_later : (p : Pass) (ps : List Pass) (k : ℕ) (q : Pass) → list_all (draws_own p) ps ≡ true → nth ps k ≡ Some q → draws_own p q ≡ true
apart_later p ps k q h e = all_among (draws_own p) ps h q (nth_among ps k q e)

apart_passes : (ps : List Pass) (j k : ℕ) (p q : Pass) → each_draws_own ps ≡ true → nth ps j ≡ Some p → nth ps k ≡ Some q → j < k → draws_own p q ≡ true
apart_passes [] j k p q h e f l = absurd (cc)
apart_passes (r ∷ rs) zero zero p q h e f l = absurd (omega arith)
apart_passes (r ∷ rs) zero (suc k) p q h e f l = let g : Some r ≡ Some p = e in let i : r ≡ p = cc in subst (λ x. draws_own x q ≡ true) i (apart_later r rs k q (and_left _ _ h) f)
apart_passes (r ∷ rs) (suc j) zero p q h e f l = absurd (omega arith)
apart_passes (r ∷ rs) (suc j) (suc k) p q h e f l = apart_passes rs j k p q (and_right _ _ h) e f (omega arith)

pub same_slot_refl : (s : Slot) → same_slot s s ≡ true
same_slot_refl Ra = refl
same_slot_refl _ = refl

-- a part slot of a body that is made in pass k stands in no earlier pass in which its maker acts
pub draws_its_parts : (m : Mech) (j k : ℕ) (p q : Pass) (c : Cover) (s : Slot) → nth (row_of m) j ≡ Some p → nth (row_of m) k ≡ Some q → j < k → Among c q.covers → c.made ≡ true → Among s c.slots → is_part s ≡ true → acts q.from p ≡ true → Among s (covered_slots p.covers) → ⊥
draws_its_parts m j k p q c s e f l i made t part acts_in there =
    let own = all_among (λ d. not d.made || list_all (λ u. not (is_part u) || not (acts q.from p && list_any (same_slot u) (covered_slots p.covers))) d.slots) q.covers (apart_passes (row_of m) j k p q (parts_are_drawn_holds m) e f l) c i in
    first (or_cases _ _ own)
  where
    both : (acts q.from p && list_any (same_slot s) (covered_slots p.covers)) ≡ true
    both = and_both _ _ acts_in (any_among (same_slot s) (covered_slots p.covers) s there (same_slot_refl s))

    second : (not (is_part s) ≡ true) ⊎ (not (acts q.from p && list_any (same_slot s) (covered_slots p.covers)) ≡ true) → ⊥
    second (inl h) = let no = not_true _ h in cc
    second (inr h) = let no = not_true _ h in (cc both)

    first : (not c.made ≡ true) ⊎ (list_all (λ u. not (is_part u) || not (acts q.from p && list_any (same_slot u) (covered_slots p.covers))) c.slots ≡ true) → ⊥
    first (inl h) = let no = not_true _ h in cc
    first (inr h) = second (or_cases _ _ (all_among (λ u. not (is_part u) || not (acts q.from p && list_any (same_slot u) (covered_slots p.covers))) c.slots h s t))

-- numbers tell slots apart
slot_of : ℕ → Slot
slot_of n = get_or (Ra ∷ Rb ∷ Ra2 ∷ Ta ∷ Tb ∷ Tp ∷ Fa ∷ Fb ∷ X1 ∷ X2 ∷ X3 ∷ X4 ∷ X5 ∷ X6 ∷ X7 ∷ X8 ∷ X9 ∷ Fwd ∷ []) n Ra

slot_of_number : (s : Slot) → slot_of (slot_number s) ≡ s
unfolding slot_of
slot_of_number Ra = refl
slot_of_number _ = refl

pub same_slot_is : (s t : Slot) → same_slot s t ≡ true → s ≡ t
same_slot_is s t h = sym (slot_of_number s) ∙ (ap slot_of (eqb-true (slot_number s) (slot_number t) h) ∙ slot_of_number t)

pub same_role_refl : (x : Role) → same_role x x ≡ true
same_role_refl A = refl
same_role_refl _ = refl

pub done_after : (ps : List Pass) (j k : ℕ) (p : Pass) → nth ps k ≡ None → nth ps j ≡ Some p → j < k
done_after [] j k p e f = absurd (cc)
done_after (x ∷ ps) j zero p e f = absurd (cc)
done_after (x ∷ ps) zero (suc k) p e f = omega arith
done_after (x ∷ ps) (suc j) (suc k) p e f = let l = done_after ps j k p e f in omega (arith, l)

pub nth_of : (ps : List Pass) (p : Pass) → Among p ps → (j : ℕ) × (nth ps j ≡ Some p)
nth_of [] p i = elim i [ ]
nth_of (q ∷ ps) p (inl e) = (0, ap Some (sym e))
nth_of (q ∷ ps) p (inr i) = let r = nth_of ps p i in (suc r.0, r.1)
