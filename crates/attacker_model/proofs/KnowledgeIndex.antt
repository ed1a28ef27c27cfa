-- Sets of numbers with places: what an entry put in or taken out leaves, and the first place of a number.
use Rattle.std.proofs.Common.{◌≡◌, ℕ, ◌≤◌, ◌<◌, List, [], ◌∷◌, Bool, true, false, cond, refl, sym, subst, ◌∙◌, ap, arith, Result, Ok, Err, OnOk, OnErr, Option, Some, None, IfSome}
use Rattle.std.specs.declared.cmp.Ordering.{Ordering}
use Rattle.std.specs.declared.cmp.Ordering.TheVariants.{Less, Equal, Greater}
use Rattle.std.specs.Ordering.{nat_cmp, ordering_then, is_eq, is_gt}
use Rattle.std.proofs.lemmas.Bool.Decides.{nat_tests}
use Rattle.std.specs.Cmp.{nat_cmp_is}
use Rattle.std.specs.BTreeSet.{BTreeSet, contains, Updates, UpdatesBy, IsUnchanged, IsKeyInRange, IsKeyRangeOf}
use Rattle.std.specs.declared.ops.Bound.TheVariants.{Included, Unbounded}
use Rattle.std.specs.Option.{MatchOption}
use Rattle.std.specs.List.{slice_get}
use Rattle.attacker_model.specs.Digests.{HasPlace, by_both}

-- what was entered stays where more is entered
pub still_entered : {T E : Type 0} (r : Result T E) (M N : BTreeSet (ℕ × ℕ)) (k : ℕ × ℕ) → OnOk r (Updates by_both M N k true) → OnErr r (IsUnchanged M N) → (n q : ℕ) → HasPlace M n q → HasPlace N n q
still_entered (Ok x) M N k u e n q h = u.0 (n, q) ∙ either (is_eq (by_both k (n, q))) (contains by_both M (n, q)) h
  where
    either : (b c : Bool) → c ≡ true → cond b true c ≡ true
    either true c g = refl
    either false c g = g
still_entered (Err x) M N k u e n q h = grind arith

-- another entry stays where one is taken out
pub others_stay : (M N : BTreeSet (ℕ × ℕ)) (m p : ℕ) → UpdatesBy by_both (by_both (m, p)) M N false → (n q : ℕ) → q < p → HasPlace M n q → HasPlace N n q
others_stay M N m p u n q l h = u.0 (n, q) ∙ other (is_eq (by_both (m, p) (n, q))) (contains by_both M (n, q)) (differs (nat_cmp m n) (nat_cmp p q) (sym (nat_cmp_is p q Greater l))) h
  where
    other : (b c : Bool) → b ≡ false → c ≡ true → cond b false c ≡ true
    other true c e g = absurd (cc)
    other false c e g = g

    differs : (o r : Ordering) → r ≡ Greater → is_eq (ordering_then o r) ≡ false
    differs Less r e = refl
    differs Equal r e = ap is_eq e
    differs Greater r e = refl

-- ---- the order of entries

same_number : (d : ℕ) → nat_cmp d d ≡ Equal
same_number d = sym (nat_cmp_is d d Equal refl)

not_greater : (m n : ℕ) → m ≤ n → is_gt (nat_cmp m n) ≡ false
not_greater m n l = grind (arith, nat_tests)

at_most : (m n : ℕ) → is_gt (nat_cmp m n) ≡ false → m ≤ n
at_most m n e = grind (arith, nat_tests)

later_place : (d m n : ℕ) → m ≤ n → is_gt (by_both (d, m) (d, n)) ≡ false
later_place d m n l = subst (λ (o : Ordering). is_gt (ordering_then o (nat_cmp m n)) ≡ false) (sym (same_number d)) (not_greater m n l)

place_at_most : (d m n : ℕ) → is_gt (by_both (d, m) (d, n)) ≡ false → m ≤ n
place_at_most d m n e = at_most m n (subst (λ (o : Ordering). is_gt (ordering_then o (nat_cmp m n)) ≡ false) (same_number d) e)

number_at_most : (d e m n : ℕ) → is_gt (by_both (d, m) (e, n)) ≡ false → d ≤ e
number_at_most d e m n h = at_most d e (first (nat_cmp d e) (nat_cmp m n) h)
  where
    first : (o r : Ordering) → is_gt (ordering_then o r) ≡ false → is_gt o ≡ false
    first Less r g = refl
    first Equal r g = refl
    first Greater r g = absurd (cc)

-- what the part of a set from an entry on says of the places of its number
module _ (s : BTreeSet (ℕ × ℕ)) (d m : ℕ) (r : List (ℕ × ℕ)) (i : IsKeyRangeOf by_both (Included (d, m)) Unbounded s r) where
  head_below : (k : ℕ × ℕ) (rest : List (ℕ × ℕ)) → r ≡ k ∷ rest → (q : ℕ) → m ≤ q → HasPlace s d q → is_gt (by_both k (d, q)) ≡ false
  head_below k rest e q l h = subst (λ (y : List (ℕ × ℕ)). IfSome (slice_get y 0) (λ x. is_gt (by_both x (d, q)) ≡ false)) e (i.2 (d, q) (later_place d m q l, tt) h)

  head_above : (k : ℕ × ℕ) (rest : List (ℕ × ℕ)) → r ≡ k ∷ rest → is_gt (by_both (d, m) k) ≡ false
  head_above k rest e = (subst (λ (y : List (ℕ × ℕ)). IfSome (slice_get y 0) (IsKeyInRange by_both (Included (d, m)) Unbounded s)) e i.1).0.0

  pub head_first : (k : ℕ × ℕ) (rest : List (ℕ × ℕ)) → r ≡ k ∷ rest → k.0 ≡ d → (q : ℕ) → m ≤ q → HasPlace s d q → k.1 ≤ q
  head_first k rest e g q l h = place_at_most d k.1 q (subst (λ (n : ℕ). is_gt (ordering_then (nat_cmp n d) (nat_cmp k.1 q)) ≡ false) g (head_below k rest e q l h))

  pub head_other : (k : ℕ × ℕ) (rest : List (ℕ × ℕ)) → r ≡ k ∷ rest → (k.0 ≡ d → ⊥) → (q : ℕ) → m ≤ q → HasPlace s d q → ⊥
  head_other k rest e g q l h = g (both k.0 d (number_at_most k.0 d k.1 q (head_below k rest e q l h)) (number_at_most d k.0 m k.1 (head_above k rest e)))
    where
      both : (a b : ℕ) → a ≤ b → b ≤ a → a ≡ b
      both a b f g = omega arith

  pub head_none : {T : Type 0} (o : Option T) (P : T → Type 0) (U : Type 0) → MatchOption o ((r ≡ []) × U) P → o ≡ None → (q : ℕ) → m ≤ q → HasPlace s d q → ⊥
  head_none None P U g e q l h = let f = i.5 g.0 (d, q) (later_place d m q l, tt) in cc
  head_none (Some x) P U g e q l h = cc
