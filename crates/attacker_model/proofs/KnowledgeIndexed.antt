-- Known terms that are looked up by their digests.
use Rattle.std.proofs.Common.{◌+◌, min, ◌≡◌, ◌↔◌, IsTrue, ℕ, List, [], ◌∷◌, ◌++◌, take, drop, Bool, true, false, ◌&&◌, if◌then◌else◌, suc, zero, ◌≤◌, ◌<◌, ◌⊎◌, length, get_or, arith, Result, Ok, Err, OnOk, refl, ap, sym, subst, ◌∙◌, inl, inr}
use Rattle.std.proofs.lemmas.List.{take_min}
use Rattle.std.specs.BTreeSet.{BTreeSet}
use Rattle.term_values.specs.Trees.{Among, Bytes, Tree, name, stamp, nonce, part, text, tag, blob, tuple, seal, check}
use Rattle.term_values.specs.declared.small.Key.{Key}
use Rattle.term_values.specs.declared.small.Key.TheVariants.{One, Two}
use Rattle.term_values.specs.SameBytes.{same_bytes}
use Rattle.term_values.proofs.Lists.{or_cases}
use Rattle.term_values.proofs.SameBytes.{same_start}
use Rattle.attacker_model.specs.Taken.{has_part, key_known, opened_by}
use Rattle.attacker_model.specs.Digests.{HasPlace, StandsAt, digest_bytes, digest_term, IsIndexed}

-- ---- places in a list

suc_below : (m n : ℕ) → m < n → suc m < suc n
suc_below m n l = omega arith

suc_most : (m n : ℕ) → suc m ≤ suc n → m ≤ n
suc_most m n l = omega arith

suc_least : (m n : ℕ) → m ≤ n → suc m ≤ suc n
suc_least m n l = omega arith

stands_same : (T : List Tree) (t u : Tree) (q : ℕ) → StandsAt t T q → StandsAt u T q → t ≡ u
stands_same [] t u q s r = elim s [ ]
stands_same (v ∷ T) t u zero s r = s ∙ sym r
stands_same (v ∷ T) t u (suc q) s r = stands_same T t u q s r

stands_at : (T : List Tree) (q : ℕ) (x : Tree) → q < length T → x ≡ get_or T q x → StandsAt x T q
stands_at [] q x l e = absurd (omega arith)
stands_at (y ∷ T) zero x l e = e
stands_at (y ∷ T) (suc q) x l e = stands_at T q x (omega arith) e

among_stands : (T : List Tree) (t : Tree) → Among t T → (q : ℕ) × StandsAt t T q
among_stands [] t i = elim i [ ]
among_stands (u ∷ T) t (inl e) = (0, e)
among_stands (u ∷ T) t (inr i) = let r = among_stands T t i in (suc r.0, r.1)

stands_take : (n : ℕ) (T : List Tree) (t : Tree) (q : ℕ) → StandsAt t (take n T) q → StandsAt t T q × (q < n)
stands_take zero T t q s = elim s [ ]
stands_take (suc n) [] t q s = elim s [ ]
stands_take (suc n) (u ∷ T) t zero s = (s, omega arith)
stands_take (suc n) (u ∷ T) t (suc q) s = let r = stands_take n T t q s in (r.0, suc_below q n r.1)

stands_last : (T : List Tree) (t u : Tree) (q : ℕ) → StandsAt u (T ++ t ∷ []) q → StandsAt u T q ⊎ ((u ≡ t) × (q ≡ length T))
stands_last [] t u zero s = inr (s, refl)
stands_last [] t u (suc q) s = elim s [ ]
stands_last (v ∷ T) t u zero s = inl s
stands_last (v ∷ T) t u (suc q) s = elim (stands_last T t u q s) [ inl j ↦ inl j | inr p ↦ inr (p.0, ap suc p.1) ]

-- ---- terms that come and go

pub none_indexed : (P L : BTreeSet (ℕ × ℕ)) → IsIndexed [] P L
none_indexed P L = record { found = λ q t s. elim s [ ]; locked = λ q k t p s h. elim s [ ] }

pub fewer_indexed : (T : List Tree) (P L Q M : BTreeSet (ℕ × ℕ)) (c : ℕ) → IsIndexed T P L → ((n q : ℕ) → q < c → HasPlace P n q → HasPlace Q n q) → ((n q : ℕ) → q < c → HasPlace L n q → HasPlace M n q) → IsIndexed (take c T) Q M
fewer_indexed T P L Q M c x f g = record {
  found = λ q t s. let r = stands_take c T t q s in f (digest_term 1 t) q r.1 (x.found q t r.0);
  locked = λ q k t p s h. let r = stands_take c T (seal k t) q s in g (digest_bytes 1 p) q r.1 (x.locked q k t p r.0 h);
}

pub still_indexed : (S T : List Tree) (P L Q M : BTreeSet (ℕ × ℕ)) → S ≡ T → IsIndexed T P L → ((n q : ℕ) → HasPlace P n q → HasPlace Q n q) → ((n q : ℕ) → HasPlace L n q → HasPlace M n q) → IsIndexed S Q M
still_indexed S T P L Q M e x f g = record {
  found = λ q t s. f (digest_term 1 t) q (x.found q t (subst (λ (K : List Tree). StandsAt t K q) e s));
  locked = λ q k t p s h. g (digest_bytes 1 p) q (x.locked q k t p (subst (λ (K : List Tree). StandsAt (seal k t) K q) e s) h);
}

pub indexed_as : (S T : List Tree) (P L : BTreeSet (ℕ × ℕ)) → S ≡ T → IsIndexed S P L → IsIndexed T P L
indexed_as S T P L e x = subst (λ (K : List Tree). IsIndexed K P L) e x

one_indexed : (T : List Tree) (t : Tree) (P L Q M : BTreeSet (ℕ × ℕ)) → IsIndexed T P L → ((n q : ℕ) → HasPlace P n q → HasPlace Q n q) → ((n q : ℕ) → HasPlace L n q → HasPlace M n q) → HasPlace Q (digest_term 1 t) (length T) → ((k : Key) (u : Tree) (p : Bytes) → t ≡ seal k u → has_part k p ≡ true → HasPlace M (digest_bytes 1 p) (length T)) → IsIndexed (T ++ t ∷ []) Q M
one_indexed T t P L Q M x f g here locks = record {
  found = λ q u s. elim (stands_last T t u q s) [
    | inl j ↦ f (digest_term 1 u) q (x.found q u j)
    | inr e ↦ subst (λ (v : Tree). HasPlace Q (digest_term 1 v) q) (sym e.0) (subst (λ (n : ℕ). HasPlace Q (digest_term 1 t) n) (sym e.1) here)
  ];
  locked = λ q k u p s h. elim (stands_last T t (seal k u) q s) [
    | inl j ↦ g (digest_bytes 1 p) q (x.locked q k u p j h)
    | inr e ↦ subst (λ (n : ℕ). HasPlace M (digest_bytes 1 p) n) (sym e.1) (locks k u p (sym e.0) h)
  ];
}

pub next_indexed : (S T : List Tree) (t : Tree) (P L Q M : BTreeSet (ℕ × ℕ)) (m : ℕ) → S ≡ T ++ t ∷ [] → m ≡ length T → IsIndexed T P L → ((n q : ℕ) → HasPlace P n q → HasPlace Q n q) → ((n q : ℕ) → HasPlace L n q → HasPlace M n q) → HasPlace Q (digest_term 1 t) m → ((k : Key) (u : Tree) (p : Bytes) → t ≡ seal k u → has_part k p ≡ true → HasPlace M (digest_bytes 1 p) m) → IsIndexed S Q M
next_indexed S T t P L Q M m e d x f g here locks =
    subst (λ (K : List Tree). IsIndexed K Q M) (sym e) (one_indexed T t P L Q M x f g (subst (λ (n : ℕ). HasPlace Q (digest_term 1 t) n) d here) (λ k u p i h. subst (λ (n : ℕ). HasPlace M (digest_bytes 1 p) n) d (locks k u p i h)))

-- ---- whether a term is known

stands_within : (T : List Tree) (t : Tree) (q : ℕ) → StandsAt t T q → q < length T
stands_within [] t q s = elim s [ ]
stands_within (u ∷ T) t zero s = omega arith
stands_within (u ∷ T) t (suc q) s = suc_below q (length T) (stands_within T t q s)

late : (a b : ℕ) → a < b → b ≤ a → ⊥
late a b l m = omega arith

least : (a b c : ℕ) → a ≤ b → b ≤ c → a ≤ c
least a b c l m = omega arith

-- a look from the place m on under a digest found the place p
module _ (T : List Tree) (t : Tree) (s : BTreeSet (ℕ × ℕ)) (n m p : ℕ) (e : n ≡ digest_term 1 t) (f : (q : ℕ) → m ≤ q → HasPlace s n q → p ≤ q) (g : (q : ℕ) → StandsAt t T q → HasPlace s (digest_term 1 t) q → m ≤ q) (q : ℕ) (r : StandsAt t T q) (h : HasPlace s (digest_term 1 t) q) where
  at_least : p ≤ q
  at_least = f q (g q r h) (subst (λ (d : ℕ). HasPlace s d q) (sym e) h)

  -- it is behind the last term
  pub not_behind : length T ≤ p → ⊥
  not_behind l = late q (length T) (stands_within T t q r) (least (length T) p q l at_least)

  -- another term stands there
  pub place_passed : (u : Tree) → p < length T → u ≡ get_or T p u → (t ≡ u → ⊥) → p + 1 ≤ q
  place_passed u l d other = further (λ i. other (stands_same T t u p (subst (λ (k : ℕ). StandsAt t T k) i r) (stands_at T p u l d))) at_least
    where
      further : (q ≡ p → ⊥) → p ≤ q → p + 1 ≤ q
      further ne k = omega arith

-- F are the first terms of those that are seen
pub known_answer : (S T F W : List Tree) (P L : BTreeSet (ℕ × ℕ)) (n m c : ℕ) (t : Tree) (b : Bool) → S ≡ T → IsIndexed S P L → F ≡ take m W → W ≡ T → m ≡ min n c → c ≡ length T → (IsTrue b → Among t F) → ((q : ℕ) → StandsAt t F q → HasPlace P (digest_term 1 t) q → IsTrue b) → (IsTrue b ↔ Among t (take n T))
known_answer S T F W P L n m c t b v x e w h d f g =
    ((λ i. subst (λ (K : List Tree). Among t K) first (f i)), λ i. let r = among_stands (take n T) t i in g r.0 (subst (λ (K : List Tree). StandsAt t K r.0) (sym first) r.1) ((indexed_as S T P L v x).found r.0 t (stands_take n T t r.0 r.1).0))
  where
    first : F ≡ take n T
    first = e ∙ ap (λ (K : List Tree). take m K) w ∙ ap (λ (a : ℕ). take a T) (h ∙ ap (min n) d) ∙ take_min n T

-- ---- what a part opens

-- no term before the place n, and none after m, is a seal under a key with this part
module _ (K : List Tree) (p : Bytes) where
  skipped : (t : Tree) (T : List Tree) → ((k : Key) (u : Tree) → seal k u ≡ t → has_part k p ≡ true → ⊥) → opened_by K p (t ∷ T) ≡ opened_by K p T
  skipped (seal k v) T f = choice (has_part k p) (key_known (part p ∷ K) k) (f k v refl)
    where
      choice : (b c : Bool) → (b ≡ true → ⊥) → (if b && c then v ∷ opened_by K p T else opened_by K p T) ≡ opened_by K p T
      choice true c h = absurd (h refl)
      choice false c h = refl
  skipped (name n) T f = refl
  skipped (stamp n) T f = refl
  skipped (nonce n) T f = refl
  skipped (part n) T f = refl
  skipped (text n) T f = refl
  skipped (tag n) T f = refl
  skipped (blob n) T f = refl
  skipped (tuple n) T f = refl
  skipped (check k n) T f = refl

  none_from : (T : List Tree) (m : ℕ) → ((q : ℕ) (k : Key) (u : Tree) → m ≤ q → StandsAt (seal k u) T q → has_part k p ≡ true → ⊥) → opened_by K p (drop m T) ≡ []
  none_from [] zero f = refl
  none_from [] (suc m) f = refl
  none_from (t ∷ T) zero f = skipped t T (λ k u e h. f 0 k u (omega arith) e h) ∙ none_from T zero (λ q k u l s h. f (suc q) k u (omega arith) s h)
  none_from (t ∷ T) (suc m) f = none_from T m (λ q k u l s h. f (suc q) k u (suc_least m q l) s h)

  passed_to : (T : List Tree) (m n : ℕ) → m ≤ n → ((q : ℕ) (k : Key) (u : Tree) → m ≤ q → q < n → StandsAt (seal k u) T q → has_part k p ≡ true → ⊥) → opened_by K p (drop m T) ≡ opened_by K p (drop n T)
  passed_to [] zero zero l f = refl
  passed_to [] zero (suc n) l f = refl
  passed_to [] (suc m) zero l f = refl
  passed_to [] (suc m) (suc n) l f = refl
  passed_to (t ∷ T) zero zero l f = refl
  passed_to (t ∷ T) zero (suc n) l f = skipped t T (λ k u e h. f 0 k u (omega arith) (omega arith) e h) ∙ passed_to T zero n (omega arith) (λ q k u i j s h. f (suc q) k u (omega arith) (suc_below q n j) s h)
  passed_to (t ∷ T) (suc m) zero l f = absurd (omega arith)
  passed_to (t ∷ T) (suc m) (suc n) l f = passed_to T m n (suc_most m n l) (λ q k u i j s h. f (suc q) k u (suc_least m q i) (suc_below q n j) s h)

module _ (T : List Tree) (P L : BTreeSet (ℕ × ℕ)) (p : Bytes) (d m : ℕ) (x : IsIndexed T P L) (e : d ≡ digest_bytes 1 p) where
  locked_at : (q : ℕ) (k : Key) (u : Tree) → StandsAt (seal k u) T q → has_part k p ≡ true → HasPlace L d q
  locked_at q k u s h = subst (λ (a : ℕ). HasPlace L a q) (sym e) (x.locked q k u p s h)

  -- the first place of the part's digest
  pub opened_from : (n : ℕ) → m ≤ n → ((q : ℕ) → m ≤ q → HasPlace L d q → n ≤ q) → opened_by T p (drop m T) ≡ opened_by T p (drop n T)
  opened_from n l f = passed_to T p T m n l (λ q k u i j s h. late q n j (f q i (locked_at q k u s h)))

  -- it is behind the last term
  pub opened_none_behind : (n c : ℕ) → c ≡ length T → c ≤ n → ((q : ℕ) → m ≤ q → HasPlace L d q → n ≤ q) → opened_by T p (drop m T) ≡ []
  opened_none_behind n c h b f = none_from T p T m (λ q k u i s h. late q (length T) (stands_within T (seal k u) q s) (least (length T) n q after (f q i (locked_at q k u s h))))
    where
      after : length T ≤ n
      after = omega arith

  -- there is none
  pub opened_none : ((q : ℕ) → m ≤ q → HasPlace L d q → ⊥) → opened_by T p (drop m T) ≡ []
  opened_none f = none_from T p T m (λ q k u i s h. f q i (locked_at q k u s h))

-- ---- entries under the parts of a key

-- a part with the same bytes has the same entry
same_lock : (L : BTreeSet (ℕ × ℕ)) (q p : Bytes) (n m : ℕ) → n ≡ digest_bytes 1 q → HasPlace L n m → same_bytes q p ≡ true → HasPlace L (digest_bytes 1 p) m
same_lock L q p n m e h s = subst (λ (x : Bytes). HasPlace L (digest_bytes 1 x) m) (same_start q p s) (subst (λ (a : ℕ). HasPlace L a m) e h)

pub one_locks : {T E : Type 0} (r : Result T E) (k : Key) (q : Bytes) (n m : ℕ) (L : BTreeSet (ℕ × ℕ)) → k ≡ One q → n ≡ digest_bytes 1 q → OnOk r (HasPlace L n m) → OnOk r ((p : Bytes) → has_part k p ≡ true → HasPlace L (digest_bytes 1 p) m)
one_locks (Ok x) k q n m L e d h = λ p g. same_lock L q p n m d h (subst (λ (y : Key). has_part y p ≡ true) e g)
one_locks (Err x) k q n m L e d h = h

pub two_locks : {T E : Type 0} (r : Result T E) (k : Key) (q s : Bytes) (a n m : ℕ) (M L : BTreeSet (ℕ × ℕ)) → k ≡ Two q s → a ≡ digest_bytes 1 q → n ≡ digest_bytes 1 s → HasPlace M a m → ((b x : ℕ) → HasPlace M b x → HasPlace L b x) → OnOk r (HasPlace L n m) → OnOk r ((p : Bytes) → has_part k p ≡ true → HasPlace L (digest_bytes 1 p) m)
two_locks (Ok x) k q s a n m M L e d f h keep g =
    λ p i. elim (or_cases (same_bytes q p) (same_bytes s p) (subst (λ (y : Key). has_part y p ≡ true) e i)) [ inl j ↦ same_lock L q p a m d (keep a m h) j | inr j ↦ same_lock L s p n m f g j ]
two_locks (Err x) k q s a n m M L e d f h keep g = g

pub no_yes : IsTrue false → ⊥
no_yes e = cc
