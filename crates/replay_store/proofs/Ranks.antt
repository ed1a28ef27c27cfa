-- How many keys of a list pass a test.
use Rattle.std.proofs.Common.{◌≡◌, ◌<◌, ◌≤◌, ℕ, ◌+◌, Bool, true, false, List, [], ◌∷◌, nat_lt, nat_le, ◌==◌, cond, count_by, refl, sym, ◌∙◌, ap, arith, inl, inr, ◌⊎◌, filter, ◌&&◌, ltb-true}
use Rattle.std.proofs.lemmas.List.Sums.{sum_by-cons}
use Rattle.std.proofs.lemmas.Bool.{cases_order, lt-ltb, le-ltb, le-leb, lt-leb, eq-eqb, ne_eqb}
use Rattle.replay_store.specs.Windows.{below, up_to}

pub count_cons : {X : Type 0} (p : X → Bool) (x : X) (xs : List X) → count_by p (x ∷ xs) ≡ cond (p x) 1 0 + count_by p xs
count_cons p x xs = sum_by-cons (λ y. cond (p y) 1 0) x xs

one_test : (k key : ℕ) → cond (nat_le k key) 1 0 ≡ cond (nat_lt k key) 1 0 + cond (k == key) 1 0
one_test k key = go (cases_order k key)
  where
    go : (k ≡ key) ⊎ ((k < key) ⊎ (key < k)) → cond (nat_le k key) 1 0 ≡ cond (nat_lt k key) 1 0 + cond (k == key) 1 0
    go (inl e) = rw (le-leb k key (omega arith), le-ltb k key (omega arith), eq-eqb k key e) refl
    go (inr (inl e)) = rw (le-leb k key (omega arith), lt-ltb k key e, ne_eqb k key (λ h. omega (arith, h, e))) refl
    go (inr (inr e)) = rw (lt-leb k key e, le-ltb k key (omega arith), ne_eqb k key (λ h. omega (arith, h, e))) refl

pub up_to_is : (key : ℕ) (ks : List ℕ) → up_to key ks ≡ below key ks + count_by (λ k. k == key) ks
up_to_is key [] = refl
up_to_is key (k ∷ ks) =
    let a = count_cons (λ x. nat_le x key) k ks in
    let b = count_cons (λ x. nat_lt x key) k ks in
    let c = count_cons (λ x. x == key) k ks in
    let d = one_test k key in
    let e = up_to_is key ks in
    omega (arith, a, b, c, d, e)

-- fewer pass the narrower test
pub fewer : (p q : ℕ → Bool) → ((k : ℕ) → p k ≡ true → q k ≡ true) → (ks : List ℕ) → count_by p ks ≤ count_by q ks
fewer p q f [] = omega arith
fewer p q f (k ∷ ks) =
    let a = count_cons p k ks in
    let b = count_cons q k ks in
    let c = one (p k) (q k) (f k) in
    let d = fewer p q f ks in
    omega (arith, a, b, c, d)
  where
    one : (x y : Bool) → (x ≡ true → y ≡ true) → cond x 1 0 ≤ cond y 1 0
    one true y g = rw (g refl) (omega arith)
    one false y g = omega arith

-- a count after a filter
pub count_filter : (p q : ℕ → Bool) (ks : List ℕ) → count_by p (filter q ks) ≡ count_by (λ k. q k && p k) ks
count_filter p q [] = refl
count_filter p q (k ∷ ks) = one (q k) (count_filter p q ks) ∙ sym (count_cons (λ x. q x && p x) k ks)
  where
    one : (b : Bool) → count_by p (filter q ks) ≡ count_by (λ x. q x && p x) ks → count_by p (cond b (k ∷ filter q ks) (filter q ks)) ≡ cond (b && p k) 1 0 + count_by (λ x. q x && p x) ks
    one true more = count_cons p k (filter q ks) ∙ ap (λ n. cond (p k) 1 0 + n) more
    one false more = omega (arith, more)

pub below_up_to : (lo hi : ℕ) → lo ≤ hi + 1 → (ks : List ℕ) → below lo ks ≤ up_to hi ks
below_up_to lo hi h ks = fewer (λ k. nat_lt k lo) (λ k. nat_le k hi) (λ k e. let l : k < lo = ltb-true k lo e in le-leb k hi (omega arith)) ks
