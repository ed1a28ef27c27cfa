-- Terms that hold a value whose draw has not come.
use Rattle.std.proofs.Common.{◌≡◌, inl, inr, ℕ, zero, suc, ◌<◌, ◌≤◌, ◌+◌, ◌-◌, ◌*◌, ◌^◌, List, [], ◌∷◌, drop, get_or, length, min, nat_lt, Bool, true, false, refl, sym, ap, subst, ◌∙◌, arith}
use Rattle.std.proofs.lemmas.Bool.{ltb-true, ltb-false}
use Rattle.term_values.specs.Trees.{Bytes, Tree, Trees, name, stamp, nonce, part, text, tag, blob, tuple, seal, check, none, item, trees, Occurs, OccursInItems, StandsInKey}
use Rattle.term_values.specs.declared.small.Key.{Key}
use Rattle.term_values.specs.declared.small.Key.TheVariants.{One, Two}
use Rattle.world_run.specs.Born.{number_from, IsUnborn, HasUnborn, KeyHoldsLater, HoldsLater, ItemsHoldLater}

-- ---- items

pub holds_in_item : (n : ℕ) (ts : List Tree) (k : ℕ) (x : Tree) → k < length ts → x ≡ get_or ts k x → HoldsLater n x → ItemsHoldLater n (trees ts)
holds_in_item n [] k x lt e h = absurd (omega arith)
holds_in_item n (t ∷ ts) zero x lt e h = inl (subst (HoldsLater n) e h)
holds_in_item n (t ∷ ts) (suc k) x lt e h = inr (holds_in_item n ts k x (omega arith) e h)

-- what is held from item k on, and not by item k, is held after it
pub held_by_rest : (n : ℕ) (ts : List Tree) (k : ℕ) (x : Tree) → k < length ts → x ≡ get_or ts k x → (HoldsLater n x → ⊥) → ItemsHoldLater n (trees (drop k ts)) → ItemsHoldLater n (trees (drop (suc k) ts))
held_by_rest n [] k x lt e absent h = absurd (omega arith)
held_by_rest n (t ∷ ts) zero x lt e absent (inl h) = absurd (absent (subst (HoldsLater n) (sym e) h))
held_by_rest n (t ∷ ts) zero x lt e absent (inr h) = h
held_by_rest n (t ∷ ts) (suc k) x lt e absent h = held_by_rest n ts k x (omega arith) e absent h

pub held_by_none : (n : ℕ) (ts : List Tree) (k : ℕ) → length ts ≤ k → ItemsHoldLater n (trees (drop k ts)) → ⊥
held_by_none n [] zero le h = h
held_by_none n [] (suc k) le h = h
held_by_none n (t ∷ ts) zero le h = omega arith
held_by_none n (t ∷ ts) (suc k) le h = held_by_none n ts k (omega arith) h

-- ---- a term holds such a value exactly where one occurs in it

mutual
  pub held : (n : ℕ) (t : Tree) → HoldsLater n t → HasUnborn n t
  held n (nonce b) h = (nonce b, refl, h)
  held n (part p) h = (part p, refl, h)
  held n (tuple ts) h = let r = held_in n ts h in (r.0, inr r.1, r.2)
  held n (seal (One p) t) (inl h) = (part p, inr (inl refl), h)
  held n (seal (Two p q) t) (inl (inl h)) = (part p, inr (inl (inl refl)), h)
  held n (seal (Two p q) t) (inl (inr h)) = (part q, inr (inl (inr refl)), h)
  held n (seal k t) (inr h) = let r = held n t h in (r.0, inr (inr r.1), r.2)
  held n (check (One p) t) (inl h) = (part p, inr (inl refl), h)
  held n (check (Two p q) t) (inl (inl h)) = (part p, inr (inl (inl refl)), h)
  held n (check (Two p q) t) (inl (inr h)) = (part q, inr (inl (inr refl)), h)
  held n (check k t) (inr h) = let r = held n t h in (r.0, inr (inr r.1), r.2)
  held n (name m) h = absurd h
  held n (stamp m) h = absurd h
  held n (text m) h = absurd h
  held n (tag m) h = absurd h
  held n (blob m) h = absurd h

  pub held_in : (n : ℕ) (ts : Trees) → ItemsHoldLater n ts → (v : Tree) × OccursInItems v ts × IsUnborn n v
  held_in n none h = absurd h
  held_in n (item t ts) (inl h) = let r = held n t h in (r.0, inl r.1, r.2)
  held_in n (item t ts) (inr h) = let r = held_in n ts h in (r.0, inr r.1, r.2)

is_it : (n : ℕ) (v t : Tree) → v ≡ t → IsUnborn n v → IsUnborn n t
is_it n v t e u = subst (IsUnborn n) e u

in_key : (n : ℕ) (k : Key) (v : Tree) → StandsInKey v k → IsUnborn n v → KeyHoldsLater n k
in_key n (One p) v e u = is_it n v (part p) e u
in_key n (Two p q) v (inl e) u = inl (is_it n v (part p) e u)
in_key n (Two p q) v (inr e) u = inr (is_it n v (part q) e u)

mutual
  pub holds : (n : ℕ) (t v : Tree) → Occurs v t → IsUnborn n v → HoldsLater n t
  holds n (nonce b) v e u = is_it n v (nonce b) e u
  holds n (part p) v e u = is_it n v (part p) e u
  holds n (tuple ts) v (inl e) u = absurd (is_it n v (tuple ts) e u)
  holds n (tuple ts) v (inr h) u = holds_in n ts v h u
  holds n (seal k t) v (inl e) u = absurd (is_it n v (seal k t) e u)
  holds n (seal k t) v (inr (inl h)) u = inl (in_key n k v h u)
  holds n (seal k t) v (inr (inr h)) u = inr (holds n t v h u)
  holds n (check k t) v (inl e) u = absurd (is_it n v (check k t) e u)
  holds n (check k t) v (inr (inl h)) u = inl (in_key n k v h u)
  holds n (check k t) v (inr (inr h)) u = inr (holds n t v h u)
  holds n (name m) v e u = is_it n v (name m) e u
  holds n (stamp m) v e u = is_it n v (stamp m) e u
  holds n (text m) v e u = is_it n v (text m) e u
  holds n (tag m) v e u = is_it n v (tag m) e u
  holds n (blob m) v e u = is_it n v (blob m) e u

  pub holds_in : (n : ℕ) (ts : Trees) (v : Tree) → OccursInItems v ts → IsUnborn n v → ItemsHoldLater n ts
  holds_in n none v h u = absurd h
  holds_in n (item t ts) v (inl h) u = inl (holds n t v h u)
  holds_in n (item t ts) v (inr h) u = inr (holds_in n ts v h u)

pub unborn_of : (n : ℕ) (t : Tree) → HoldsLater n t → HasUnborn n t
unborn_of n t h = held n t h

pub of_unborn : (n : ℕ) (t : Tree) → HasUnborn n t → HoldsLater n t
of_unborn n t h = holds n t h.0 h.1 h.2

-- ---- numbers

pub grows : (n m : ℕ) (bs : Bytes) → n ≤ m → number_from n bs ≤ number_from m bs
grows n m [] le = le
grows n m (b ∷ bs) le = grows (n * 256 + b) (m * 256 + b) bs (omega arith)

pub at_least : (n : ℕ) (bs : Bytes) → n ≤ number_from n bs
at_least n [] = omega arith
at_least n (b ∷ bs) = let e = at_least (n * 256 + b) bs in omega (arith, e)

-- what is read stands at the greatest number of 64 bits once it comes there
pub held_down : (n : ℕ) (bs : Bytes) → min (number_from (min n (2 ^ 64 - 1)) bs) (2 ^ 64 - 1) ≡ min (number_from n bs) (2 ^ 64 - 1)
held_down n bs = go (nat_lt (2 ^ 64 - 1) n) refl
  where
    go : (b : Bool) → nat_lt (2 ^ 64 - 1) n ≡ b → min (number_from (min n (2 ^ 64 - 1)) bs) (2 ^ 64 - 1) ≡ min (number_from n bs) (2 ^ 64 - 1)
    go true e = let gt = ltb-true (2 ^ 64 - 1) n e in let x = at_least n bs in let y = at_least (min n (2 ^ 64 - 1)) bs in omega (arith, gt, x, y)
    go false e = let le = ltb-false (2 ^ 64 - 1) n e in let same : min n (2 ^ 64 - 1) ≡ n = omega (arith, le) in ap (λ m. min (number_from m bs) (2 ^ 64 - 1)) same

one_more : (n i x d : ℕ) (bs : Bytes) → i < length bs → x ≡ get_or bs i d → number_from n (drop i bs) ≡ number_from (n * 256 + x) (drop (suc i) bs)
one_more n zero x d [] lt e = absurd (omega arith)
one_more n zero x d (b ∷ bs) lt e = ap (λ y. number_from (n * 256 + y) bs) (sym e)
one_more n (suc i) x d [] lt e = absurd (omega arith)
one_more n (suc i) x d (b ∷ bs) lt e = one_more n i x d bs (omega arith) e

-- one more byte is read
pub read_on : (n i x d m r : ℕ) (bs : Bytes) → i < length bs → x ≡ get_or bs i d → m ≡ min (n * 256) (2 ^ 64 - 1) → r ≡ min (m + x) (2 ^ 64 - 1) → min (number_from r (drop (i + 1) bs)) (2 ^ 64 - 1) ≡ min (number_from n (drop i bs)) (2 ^ 64 - 1)
read_on n i x d m r bs lt e times is =
    let next : i + 1 ≡ suc i = omega arith in
    let low : r ≡ min (n * 256 + x) (2 ^ 64 - 1) = omega (arith, is, times) in
    ap (λ k. min (number_from k (drop (i + 1) bs)) (2 ^ 64 - 1)) low
    ∙ held_down (n * 256 + x) (drop (i + 1) bs)
    ∙ ap (λ k. min (number_from (n * 256 + x) (drop k bs)) (2 ^ 64 - 1)) next
    ∙ ap (λ k. min k (2 ^ 64 - 1)) (sym (one_more n i x d bs lt e))

pub all_read : (n i : ℕ) (bs : Bytes) → length bs ≤ i → number_from n (drop i bs) ≡ n
all_read n zero [] le = refl
all_read n (suc i) [] le = refl
all_read n zero (b ∷ bs) le = absurd (omega arith)
all_read n (suc i) (b ∷ bs) le = all_read n i bs (omega arith)
