-- A term is derivable exactly where it has a derivation of some height.
use Rattle.std.proofs.Common.{◌≡◌, ℕ, zero, suc, ◌+◌, List, inl, inr, subst, arith}
use Rattle.term_values.specs.declared.small.Key.{Key}
use Rattle.term_values.specs.declared.small.Key.TheVariants.{One, Two}
use Rattle.term_values.specs.Trees.{Tree, name, stamp, nonce, part, text, tag, blob, tuple, seal, check, Trees, none, item}
use Rattle.attacker_model.specs.Derivation.{Derivable, known, any_name, any_stamp, any_nonce, any_text, any_tag, any_blob, tupled, taken_out, sealed, checked, opened, AllDerivable, no_items, an_item, KeyDerivable, by_part, by_parts}
use Rattle.attacker_model.specs.Heights.{AllItems, OfKey, Builds, HasHeight}

module _ (H J : Tree → Type 0) (f : (t : Tree) → H t → J t) where
  items_more : (ts : Trees) → AllItems H ts → AllItems J ts
  items_more none a = tt
  items_more (item t ts) a = (f t a.0, items_more ts a.1)

  key_more : (k : Key) → OfKey H k → OfKey J k
  key_more (One p) a = f (part p) a
  key_more (Two p q) a = (f (part p) a.0, f (part q) a.1)

  builds_more : (t : Tree) → Builds H t → Builds J t
  builds_more (part p) b = b
  builds_more (tuple ts) b = items_more ts b
  builds_more (seal k t) b = (key_more k b.0, f t b.1)
  builds_more (check k t) b = (key_more k b.0, f t b.1)
  builds_more (name n) b = tt
  builds_more (stamp s) b = tt
  builds_more (nonce x) b = tt
  builds_more (text x) b = tt
  builds_more (tag x) b = tt
  builds_more (blob x) b = tt

-- one more step of height
higher : (K : List Tree) (n : ℕ) (t : Tree) → HasHeight K n t → HasHeight K (suc n) t
higher K zero t h = elim h [ ]
higher K (suc n) t (inl (inl i)) = inl (inl i)
higher K (suc n) t (inl (inr b)) = inl (inr (builds_more (HasHeight K n) (HasHeight K (suc n)) (λ u. higher K n u) t b))
higher K (suc n) t (inr (inl h)) = inr (inl (h.0, h.1, higher K n (tuple h.0) h.2))
higher K (suc n) t (inr (inr h)) = inr (inr (h.0, higher K n (seal h.0 t) h.1, key_more (HasHeight K n) (HasHeight K (suc n)) (λ u. higher K n u) h.0 h.2))

much_higher : (K : List Tree) (m n : ℕ) (t : Tree) → HasHeight K n t → HasHeight K (m + n) t
much_higher K zero n t h = let e : n ≡ zero + n = omega arith in subst (λ (k : ℕ). HasHeight K k t) e h
much_higher K (suc m) n t h = let e : suc (m + n) ≡ suc m + n = omega arith in subst (λ (k : ℕ). HasHeight K k t) e (higher K (m + n) t (much_higher K m n t h))

left : (K : List Tree) (m n : ℕ) (t : Tree) → HasHeight K m t → HasHeight K (m + n) t
left K m n t h = let e : n + m ≡ m + n = omega arith in subst (λ (k : ℕ). HasHeight K k t) e (much_higher K n m t h)

mutual
  pub to_height : (K : List Tree) (t : Tree) → Derivable K t → (n : ℕ) × HasHeight K n t
  to_height K t (known i) = (1, inl (inl i))
  to_height K t any_name = (1, inl (inr tt))
  to_height K t any_stamp = (1, inl (inr tt))
  to_height K t any_nonce = (1, inl (inr tt))
  to_height K t any_text = (1, inl (inr tt))
  to_height K t any_tag = (1, inl (inr tt))
  to_height K t any_blob = (1, inl (inr tt))
  to_height K t (tupled {ts = ts} d) = let r = to_heights K ts d in (suc r.0, inl (inr r.1))
  to_height K t (taken_out ts i d) = let r = to_height K (tuple ts) d in (suc r.0, inr (inl (ts, i, r.1)))
  to_height K t (sealed {k = k} {t = u} e d) = let r = to_key K k e in let s = to_height K u d in (suc (r.0 + s.0), inl (inr (key_more (HasHeight K r.0) (HasHeight K (r.0 + s.0)) (λ v. left K r.0 s.0 v) k r.1, much_higher K r.0 s.0 u s.1)))
  to_height K t (checked {k = k} {t = u} e d) = let r = to_key K k e in let s = to_height K u d in (suc (r.0 + s.0), inl (inr (key_more (HasHeight K r.0) (HasHeight K (r.0 + s.0)) (λ v. left K r.0 s.0 v) k r.1, much_higher K r.0 s.0 u s.1)))
  to_height K t (opened k d e) = let r = to_key K k e in let s = to_height K (seal k t) d in (suc (r.0 + s.0), inr (inr (k, much_higher K r.0 s.0 (seal k t) s.1, key_more (HasHeight K r.0) (HasHeight K (r.0 + s.0)) (λ v. left K r.0 s.0 v) k r.1)))

  pub to_heights : (K : List Tree) (ts : Trees) → AllDerivable K ts → (n : ℕ) × AllItems (HasHeight K n) ts
  to_heights K ts no_items = (0, tt)
  to_heights K ts (an_item {t = u} {ts = us} d ds) = let r = to_height K u d in let s = to_heights K us ds in (r.0 + s.0, (left K r.0 s.0 u r.1, items_more (HasHeight K s.0) (HasHeight K (r.0 + s.0)) (λ v. much_higher K r.0 s.0 v) us s.1))

  pub to_key : (K : List Tree) (k : Key) → KeyDerivable K k → (n : ℕ) × OfKey (HasHeight K n) k
  to_key K k (by_part {p = p} d) = to_height K (part p) d
  to_key K k (by_parts {p = p} {q = q} d e) = let r = to_height K (part p) d in let s = to_height K (part q) e in (r.0 + s.0, (left K r.0 s.0 (part p) r.1, much_higher K r.0 s.0 (part q) s.1))

module _ (K : List Tree) (H : Tree → Type 0) (f : (t : Tree) → H t → Derivable K t) where
  from_items : (ts : Trees) → AllItems H ts → AllDerivable K ts
  from_items none a = no_items
  from_items (item t ts) a = an_item (f t a.0) (from_items ts a.1)

  from_key : (k : Key) → OfKey H k → KeyDerivable K k
  from_key (One p) a = by_part (f (part p) a)
  from_key (Two p q) a = by_parts (f (part p) a.0) (f (part q) a.1)

  from_builds : (t : Tree) → Builds H t → Derivable K t
  from_builds (part p) b = elim b [ ]
  from_builds (tuple ts) b = tupled (from_items ts b)
  from_builds (seal k t) b = sealed (from_key k b.0) (f t b.1)
  from_builds (check k t) b = checked (from_key k b.0) (f t b.1)
  from_builds (name n) b = any_name
  from_builds (stamp s) b = any_stamp
  from_builds (nonce x) b = any_nonce
  from_builds (text x) b = any_text
  from_builds (tag x) b = any_tag
  from_builds (blob x) b = any_blob

pub from_height : (K : List Tree) (n : ℕ) (t : Tree) → HasHeight K n t → Derivable K t
from_height K zero t h = elim h [ ]
from_height K (suc n) t (inl (inl i)) = known i
from_height K (suc n) t (inl (inr b)) = from_builds K (HasHeight K n) (λ u. from_height K n u) t b
from_height K (suc n) t (inr (inl h)) = taken_out h.0 h.1 (from_height K n (tuple h.0) h.2)
from_height K (suc n) t (inr (inr h)) = opened h.0 (from_height K n (seal h.0 t) h.1) (from_key K (HasHeight K n) (λ u. from_height K n u) h.0 h.2)
