-- Taking terms apart ends: what waits, with the bodies of known seals that are not opened, gets less.
use Rattle.std.proofs.Common.{◌≡◌, ℕ, ◌+◌, ◌≤◌, List, [], ◌∷◌, ◌++◌, Bool, true, false, ◌&&◌, if◌then◌else◌, refl, ap, subst, inl, inr, arith}
use Rattle.term_values.specs.Trees.{Among, Bytes, Tree, name, stamp, nonce, part, text, tag, blob, tuple, seal, check, trees, size_of, sizes_of}
use Rattle.term_values.specs.SameBytes.{same_bytes}
use Rattle.term_values.specs.declared.small.Key.{Key}
use Rattle.term_values.specs.declared.small.Key.TheVariants.{One, Two}
use Rattle.term_values.proofs.Lists.{among_left, and_left, and_right, or_cases}
use Rattle.term_values.proofs.SameBytes.{same_start}
use Rattle.term_values.proofs.Trees.{trees_untrees}
use Rattle.attacker_model.specs.Saturated.{KeyKnown}
use Rattle.attacker_model.specs.Taken.{key_known, has_part, opened_by, comes_out}
use Rattle.attacker_model.proofs.KnowledgeTaking.{key_known_is, key_known_if, key_more, to_end}

-- what a known term may still give
abbrev pub weight : List Tree → Tree → ℕ
weight K (seal k t) = if key_known K k then 0 else size_of t + 1
weight K _ = 0

abbrev pub weights : List Tree → List Tree → ℕ
weights K [] = 0
weights K (t ∷ L) = weight K t + weights K L

pub sizes_append : (xs ys : List Tree) → sizes_of (trees (xs ++ ys)) ≡ sizes_of (trees xs) + sizes_of (trees ys)
sizes_append [] ys = omega arith
sizes_append (x ∷ xs) ys = omega (arith, sizes_append xs ys)

weights_append : (K xs ys : List Tree) → weights K (xs ++ ys) ≡ weights K xs + weights K ys
weights_append K [] ys = omega arith
weights_append K (x ∷ xs) ys = omega (arith, weights_append K xs ys)

-- with more known, the weights are not greater
module _ (K L : List Tree) (f : (k : Key) → key_known K k ≡ true → key_known L k ≡ true) where
  falls : (b c : Bool) (n : ℕ) → (b ≡ true → c ≡ true) → (if c then 0 else n) ≤ (if b then 0 else n)
  falls true true n h = omega arith
  falls true false n h = absurd (let e : false ≡ true = h refl in cc)
  falls false true n h = omega arith
  falls false false n h = omega arith

  weight_falls : (t : Tree) → weight L t ≤ weight K t
  weight_falls (seal k t) = falls (key_known K k) (key_known L k) (size_of t + 1) (f k)
  weight_falls (name n) = omega arith
  weight_falls (stamp n) = omega arith
  weight_falls (nonce n) = omega arith
  weight_falls (part n) = omega arith
  weight_falls (text n) = omega arith
  weight_falls (tag n) = omega arith
  weight_falls (blob n) = omega arith
  weight_falls (tuple n) = omega arith
  weight_falls (check k n) = omega arith

  weights_fall : (M : List Tree) → weights L M ≤ weights K M
  weights_fall [] = omega arith
  weights_fall (t ∷ M) = omega (arith, weight_falls t, weights_fall M)

  -- the bodies that come out weigh as much as is lost
  opened_falls : (p : Bytes) → ((k : Key) → has_part k p ≡ true → key_known K k ≡ false) → ((k : Key) → key_known (part p ∷ K) k ≡ true → key_known L k ≡ true) → (M : List Tree) → sizes_of (trees (opened_by K p M)) + weights L M ≤ weights K M
  opened_falls p new more [] = omega arith
  opened_falls p new more (u ∷ M) = cases u (opened_falls p new more M)
    where
      go : (v : Tree) (b c d : Bool) → (b ≡ true → c ≡ false) → (b ≡ true → d ≡ true) → (c ≡ true → d ≡ true) → sizes_of (trees (opened_by K p M)) + weights L M ≤ weights K M → sizes_of (trees (if b then v ∷ opened_by K p M else opened_by K p M)) + ((if d then 0 else size_of v + 1) + weights L M) ≤ (if c then 0 else size_of v + 1) + weights K M
      go v true true d g h i r = absurd (let e : true ≡ false = g refl in cc)
      go v true false true g h i r = omega (arith, r)
      go v true false false g h i r = absurd (let e : false ≡ true = h refl in cc)
      go v false true true g h i r = omega (arith, r)
      go v false true false g h i r = absurd (let e : false ≡ true = i refl in cc)
      go v false false true g h i r = omega (arith, r)
      go v false false false g h i r = omega (arith, r)

      cases : (u : Tree) → sizes_of (trees (opened_by K p M)) + weights L M ≤ weights K M → sizes_of (trees (opened_by K p (u ∷ M))) + weights L (u ∷ M) ≤ weights K (u ∷ M)
      cases (seal k v) r = go v (has_part k p && key_known (part p ∷ K) k) (key_known K k) (key_known L k) (λ e. new k (and_left (has_part k p) (key_known (part p ∷ K) k) e)) (λ e. more k (and_right (has_part k p) (key_known (part p ∷ K) k) e)) (f k) r
      cases (name n) r = omega (arith, r)
      cases (stamp n) r = omega (arith, r)
      cases (nonce n) r = omega (arith, r)
      cases (part n) r = omega (arith, r)
      cases (text n) r = omega (arith, r)
      cases (tag n) r = omega (arith, r)
      cases (blob n) r = omega (arith, r)
      cases (tuple n) r = omega (arith, r)
      cases (check k n) r = omega (arith, r)

same_known : (K : List Tree) (p q : Bytes) → same_bytes q p ≡ true → Among (part q) K → Among (part p) K
same_known K p q h i = subst (λ (x : Bytes). Among (part x) K) (same_start q p h) i

-- a key that is known and has a part: that part is known
part_of_known : (K : List Tree) (p : Bytes) (k : Key) → has_part k p ≡ true → KeyKnown K k → Among (part p) K
part_of_known K p (One q) h i = same_known K p q h i
part_of_known K p (Two q r) h i = elim (or_cases (same_bytes q p) (same_bytes r p) h) [ inl e ↦ same_known K p q e i.0 | inr e ↦ same_known K p r e i.1 ]

not_known : (K : List Tree) (p : Bytes) → (Among (part p) K → ⊥) → (k : Key) → has_part k p ≡ true → key_known K k ≡ false
not_known K p new k h = go (key_known K k) refl
  where
    go : (b : Bool) → key_known K k ≡ b → b ≡ false
    go true e = absurd (new (part_of_known K p k h (key_known_is K k e)))
    go false e = refl

keys_more : (K : List Tree) (t : Tree) (k : Key) → key_known K k ≡ true → key_known (K ++ t ∷ []) k ≡ true
keys_more K t k e = key_known_if (K ++ t ∷ []) k (key_more K (K ++ t ∷ []) (among_left K (t ∷ [])) k (key_known_is K k e))

keys_end : (K : List Tree) (t : Tree) (k : Key) → key_known (t ∷ K) k ≡ true → key_known (K ++ t ∷ []) k ≡ true
keys_end K t k e = key_known_if (K ++ t ∷ []) k (key_more (t ∷ K) (K ++ t ∷ []) (to_end K t) k (key_known_is (t ∷ K) k e))

-- one term that is looked at: what comes out, with the weights after it, is at most its size with the weights before
pub less : (K : List Tree) (t : Tree) → (Among t K → ⊥) → sizes_of (trees (comes_out K t)) + weights (K ++ t ∷ []) (K ++ t ∷ []) ≤ size_of t + weights K K
less K t new = cases t new
  where
    all : (t : Tree) → weights (K ++ t ∷ []) (K ++ t ∷ []) ≤ weights K K + weight (K ++ t ∷ []) t
    all t = omega (arith, weights_append (K ++ t ∷ []) K (t ∷ []), weights_fall K (K ++ t ∷ []) (keys_more K t) K)

    sealed_less : (k : Key) (v : Tree) (b c : Bool) → (b ≡ true → c ≡ true) → sizes_of (trees (if b then v ∷ [] else [])) + (if c then 0 else size_of v + 1) ≤ size_of v + 1
    sealed_less k v true true h = omega arith
    sealed_less k v true false h = absurd (let e : false ≡ true = h refl in cc)
    sealed_less k v false true h = omega arith
    sealed_less k v false false h = omega arith

    cases : (t : Tree) → (Among t K → ⊥) → sizes_of (trees (comes_out K t)) + weights (K ++ t ∷ []) (K ++ t ∷ []) ≤ size_of t + weights K K
    cases (tuple ts) h = omega (arith, all (tuple ts), ap sizes_of (trees_untrees ts))
    cases (seal k v) h = omega (arith, all (seal k v), sealed_less k v (key_known K k) (key_known (K ++ seal k v ∷ []) k) (keys_more K (seal k v) k))
    cases (part p) h = omega (arith, weights_append (K ++ part p ∷ []) K (part p ∷ []), opened_falls K (K ++ part p ∷ []) (keys_more K (part p)) p (not_known K p h) (keys_end K (part p)) K)
    cases (name n) h = omega (arith, all (name n))
    cases (stamp n) h = omega (arith, all (stamp n))
    cases (nonce n) h = omega (arith, all (nonce n))
    cases (text n) h = omega (arith, all (text n))
    cases (tag n) h = omega (arith, all (tag n))
    cases (blob n) h = omega (arith, all (blob n))
    cases (check k n) h = omega (arith, all (check k n))
