-- The test of derivability tells what is derivable.
use Rattle.std.proofs.Common.{◌≡◌, ◌⊎◌, ◌↔◌, IsTrue, ℕ, zero, suc, ◌≤◌, ◌<◌, List, [], ◌∷◌, ◌++◌, length, Bool, true, false, ◌||◌, ◌&&◌, if◌then◌else◌, refl, sym, ap, ap₂, subst, inl, inr, arith, eqb-true, eq-eqb, length-append}
use base.Stored.{Gv, gnil, gnum, gcons}
use Rattle.term_values.specs.Trees.{Among, Tree, name, stamp, nonce, part, text, tag, blob, tuple, seal, check, Trees, none, item, trees, IsItem, size_of, sizes_of}
use Rattle.term_values.specs.declared.small.Key.{Key}
use Rattle.term_values.specs.declared.small.Key.TheVariants.{One, Two}
use Rattle.term_values.specs.Codes.{tree_code, tree_inj}
use Rattle.term_values.proofs.Lists.{among_append, among_left, among_right, and_left, and_right, and_both, or_cases}
use Rattle.attacker_model.specs.Derivation.{Derivable, known, taken_out, opened}
use Rattle.attacker_model.specs.Saturated.{Built, AllBuilt}
use Rattle.attacker_model.specs.Knowledge.{IsTakenApart}
use Rattle.attacker_model.specs.Taken.{key_known}
use Rattle.attacker_model.specs.Decided.{seen, seen_in, seen_after, ever_seen, same_code, term_known, built_test, all_built_test, is_derivable}
use Rattle.attacker_model.proofs.KnowledgeTaking.{part_known_is, part_known_if, key_known_is, key_known_if, key_more, key_from}
use Rattle.attacker_model.proofs.KnowledgeStored.{derivable_iff_built}

-- ---- equal terms

same_code_refl : (a : Gv) → same_code a a ≡ true
same_code_refl gnil = refl
same_code_refl (gnum n) = eq-eqb n n refl
same_code_refl (gcons a b) = and_both (same_code a a) (same_code b b) (same_code_refl a) (same_code_refl b)

same_code_is : (a b : Gv) → same_code a b ≡ true → a ≡ b
same_code_is gnil gnil h = refl
same_code_is (gnum m) (gnum n) h = ap gnum (eqb-true m n h)
same_code_is (gcons a b) (gcons c d) h = ap₂ (λ (x y : Gv). gcons x y) (same_code_is a c (and_left (same_code a c) (same_code b d) h)) (same_code_is b d (and_right (same_code a c) (same_code b d) h))
same_code_is gnil (gnum n) h = absurd (cc)
same_code_is gnil (gcons c d) h = absurd (cc)
same_code_is (gnum m) gnil h = absurd (cc)
same_code_is (gnum m) (gcons c d) h = absurd (cc)
same_code_is (gcons a b) gnil h = absurd (cc)
same_code_is (gcons a b) (gnum n) h = absurd (cc)

or_here : (a b : Bool) → a ≡ true → (a || b) ≡ true
or_here true b h = refl
or_here false b h = absurd (cc)

or_there : (a b : Bool) → b ≡ true → (a || b) ≡ true
or_there true b h = refl
or_there false b h = h

term_known_is : (K : List Tree) (t : Tree) → term_known K t ≡ true → Among t K
term_known_is [] t h = absurd (cc)
term_known_is (u ∷ K) t h =
    elim (or_cases (same_code (tree_code t) (tree_code u)) (term_known K t) h) [ inl e ↦ inl (tree_inj t u (same_code_is (tree_code t) (tree_code u) e)) | inr e ↦ inr (term_known_is K t e) ]

term_known_if : (K : List Tree) (t : Tree) → Among t K → term_known K t ≡ true
term_known_if [] t i = elim i [ ]
term_known_if (u ∷ K) t (inl e) = or_here (same_code (tree_code t) (tree_code u)) (term_known K t) (subst (λ (v : Tree). same_code (tree_code t) (tree_code v) ≡ true) e (same_code_refl (tree_code t)))
term_known_if (u ∷ K) t (inr i) = or_there (same_code (tree_code t) (tree_code u)) (term_known K t) (term_known_if K t i)

-- ---- terms that are built

mutual
  built_is : (K : List Tree) (t : Tree) → built_test K t ≡ true → Built K t
  built_is K (part p) h = part_known_is K p h
  built_is K (tuple ts) h = elim (or_cases (term_known K (tuple ts)) (all_built_test K ts) h) [ inl e ↦ inl (term_known_is K (tuple ts) e) | inr e ↦ inr (all_built_is K ts e) ]
  built_is K (seal k t) h =
      elim (or_cases (term_known K (seal k t)) (key_known K k && built_test K t) h) [ inl e ↦ inl (term_known_is K (seal k t) e) | inr e ↦ inr (key_known_is K k (and_left (key_known K k) (built_test K t) e), built_is K t (and_right (key_known K k) (built_test K t) e)) ]
  built_is K (check k t) h =
      elim (or_cases (term_known K (check k t)) (key_known K k && built_test K t) h) [ inl e ↦ inl (term_known_is K (check k t) e) | inr e ↦ inr (key_known_is K k (and_left (key_known K k) (built_test K t) e), built_is K t (and_right (key_known K k) (built_test K t) e)) ]
  built_is K (name n) h = tt
  built_is K (stamp n) h = tt
  built_is K (nonce n) h = tt
  built_is K (text n) h = tt
  built_is K (tag n) h = tt
  built_is K (blob n) h = tt

  all_built_is : (K : List Tree) (ts : Trees) → all_built_test K ts ≡ true → AllBuilt K ts
  all_built_is K none h = tt
  all_built_is K (item t ts) h = (built_is K t (and_left (built_test K t) (all_built_test K ts) h), all_built_is K ts (and_right (built_test K t) (all_built_test K ts) h))

mutual
  built_if : (K : List Tree) (t : Tree) → Built K t → built_test K t ≡ true
  built_if K (part p) b = part_known_if K p b
  built_if K (tuple ts) (inl i) = or_here (term_known K (tuple ts)) (all_built_test K ts) (term_known_if K (tuple ts) i)
  built_if K (tuple ts) (inr b) = or_there (term_known K (tuple ts)) (all_built_test K ts) (all_built_if K ts b)
  built_if K (seal k t) (inl i) = or_here (term_known K (seal k t)) (key_known K k && built_test K t) (term_known_if K (seal k t) i)
  built_if K (seal k t) (inr b) = or_there (term_known K (seal k t)) (key_known K k && built_test K t) (and_both (key_known K k) (built_test K t) (key_known_if K k b.0) (built_if K t b.1))
  built_if K (check k t) (inl i) = or_here (term_known K (check k t)) (key_known K k && built_test K t) (term_known_if K (check k t) i)
  built_if K (check k t) (inr b) = or_there (term_known K (check k t)) (key_known K k && built_test K t) (and_both (key_known K k) (built_test K t) (key_known_if K k b.0) (built_if K t b.1))
  built_if K (name n) b = refl
  built_if K (stamp n) b = refl
  built_if K (nonce n) b = refl
  built_if K (text n) b = refl
  built_if K (tag n) b = refl
  built_if K (blob n) b = refl

  all_built_if : (K : List Tree) (ts : Trees) → AllBuilt K ts → all_built_test K ts ≡ true
  all_built_if K none b = refl
  all_built_if K (item t ts) b = and_both (built_test K t) (all_built_test K ts) (built_if K t b.0) (all_built_if K ts b.1)

-- ---- more known keys show more

some_seen : (K : List Tree) (t : Tree) → 0 < length (seen K t)
some_seen K (tuple ts) = omega arith
some_seen K (seal k t) = omega arith
some_seen K (check k t) = omega arith
some_seen K (part p) = omega arith
some_seen K (name n) = omega arith
some_seen K (stamp n) = omega arith
some_seen K (nonce n) = omega arith
some_seen K (text n) = omega arith
some_seen K (tag n) = omega arith
some_seen K (blob n) = omega arith

-- no more terms are seen than there are
few : (b : Bool) (t : Tree) (xs : List Tree) → length xs ≤ size_of t → length (if b then xs else []) ≤ size_of t
few true t xs h = h
few false t xs h = omega arith

mutual
  seen_bound : (K : List Tree) (t : Tree) → length (seen K t) ≤ size_of t
  seen_bound K (tuple ts) = omega (arith, seen_in_bound K ts)
  seen_bound K (seal k t) = omega (arith, few (key_known K k) t (seen K t) (seen_bound K t))
  seen_bound K (check k t) = omega arith
  seen_bound K (part p) = omega arith
  seen_bound K (name n) = omega arith
  seen_bound K (stamp n) = omega arith
  seen_bound K (nonce n) = omega arith
  seen_bound K (text n) = omega arith
  seen_bound K (tag n) = omega arith
  seen_bound K (blob n) = omega arith

  seen_in_bound : (K : List Tree) (ts : Trees) → length (seen_in K ts) ≤ sizes_of ts
  seen_in_bound K none = omega arith
  seen_in_bound K (item t ts) = omega (arith, seen_bound K t, seen_in_bound K ts, length-append (seen K t) (seen_in K ts))

module _ (K L : List Tree) (f : (k : Key) → key_known K k ≡ true → key_known L k ≡ true) where
  -- the same is seen, or more
  More : List Tree → List Tree → Type 0
  More xs ys = (xs ≡ ys) ⊎ (length xs < length ys)

  more_body : (s : Tree) (xs ys : List Tree) (b c : Bool) → (b ≡ true → c ≡ true) → 0 < length ys → (xs ≡ ys) ⊎ (length xs < length ys) → (s ∷ (if b then xs else []) ≡ s ∷ (if c then ys else [])) ⊎ (length (s ∷ (if b then xs else [])) < length (s ∷ (if c then ys else [])))
  more_body s xs ys true true h n (inl e) = inl (ap (λ (zs : List Tree). s ∷ zs) e)
  more_body s xs ys true true h n (inr e) = inr (omega arith)
  more_body s xs ys true false h n r = absurd (let e : false ≡ true = h refl in cc)
  more_body s xs ys false true h n r = inr (omega arith)
  more_body s xs ys false false h n r = inl refl

  more_tuple : (s : Tree) (xs ys : List Tree) → (xs ≡ ys) ⊎ (length xs < length ys) → (s ∷ xs ≡ s ∷ ys) ⊎ (length (s ∷ xs) < length (s ∷ ys))
  more_tuple s xs ys (inl e) = inl (ap (λ (zs : List Tree). s ∷ zs) e)
  more_tuple s xs ys (inr e) = inr (omega arith)

  more_both : (xs ys vs ws : List Tree) → (xs ≡ ys) ⊎ (length xs < length ys) → (vs ≡ ws) ⊎ (length vs < length ws) → (xs ++ vs ≡ ys ++ ws) ⊎ (length (xs ++ vs) < length (ys ++ ws))
  more_both xs ys vs ws (inl e) (inl g) = inl (ap₂ (λ (a b : List Tree). a ++ b) e g)
  more_both xs ys vs ws (inl e) (inr g) = inr (omega (arith, ap (λ (a : List Tree). length a) e, length-append xs vs, length-append ys ws))
  more_both xs ys vs ws (inr e) (inl g) = inr (omega (arith, ap (λ (a : List Tree). length a) g, length-append xs vs, length-append ys ws))
  more_both xs ys vs ws (inr e) (inr g) = inr (omega (arith, length-append xs vs, length-append ys ws))

  mutual
    more_seen : (t : Tree) → (seen K t ≡ seen L t) ⊎ (length (seen K t) < length (seen L t))
    more_seen (tuple ts) = more_tuple (tuple ts) (seen_in K ts) (seen_in L ts) (more_seen_in ts)
    more_seen (seal k t) = more_body (seal k t) (seen K t) (seen L t) (key_known K k) (key_known L k) (f k) (some_seen L t) (more_seen t)
    more_seen (check k t) = inl refl
    more_seen (part p) = inl refl
    more_seen (name n) = inl refl
    more_seen (stamp n) = inl refl
    more_seen (nonce n) = inl refl
    more_seen (text n) = inl refl
    more_seen (tag n) = inl refl
    more_seen (blob n) = inl refl

    more_seen_in : (ts : Trees) → (seen_in K ts ≡ seen_in L ts) ⊎ (length (seen_in K ts) < length (seen_in L ts))
    more_seen_in none = inl refl
    more_seen_in (item t ts) = more_both (seen K t) (seen L t) (seen_in K ts) (seen_in L ts) (more_seen t) (more_seen_in ts)

  stays_body : (u : Tree) (xs ys : List Tree) (b c : Bool) → (b ≡ true → c ≡ true) → (Among u xs → Among u ys) → Among u (if b then xs else []) → Among u (if c then ys else [])
  stays_body u xs ys true true h g i = g i
  stays_body u xs ys true false h g i = absurd (let e : false ≡ true = h refl in cc)
  stays_body u xs ys false c h g i = elim i [ ]

  mutual
    stays_seen : (u t : Tree) → Among u (seen K t) → Among u (seen L t)
    stays_seen u (tuple ts) (inl e) = inl e
    stays_seen u (tuple ts) (inr i) = inr (stays_seen_in u ts i)
    stays_seen u (seal k t) (inl e) = inl e
    stays_seen u (seal k t) (inr i) = inr (stays_body u (seen K t) (seen L t) (key_known K k) (key_known L k) (f k) (stays_seen u t) i)
    stays_seen u (check k t) i = i
    stays_seen u (part p) i = i
    stays_seen u (name n) i = i
    stays_seen u (stamp n) i = i
    stays_seen u (nonce n) i = i
    stays_seen u (text n) i = i
    stays_seen u (tag n) i = i
    stays_seen u (blob n) i = i

    stays_seen_in : (u : Tree) (ts : Trees) → Among u (seen_in K ts) → Among u (seen_in L ts)
    stays_seen_in u none i = i
    stays_seen_in u (item t ts) i =
        elim (among_append (seen K t) (seen_in K ts) u i) [ inl j ↦ among_left (seen L t) (seen_in L ts) u (stays_seen u t j) | inr j ↦ among_right (seen L t) (seen_in L ts) u (stays_seen_in u ts j) ]

-- ---- rounds

no_key : (k : Key) → key_known [] k ≡ true → ⊥
no_key (One p) e = cc
no_key (Two p q) e = cc

keys_stay : (G : List Tree) (n : ℕ) (k : Key) → key_known (seen_after G n) k ≡ true → key_known (seen_after G (suc n)) k ≡ true
keys_stay G zero k e = absurd (no_key k e)
keys_stay G (suc n) k e =
    key_known_if (seen_after G (suc (suc n))) k (key_more (seen_after G (suc n)) (seen_after G (suc (suc n))) (λ u i. stays_seen_in (seen_after G n) (seen_after G (suc n)) (keys_stay G n) u (trees G) i) k (key_known_is (seen_after G (suc n)) k e))

-- a round shows nothing new, or each round before it showed more
rounds : (G : List Tree) (n : ℕ) → (seen_after G n ≡ seen_after G (suc n)) ⊎ (n < length (seen_after G (suc n)))
rounds G zero = first (seen_after G (suc zero))
  where
    first : (xs : List Tree) → ([] ≡ xs) ⊎ (0 < length xs)
    first [] = inl refl
    first (x ∷ xs) = inr (omega arith)
rounds G (suc n) = go (rounds G n) (more_seen_in (seen_after G n) (seen_after G (suc n)) (keys_stay G n) (trees G))
  where
    go : (seen_after G n ≡ seen_after G (suc n)) ⊎ (n < length (seen_after G (suc n))) → (seen_after G (suc n) ≡ seen_after G (suc (suc n))) ⊎ (length (seen_after G (suc n)) < length (seen_after G (suc (suc n)))) → (seen_after G (suc n) ≡ seen_after G (suc (suc n))) ⊎ (suc n < length (seen_after G (suc (suc n))))
    go (inl e) m = inl (ap (λ (K : List Tree). seen_in K (trees G)) e)
    go (inr h) (inl e) = inl e
    go (inr h) (inr g) = inr (omega arith)

-- the last round shows nothing new
ends : (G : List Tree) → ever_seen G ≡ seen_in (ever_seen G) (trees G)
ends G = go (rounds G (sizes_of (trees G)))
  where
    go : (ever_seen G ≡ seen_in (ever_seen G) (trees G)) ⊎ (sizes_of (trees G) < length (seen_in (ever_seen G) (trees G))) → ever_seen G ≡ seen_in (ever_seen G) (trees G)
    go (inl e) = e
    go (inr h) = absurd (omega (arith, seen_in_bound (ever_seen G) (trees G)))

-- ---- what is seen

module _ (G K : List Tree) (f : (u : Tree) → Among u K → Derivable G u) where
  body_derivable : (k : Key) (t u : Tree) (xs : List Tree) (b : Bool) → (b ≡ true → Among u xs → Derivable G u) → Among u (if b then xs else []) → Derivable G u
  body_derivable k t u xs true h i = h refl i
  body_derivable k t u xs false h i = elim i [ ]

  only : (t u : Tree) → Derivable G t → Among u (t ∷ []) → Derivable G u
  only t u d (inl e) = subst (Derivable G) (sym e) d
  only t u d (inr i) = elim i [ ]

  mutual
    seen_derivable : (t : Tree) → Derivable G t → (u : Tree) → Among u (seen K t) → Derivable G u
    seen_derivable (tuple ts) d u (inl e) = subst (Derivable G) (sym e) d
    seen_derivable (tuple ts) d u (inr i) = seen_in_derivable ts (λ v j. taken_out ts j d) u i
    seen_derivable (seal k t) d u (inl e) = subst (Derivable G) (sym e) d
    seen_derivable (seal k t) d u (inr i) = body_derivable k t u (seen K t) (key_known K k) (λ e j. seen_derivable t (opened k d (key_from G K f k (key_known_is K k e))) u j) i
    seen_derivable (check k t) d u i = only (check k t) u d i
    seen_derivable (part p) d u i = only (part p) u d i
    seen_derivable (name n) d u i = only (name n) u d i
    seen_derivable (stamp n) d u i = only (stamp n) u d i
    seen_derivable (nonce n) d u i = only (nonce n) u d i
    seen_derivable (text n) d u i = only (text n) u d i
    seen_derivable (tag n) d u i = only (tag n) u d i
    seen_derivable (blob n) d u i = only (blob n) u d i

    seen_in_derivable : (ts : Trees) → ((v : Tree) → IsItem v ts → Derivable G v) → (u : Tree) → Among u (seen_in K ts) → Derivable G u
    seen_in_derivable none d u i = elim i [ ]
    seen_in_derivable (item t ts) d u i =
        elim (among_append (seen K t) (seen_in K ts) u i) [ inl j ↦ seen_derivable t (d t (inl refl)) u j | inr j ↦ seen_in_derivable ts (λ v h. d v (inr h)) u j ]

item_of_list : (G : List Tree) (v : Tree) → IsItem v (trees G) → Among v G
item_of_list [] v i = i
item_of_list (t ∷ G) v (inl e) = inl e
item_of_list (t ∷ G) v (inr i) = inr (item_of_list G v i)

rounds_derivable : (G : List Tree) (n : ℕ) (u : Tree) → Among u (seen_after G n) → Derivable G u
rounds_derivable G zero u i = elim i [ ]
rounds_derivable G (suc n) u i = seen_in_derivable G (seen_after G n) (λ v j. rounds_derivable G n v j) (trees G) (λ v j. known (item_of_list G v j)) u i

module _ (K : List Tree) where
  sees_itself : (t : Tree) → Among t (seen K t)
  sees_itself (tuple ts) = inl refl
  sees_itself (seal k t) = inl refl
  sees_itself (check k t) = inl refl
  sees_itself (part p) = inl refl
  sees_itself (name n) = inl refl
  sees_itself (stamp n) = inl refl
  sees_itself (nonce n) = inl refl
  sees_itself (text n) = inl refl
  sees_itself (tag n) = inl refl
  sees_itself (blob n) = inl refl

  sees_items : (t : Tree) (ts : Trees) → IsItem t ts → Among t (seen_in K ts)
  sees_items t none i = i
  sees_items t (item u us) (inl e) = among_left (seen K u) (seen_in K us) t (subst (λ (v : Tree). Among t (seen K v)) e (sees_itself t))
  sees_items t (item u us) (inr i) = among_right (seen K u) (seen_in K us) t (sees_items t us i)

  within : (u v : Tree) (xs : List Tree) (b : Bool) → (Among u xs → Among v xs) → Among u (if b then xs else []) → Among v (if b then xs else [])
  within u v xs true h i = h i
  within u v xs false h i = i

  tuples_same : (ts us : Trees) → tuple ts ≡ tuple us → ts ≡ us
  tuples_same ts us e = cc

  mutual
    items_seen : (t : Tree) (ts : Trees) (u : Tree) → Among (tuple ts) (seen K u) → IsItem t ts → Among t (seen K u)
    items_seen t ts (tuple us) (inl e) h = inr (subst (λ (vs : Trees). Among t (seen_in K vs)) (tuples_same ts us e) (sees_items t ts h))
    items_seen t ts (tuple us) (inr i) h = inr (items_seen_in t ts us i h)
    items_seen t ts (seal k u) (inl e) h = absurd (cc)
    items_seen t ts (seal k u) (inr i) h = inr (within (tuple ts) t (seen K u) (key_known K k) (λ j. items_seen t ts u j h) i)
    items_seen t ts (check k u) (inl e) h = absurd (cc)
    items_seen t ts (check k u) (inr i) h = elim i [ ]
    items_seen t ts (part p) (inl e) h = absurd (cc)
    items_seen t ts (part p) (inr i) h = elim i [ ]
    items_seen t ts (name n) (inl e) h = absurd (cc)
    items_seen t ts (name n) (inr i) h = elim i [ ]
    items_seen t ts (stamp n) (inl e) h = absurd (cc)
    items_seen t ts (stamp n) (inr i) h = elim i [ ]
    items_seen t ts (nonce n) (inl e) h = absurd (cc)
    items_seen t ts (nonce n) (inr i) h = elim i [ ]
    items_seen t ts (text n) (inl e) h = absurd (cc)
    items_seen t ts (text n) (inr i) h = elim i [ ]
    items_seen t ts (tag n) (inl e) h = absurd (cc)
    items_seen t ts (tag n) (inr i) h = elim i [ ]
    items_seen t ts (blob n) (inl e) h = absurd (cc)
    items_seen t ts (blob n) (inr i) h = elim i [ ]

    items_seen_in : (t : Tree) (ts : Trees) (us : Trees) → Among (tuple ts) (seen_in K us) → IsItem t ts → Among t (seen_in K us)
    items_seen_in t ts none i h = i
    items_seen_in t ts (item u us) i h =
        elim (among_append (seen K u) (seen_in K us) (tuple ts) i) [ inl j ↦ among_left (seen K u) (seen_in K us) t (items_seen t ts u j h) | inr j ↦ among_right (seen K u) (seen_in K us) t (items_seen_in t ts us j h) ]

  keys_same : (k l : Key) (t u : Tree) → seal k t ≡ seal l u → k ≡ l
  keys_same k l t u e = cc

  bodies_same : (k l : Key) (t u : Tree) → seal k t ≡ seal l u → t ≡ u
  bodies_same k l t u e = cc

  body_here : (k l : Key) (t u : Tree) → k ≡ l → t ≡ u → key_known K k ≡ true → Among t (if key_known K l then seen K u else [])
  body_here k l t u e g h = go (key_known K l) (subst (λ (x : Key). key_known K x ≡ true) e h)
    where
      go : (b : Bool) → b ≡ true → Among t (if b then seen K u else [])
      go true h = subst (λ (v : Tree). Among t (seen K v)) g (sees_itself t)
      go false h = absurd (cc)

  mutual
    bodies_seen : (k : Key) (t u : Tree) → Among (seal k t) (seen K u) → key_known K k ≡ true → Among t (seen K u)
    bodies_seen k t (tuple us) (inl e) h = absurd (cc)
    bodies_seen k t (tuple us) (inr i) h = inr (bodies_seen_in k t us i h)
    bodies_seen k t (seal l u) (inl e) h = inr (body_here k l t u (keys_same k l t u e) (bodies_same k l t u e) h)
    bodies_seen k t (seal l u) (inr i) h = inr (within (seal k t) t (seen K u) (key_known K l) (λ j. bodies_seen k t u j h) i)
    bodies_seen k t (check l u) (inl e) h = absurd (cc)
    bodies_seen k t (check l u) (inr i) h = elim i [ ]
    bodies_seen k t (part p) (inl e) h = absurd (cc)
    bodies_seen k t (part p) (inr i) h = elim i [ ]
    bodies_seen k t (name n) (inl e) h = absurd (cc)
    bodies_seen k t (name n) (inr i) h = elim i [ ]
    bodies_seen k t (stamp n) (inl e) h = absurd (cc)
    bodies_seen k t (stamp n) (inr i) h = elim i [ ]
    bodies_seen k t (nonce n) (inl e) h = absurd (cc)
    bodies_seen k t (nonce n) (inr i) h = elim i [ ]
    bodies_seen k t (text n) (inl e) h = absurd (cc)
    bodies_seen k t (text n) (inr i) h = elim i [ ]
    bodies_seen k t (tag n) (inl e) h = absurd (cc)
    bodies_seen k t (tag n) (inr i) h = elim i [ ]
    bodies_seen k t (blob n) (inl e) h = absurd (cc)
    bodies_seen k t (blob n) (inr i) h = elim i [ ]

    bodies_seen_in : (k : Key) (t : Tree) (us : Trees) → Among (seal k t) (seen_in K us) → key_known K k ≡ true → Among t (seen_in K us)
    bodies_seen_in k t none i h = i
    bodies_seen_in k t (item u us) i h =
        elim (among_append (seen K u) (seen_in K us) (seal k t) i) [ inl j ↦ among_left (seen K u) (seen_in K us) t (bodies_seen k t u j h) | inr j ↦ among_right (seen K u) (seen_in K us) t (bodies_seen_in k t us j h) ]

list_item : (G : List Tree) (v : Tree) → Among v G → IsItem v (trees G)
list_item [] v i = i
list_item (t ∷ G) v (inl e) = inl e
list_item (t ∷ G) v (inr i) = inr (list_item G v i)

seen_is_taken_apart : (G : List Tree) → IsTakenApart G (ever_seen G)
seen_is_taken_apart G = record {
  has_given = λ t i. back t (sees_items (ever_seen G) t (trees G) (list_item G t i));
  derivable = rounds_derivable G (sizes_of (trees G));
  saturated = record {
    items = λ t ts i h. back t (items_seen_in (ever_seen G) t ts (trees G) (forth (tuple ts) i) h);
    bodies = λ k t i h. back t (bodies_seen_in (ever_seen G) k t (trees G) (forth (seal k t) i) (key_known_if (ever_seen G) k h));
  };
}
  where
    back : (u : Tree) → Among u (seen_in (ever_seen G) (trees G)) → Among u (ever_seen G)
    back u i = subst (λ (L : List Tree). Among u L) (sym (ends G)) i

    forth : (u : Tree) → Among u (ever_seen G) → Among u (seen_in (ever_seen G) (trees G))
    forth u i = subst (λ (L : List Tree). Among u L) (ends G) i

pub decided : (G : List Tree) (t : Tree) → IsTrue (is_derivable G t) ↔ Derivable G t
decided G t =
    ((λ e. (derivable_iff_built G (ever_seen G) (seen_is_taken_apart G) t).1 (built_is (ever_seen G) t e)), λ d. built_if (ever_seen G) t ((derivable_iff_built G (ever_seen G) (seen_is_taken_apart G) t).0 d))
