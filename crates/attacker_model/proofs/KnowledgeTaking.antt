-- Taking known terms apart: what comes out of one more term, and what holds while terms wait to be looked at.
use Rattle.std.proofs.Common.{◌≡◌, ◌↔◌, IsTrue, ◌⊎◌, List, [], ◌∷◌, ◌++◌, Bool, true, false, ◌||◌, ◌&&◌, if◌then◌else◌, refl, sym, ap, subst, inl, inr}
use Rattle.term_values.specs.Trees.{Among, Bytes, Tree, name, stamp, nonce, part, text, tag, blob, tuple, seal, check, Trees, none, item, untrees, IsItem}
use Rattle.term_values.specs.SameBytes.{same_bytes}
use Rattle.term_values.specs.declared.small.Key.{Key}
use Rattle.term_values.specs.declared.small.Key.TheVariants.{One, Two}
use Rattle.term_values.proofs.Lists.{among_append, among_left, among_right, and_left, and_right, and_both, or_cases}
use Rattle.term_values.proofs.SameBytes.{same_bytes_refl, same_start}
use Rattle.attacker_model.specs.Derivation.{Derivable, known, taken_out, opened, KeyDerivable, by_part, by_parts}
use Rattle.attacker_model.specs.Saturated.{KeyKnown, IsSaturated}
use Rattle.attacker_model.specs.Knowledge.{IsTakenApart}
use Rattle.attacker_model.specs.Taken.{is_part, part_known, key_known, has_part, opened_by, comes_out}

-- ---- known parts and keys

is_part_true : (p : Bytes) (t : Tree) → is_part p t ≡ true → part p ≡ t
is_part_true p (part q) h = ap part (same_start p q h)
is_part_true p (name n) h = absurd (cc)
is_part_true p (stamp n) h = absurd (cc)
is_part_true p (nonce n) h = absurd (cc)
is_part_true p (text n) h = absurd (cc)
is_part_true p (tag n) h = absurd (cc)
is_part_true p (blob n) h = absurd (cc)
is_part_true p (tuple n) h = absurd (cc)
is_part_true p (seal k n) h = absurd (cc)
is_part_true p (check k n) h = absurd (cc)

or_left : (a b : Bool) → a ≡ true → (a || b) ≡ true
or_left true b h = refl
or_left false b h = absurd (cc)

or_right : (a b : Bool) → b ≡ true → (a || b) ≡ true
or_right true b h = refl
or_right false b h = h

pub part_known_is : (K : List Tree) (p : Bytes) → part_known K p ≡ true → Among (part p) K
part_known_is [] p h = absurd (cc)
part_known_is (t ∷ K) p h = elim (or_cases (is_part p t) (part_known K p) h) [ inl e ↦ inl (is_part_true p t e) | inr e ↦ inr (part_known_is K p e) ]

pub part_known_if : (K : List Tree) (p : Bytes) → Among (part p) K → part_known K p ≡ true
part_known_if [] p i = elim i [ ]
part_known_if (t ∷ K) p (inl e) = or_left (is_part p t) (part_known K p) (subst (λ (u : Tree). is_part p u ≡ true) e (same_bytes_refl p))
part_known_if (t ∷ K) p (inr i) = or_right (is_part p t) (part_known K p) (part_known_if K p i)

-- a test that says the same is the same
same_test : (a b : Bool) → (a ≡ true → b ≡ true) → (b ≡ true → a ≡ true) → a ≡ b
same_test true true f g = refl
same_test true false f g = absurd (let e : false ≡ true = f refl in cc)
same_test false true f g = absurd (let e : false ≡ true = g refl in cc)
same_test false false f g = refl

pub part_known_test : (K : List Tree) (p : Bytes) (b : Bool) → (IsTrue b ↔ Among (part p) K) → b ≡ part_known K p
part_known_test K p b h = same_test b (part_known K p) (λ e. part_known_if K p (h.0 e)) (λ e. h.1 (part_known_is K p e))

pub same_bytes_test : (p q : Bytes) (b : Bool) → (IsTrue b ↔ (p ≡ q)) → b ≡ same_bytes p q
same_bytes_test p q b h = same_test b (same_bytes p q) (λ e. subst (λ (x : Bytes). same_bytes p x ≡ true) (h.0 e) (same_bytes_refl p)) (λ e. h.1 (same_start p q e))

pub key_known_is : (K : List Tree) (k : Key) → key_known K k ≡ true → KeyKnown K k
key_known_is K (One p) h = part_known_is K p h
key_known_is K (Two p q) h = (part_known_is K p (and_left (part_known K p) (part_known K q) h), part_known_is K q (and_right (part_known K p) (part_known K q) h))

pub key_known_if : (K : List Tree) (k : Key) → KeyKnown K k → key_known K k ≡ true
key_known_if K (One p) i = part_known_if K p i
key_known_if K (Two p q) i = and_both (part_known K p) (part_known K q) (part_known_if K p i.0) (part_known_if K q i.1)

pub key_more : (K L : List Tree) → ((t : Tree) → Among t K → Among t L) → (k : Key) → KeyKnown K k → KeyKnown L k
key_more K L f (One p) i = f (part p) i
key_more K L f (Two p q) i = (f (part p) i.0, f (part q) i.1)

-- ---- one more term

-- a known term comes last, or was known before
pub last : (K : List Tree) (t u : Tree) → Among u (K ++ t ∷ []) → Among u K ⊎ (u ≡ t)
last K t u i = elim (among_append K (t ∷ []) u i) [ inl j ↦ inl j | inr j ↦ elim j [ inl e ↦ inr e | inr e ↦ elim e [ ] ] ]

-- K beside t, in the order of the lemmas
pub to_front : (K : List Tree) (t u : Tree) → Among u (K ++ t ∷ []) → Among u (t ∷ K)
to_front K t u i = elim (last K t u i) [ inl j ↦ inr j | inr e ↦ inl e ]

pub to_end : (K : List Tree) (t u : Tree) → Among u (t ∷ K) → Among u (K ++ t ∷ [])
to_end K t u (inl e) = among_right K (t ∷ []) u (inl e)
to_end K t u (inr i) = among_left K (t ∷ []) u i

-- a key that is known beside a term that is no part was known before
part_before : (K : List Tree) (t : Tree) → ((p : Bytes) → part p ≡ t → ⊥) → (p : Bytes) → Among (part p) (K ++ t ∷ []) → Among (part p) K
part_before K t other p i = elim (last K t (part p) i) [ inl j ↦ j | inr e ↦ absurd (other p e) ]

key_before : (K : List Tree) (t : Tree) → ((p : Bytes) → part p ≡ t → ⊥) → (k : Key) → KeyKnown (K ++ t ∷ []) k → KeyKnown K k
key_before K t other (One p) i = part_before K t other p i
key_before K t other (Two p q) i = (part_before K t other p i.0, part_before K t other q i.1)

part_inj : (p q : Bytes) → part p ≡ part q → p ≡ q
part_inj p q e = cc

-- a key that is known beside a part has that part, or was known before
part_beside : (K : List Tree) (p q : Bytes) → Among (part q) (K ++ part p ∷ []) → (same_bytes q p ≡ true) ⊎ Among (part q) K
part_beside K p q i = elim (last K (part p) (part q) i) [ inl j ↦ inr j | inr e ↦ inl (subst (λ (x : Bytes). same_bytes x p ≡ true) (sym (part_inj q p e)) (same_bytes_refl p)) ]

key_beside : (K : List Tree) (p : Bytes) (k : Key) → KeyKnown (K ++ part p ∷ []) k → (has_part k p ≡ true) ⊎ KeyKnown K k
key_beside K p (One q) i = part_beside K p q i
key_beside K p (Two q r) i = go (part_beside K p q i.0) (part_beside K p r i.1)
  where
    go : (same_bytes q p ≡ true) ⊎ Among (part q) K → (same_bytes r p ≡ true) ⊎ Among (part r) K → ((same_bytes q p || same_bytes r p) ≡ true) ⊎ (Among (part q) K × Among (part r) K)
    go (inl e) b = inl (or_left (same_bytes q p) (same_bytes r p) e)
    go (inr a) (inl e) = inl (or_right (same_bytes q p) (same_bytes r p) e)
    go (inr a) (inr b) = inr (a, b)

-- a body comes out where its key has the new part and is known with it
opens : (K : List Tree) (p : Bytes) (L : List Tree) (k : Key) (t : Tree) → Among (seal k t) L → has_part k p ≡ true → key_known (part p ∷ K) k ≡ true → Among t (opened_by K p L)
opens K p [] k t i h g = elim i [ ]
opens K p (u ∷ L) k t (inl e) h g = subst (λ (v : Tree). Among t (opened_by K p (v ∷ L))) e (here (has_part k p && key_known (part p ∷ K) k) (and_both (has_part k p) (key_known (part p ∷ K) k) h g))
  where
    here : (b : Bool) → b ≡ true → Among t (if b then t ∷ opened_by K p L else opened_by K p L)
    here true e = inl refl
    here false e = absurd (cc)
opens K p (u ∷ L) k t (inr i) h g = further u (opens K p L k t i h g)
  where
    choice : (b : Bool) (v : Tree) → Among t (opened_by K p L) → Among t (if b then v ∷ opened_by K p L else opened_by K p L)
    choice true v j = inr j
    choice false v j = j

    further : (u : Tree) → Among t (opened_by K p L) → Among t (opened_by K p (u ∷ L))
    further (seal l v) j = choice (has_part l p && key_known (part p ∷ K) l) v j
    further (name n) j = j
    further (stamp n) j = j
    further (nonce n) j = j
    further (part n) j = j
    further (text n) j = j
    further (tag n) j = j
    further (blob n) j = j
    further (tuple n) j = j
    further (check l n) j = j

-- what comes out is the body of such a seal
opened_from : (K : List Tree) (p : Bytes) (L : List Tree) (t : Tree) → Among t (opened_by K p L) → (k : Key) × Among (seal k t) L × (key_known (part p ∷ K) k ≡ true)
opened_from K p [] t i = elim i [ ]
opened_from K p (u ∷ L) t i = cases (λ j. opened_from K p L t j) u i
  where
    choice : (Among t (opened_by K p L) → (k : Key) × Among (seal k t) L × (key_known (part p ∷ K) k ≡ true)) → (l : Key) (v : Tree) (b : Bool) → (b ≡ true → key_known (part p ∷ K) l ≡ true) → Among t (if b then v ∷ opened_by K p L else opened_by K p L) → (k : Key) × Among (seal k t) (seal l v ∷ L) × (key_known (part p ∷ K) k ≡ true)
    choice f l v true h (inl e) = (l, inl (ap (seal l) e), h refl)
    choice f l v true h (inr j) = let r = f j in (r.0, inr r.1, r.2)
    choice f l v false h j = let r = f j in (r.0, inr r.1, r.2)

    cases : (Among t (opened_by K p L) → (k : Key) × Among (seal k t) L × (key_known (part p ∷ K) k ≡ true)) → (u : Tree) → Among t (opened_by K p (u ∷ L)) → (k : Key) × Among (seal k t) (u ∷ L) × (key_known (part p ∷ K) k ≡ true)
    cases f (seal l v) j = choice f l v (has_part l p && key_known (part p ∷ K) l) (and_right (has_part l p) (key_known (part p ∷ K) l)) j
    cases f (name n) j = let r = f j in (r.0, inr r.1, r.2)
    cases f (stamp n) j = let r = f j in (r.0, inr r.1, r.2)
    cases f (nonce n) j = let r = f j in (r.0, inr r.1, r.2)
    cases f (part n) j = let r = f j in (r.0, inr r.1, r.2)
    cases f (text n) j = let r = f j in (r.0, inr r.1, r.2)
    cases f (tag n) j = let r = f j in (r.0, inr r.1, r.2)
    cases f (blob n) j = let r = f j in (r.0, inr r.1, r.2)
    cases f (tuple n) j = let r = f j in (r.0, inr r.1, r.2)
    cases f (check l n) j = let r = f j in (r.0, inr r.1, r.2)

-- ---- what holds on the way: G are the given terms, K those that were looked at, P those that wait

pub record Taking (G K P : List Tree) : Type 0 where
  pub has_given : (t : Tree) → Among t G → Among t K ⊎ Among t P
  pub known_derivable : (t : Tree) → Among t K → Derivable G t
  pub waiting_derivable : (t : Tree) → Among t P → Derivable G t
  pub items : (t : Tree) (ts : Trees) → Among (tuple ts) K → IsItem t ts → Among t K ⊎ Among t P
  pub bodies : (k : Key) (t : Tree) → Among (seal k t) K → KeyKnown K k → Among t K ⊎ Among t P

pub start : (K : List Tree) (t : Tree) → IsSaturated K → Taking (t ∷ K) K (t ∷ [])
start K t s = record {
  has_given = λ u i. elim i [ inl e ↦ inr (inl e) | inr j ↦ inl j ];
  known_derivable = λ u i. known (inr i);
  waiting_derivable = λ u i. elim i [ inl e ↦ known (inl e) | inr j ↦ elim j [ ] ];
  items = λ u us i j. inl (s.items u us i j);
  bodies = λ k u i j. inl (s.bodies k u i j);
}

pub done : (G K : List Tree) → Taking G K [] → IsTakenApart G K
done G K s = record {
  has_given = λ u i. only u (s.has_given u i);
  derivable = s.known_derivable;
  saturated = record { items = λ u us i j. only u (s.items u us i j); bodies = λ k u i j. only u (s.bodies k u i j) };
}
  where
    only : (u : Tree) → Among u K ⊎ ⊥ → Among u K
    only u (inl i) = i
    only u (inr i) = elim i [ ]

-- a term that waits and is known
pub skip : (G K P : List Tree) (t : Tree) → Among t K → Taking G K (P ++ t ∷ []) → Taking G K P
skip G K P t i s = record {
  has_given = λ u j. left u (s.has_given u j);
  known_derivable = s.known_derivable;
  waiting_derivable = λ u j. s.waiting_derivable u (among_left P (t ∷ []) u j);
  items = λ u us j h. left u (s.items u us j h);
  bodies = λ k u j h. left u (s.bodies k u j h);
}
  where
    left : (u : Tree) → Among u K ⊎ Among u (P ++ t ∷ []) → Among u K ⊎ Among u P
    left u (inl j) = inl j
    left u (inr j) = elim (last P t u j) [ inl h ↦ inr h | inr e ↦ inl (subst (λ (v : Tree). Among v K) (sym e) i) ]

-- the next term is looked at
item_among : (t : Tree) (ts : Trees) → IsItem t ts → Among t (untrees ts)
item_among t none i = i
item_among t (item u us) (inl e) = inl e
item_among t (item u us) (inr i) = inr (item_among t us i)

among_item : (t : Tree) (ts : Trees) → Among t (untrees ts) → IsItem t ts
among_item t none i = i
among_item t (item u us) (inl e) = inl e
among_item t (item u us) (inr i) = inr (among_item t us i)

tuple_inj : (ts us : Trees) → tuple ts ≡ tuple us → ts ≡ us
tuple_inj ts us e = cc

seal_body : (k l : Key) (t u : Tree) → seal k t ≡ seal l u → t ≡ u
seal_body k l t u e = cc

seal_key : (k l : Key) (t u : Tree) → seal k t ≡ seal l u → k ≡ l
seal_key k l t u e = cc

-- a key is derivable where each known part is
pub key_from : (G K : List Tree) → ((u : Tree) → Among u K → Derivable G u) → (k : Key) → KeyKnown K k → KeyDerivable G k
key_from G K f (One p) i = by_part (f (part p) i)
key_from G K f (Two p q) i = by_parts (f (part p) i.0) (f (part q) i.1)

-- what comes out is derivable
come_derivable : (G K : List Tree) → ((u : Tree) → Among u K → Derivable G u) → (t : Tree) → Derivable G t → (u : Tree) → Among u (comes_out K t) → Derivable G u
come_derivable G K f (tuple ts) d u i = taken_out ts (among_item u ts i) d
come_derivable G K f (seal k t) d u i = go (key_known K k) refl i
  where
    go : (b : Bool) → key_known K k ≡ b → Among u (if b then t ∷ [] else []) → Derivable G u
    go true e (inl h) = subst (Derivable G) (sym h) (opened k d (key_from G K f k (key_known_is K k e)))
    go true e (inr h) = elim h [ ]
    go false e h = elim h [ ]
come_derivable G K f (part p) d u i =
    let r = opened_from K p K u i in
    opened r.0 (f (seal r.0 u) r.1) (key_from G (part p ∷ K) (λ v j. elim j [ inl e ↦ subst (Derivable G) (sym e) d | inr h ↦ f v h ]) r.0 (key_known_is (part p ∷ K) r.0 r.2))
come_derivable G K f (name n) d u i = elim i [ ]
come_derivable G K f (stamp n) d u i = elim i [ ]
come_derivable G K f (nonce n) d u i = elim i [ ]
come_derivable G K f (text n) d u i = elim i [ ]
come_derivable G K f (tag n) d u i = elim i [ ]
come_derivable G K f (blob n) d u i = elim i [ ]
come_derivable G K f (check k n) d u i = elim i [ ]

-- a seal that was known: its body was known or waits, or it comes out now
body_of_known : (K : List Tree) (Q : Tree → Type 0) (k : Key) (u : Tree) → Among (seal k u) K → (KeyKnown K k → Q u) → (t : Tree) → KeyKnown (K ++ t ∷ []) k → Q u ⊎ Among u (comes_out K t)
body_of_known K Q k u i old (part p) h = go (key_beside K p k h)
  where
    go : (has_part k p ≡ true) ⊎ KeyKnown K k → Q u ⊎ Among u (opened_by K p K)
    go (inl e) = inr (opens K p K k u i e (key_known_if (part p ∷ K) k (key_more (K ++ part p ∷ []) (part p ∷ K) (to_front K (part p)) k h)))
    go (inr j) = inl (old j)
body_of_known K Q k u i old (name n) h = inl (old (key_before K (name n) (λ p e. absurd (cc)) k h))
body_of_known K Q k u i old (stamp n) h = inl (old (key_before K (stamp n) (λ p e. absurd (cc)) k h))
body_of_known K Q k u i old (nonce n) h = inl (old (key_before K (nonce n) (λ p e. absurd (cc)) k h))
body_of_known K Q k u i old (text n) h = inl (old (key_before K (text n) (λ p e. absurd (cc)) k h))
body_of_known K Q k u i old (tag n) h = inl (old (key_before K (tag n) (λ p e. absurd (cc)) k h))
body_of_known K Q k u i old (blob n) h = inl (old (key_before K (blob n) (λ p e. absurd (cc)) k h))
body_of_known K Q k u i old (tuple n) h = inl (old (key_before K (tuple n) (λ p e. absurd (cc)) k h))
body_of_known K Q k u i old (seal l n) h = inl (old (key_before K (seal l n) (λ p e. absurd (cc)) k h))
body_of_known K Q k u i old (check l n) h = inl (old (key_before K (check l n) (λ p e. absurd (cc)) k h))

-- the seal that is looked at: its body comes out where its key is known
body_of_next : (K : List Tree) (k : Key) (u : Tree) → KeyKnown (K ++ seal k u ∷ []) k → Among u (comes_out K (seal k u))
body_of_next K k u h = go (key_known K k) (key_known_if K k (key_before K (seal k u) (λ p e. absurd (cc)) k h))
  where
    go : (b : Bool) → b ≡ true → Among u (if b then u ∷ [] else [])
    go true e = inl refl
    go false e = absurd (cc)

pub step : (G K P : List Tree) (t : Tree) → Taking G K (P ++ t ∷ []) → Taking G (K ++ t ∷ []) (P ++ comes_out K t)
step G K P t s = record {
  has_given = λ u i. moved u (s.has_given u i);
  known_derivable = λ u i. elim (last K t u i) [ inl j ↦ s.known_derivable u j | inr e ↦ subst (Derivable G) (sym e) next_derivable ];
  waiting_derivable = λ u i. elim (among_append P (comes_out K t) u i) [ inl j ↦ s.waiting_derivable u (among_left P (t ∷ []) u j) | inr j ↦ come_derivable G K s.known_derivable t next_derivable u j ];
  items = λ u us i h. elim (last K t (tuple us) i) [ inl j ↦ moved u (s.items u us j h) | inr e ↦ out u (subst (λ (v : Tree). Among u (comes_out K v)) e (item_among u us h)) ];
  bodies = λ k u i h. body k u h (last K t (seal k u) i);
}
  where
    out : (u : Tree) → Among u (comes_out K t) → Among u (K ++ t ∷ []) ⊎ Among u (P ++ comes_out K t)
    out u i = inr (among_right P (comes_out K t) u i)

    moved : (u : Tree) → Among u K ⊎ Among u (P ++ t ∷ []) → Among u (K ++ t ∷ []) ⊎ Among u (P ++ comes_out K t)
    moved u (inl i) = inl (among_left K (t ∷ []) u i)
    moved u (inr i) = elim (last P t u i) [ inl j ↦ inr (among_left P (comes_out K t) u j) | inr e ↦ inl (among_right K (t ∷ []) u (inl e)) ]

    next_derivable : Derivable G t
    next_derivable = s.waiting_derivable t (among_right P (t ∷ []) t (inl refl))

    body : (k : Key) (u : Tree) → KeyKnown (K ++ t ∷ []) k → Among (seal k u) K ⊎ (seal k u ≡ t) → Among u (K ++ t ∷ []) ⊎ Among u (P ++ comes_out K t)
    body k u h (inl i) = elim (body_of_known K (λ v. Among v K ⊎ Among v (P ++ t ∷ [])) k u i (s.bodies k u i) t h) [ inl j ↦ moved u j | inr j ↦ out u j ]
    body k u h (inr e) = out u (subst (λ (v : Tree). Among u (comes_out K v)) e (body_of_next K k u (subst (λ (v : Tree). KeyKnown (K ++ v ∷ []) k) (sym e) h)))
