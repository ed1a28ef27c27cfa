-- A term is safe where it shows no good part: outside protected items no good part stands, and each item under a good key was sent.
-- What is derivable from safe terms is safe.
use Rattle.std.proofs.Common.{List, [], ◌∷◌, subst, sym, inl, inr}
use Rattle.term_values.specs.Trees.{Among, Bytes, Tree, name, stamp, nonce, part, text, tag, blob, tuple, seal, check, Trees, none, item, trees, IsItem}
use Rattle.term_values.specs.declared.small.Key.{Key}
use Rattle.attacker_model.specs.Derivation.{Derivable, known, any_name, any_stamp, any_nonce, any_text, any_tag, any_blob, tupled, taken_out, sealed, checked, opened, AllDerivable, no_items, an_item, KeyDerivable, by_part, by_parts, IsGoodKey}

abbrev mutual
  pub Safe : (Bytes → Type 0) → (Tree → Type 0) → Tree → Type 0
  Safe Good Sent (part p) = Good p → ⊥
  Safe Good Sent (tuple ts) = SafeItems Good Sent ts
  Safe Good Sent (seal k t) = (IsGoodKey Good k → Sent (seal k t)) × ((IsGoodKey Good k → ⊥) → Safe Good Sent t)
  Safe Good Sent (check k t) = IsGoodKey Good k → Sent (check k t)
  Safe Good Sent (name n) = Unit {0}
  Safe Good Sent (stamp s) = Unit {0}
  Safe Good Sent (nonce b) = Unit {0}
  Safe Good Sent (text b) = Unit {0}
  Safe Good Sent (tag b) = Unit {0}
  Safe Good Sent (blob b) = Unit {0}

  pub SafeItems : (Bytes → Type 0) → (Tree → Type 0) → Trees → Type 0
  SafeItems Good Sent none = Unit {0}
  SafeItems Good Sent (item t ts) = Safe Good Sent t × SafeItems Good Sent ts

-- each of these terms is safe
abbrev pub AllSafe : (Bytes → Type 0) → (Tree → Type 0) → List Tree → Type 0
AllSafe Good Sent ts = (t : Tree) → Among t ts → Safe Good Sent t

module _ (Good : Bytes → Type 0) (Sent : Tree → Type 0) where
  item_is_safe : (t : Tree) (ts : Trees) → IsItem t ts → SafeItems Good Sent ts → Safe Good Sent t
  item_is_safe t none i s = elim i [ ]
  item_is_safe t (item u us) (inl e) s = subst (Safe Good Sent) (sym e) s.0
  item_is_safe t (item u us) (inr i) s = item_is_safe t us i s.1

  pub among_is_safe : (t : Tree) (ts : List Tree) → Among t ts → SafeItems Good Sent (trees ts) → Safe Good Sent t
  among_is_safe t [] i s = elim i [ ]
  among_is_safe t (u ∷ us) (inl e) s = subst (Safe Good Sent) (sym e) s.0
  among_is_safe t (u ∷ us) (inr i) s = among_is_safe t us i s.1

  pub all_are_safe : (ts : List Tree) → AllSafe Good Sent ts → SafeItems Good Sent (trees ts)
  all_are_safe [] h = tt
  all_are_safe (t ∷ ts) h = (h t (inl (λ i. t)), all_are_safe ts (λ u i. h u (inr i)))

  mutual
    pub derivable_is_safe : (K : List Tree) → AllSafe Good Sent K → (t : Tree) → Derivable K t → Safe Good Sent t
    derivable_is_safe K safe t (known h) = safe t h
    derivable_is_safe K safe t any_name = tt
    derivable_is_safe K safe t any_stamp = tt
    derivable_is_safe K safe t any_nonce = tt
    derivable_is_safe K safe t any_text = tt
    derivable_is_safe K safe t any_tag = tt
    derivable_is_safe K safe t any_blob = tt
    derivable_is_safe K safe t (tupled {ts = ts} d) = derivable_are_safe K safe ts d
    derivable_is_safe K safe t (taken_out ts i d) = item_is_safe t ts i (derivable_is_safe K safe (tuple ts) d)
    derivable_is_safe K safe t (sealed {k = k} {t = u} e d) =
        let bad = derivable_is_bad K safe k e in
        ((λ good. absurd (bad good)), λ _. derivable_is_safe K safe u d)
    derivable_is_safe K safe t (checked {k = k} e d) = λ good. absurd (derivable_is_bad K safe k e good)
    derivable_is_safe K safe t (opened k d e) = (derivable_is_safe K safe (seal k t) d).1 (derivable_is_bad K safe k e)

    pub derivable_are_safe : (K : List Tree) → AllSafe Good Sent K → (ts : Trees) → AllDerivable K ts → SafeItems Good Sent ts
    derivable_are_safe K safe ts no_items = tt
    derivable_are_safe K safe ts (an_item {t = u} {ts = us} d ds) = (derivable_is_safe K safe u d, derivable_are_safe K safe us ds)

    pub derivable_is_bad : (K : List Tree) → AllSafe Good Sent K → (k : Key) → KeyDerivable K k → IsGoodKey Good k → ⊥
    derivable_is_bad K safe k (by_part {p = p} d) good = derivable_is_safe K safe (part p) d good
    derivable_is_bad K safe k (by_parts {p = p} {q = q} d e) (inl good) = derivable_is_safe K safe (part p) d good
    derivable_is_bad K safe k (by_parts {p = p} {q = q} d e) (inr good) = derivable_is_safe K safe (part q) e good

-- where more was sent, what was safe is safe
module _ (Good : Bytes → Type 0) (Sent More : Tree → Type 0) (more : (t : Tree) → Sent t → More t) where
  mutual
    pub stays_safe : (t : Tree) → Safe Good Sent t → Safe Good More t
    stays_safe (part p) s = s
    stays_safe (tuple ts) s = stay_safe ts s
    stays_safe (seal k t) s = ((λ good. more (seal k t) (s.0 good)), λ bad. stays_safe t (s.1 bad))
    stays_safe (check k t) s = λ good. more (check k t) (s good)
    stays_safe (name n) s = tt
    stays_safe (stamp n) s = tt
    stays_safe (nonce b) s = tt
    stays_safe (text b) s = tt
    stays_safe (tag b) s = tt
    stays_safe (blob b) s = tt

    pub stay_safe : (ts : Trees) → SafeItems Good Sent ts → SafeItems Good More ts
    stay_safe none s = tt
    stay_safe (item t ts) s = (stays_safe t s.0, stay_safe ts s.1)
