-- What is stored of the attacker's knowledge, as it learns.
use Rattle.std.proofs.Common.{◌≡◌, ◌↔◌, IsTrue, ℕ, zero, suc, ◌≤◌, List, [], ◌∷◌, ◌++◌, take, length, refl, sym, ap, subst, ◌∙◌, inl, inr, arith, Bool, Option, Some, None}
use Rattle.term_values.specs.Trees.{Among, Tree, seal, tuple, Trees, IsItem}
use Rattle.term_values.specs.declared.small.Key.{Key}
use Rattle.term_values.proofs.Lists.{among_left, among_right}
use Rattle.attacker_model.specs.Derivation.{Derivable, known, KeyDerivable}
use Rattle.attacker_model.specs.Saturated.{Built}
use Rattle.attacker_model.specs.Knowledge.{Differ, IsTakenApart, IsStored}
use Rattle.attacker_model.proofs.Derivations.{over, over_key}
use Rattle.attacker_model.proofs.Saturated.{derivable_is_built, built_is_derivable, derivable_key_known}
use Rattle.attacker_model.proofs.KnowledgeTaking.{to_front}
use Rattle.attacker_model.proofs.KnowledgeLooks.{take_all}

pub stored_none : IsStored [] 0 [] None
stored_none = record {
  differ = tt;
  within = omega arith;
  now = record {
    has_given = λ t i. i;
    derivable = λ t i. elim i [ ];
    saturated = record { items = λ t ts i j. elim i [ ]; bodies = λ k t i j. elim i [ ] };
  };
  next = λ t e. absurd (none_some t e);
}
  where
    none_some : (t : Tree) → None ≡ Some t → ⊥
    none_some t e = cc

pub among_take : (n : ℕ) (K : List Tree) (t : Tree) → Among t (take n K) → Among t K
among_take zero K t i = elim i [ ]
among_take (suc n) [] t i = elim i [ ]
among_take (suc n) (u ∷ K) t (inl e) = inl e
among_take (suc n) (u ∷ K) t (inr i) = inr (among_take n K t i)

pub differ_take : (n : ℕ) (K : List Tree) → Differ K → Differ (take n K)
differ_take zero K d = tt
differ_take (suc n) [] d = tt
differ_take (suc n) (u ∷ K) d = ((λ i. d.0 (among_take n K u i)), differ_take n K d.1)

length_take : (n : ℕ) (K : List Tree) → n ≤ length K → length (take n K) ≡ n
length_take zero K h = refl
length_take (suc n) [] h = absurd (omega arith)
length_take (suc n) (u ∷ K) h = omega (arith, length_take n K (omega arith))

within_take : (n : ℕ) (K L : List Tree) → n ≤ length K → length (take n K) ≡ n → take n L ≡ take n K → n ≤ length L
within_take zero K L h g e = omega arith
within_take (suc n) [] L h g e = absurd (omega arith)
within_take (suc n) (k ∷ K) [] h g e = absurd (cc)
within_take (suc n) (k ∷ K) (l ∷ L) h g e = omega (arith, within_take n K L (omega arith) (length_take n K (omega arith)) (tail_same l k (take n L) (take n K) e))
  where
    tail_same : (l k : Tree) (xs ys : List Tree) → l ∷ xs ≡ k ∷ ys → xs ≡ ys
    tail_same l k xs ys e = cc

-- what stands first when more was added
first_same : (s : ℕ) (A N : List Tree) → s ≤ length A → take (length (take s A)) N ≡ take s A → take s N ≡ take s A
first_same s A N h e = subst (λ (n : ℕ). take n N ≡ take s A) (length_take s A h) e

-- two steps of taking apart are one
pub taken_after : (G K N : List Tree) (t : Tree) → IsTakenApart G K → IsTakenApart (t ∷ K) N → IsTakenApart (G ++ t ∷ []) N
taken_after G K N t a b = record {
  has_given = λ u i. elim (to_front G t u i) [ inl e ↦ b.has_given u (inl e) | inr j ↦ b.has_given u (inr (a.has_given u j)) ];
  derivable = λ u i. over (t ∷ K) (G ++ t ∷ []) below u (b.derivable u i);
  saturated = b.saturated;
}
  where
    below : (u : Tree) → Among u (t ∷ K) → Derivable (G ++ t ∷ []) u
    below u (inl e) = known (among_right G (t ∷ []) u (inl e))
    below u (inr i) = over G (G ++ t ∷ []) (λ v j. known (among_left G (t ∷ []) v j)) u (a.derivable u i)

module _ (A : List Tree) (s : ℕ) (G : List Tree) (d : Option Tree) (h : IsStored A s G d) where
  -- nothing is due
  pub stored_kept : (N : List Tree) → Differ N → take (length (take s A)) N ≡ take s A → IsStored N s G None
  stored_kept N f e = record {
    differ = f;
    within = within_take s A N h.within (length_take s A h.within) (first_same s A N h.within e);
    now = subst (λ (K : List Tree). IsTakenApart G K) (sym (first_same s A N h.within e)) h.now;
    next = λ t g. absurd (none_some t g);
  }
    where
      none_some : (t : Tree) → None ≡ Some t → ⊥
      none_some t e = cc

  pub stored_ready : (t : Tree) (N : List Tree) → Differ N → take (length (take s A)) N ≡ take s A → IsTakenApart (t ∷ take s A) N → IsStored N s G (Some t)
  stored_ready t N f e a = record {
    differ = f;
    within = within_take s A N h.within (length_take s A h.within) (first_same s A N h.within e);
    now = subst (λ (K : List Tree). IsTakenApart G K) (sym (first_same s A N h.within e)) h.now;
    next = λ u g. subst (λ (v : Tree). IsTakenApart (G ++ v ∷ []) N) (some_same u g) (taken_after G (take s A) N t h.now a);
  }
    where
      some_same : (u : Tree) → Some t ≡ Some u → t ≡ u
      some_same u e = cc

  pub stored_first : IsStored (take s A) s G None
  stored_first = stored_kept (take s A) (differ_take s A h.differ) (take_all (take s A))

  pub stored_learnt : (t : Tree) → d ≡ Some t → IsStored A (length A) (G ++ t ∷ []) None
  stored_learnt t e = record {
    differ = h.differ;
    within = omega arith;
    now = subst (λ (K : List Tree). IsTakenApart (G ++ t ∷ []) K) (sym (take_all A)) (h.next t e);
    next = λ u g. absurd (none_some u g);
  }
    where
      none_some : (t : Tree) → None ≡ Some t → ⊥
      none_some t e = cc

-- what is derivable from the given terms is what is derivable from them taken apart
module _ (G K : List Tree) (a : IsTakenApart G K) where
  pub derivable_iff_built : (t : Tree) → Derivable G t ↔ Built K t
  derivable_iff_built t =
      ((λ d. derivable_is_built K a.saturated t (over G K (λ u i. known (a.has_given u i)) t d)), λ b. over K G a.derivable t (built_is_derivable K t b))

  pub derives_answer : (t : Tree) (b : Bool) → (IsTrue b ↔ Built K t) → (IsTrue b ↔ Derivable G t)
  derives_answer t b h = ((λ e. (derivable_iff_built t).1 (h.0 e)), λ d. h.1 ((derivable_iff_built t).0 d))

  pub taken_items : (t : Tree) (ts : Trees) → Among (tuple ts) K → IsItem t ts → Among t K
  taken_items = a.saturated.items

  pub taken_bodies : (k : Key) (t : Tree) → Among (seal k t) K → KeyDerivable G k → Among t K
  taken_bodies k t i d = a.saturated.bodies k t i (derivable_key_known K a.saturated k (over_key G K (λ u j. known (a.has_given u j)) k d))

pub no_term : (t : Tree) → None ≡ Some t → ⊥
no_term t e = cc

-- as callers see it
pub taken_of : (A : List Tree) (s : ℕ) (G : List Tree) (d : Option Tree) (K L H : List Tree) → IsStored A s G d → L ≡ A → K ≡ take s L → G ≡ H → IsTakenApart H K
taken_of A s G d K L H h l k g =
    subst (λ (X : List Tree). IsTakenApart X K) g (subst (λ (X : List Tree). IsTakenApart G X) (sym (k ∙ ap (λ (X : List Tree). take s X) l)) h.now)

pub differ_of : (A : List Tree) (s : ℕ) (G : List Tree) (d : Option Tree) (K L : List Tree) → IsStored A s G d → L ≡ A → K ≡ take s L → Differ K
differ_of A s G d K L h l k = subst Differ (sym (k ∙ ap (λ (X : List Tree). take s X) l)) (differ_take s A h.differ)

pub stored_truncated : (A : List Tree) (s : ℕ) (G : List Tree) (d : Option Tree) (T H : List Tree) → IsStored A s G d → T ≡ take s A → H ≡ G → IsStored T s H None
stored_truncated A s G d T H h t g =
    subst (λ (X : List Tree). IsStored X s H None) (sym t) (subst (λ (X : List Tree). IsStored (take s A) s X None) (sym g) (stored_first A s G d h))

pub stored_again : (A : List Tree) (s : ℕ) (G : List Tree) (d : Option Tree) (T H N : List Tree) (t u v : Tree) → IsStored A s G d → T ≡ take s A → H ≡ G → u ≡ t → v ≡ t → IsTakenApart (v ∷ T) N → Differ N → take (length T) N ≡ T → IsStored N s H (Some u)
stored_again A s G d T H N t u v h e g i j a f k =
    subst (λ (X : List Tree). IsStored N s X (Some u)) (sym g) (stored_ready A s G d h u N f
    (subst (λ (X : List Tree). take (length X) N ≡ X) e k)
    (subst (λ (x : Tree). IsTakenApart (x ∷ take s A) N) (j ∙ sym i) (subst (λ (X : List Tree). IsTakenApart (v ∷ X) N) e a)))
