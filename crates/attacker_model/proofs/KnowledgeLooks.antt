-- One look at the next term that waits keeps what holds on the way, and leaves less to do.
use Rattle.std.proofs.Common.{◌≡◌, ◌↔◌, IsTrue, ◌+◌, ◌<◌, List, [], ◌∷◌, ◌++◌, take, length, refl, sym, ap, subst, inl, inr, arith, Result, Ok, Err, IfOk, Bool}
use Rattle.term_values.specs.Trees.{Among, Bytes, Tree, part, trees, sizes_of}
use Rattle.attacker_model.specs.Saturated.{IsSaturated}
use Rattle.attacker_model.specs.Knowledge.{Differ, IsTakenApart}
use Rattle.attacker_model.specs.Taken.{comes_out, IsLookedAt, part_known}
use Rattle.attacker_model.proofs.KnowledgeTaking.{Taking, skip, step, last, part_known_test}
use Rattle.attacker_model.proofs.KnowledgeTaking as taking
use Rattle.attacker_model.proofs.KnowledgeMeasure.{weights, less, sizes_append}

pub start : (K : List Tree) (t : Tree) (P : List Tree) → P ≡ [] ++ t ∷ [] → IsSaturated K → Taking (t ∷ K) K P
start K t P e s = subst (λ (Q : List Tree). Taking (t ∷ K) K Q) (sym e) (taking.start K t s)

pub done : (G K P : List Tree) → P ≡ [] → Taking G K P → IsTakenApart G K
done G K P e s = taking.done G K (subst (λ (Q : List Tree). Taking G K Q) e s)

module _ (K P : List Tree) (t : Tree) (L Q : List Tree) where
  pub keeps_taking : (G W : List Tree) → W ≡ P ++ t ∷ [] → Taking G K W → IsLookedAt K P t L Q → Taking G L Q
  keeps_taking G W e s (inl (i, l, q)) = subst (λ (M : List Tree). Taking G M Q) (sym l) (subst (λ (M : List Tree). Taking G K M) (sym q) (skip G K P t i (subst (λ (M : List Tree). Taking G K M) e s)))
  keeps_taking G W e s (inr (i, l, q)) = subst (λ (M : List Tree). Taking G M Q) (sym l) (subst (λ (M : List Tree). Taking G (K ++ t ∷ []) M) (sym q) (step G K P t (subst (λ (M : List Tree). Taking G K M) e s)))

  pub leaves_less : (W : List Tree) → W ≡ P ++ t ∷ [] → IsLookedAt K P t L Q → sizes_of (trees Q) + weights L L < sizes_of (trees W) + weights K K
  leaves_less W e (inl (i, l, q)) = omega (arith, ap (λ (M : List Tree). weights M M) l, ap (λ (M : List Tree). sizes_of (trees M)) q, ap (λ (M : List Tree). sizes_of (trees M)) e, sizes_append P (t ∷ []))
  leaves_less W e (inr (i, l, q)) = omega (arith, ap (λ (M : List Tree). weights M M) l, ap (λ (M : List Tree). sizes_of (trees M)) q, ap (λ (M : List Tree). sizes_of (trees M)) e, sizes_append P (t ∷ []), sizes_append P (comes_out K t), less K t i)

-- a term that isn't among differing ones differs from them
differ_end : (K : List Tree) (t : Tree) → Differ K → (Among t K → ⊥) → Differ (K ++ t ∷ [])
differ_end [] t d new = ((λ i. i), tt)
differ_end (u ∷ K) t d new =
    ((λ i. elim (last K t u i) [ inl j ↦ d.0 j | inr e ↦ new (inl (sym e)) ]), differ_end K t d.1 (λ i. new (inr i)))

pub keeps_differ : (K P : List Tree) (t : Tree) (L Q : List Tree) → Differ K → IsLookedAt K P t L Q → Differ L
keeps_differ K P t L Q d (inl (i, l, q)) = subst Differ (sym l) d
keeps_differ K P t L Q d (inr (i, l, q)) = subst Differ (sym l) (differ_end K t d i)

-- the terms that stood first stand there still
pub take_all : (K : List Tree) → take (length K) K ≡ K
take_all [] = refl
take_all (t ∷ K) = ap (λ (M : List Tree). t ∷ M) (take_all K)

cons_same : (k f : Tree) (xs ys : List Tree) → k ≡ f → xs ≡ ys → k ∷ xs ≡ f ∷ ys
cons_same k f xs ys e h = cc

head_same : (k f : Tree) (xs ys : List Tree) → k ∷ xs ≡ f ∷ ys → k ≡ f
head_same k f xs ys e = cc

tail_same : (k f : Tree) (xs ys : List Tree) → k ∷ xs ≡ f ∷ ys → xs ≡ ys
tail_same k f xs ys e = cc

take_end : (F K : List Tree) (t : Tree) → take (length F) K ≡ F → take (length F) (K ++ t ∷ []) ≡ F
take_end [] K t e = refl
take_end (f ∷ F) [] t e = absurd (cc)
take_end (f ∷ F) (k ∷ K) t e = cons_same k f (take (length F) (K ++ t ∷ [])) F (head_same k f (take (length F) K) F e) (take_end F K t (tail_same k f (take (length F) K) F e))

pub keeps_first : (K P : List Tree) (t : Tree) (L Q F : List Tree) → take (length F) K ≡ F → IsLookedAt K P t L Q → take (length F) L ≡ F
keeps_first K P t L Q F e (inl (i, l, q)) = subst (λ (M : List Tree). take (length F) M ≡ F) (sym l) e
keeps_first K P t L Q F e (inr (i, l, q)) = subst (λ (M : List Tree). take (length F) M ≡ F) (sym l) (take_end F K t e)

-- the answer on a part, as a test
pub part_known_answer : (E : Type 0) (K : List Tree) (p : Bytes) (r : Result Bool E) → IfOk r (λ b. IsTrue b ↔ Among (part p) K) → IfOk r (λ b. b ≡ part_known K p)
part_known_answer E K p (Ok b) h = part_known_test K p b h
part_known_answer E K p (Err e) h = h
