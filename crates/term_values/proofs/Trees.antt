-- Items of a tuple, as a list.
use Rattle.std.proofs.Common.{◌≡◌, inl, inr, ℕ, zero, suc, ◌<◌, ◌≤◌, List, [], ◌∷◌, drop, get_or, length, refl, sym, ap, subst, ◌∙◌, arith}
use Rattle.term_values.specs.Trees.{Tree, Trees, item, none, trees, untrees, count_of, sizes_of, size_of, Occurs, OccursInItems}

pub untrees_trees : (ts : List Tree) → untrees (trees ts) ≡ ts
untrees_trees [] = refl
untrees_trees (t ∷ ts) = ap (λ (us : List Tree). t ∷ us) (untrees_trees ts)

pub trees_untrees : (ts : Trees) → trees (untrees ts) ≡ ts
trees_untrees none = refl
trees_untrees (item t ts) = ap (item t) (trees_untrees ts)

pub trees_inj : (ts us : List Tree) → trees ts ≡ trees us → ts ≡ us
trees_inj ts us e = sym (untrees_trees ts) ∙ ap untrees e ∙ untrees_trees us

pub count_trees : (ts : List Tree) → count_of (trees ts) ≡ length ts
count_trees [] = refl
count_trees (t ∷ ts) = omega (arith, count_trees ts)

pub item_smaller : (ts : List Tree) (k : ℕ) (x : Tree) → k < length ts → x ≡ get_or ts k x → size_of x < sizes_of (trees ts)
item_smaller [] k x lt e = absurd (omega arith)
item_smaller (t ∷ ts) zero x lt e = omega (arith, ap size_of e)
item_smaller (t ∷ ts) (suc k) x lt e = omega (arith, item_smaller ts k x (omega arith) e)

-- ---- what stands in items

pub stands_in_item : (v : Tree) (ts : List Tree) (k : ℕ) (x : Tree) → k < length ts → x ≡ get_or ts k x → Occurs v x → OccursInItems v (trees ts)
stands_in_item v [] k x lt e h = absurd (omega arith)
stands_in_item v (t ∷ ts) zero x lt e h = inl (subst (Occurs v) e h)
stands_in_item v (t ∷ ts) (suc k) x lt e h = inr (stands_in_item v ts k x (omega arith) e h)

-- what stands in the items from k on, and not in item k, stands in the items after it
pub stands_in_rest : (v : Tree) (ts : List Tree) (k : ℕ) (x : Tree) → k < length ts → x ≡ get_or ts k x → (Occurs v x → ⊥) → OccursInItems v (trees (drop k ts)) → OccursInItems v (trees (drop (suc k) ts))
stands_in_rest v [] k x lt e absent h = absurd (omega arith)
stands_in_rest v (t ∷ ts) zero x lt e absent (inl h) = absurd (absent (subst (Occurs v) (sym e) h))
stands_in_rest v (t ∷ ts) zero x lt e absent (inr h) = h
stands_in_rest v (t ∷ ts) (suc k) x lt e absent h = stands_in_rest v ts k x (omega arith) e absent h

pub stands_in_none : (v : Tree) (ts : List Tree) (k : ℕ) → length ts ≤ k → OccursInItems v (trees (drop k ts)) → ⊥
stands_in_none v [] zero le h = h
stands_in_none v [] (suc k) le h = h
stands_in_none v (t ∷ ts) zero le h = omega arith
stands_in_none v (t ∷ ts) (suc k) le h = stands_in_none v ts k (omega arith) h
