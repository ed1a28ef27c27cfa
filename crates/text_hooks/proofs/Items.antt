-- Items by their places.
use Rattle.std.proofs.Common.{◌≡◌, ℕ, zero, suc, ◌<◌, List, [], ◌∷◌, get_or, length, false, arith}
use Rattle.term_values.specs.Trees.{Tree, tuple, none, tag}
use Rattle.term_values.specs.Same.{same}
use Rattle.term_values.proofs.SameTrees.{is_same}
use Rattle.mech_rows.specs.Verdict.{at}

pub at_is : (ts : List Tree) (k : ℕ) (x : Tree) → k < length ts → x ≡ get_or ts k x → x ≡ get_or ts k (tuple none)
at_is [] k x lt e = absurd (omega arith)
at_is (t ∷ ts) zero x lt e = e
at_is (t ∷ ts) (suc k) x lt e = at_is ts k x (omega arith) e

-- an empty list has no tag
pub no_tag : (ts : List Tree) (t : List ℕ) → length ts ≡ 0 → false ≡ same (at ts 0) (tag t)
no_tag [] t e = is_same false _ _ ((λ p. absurd cc), (λ p. absurd cc))
no_tag (u ∷ us) t e = absurd (omega (arith, e))
