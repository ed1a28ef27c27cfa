-- What stands in a list of known terms, one after the other.
use Rattle.std.proofs.Common.{◌≡◌, inl, inr, ℕ, zero, suc, ◌<◌, List, [], ◌∷◌, get_or, length, ◌∙◌, arith}
use Rattle.term_values.specs.Trees.{Among, Tree}

pub among_at : (xs : List Tree) (k : ℕ) (x t : Tree) → k < length xs → x ≡ get_or xs k x → t ≡ x → Among t xs
among_at [] k x t lt e is = absurd (omega arith)
among_at (y ∷ ys) zero x t lt e is = inl (is ∙ e)
among_at (y ∷ ys) (suc k) x t lt e is = inr (among_at ys k x t (omega arith) e is)
