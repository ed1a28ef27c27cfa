-- What contracts see of the attacker's knowledge, and what it is to take known terms apart.
use Rattle.std.specs.Prelude.{◌≡◌, ℕ, ◌≤◌, List, [], ◌∷◌, ◌++◌, Option, Some, take, length, refl}
use Rattle.std.specs.Coded.{Coded, code_by, coded×, coded_list, coded_option}
use Rattle.term_values.specs.Trees.{Among, Tree}
use Rattle.term_values.specs.Codes.{coded_tree}
use Rattle.attacker_model.specs.Derivation.{Derivable}
use Rattle.attacker_model.specs.Saturated.{IsSaturated}

-- the terms given to the attacker, first to last, and the term that it is about to learn
pub record Learnt : Type 0 where
  pub given : List Tree
  pub due : Option Tree

-- how the logic stores it
abbrev pub coded_learnt : Coded Learnt
coded_learnt =
    code_by (List Tree × Option Tree) (coded× (coded_list coded_tree) (coded_option coded_tree)) (λ l. (l.given, l.due)) (λ p. record { given = p.0; due = p.1 }) (λ _. refl)

-- no term stands twice
abbrev pub Differ : List Tree → Type 0
Differ [] = Unit {0}
Differ (t ∷ ts) = (Among t ts → ⊥) × Differ ts

-- K has the given terms and what comes of taking them apart as far as they go, and nothing that is not derivable
pub record IsTakenApart (given K : List Tree) : Type 0 where
  pub has_given : (t : Tree) → Among t given → Among t K
  pub derivable : (t : Tree) → Among t K → Derivable given t
  pub saturated : IsSaturated K

-- how knowledge is stored: differing terms, of which the first ones come of the given ones, and all of them once the due term is learnt
pub record IsStored (terms : List Tree) (settled : ℕ) (given : List Tree) (due : Option Tree) : Type 0 where
  pub differ : Differ terms
  pub within : settled ≤ length terms
  pub now : IsTakenApart given (take settled terms)
  pub next : (t : Tree) → due ≡ Some t → IsTakenApart (given ++ t ∷ []) terms
