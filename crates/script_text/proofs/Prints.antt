-- Printing items one after the other.
use Rattle.std.proofs.Common.{◌≡◌, ℕ, zero, suc, ◌<◌, ◌≤◌, List, [], ◌∷◌, ◌++◌, length, drop, get_or, refl, sym, ap, subst, ◌∙◌, append_assoc, arith}
use Rattle.term_values.specs.Trees.{Tree, trees}
use Rattle.script_text.specs.Notation.{Writtens, IsWellFormed, AreWellFormed, notation, list_notation, more_notation, plain, all_plain}
use Rattle.script_text.specs.Printing.{comma_before}

-- the items from some place on, as they stand in the list
abbrev pub from_notation : ℕ → Writtens → List ℕ
from_notation zero ws = list_notation ws
from_notation (suc n) ws = more_notation ws

from_here : (place : ℕ) (t : Tree) (ts : List Tree) → from_notation place (all_plain (trees (t ∷ ts))) ≡ comma_before place ++ (notation (plain t) ++ more_notation (all_plain (trees ts)))
from_here zero t ts = refl
from_here (suc n) t ts = refl

drop_item : (ts : List Tree) (k : ℕ) (x : Tree) → k < length ts → x ≡ get_or ts k x → drop k ts ≡ x ∷ drop (suc k) ts
drop_item [] k x lt e = absurd (omega arith)
drop_item (t ∷ ts) zero x lt e = ap (λ (u : Tree). u ∷ ts) (sym e)
drop_item (t ∷ ts) (suc k) x lt e = drop_item ts k x (omega arith) e

-- the list goes on behind an item
pub from_next : (ts : List Tree) (k j : ℕ) (x : Tree) (old out mid new all : List ℕ) → j ≡ suc k → k < length ts → x ≡ get_or ts k x → mid ≡ out ++ comma_before k → new ≡ mid ++ notation (plain x)
    → out ++ from_notation k (all_plain (trees (drop k ts))) ≡ all → new ++ from_notation j (all_plain (trees (drop j ts))) ≡ all
from_next ts k j x old out mid new all next lt e comma printed so_far =
    let later : List ℕ = more_notation (all_plain (trees (drop (suc k) ts))) in
    let step : new ++ later ≡ out ++ (comma_before k ++ (notation (plain x) ++ later)) =
    ap (λ (l : List ℕ). l ++ later) (printed ∙ ap (λ (l : List ℕ). l ++ notation (plain x)) comma) ∙ append_assoc (out ++ comma_before k) (notation (plain x)) later ∙ append_assoc out (comma_before k) (notation (plain x) ++ later) in
    rw next (step ∙ ap (λ (l : List ℕ). out ++ l) (sym (from_here k x (drop (suc k) ts)) ∙ ap (λ (us : List Tree). from_notation k (all_plain (trees us))) (sym (drop_item ts k x lt e))) ∙ so_far)

pub values_next : (ts : List Tree) (k j : ℕ) (x : Tree) → j ≡ suc k → k < length ts → x ≡ get_or ts k x → IsWellFormed (plain x) → AreWellFormed (all_plain (trees (drop j ts))) → AreWellFormed (all_plain (trees (drop k ts)))
values_next ts k j x next lt e one others =
    subst (λ (us : List Tree). AreWellFormed (all_plain (trees us))) (sym (drop_item ts k x lt e)) (one, subst (λ (i : ℕ). AreWellFormed (all_plain (trees (drop i ts)))) next others)

pub none_left : (ts : List Tree) (k : ℕ) → length ts ≤ k → AreWellFormed (all_plain (trees (drop k ts)))
none_left [] zero le = tt
none_left [] (suc k) le = tt
none_left (t ∷ ts) zero le = absurd (omega arith)
none_left (t ∷ ts) (suc k) le = none_left ts k (omega arith)

gone : (ts : List Tree) (k : ℕ) → length ts ≤ k → more_notation (all_plain (trees (drop k ts))) ≡ []
gone [] zero le = refl
gone [] (suc k) le = refl
gone (t ∷ ts) zero le = absurd (omega arith)
gone (t ∷ ts) (suc k) le = gone ts k (omega arith)

pub nothing_left : (ts : List Tree) (k : ℕ) → length ts ≤ k → from_notation k (all_plain (trees (drop k ts))) ≡ []
nothing_left [] zero le = refl
nothing_left [] (suc k) le = refl
nothing_left (t ∷ ts) zero le = absurd (omega arith)
nothing_left (t ∷ ts) (suc k) le = gone ts k (omega arith)
