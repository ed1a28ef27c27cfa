-- The tests of symbolic sealing tell equality.
use Rattle.std.proofs.Common.{◌≡◌, ◌↔◌, ℕ, [], ◌∷◌, Bool, true, false, Option, Some, None, ◌==◌, ◌&&◌, if◌then◌else◌, nat_eq, refl, sym, subst, ap, ap₂, arith}
use Rattle.std.specs.Cmp.Lexicographic.{pointwise}
use Rattle.term_values.specs.Trees.{Bytes, Tree, name, stamp, nonce, part, text, tag, blob, tuple, seal, check}
use Rattle.term_values.specs.SameBytes.{same_bytes}
use Rattle.term_values.specs.declared.small.Key.{Key}
use Rattle.term_values.specs.declared.small.Key.TheVariants.{One, Two}
use Rattle.term_values.proofs.Lists.{and_both, and_left, and_right}
use Rattle.term_values.proofs.SameBytes.{same_bytes_refl, same_start}
use Rattle.term_values.proofs.SameTrees.{same_is, same_refl}
use Rattle.term_values.specs.Limits.{IsKey}
use Rattle.seal_trait.specs.Items.{IsItemOf, IsShort}
use Rattle.seal_symbolic.specs.Symbolic.{body_of, is_check, same_key}

pub pointwise_is : (xs ys : Bytes) → pointwise nat_eq xs ys ≡ same_bytes xs ys
pointwise_is [] [] = refl
pointwise_is [] (y ∷ ys) = refl
pointwise_is (x ∷ xs) [] = refl
pointwise_is (x ∷ xs) (y ∷ ys) = ap (λ r. (x == y) && r) (pointwise_is xs ys)

pub same_key_refl : (k : Key) → same_key k k ≡ true
same_key_refl (One p) = same_bytes_refl p
same_key_refl (Two p q) = and_both _ _ (same_bytes_refl p) (same_bytes_refl q)

pub same_key_is : (k l : Key) → same_key k l ≡ true → k ≡ l
same_key_is (One p) (One q) e = ap One (same_start p q e)
same_key_is (Two p q) (Two r s) e = ap₂ Two (same_start p r (and_left _ _ e)) (same_start q s (and_right _ _ e))
same_key_is (One p) (Two r s) e = absurd cc
same_key_is (Two p q) (One r) e = absurd cc

-- a term opens exactly where it is a seal under that key, and then to its body
pub opens_is : (k : Key) (u t : Tree) → (body_of k u ≡ Some t) ↔ (u ≡ seal k t)
opens_is k u t = (λ e. to u e, λ e. subst (λ (v : Tree). body_of k v ≡ Some t) (sym e) from)
  where
    from : body_of k (seal k t) ≡ Some t
    from = rw (same_key_refl k) refl

    by_key : (b : Bool) (l : Key) (v : Tree) → (b ≡ true → l ≡ k) → (if b then Some v else None) ≡ Some t → seal l v ≡ seal k t
    by_key true l v h e = let g : l ≡ k = h refl in cc
    by_key false l v h e = absurd cc

    to : (u : Tree) → body_of k u ≡ Some t → u ≡ seal k t
    to (seal l v) e = by_key (same_key l k) l v (same_key_is l k) e
    to (name n) e = absurd cc
    to (stamp s) e = absurd cc
    to (nonce b) e = absurd cc
    to (part b) e = absurd cc
    to (text b) e = absurd cc
    to (tag b) e = absurd cc
    to (blob b) e = absurd cc
    to (tuple ts) e = absurd cc
    to (check l v) e = absurd cc

-- a term checks exactly where it is the check of that body under that key
pub checks_is : (k : Key) (t u : Tree) → (is_check k t u ≡ true) ↔ (u ≡ check k t)
checks_is k t u = (λ e. to u e, λ e. subst (λ (v : Tree). is_check k t v ≡ true) (sym e) from)
  where
    from : is_check k t (check k t) ≡ true
    from = and_both _ _ (same_key_refl k) (same_refl t t refl)

    to : (u : Tree) → is_check k t u ≡ true → u ≡ check k t
    to (check l v) e =
        ap₂ check (same_key_is l k (and_left _ _ e)) (same_is v t (and_right _ _ e))
    to (seal l v) e = absurd cc
    to (name n) e = absurd cc
    to (stamp s) e = absurd cc
    to (nonce b) e = absurd cc
    to (part b) e = absurd cc
    to (text b) e = absurd cc
    to (tag b) e = absurd cc
    to (blob b) e = absurd cc
    to (tuple ts) e = absurd cc

pub seal_opens : (k : Key) (t u : Tree) → u ≡ seal k t → body_of k u ≡ Some t
seal_opens k t u e = (opens_is k u t).1 e

pub check_checks : (k : Key) (t u : Tree) → u ≡ check k t → is_check k t u ≡ true
check_checks k t u e = (checks_is k t u).1 e

seal_fits : (k : Key) (t : Tree) → IsKey k → IsShort t → IsItemOf t (seal k t)
seal_fits (One p) t whole short = record { fits = (whole, short.fits); levels = omega arith; length = omega arith }
seal_fits (Two p q) t whole short = record { fits = (whole, short.fits); levels = omega arith; length = omega arith }

check_fits : (k : Key) (t : Tree) → IsKey k → IsShort t → IsItemOf t (check k t)
check_fits (One p) t whole short = record { fits = (whole, short.fits); levels = omega arith; length = omega arith }
check_fits (Two p q) t whole short = record { fits = (whole, short.fits); levels = omega arith; length = omega arith }

pub seal_limits : (k : Key) (t u : Tree) → u ≡ seal k t → IsKey k → IsShort t → IsItemOf t u
seal_limits k t u e whole short = subst (λ (v : Tree). IsItemOf t v) (sym e) (seal_fits k t whole short)

pub check_limits : (k : Key) (t u : Tree) → u ≡ check k t → IsKey k → IsShort t → IsItemOf t u
check_limits k t u e whole short = subst (λ (v : Tree). IsItemOf t v) (sym e) (check_fits k t whole short)
