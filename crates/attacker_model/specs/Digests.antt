-- Digests of terms: numbers below 2 ^ 128, by which a term is looked up among known ones.
use Rattle.std.specs.Prelude.{[], ◌∷◌, ◌≡◌, ℕ, zero, suc, ◌++◌, List, take, true}
use Rattle.std.specs.declared.cmp.Ordering.{Ordering}
use Rattle.std.specs.Ordering.{nat_cmp, ordering_then}
use Rattle.std.specs.BTreeSet.{BTreeSet, contains}
use Rattle.std.specs.Int.{w32, w64, w128, from_be_bytes, to_be_bytes}
use Rattle.sha2.specs.Sha256.{sha256}
use Rattle.term_values.specs.Trees.{Bytes, Tree, name, stamp, nonce, part, text, tag, blob, tuple, seal, check, Trees, none, item}
use Rattle.term_values.specs.declared.small.Key.{Key}
use Rattle.term_values.specs.declared.small.Key.TheVariants.{One, Two}
use Rattle.term_values.specs.declared.small.Stamp.{Stamp}
use Rattle.term_values.specs.declared.small.Stamp.TheVariants.{Time, Seq}
use Rattle.attacker_model.specs.Taken.{has_part}

-- a digest with a kind and bytes: the first 16 bytes of the SHA-256 digest of all three
unfoldable pub absorb : ℕ → ℕ → Bytes → ℕ
absorb d k bs = from_be_bytes w128 (take 16 (sha256 ((to_be_bytes w128 d ++ k ∷ []) ++ bs)))

-- with a part
abbrev pub digest_bytes : ℕ → Bytes → ℕ
digest_bytes d p = absorb d 3 p

-- with a stamp
abbrev pub digest_stamp : ℕ → Stamp → ℕ
digest_stamp d (Time n) = absorb d 10 (to_be_bytes w64 n)
digest_stamp d (Seq n) = absorb d 11 (to_be_bytes w64 n)

-- with a key that something of this kind is under
abbrev pub digest_key : ℕ → ℕ → Key → ℕ
digest_key d k (One p) = absorb d k p
digest_key d k (Two p q) = absorb (absorb d k p) 13 q

-- with a term
abbrev mutual
  pub digest_term : ℕ → Tree → ℕ
  digest_term d (name n) = absorb d 1 (to_be_bytes w32 n)
  digest_term d (stamp s) = digest_stamp d s
  digest_term d (nonce b) = absorb d 2 b
  digest_term d (part b) = digest_bytes d b
  digest_term d (text b) = absorb d 4 b
  digest_term d (tag b) = absorb d 5 b
  digest_term d (blob b) = absorb d 6 b
  digest_term d (tuple ts) = digest_items (absorb d 7 []) ts
  digest_term d (seal k t) = digest_term (digest_key d 8 k) t
  digest_term d (check k t) = digest_term (digest_key d 9 k) t

  pub digest_items : ℕ → Trees → ℕ
  digest_items d none = absorb d 12 []
  digest_items d (item t ts) = digest_items (digest_term d t) ts

-- by the first number, and then by the second
abbrev pub by_both : ℕ × ℕ → ℕ × ℕ → Ordering
by_both x y = ordering_then (nat_cmp x.0 y.0) (nat_cmp x.1 y.1)

-- the number is entered with this place
abbrev pub HasPlace : BTreeSet (ℕ × ℕ) → ℕ → ℕ → Type 0
HasPlace s n q = contains by_both s (n, q) ≡ true

-- the term stands at this place of the list, counted from 0
abbrev pub StandsAt : Tree → List Tree → ℕ → Type 0
StandsAt t [] q = ⊥
StandsAt t (u ∷ K) zero = t ≡ u
StandsAt t (u ∷ K) (suc q) = StandsAt t K q

-- each term's place is entered under its digest, and that of a seal also under the digest of each part of its key
pub record IsIndexed (terms : List Tree) (places locks : BTreeSet (ℕ × ℕ)) : Type 0 where
  pub found : (q : ℕ) (t : Tree) → StandsAt t terms q → HasPlace places (digest_term 1 t) q
  pub locked : (q : ℕ) (k : Key) (t : Tree) (p : Bytes) → StandsAt (seal k t) terms q → has_part k p ≡ true → HasPlace locks (digest_bytes 1 p) q
