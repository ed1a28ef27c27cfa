-- How the logic stores a tree.
use Rattle.std.proofs.Common.{◌≡◌, ◌≢◌, ℕ, List, ap, arith}
use Rattle.std.specs.Coded.{Coded, coded_ℕ, coded_list}
use base.Stored.{Gv, gnil, gnum, gcons}
use Rattle.term_values.specs.contracts.small.Key as keyed
use Rattle.term_values.specs.contracts.small.Stamp as stamped
use Rattle.term_values.specs.Trees.{Tree, name, stamp, nonce, part, text, tag, blob, tuple, seal, check, Trees, none, item}

-- the first of a pair
abbrev head : Gv → Gv
head gnil = gnil
head (gnum n) = gnil
head (gcons a b) = a

-- the second of a pair
abbrev tail : Gv → Gv
tail gnil = gnil
tail (gnum n) = gnil
tail (gcons a b) = b

-- codes of two kinds differ
apart : {X : Type 0} (m n : ℕ) {a b : Gv} → m ≢ n → gcons (gnum m) a ≡ gcons (gnum n) b → X
apart m n other p = absurd (other cc)

-- the code of bytes
abbrev bytes : Coded (List ℕ)
bytes = coded_list coded_ℕ

-- the number of the form, and the codes of its parts
abbrev mutual
  pub tree_code : Tree → Gv
  tree_code (name n0) = gcons (gnum 0) (coded_ℕ.code n0)
  tree_code (stamp s0) = gcons (gnum 1) (stamped.the_row.coded.code s0)
  tree_code (nonce l0) = gcons (gnum 2) (bytes.code l0)
  tree_code (part l0) = gcons (gnum 3) (bytes.code l0)
  tree_code (text l0) = gcons (gnum 4) (bytes.code l0)
  tree_code (tag l0) = gcons (gnum 5) (bytes.code l0)
  tree_code (blob l0) = gcons (gnum 6) (bytes.code l0)
  tree_code (tuple ts0) = gcons (gnum 7) (trees_code ts0)
  tree_code (seal k0 t0) = gcons (gnum 8) (gcons (keyed.the_row.coded.code k0) (tree_code t0))
  tree_code (check k0 t0) = gcons (gnum 9) (gcons (keyed.the_row.coded.code k0) (tree_code t0))

  pub trees_code : Trees → Gv
  trees_code none = gnil
  trees_code (item t ts) = gcons (tree_code t) (trees_code ts)

-- trees of one code are one tree
mutual
  pub tree_inj : (x y : Tree) → tree_code x ≡ tree_code y → x ≡ y
  tree_inj (name n0) (name n1) p = ap name (coded_ℕ.inj n0 n1 (ap tail p))
  tree_inj (name n0) (stamp s1) p = apart 0 1 (omega arith) p
  tree_inj (name n0) (nonce l1) p = apart 0 2 (omega arith) p
  tree_inj (name n0) (part l1) p = apart 0 3 (omega arith) p
  tree_inj (name n0) (text l1) p = apart 0 4 (omega arith) p
  tree_inj (name n0) (tag l1) p = apart 0 5 (omega arith) p
  tree_inj (name n0) (blob l1) p = apart 0 6 (omega arith) p
  tree_inj (name n0) (tuple ts1) p = apart 0 7 (omega arith) p
  tree_inj (name n0) (seal k1 t1) p = apart 0 8 (omega arith) p
  tree_inj (name n0) (check k1 t1) p = apart 0 9 (omega arith) p
  tree_inj (stamp s0) (name n1) p = apart 1 0 (omega arith) p
  tree_inj (stamp s0) (stamp s1) p = ap stamp (stamped.the_row.coded.inj s0 s1 (ap tail p))
  tree_inj (stamp s0) (nonce l1) p = apart 1 2 (omega arith) p
  tree_inj (stamp s0) (part l1) p = apart 1 3 (omega arith) p
  tree_inj (stamp s0) (text l1) p = apart 1 4 (omega arith) p
  tree_inj (stamp s0) (tag l1) p = apart 1 5 (omega arith) p
  tree_inj (stamp s0) (blob l1) p = apart 1 6 (omega arith) p
  tree_inj (stamp s0) (tuple ts1) p = apart 1 7 (omega arith) p
  tree_inj (stamp s0) (seal k1 t1) p = apart 1 8 (omega arith) p
  tree_inj (stamp s0) (check k1 t1) p = apart 1 9 (omega arith) p
  tree_inj (nonce l0) (name n1) p = apart 2 0 (omega arith) p
  tree_inj (nonce l0) (stamp s1) p = apart 2 1 (omega arith) p
  tree_inj (nonce l0) (nonce l1) p = ap nonce (bytes.inj l0 l1 (ap tail p))
  tree_inj (nonce l0) (part l1) p = apart 2 3 (omega arith) p
  tree_inj (nonce l0) (text l1) p = apart 2 4 (omega arith) p
  tree_inj (nonce l0) (tag l1) p = apart 2 5 (omega arith) p
  tree_inj (nonce l0) (blob l1) p = apart 2 6 (omega arith) p
  tree_inj (nonce l0) (tuple ts1) p = apart 2 7 (omega arith) p
  tree_inj (nonce l0) (seal k1 t1) p = apart 2 8 (omega arith) p
  tree_inj (nonce l0) (check k1 t1) p = apart 2 9 (omega arith) p
  tree_inj (part l0) (name n1) p = apart 3 0 (omega arith) p
  tree_inj (part l0) (stamp s1) p = apart 3 1 (omega arith) p
  tree_inj (part l0) (nonce l1) p = apart 3 2 (omega arith) p
  tree_inj (part l0) (part l1) p = ap part (bytes.inj l0 l1 (ap tail p))
  tree_inj (part l0) (text l1) p = apart 3 4 (omega arith) p
  tree_inj (part l0) (tag l1) p = apart 3 5 (omega arith) p
  tree_inj (part l0) (blob l1) p = apart 3 6 (omega arith) p
  tree_inj (part l0) (tuple ts1) p = apart 3 7 (omega arith) p
  tree_inj (part l0) (seal k1 t1) p = apart 3 8 (omega arith) p
  tree_inj (part l0) (check k1 t1) p = apart 3 9 (omega arith) p
  tree_inj (text l0) (name n1) p = apart 4 0 (omega arith) p
  tree_inj (text l0) (stamp s1) p = apart 4 1 (omega arith) p
  tree_inj (text l0) (nonce l1) p = apart 4 2 (omega arith) p
  tree_inj (text l0) (part l1) p = apart 4 3 (omega arith) p
  tree_inj (text l0) (text l1) p = ap text (bytes.inj l0 l1 (ap tail p))
  tree_inj (text l0) (tag l1) p = apart 4 5 (omega arith) p
  tree_inj (text l0) (blob l1) p = apart 4 6 (omega arith) p
  tree_inj (text l0) (tuple ts1) p = apart 4 7 (omega arith) p
  tree_inj (text l0) (seal k1 t1) p = apart 4 8 (omega arith) p
  tree_inj (text l0) (check k1 t1) p = apart 4 9 (omega arith) p
  tree_inj (tag l0) (name n1) p = apart 5 0 (omega arith) p
  tree_inj (tag l0) (stamp s1) p = apart 5 1 (omega arith) p
  tree_inj (tag l0) (nonce l1) p = apart 5 2 (omega arith) p
  tree_inj (tag l0) (part l1) p = apart 5 3 (omega arith) p
  tree_inj (tag l0) (text l1) p = apart 5 4 (omega arith) p
  tree_inj (tag l0) (tag l1) p = ap tag (bytes.inj l0 l1 (ap tail p))
  tree_inj (tag l0) (blob l1) p = apart 5 6 (omega arith) p
  tree_inj (tag l0) (tuple ts1) p = apart 5 7 (omega arith) p
  tree_inj (tag l0) (seal k1 t1) p = apart 5 8 (omega arith) p
  tree_inj (tag l0) (check k1 t1) p = apart 5 9 (omega arith) p
  tree_inj (blob l0) (name n1) p = apart 6 0 (omega arith) p
  tree_inj (blob l0) (stamp s1) p = apart 6 1 (omega arith) p
  tree_inj (blob l0) (nonce l1) p = apart 6 2 (omega arith) p
  tree_inj (blob l0) (part l1) p = apart 6 3 (omega arith) p
  tree_inj (blob l0) (text l1) p = apart 6 4 (omega arith) p
  tree_inj (blob l0) (tag l1) p = apart 6 5 (omega arith) p
  tree_inj (blob l0) (blob l1) p = ap blob (bytes.inj l0 l1 (ap tail p))
  tree_inj (blob l0) (tuple ts1) p = apart 6 7 (omega arith) p
  tree_inj (blob l0) (seal k1 t1) p = apart 6 8 (omega arith) p
  tree_inj (blob l0) (check k1 t1) p = apart 6 9 (omega arith) p
  tree_inj (tuple ts0) (name n1) p = apart 7 0 (omega arith) p
  tree_inj (tuple ts0) (stamp s1) p = apart 7 1 (omega arith) p
  tree_inj (tuple ts0) (nonce l1) p = apart 7 2 (omega arith) p
  tree_inj (tuple ts0) (part l1) p = apart 7 3 (omega arith) p
  tree_inj (tuple ts0) (text l1) p = apart 7 4 (omega arith) p
  tree_inj (tuple ts0) (tag l1) p = apart 7 5 (omega arith) p
  tree_inj (tuple ts0) (blob l1) p = apart 7 6 (omega arith) p
  tree_inj (tuple ts0) (tuple ts1) p = ap tuple (trees_inj ts0 ts1 (ap tail p))
  tree_inj (tuple ts0) (seal k1 t1) p = apart 7 8 (omega arith) p
  tree_inj (tuple ts0) (check k1 t1) p = apart 7 9 (omega arith) p
  tree_inj (seal k0 t0) (name n1) p = apart 8 0 (omega arith) p
  tree_inj (seal k0 t0) (stamp s1) p = apart 8 1 (omega arith) p
  tree_inj (seal k0 t0) (nonce l1) p = apart 8 2 (omega arith) p
  tree_inj (seal k0 t0) (part l1) p = apart 8 3 (omega arith) p
  tree_inj (seal k0 t0) (text l1) p = apart 8 4 (omega arith) p
  tree_inj (seal k0 t0) (tag l1) p = apart 8 5 (omega arith) p
  tree_inj (seal k0 t0) (blob l1) p = apart 8 6 (omega arith) p
  tree_inj (seal k0 t0) (tuple ts1) p = apart 8 7 (omega arith) p
  tree_inj (seal k0 t0) (seal k1 t1) p = λ i. seal (keyed.the_row.coded.inj k0 k1 (ap (λ g. head (tail g)) p) i) (tree_inj t0 t1 (ap (λ g. tail (tail g)) p) i)
  tree_inj (seal k0 t0) (check k1 t1) p = apart 8 9 (omega arith) p
  tree_inj (check k0 t0) (name n1) p = apart 9 0 (omega arith) p
  tree_inj (check k0 t0) (stamp s1) p = apart 9 1 (omega arith) p
  tree_inj (check k0 t0) (nonce l1) p = apart 9 2 (omega arith) p
  tree_inj (check k0 t0) (part l1) p = apart 9 3 (omega arith) p
  tree_inj (check k0 t0) (text l1) p = apart 9 4 (omega arith) p
  tree_inj (check k0 t0) (tag l1) p = apart 9 5 (omega arith) p
  tree_inj (check k0 t0) (blob l1) p = apart 9 6 (omega arith) p
  tree_inj (check k0 t0) (tuple ts1) p = apart 9 7 (omega arith) p
  tree_inj (check k0 t0) (seal k1 t1) p = apart 9 8 (omega arith) p
  tree_inj (check k0 t0) (check k1 t1) p = λ i. check (keyed.the_row.coded.inj k0 k1 (ap (λ g. head (tail g)) p) i) (tree_inj t0 t1 (ap (λ g. tail (tail g)) p) i)

  pub trees_inj : (x y : Trees) → trees_code x ≡ trees_code y → x ≡ y
  trees_inj none none p = λ i. none
  trees_inj none (item t ts) p = absurd cc
  trees_inj (item t ts) none p = absurd cc
  trees_inj (item t0 ts0) (item t1 ts1) p = λ i. item (tree_inj t0 t1 (ap head p) i) (trees_inj ts0 ts1 (ap tail p) i)

-- the code of a tree, which no other tree has
abbrev pub coded_tree : Coded Tree
coded_tree = record { code = tree_code; inj = tree_inj }
