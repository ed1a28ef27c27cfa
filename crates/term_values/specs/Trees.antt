-- Terms as plain trees: what contracts see of a term.
use Rattle.std.specs.Prelude.{◌≡◌, ◌⊎◌, ℕ, ◌+◌, max, List, [], ◌∷◌, Option, None, slice_get}
use Rattle.term_values.specs.declared.small.Key.{Key}
use Rattle.term_values.specs.declared.small.Key.TheVariants.{One, Two}
use Rattle.term_values.specs.declared.small.Stamp.{Stamp}

-- x stands in the list: by cases on the list, so that a proof by induction computes
abbrev pub Among : {X : Type 0} → X → List X → Type 0
Among x [] = ⊥
Among x (y ∷ ys) = (x ≡ y) ⊎ Among x ys

-- bytes, as numbers
abbrev pub Bytes : Type 0
Bytes = List ℕ

-- a term: names and stamps by their numbers, the rest by their bytes, and what stands below
mutual
  pub data Tree : Type 0 where
    name : ℕ → Tree
    stamp : Stamp → Tree
    nonce : List ℕ → Tree
    part : List ℕ → Tree
    text : List ℕ → Tree
    tag : List ℕ → Tree
    blob : List ℕ → Tree
    tuple : Trees → Tree
    seal : Key → Tree → Tree
    check : Key → Tree → Tree

  -- the items of a tuple
  pub data Trees : Type 0 where
    none : Trees
    item : Tree → Trees → Trees

-- the items of a list
abbrev pub trees : List Tree → Trees
trees [] = none
trees (t ∷ ts) = item t (trees ts)

-- the items as a list
abbrev pub untrees : Trees → List Tree
untrees none = []
untrees (item t ts) = t ∷ untrees ts

-- t is one of the items
abbrev pub IsItem : Tree → Trees → Type 0
IsItem t none = ⊥
IsItem t (item u us) = (t ≡ u) ⊎ IsItem t us

-- how many items there are
abbrev pub count_of : Trees → ℕ
count_of none = 0
count_of (item t ts) = count_of ts + 1

-- item k of a tuple, from 0, where there is one
abbrev pub item_of : Tree → ℕ → Option Tree
item_of (tuple ts) k = slice_get (untrees ts) k
item_of _ k = None

-- how many terms stand in a term, counting one more for each item: what each step down makes smaller
abbrev mutual
  pub size_of : Tree → ℕ
  size_of (tuple ts) = sizes_of ts + 1
  size_of (seal k t) = size_of t + 1
  size_of (check k t) = size_of t + 1
  size_of _ = 1

  pub sizes_of : Trees → ℕ
  sizes_of none = 0
  sizes_of (item t ts) = size_of t + sizes_of ts + 1

-- how deep a term is: an atom and an empty tuple are one deep
abbrev mutual
  pub depth_of : Tree → ℕ
  depth_of (tuple ts) = greatest_depth ts + 1
  depth_of (seal k t) = depth_of t + 1
  depth_of (check k t) = depth_of t + 1
  depth_of _ = 1

  pub greatest_depth : Trees → ℕ
  greatest_depth none = 0
  greatest_depth (item t ts) = max (depth_of t) (greatest_depth ts)

-- v is a part of the key
abbrev pub StandsInKey : Tree → Key → Type 0
StandsInKey v (One p) = v ≡ part p
StandsInKey v (Two p q) = (v ≡ part p) ⊎ (v ≡ part q)

-- v is the term, or stands in an item or in a body; a part also where it stands in a key
abbrev mutual
  pub Occurs : Tree → Tree → Type 0
  Occurs v (tuple ts) = (v ≡ tuple ts) ⊎ OccursInItems v ts
  Occurs v (seal k t) = (v ≡ seal k t) ⊎ (StandsInKey v k ⊎ Occurs v t)
  Occurs v (check k t) = (v ≡ check k t) ⊎ (StandsInKey v k ⊎ Occurs v t)
  Occurs v t = v ≡ t

  pub OccursInItems : Tree → Trees → Type 0
  OccursInItems v none = ⊥
  OccursInItems v (item t ts) = Occurs v t ⊎ OccursInItems v ts

-- v stands below the root
abbrev pub OccursBelow : Tree → Tree → Type 0
OccursBelow v (tuple ts) = OccursInItems v ts
OccursBelow v (seal k t) = StandsInKey v k ⊎ Occurs v t
OccursBelow v (check k t) = StandsInKey v k ⊎ Occurs v t
OccursBelow v _ = ⊥
