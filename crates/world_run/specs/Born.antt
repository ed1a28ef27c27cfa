-- Values that look drawn, though their draw has not come yet.
use Rattle.std.specs.Prelude.{◌≡◌, ◌≤◌, ◌⊎◌, ℕ, ◌+◌, ◌*◌, [], ◌∷◌}
use Rattle.term_values.specs.Trees.{Bytes, Tree, Trees, nonce, part, tuple, seal, check, none, item, Occurs}
use Rattle.term_values.specs.declared.small.Key.{Key}
use Rattle.term_values.specs.declared.small.Key.TheVariants.{One, Two}
use Rattle.outside.specs.Told.{DrawKind, nonce_draw, part_draw}
use Rattle.fresh_values.specs.Counts.{first_byte}

-- the number that the bytes spell, the greater byte first, after those that were read
abbrev pub number_from : ℕ → Bytes → ℕ
number_from read [] = read
number_from read (b ∷ bs) = number_from (read * 256 + b) bs

-- the first byte is that one, and the others spell n or a greater number
abbrev pub BeginsLater : ℕ → ℕ → Bytes → Type 0
BeginsLater lead n [] = ⊥
BeginsLater lead n (b ∷ bs) = (b ≡ lead) × (n ≤ number_from 0 bs)

-- the bytes look like draw n of the kind, or a later one
abbrev pub IsLaterDraw : DrawKind → ℕ → Bytes → Type 0
IsLaterDraw kind n bytes = BeginsLater (first_byte kind) n bytes

-- after n draws the value looks like one that has not been drawn yet
abbrev pub IsUnborn : ℕ → Tree → Type 0
IsUnborn n (nonce bytes) = IsLaterDraw nonce_draw n bytes
IsUnborn n (part bytes) = IsLaterDraw part_draw n bytes
IsUnborn n _ = ⊥

-- such a value occurs in the term
abbrev pub HasUnborn : ℕ → Tree → Type 0
HasUnborn n t = (v : Tree) × Occurs v t × IsUnborn n v

-- such a part is one of the key
abbrev pub KeyHoldsLater : ℕ → Key → Type 0
KeyHoldsLater n (One p) = IsLaterDraw part_draw n p
KeyHoldsLater n (Two p q) = IsLaterDraw part_draw n p ⊎ IsLaterDraw part_draw n q

-- the same by cases: the term is such a value, or holds one in an item, in a key or in a body
abbrev mutual
  pub HoldsLater : ℕ → Tree → Type 0
  HoldsLater n (nonce bytes) = IsLaterDraw nonce_draw n bytes
  HoldsLater n (part bytes) = IsLaterDraw part_draw n bytes
  HoldsLater n (tuple ts) = ItemsHoldLater n ts
  HoldsLater n (seal k t) = KeyHoldsLater n k ⊎ HoldsLater n t
  HoldsLater n (check k t) = KeyHoldsLater n k ⊎ HoldsLater n t
  HoldsLater n _ = ⊥

  pub ItemsHoldLater : ℕ → Trees → Type 0
  ItemsHoldLater n none = ⊥
  ItemsHoldLater n (item t ts) = HoldsLater n t ⊎ ItemsHoldLater n ts
