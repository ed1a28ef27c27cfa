-- The seven rules once more, by a recursion on the height of a derivation.
use Rattle.std.specs.Prelude.{ℕ, zero, suc, ◌⊎◌, List}
use Rattle.term_values.specs.Trees.{Among, Tree, name, stamp, nonce, part, text, tag, blob, tuple, seal, check, Trees, none, item, IsItem}
use Rattle.term_values.specs.declared.small.Key.{Key}
use Rattle.term_values.specs.declared.small.Key.TheVariants.{One, Two}

-- it holds of each item
abbrev pub AllItems : (Tree → Type 0) → Trees → Type 0
AllItems H none = Unit {0}
AllItems H (item t ts) = H t × AllItems H ts

-- it holds of each part of the key
abbrev pub OfKey : (Tree → Type 0) → Key → Type 0
OfKey H (One p) = H (part p)
OfKey H (Two p q) = H (part p) × H (part q)

-- t is built in one step from what H holds of: guessed, put together of its items, or sealed or checked under a key
abbrev pub Builds : (Tree → Type 0) → Tree → Type 0
Builds H (part p) = ⊥
Builds H (tuple ts) = AllItems H ts
Builds H (seal k t) = OfKey H k × H t
Builds H (check k t) = OfKey H k × H t
Builds H (name n) = Unit {0}
Builds H (stamp s) = Unit {0}
Builds H (nonce b) = Unit {0}
Builds H (text b) = Unit {0}
Builds H (tag b) = Unit {0}
Builds H (blob b) = Unit {0}

-- t has a derivation from K of height below n
abbrev pub HasHeight : List Tree → ℕ → Tree → Type 0
HasHeight K zero t = ⊥
HasHeight K (suc n) t =
    (Among t K ⊎ Builds (HasHeight K n) t)
    ⊎ (((ts : Trees) × IsItem t ts × HasHeight K n (tuple ts)) ⊎ ((k : Key) × HasHeight K n (seal k t) × OfKey (HasHeight K n) k))
