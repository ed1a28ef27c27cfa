-- Keys in rising order, and the tree that holds them.
use Rattle.std.specs.Prelude.{◌≡◌, ◌≤◌, ℕ, ◌%◌, ◌^◌, List, [], ◌∷◌, ◌++◌, length, nat_lt, cond, Option, Some, None, Box}
use Rattle.std.specs.declared.alloc.Global.{Global}
use Rattle.replay_store.specs.declared.tree.Node.{Node}

-- each key is at least this one
abbrev pub AllFrom : ℕ → List ℕ → Type 0
AllFrom least [] = Unit {0}
AllFrom least (k ∷ ks) = (least ≤ k) × AllFrom least ks

-- each key is at most all later ones
abbrev pub Rises : List ℕ → Type 0
Rises [] = Unit {0}
Rises (k ∷ ks) = AllFrom k ks × Rises ks

-- the keys with one more, before the first that is greater
abbrev pub placed : ℕ → List ℕ → List ℕ
placed key [] = key ∷ []
placed key (k ∷ ks) = cond (nat_lt key k) (key ∷ k ∷ ks) (k ∷ placed key ks)

-- no key has a time before this one
abbrev pub AllSince : ℕ → List ℕ → Type 0
AllSince time [] = Unit {0}
AllSince time (k ∷ ks) = (time ≤ k % 2 ^ 64) × AllSince time ks

-- the keys of both sides with the node's own between them
abbrev pub keys_in : Option (Box Node Global) → List ℕ
keys_in None = []
keys_in (Some top) = top.value.left ++ top.value.key ∷ top.value.right

-- the node says how many keys there are, and a time that none of theirs is before
abbrev pub IsCounted : Option (Box Node Global) → Type 0
IsCounted None = Unit {0}
IsCounted (Some top) = (top.value.len ≡ length (top.value.left ++ top.value.key ∷ top.value.right)) × AllSince top.value.oldest (top.value.left ++ top.value.key ∷ top.value.right)
