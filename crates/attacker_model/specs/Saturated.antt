-- Terms built from known ones, and known terms that are taken apart as far as they go.
use Rattle.std.specs.Prelude.{◌⊎◌, List}
use Rattle.term_values.specs.Trees.{Among, Tree, name, stamp, nonce, part, text, tag, blob, tuple, seal, check, Trees, none, item, IsItem}
use Rattle.term_values.specs.declared.small.Key.{Key}
use Rattle.term_values.specs.declared.small.Key.TheVariants.{One, Two}

-- each part of the key is known
abbrev pub KeyKnown : List Tree → Key → Type 0
KeyKnown K (One p) = Among (part p) K
KeyKnown K (Two p q) = Among (part p) K × Among (part q) K

-- t is known, or is built of such terms
abbrev mutual
  pub Built : List Tree → Tree → Type 0
  Built K (part p) = Among (part p) K
  Built K (tuple ts) = Among (tuple ts) K ⊎ AllBuilt K ts
  Built K (seal k t) = Among (seal k t) K ⊎ (KeyKnown K k × Built K t)
  Built K (check k t) = Among (check k t) K ⊎ (KeyKnown K k × Built K t)
  Built K (name n) = Unit {0}
  Built K (stamp s) = Unit {0}
  Built K (nonce b) = Unit {0}
  Built K (text b) = Unit {0}
  Built K (tag b) = Unit {0}
  Built K (blob b) = Unit {0}

  pub AllBuilt : List Tree → Trees → Type 0
  AllBuilt K none = Unit {0}
  AllBuilt K (item t ts) = Built K t × AllBuilt K ts

-- nothing new comes of taking known terms apart
pub record IsSaturated (K : List Tree) : Type 0 where
  pub items : (t : Tree) (ts : Trees) → Among (tuple ts) K → IsItem t ts → Among t K
  pub bodies : (k : Key) (t : Tree) → Among (seal k t) K → KeyKnown K k → Among t K
