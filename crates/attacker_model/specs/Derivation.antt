-- What an attacker derives from known terms (Dolev and Yao): the seven rules.
use Rattle.std.specs.Prelude.{◌⊎◌, ℕ, List}
use Rattle.term_values.specs.Trees.{Among, Bytes, Tree, name, stamp, nonce, part, text, tag, blob, tuple, seal, check, Trees, none, item, IsItem}
use Rattle.term_values.specs.declared.small.Key.{Key}
use Rattle.term_values.specs.declared.small.Key.TheVariants.{One, Two}
use Rattle.term_values.specs.declared.small.Stamp.{Stamp}

mutual
  -- t has a derivation from K
  pub data Derivable (K : List Tree) : Tree → Type 0 where
    known : {t : Tree} → Among t K → Derivable K t
    any_name : {n : ℕ} → Derivable K (name n)
    any_stamp : {s : Stamp} → Derivable K (stamp s)
    any_nonce : {b : Bytes} → Derivable K (nonce b)
    any_text : {b : Bytes} → Derivable K (text b)
    any_tag : {b : Bytes} → Derivable K (tag b)
    any_blob : {b : Bytes} → Derivable K (blob b)
    tupled : {ts : Trees} → AllDerivable K ts → Derivable K (tuple ts)
    taken_out : {t : Tree} (ts : Trees) → IsItem t ts → Derivable K (tuple ts) → Derivable K t
    sealed : {k : Key} {t : Tree} → KeyDerivable K k → Derivable K t → Derivable K (seal k t)
    checked : {k : Key} {t : Tree} → KeyDerivable K k → Derivable K t → Derivable K (check k t)
    opened : {t : Tree} (k : Key) → Derivable K (seal k t) → KeyDerivable K k → Derivable K t

  -- each of the items has one
  pub data AllDerivable (K : List Tree) : Trees → Type 0 where
    no_items : AllDerivable K none
    an_item : {t : Tree} {ts : Trees} → Derivable K t → AllDerivable K ts → AllDerivable K (item t ts)

  -- each part of the key has one
  pub data KeyDerivable (K : List Tree) : Key → Type 0 where
    by_part : {p : Bytes} → Derivable K (part p) → KeyDerivable K (One p)
    by_parts : {p q : Bytes} → Derivable K (part p) → Derivable K (part q) → KeyDerivable K (Two p q)

-- one good part is enough to make a key good
abbrev pub IsGoodKey : (Bytes → Type 0) → Key → Type 0
IsGoodKey Good (One p) = Good p
IsGoodKey Good (Two p q) = Good p ⊎ Good q
