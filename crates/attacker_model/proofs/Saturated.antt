-- What is derivable from saturated terms is built from them, and the other way round.
use Rattle.std.proofs.Common.{List, subst, sym, inl, inr}
use Rattle.term_values.specs.Trees.{Among, Tree, name, stamp, nonce, part, text, tag, blob, tuple, seal, check, Trees, none, item, IsItem}
use Rattle.term_values.specs.declared.small.Key.{Key}
use Rattle.term_values.specs.declared.small.Key.TheVariants.{One, Two}
use Rattle.attacker_model.specs.Derivation.{Derivable, known, any_name, any_stamp, any_nonce, any_text, any_tag, any_blob, tupled, taken_out, sealed, checked, opened, AllDerivable, no_items, an_item, KeyDerivable, by_part, by_parts}
use Rattle.attacker_model.specs.Saturated.{KeyKnown, Built, AllBuilt, IsSaturated}

pub built_of_known : (K : List Tree) (t : Tree) → Among t K → Built K t
built_of_known K (part p) i = i
built_of_known K (tuple ts) i = inl i
built_of_known K (seal k t) i = inl i
built_of_known K (check k t) i = inl i
built_of_known K (name n) i = tt
built_of_known K (stamp s) i = tt
built_of_known K (nonce b) i = tt
built_of_known K (text b) i = tt
built_of_known K (tag b) i = tt
built_of_known K (blob b) i = tt

item_built : (K : List Tree) (t : Tree) (ts : Trees) → IsItem t ts → AllBuilt K ts → Built K t
item_built K t none i b = elim i [ ]
item_built K t (item u us) (inl e) b = subst (Built K) (sym e) b.0
item_built K t (item u us) (inr i) b = item_built K t us i b.1

mutual
  pub derivable_is_built : (K : List Tree) → IsSaturated K → (t : Tree) → Derivable K t → Built K t
  derivable_is_built K s t (known h) = built_of_known K t h
  derivable_is_built K s t any_name = tt
  derivable_is_built K s t any_stamp = tt
  derivable_is_built K s t any_nonce = tt
  derivable_is_built K s t any_text = tt
  derivable_is_built K s t any_tag = tt
  derivable_is_built K s t any_blob = tt
  derivable_is_built K s t (tupled {ts = ts} d) = inr (derivable_are_built K s ts d)
  derivable_is_built K s t (taken_out ts i d) =
      elim (derivable_is_built K s (tuple ts) d) [ inl j ↦ built_of_known K t (s.items t ts j i) | inr b ↦ item_built K t ts i b ]
  derivable_is_built K s t (sealed {k = k} {t = u} e d) = inr (derivable_key_known K s k e, derivable_is_built K s u d)
  derivable_is_built K s t (checked {k = k} {t = u} e d) = inr (derivable_key_known K s k e, derivable_is_built K s u d)
  derivable_is_built K s t (opened k d e) =
      elim (derivable_is_built K s (seal k t) d) [ inl j ↦ built_of_known K t (s.bodies k t j (derivable_key_known K s k e)) | inr b ↦ b.1 ]

  pub derivable_are_built : (K : List Tree) → IsSaturated K → (ts : Trees) → AllDerivable K ts → AllBuilt K ts
  derivable_are_built K s ts no_items = tt
  derivable_are_built K s ts (an_item {t = u} {ts = us} d ds) = (derivable_is_built K s u d, derivable_are_built K s us ds)

  pub derivable_key_known : (K : List Tree) → IsSaturated K → (k : Key) → KeyDerivable K k → KeyKnown K k
  derivable_key_known K s k (by_part {p = p} d) = derivable_is_built K s (part p) d
  derivable_key_known K s k (by_parts {p = p} {q = q} d e) = (derivable_is_built K s (part p) d, derivable_is_built K s (part q) e)

key_derivable : (K : List Tree) (k : Key) → KeyKnown K k → KeyDerivable K k
key_derivable K (One p) i = by_part (known i)
key_derivable K (Two p q) i = by_parts (known i.0) (known i.1)

mutual
  pub built_is_derivable : (K : List Tree) (t : Tree) → Built K t → Derivable K t
  built_is_derivable K (part p) b = known b
  built_is_derivable K (tuple ts) (inl i) = known i
  built_is_derivable K (tuple ts) (inr b) = tupled (built_are_derivable K ts b)
  built_is_derivable K (seal k t) (inl i) = known i
  built_is_derivable K (seal k t) (inr b) = sealed (key_derivable K k b.0) (built_is_derivable K t b.1)
  built_is_derivable K (check k t) (inl i) = known i
  built_is_derivable K (check k t) (inr b) = checked (key_derivable K k b.0) (built_is_derivable K t b.1)
  built_is_derivable K (name n) b = any_name
  built_is_derivable K (stamp s) b = any_stamp
  built_is_derivable K (nonce x) b = any_nonce
  built_is_derivable K (text x) b = any_text
  built_is_derivable K (tag x) b = any_tag
  built_is_derivable K (blob x) b = any_blob

  pub built_are_derivable : (K : List Tree) (ts : Trees) → AllBuilt K ts → AllDerivable K ts
  built_are_derivable K none b = no_items
  built_are_derivable K (item t ts) b = an_item (built_is_derivable K t b.0) (built_are_derivable K ts b.1)
