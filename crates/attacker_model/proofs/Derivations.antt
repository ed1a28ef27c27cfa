-- The laws of derivation: it is monotone, and known terms can be cut.
use Rattle.std.proofs.Common.{List, ◌∷◌, subst, sym, inl, inr}
use Rattle.term_values.specs.Trees.{Among, Tree, part, tuple, seal, Trees}
use Rattle.term_values.specs.declared.small.Key.{Key}
use Rattle.attacker_model.specs.Derivation.{Derivable, known, any_name, any_stamp, any_nonce, any_text, any_tag, any_blob, tupled, taken_out, sealed, checked, opened, AllDerivable, no_items, an_item, KeyDerivable, by_part, by_parts}

-- where each term of K is derivable from L, what is derivable from K is derivable from L
mutual
  pub over : (K L : List Tree) → ((u : Tree) → Among u K → Derivable L u) → (t : Tree) → Derivable K t → Derivable L t
  over K L f t (known h) = f t h
  over K L f t any_name = any_name
  over K L f t any_stamp = any_stamp
  over K L f t any_nonce = any_nonce
  over K L f t any_text = any_text
  over K L f t any_tag = any_tag
  over K L f t any_blob = any_blob
  over K L f t (tupled {ts = ts} d) = tupled (over_items K L f ts d)
  over K L f t (taken_out ts i d) = taken_out ts i (over K L f (tuple ts) d)
  over K L f t (sealed {k = k} {t = u} e d) = sealed (over_key K L f k e) (over K L f u d)
  over K L f t (checked {k = k} {t = u} e d) = checked (over_key K L f k e) (over K L f u d)
  over K L f t (opened k d e) = opened k (over K L f (seal k t) d) (over_key K L f k e)

  pub over_items : (K L : List Tree) → ((u : Tree) → Among u K → Derivable L u) → (ts : Trees) → AllDerivable K ts → AllDerivable L ts
  over_items K L f ts no_items = no_items
  over_items K L f ts (an_item {t = u} {ts = us} d ds) = an_item (over K L f u d) (over_items K L f us ds)

  pub over_key : (K L : List Tree) → ((u : Tree) → Among u K → Derivable L u) → (k : Key) → KeyDerivable K k → KeyDerivable L k
  over_key K L f k (by_part {p = p} d) = by_part (over K L f (part p) d)
  over_key K L f k (by_parts {p = p} {q = q} d e) = by_parts (over K L f (part p) d) (over K L f (part q) e)

-- more known terms derive no less
pub more_known : (K L : List Tree) → ((u : Tree) → Among u K → Among u L) → (t : Tree) → Derivable K t → Derivable L t
more_known K L f t d = over K L (λ u h. known (f u h)) t d

added : (K : List Tree) (t : Tree) → Derivable K t → (u : Tree) → Among u (t ∷ K) → Derivable K u
added K t d u (inl e) = subst (Derivable K) (sym e) d
added K t d u (inr h) = known h

-- the cut law: a derivable term teaches nothing
pub cut : (K : List Tree) (t u : Tree) → Derivable K t → Derivable (t ∷ K) u → Derivable K u
cut K t u d e = over (t ∷ K) K (added K t d) u e
