-- Whether a term is derivable, as a test that computes.
use Rattle.std.specs.Prelude.{ℕ, zero, suc, List, [], ◌∷◌, ◌++◌, Bool, true, false, ◌||◌, ◌&&◌, ◌==◌, if◌then◌else◌}
use base.Stored.{Gv, gnil, gnum, gcons}
use Rattle.term_values.specs.Trees.{Tree, part, tuple, seal, check, Trees, none, item, trees, sizes_of}
use Rattle.term_values.specs.Codes.{tree_code}
use Rattle.attacker_model.specs.Taken.{part_known, key_known}

-- what is seen of a term where K is known: the term, the items of a tuple, and the body of a seal whose key K has
abbrev mutual
  pub seen : List Tree → Tree → List Tree
  seen K (tuple ts) = tuple ts ∷ seen_in K ts
  seen K (seal k t) = seal k t ∷ (if key_known K k then seen K t else [])
  seen K t = t ∷ []

  pub seen_in : List Tree → Trees → List Tree
  seen_in K none = []
  seen_in K (item t ts) = seen K t ++ seen_in K ts

-- what is seen of the given terms in so many rounds, each with the keys of the round before
abbrev pub seen_after : List Tree → ℕ → List Tree
seen_after G zero = []
seen_after G (suc n) = seen_in (seen_after G n) (trees G)

-- what is ever seen of the given terms: each round before the last shows one term more
abbrev pub ever_seen : List Tree → List Tree
ever_seen G = seen_after G (sizes_of (trees G))

-- two stored values are equal
abbrev pub same_code : Gv → Gv → Bool
same_code gnil gnil = true
same_code (gnum m) (gnum n) = m == n
same_code (gcons a b) (gcons c d) = same_code a c && same_code b d
same_code _ _ = false

-- the term is in the list
abbrev pub term_known : List Tree → Tree → Bool
term_known [] t = false
term_known (u ∷ K) t = same_code (tree_code t) (tree_code u) || term_known K t

-- the term is known, or is built of known ones
abbrev mutual
  pub built_test : List Tree → Tree → Bool
  built_test K (part p) = part_known K p
  built_test K (tuple ts) = term_known K (tuple ts) || all_built_test K ts
  built_test K (seal k t) = term_known K (seal k t) || (key_known K k && built_test K t)
  built_test K (check k t) = term_known K (check k t) || (key_known K k && built_test K t)
  built_test K _ = true

  pub all_built_test : List Tree → Trees → Bool
  all_built_test K none = true
  all_built_test K (item t ts) = built_test K t && all_built_test K ts

-- the term is derivable from the given ones
abbrev pub is_derivable : List Tree → Tree → Bool
is_derivable G t = built_test (ever_seen G) t
