-- What comes out of one more known term, by tests that compute.
use Rattle.std.specs.Prelude.{◌≡◌, ◌⊎◌, ◌++◌, List, [], ◌∷◌, Bool, false, ◌||◌, ◌&&◌, if◌then◌else◌}
use Rattle.term_values.specs.Trees.{Among, Bytes, Tree, part, tuple, seal, untrees}
use Rattle.term_values.specs.SameBytes.{same_bytes}
use Rattle.term_values.specs.declared.small.Key.{Key}
use Rattle.term_values.specs.declared.small.Key.TheVariants.{One, Two}

-- the term is this part
abbrev pub is_part : Bytes → Tree → Bool
is_part p (part q) = same_bytes p q
is_part p _ = false

-- the part is known
abbrev pub part_known : List Tree → Bytes → Bool
part_known [] p = false
part_known (t ∷ K) p = is_part p t || part_known K p

-- each part of the key is known
abbrev pub key_known : List Tree → Key → Bool
key_known K (One p) = part_known K p
key_known K (Two p q) = part_known K p && part_known K q

-- the part stands in the key
abbrev pub has_part : Key → Bytes → Bool
has_part (One q) p = same_bytes q p
has_part (Two q r) p = same_bytes q p || same_bytes r p

-- the bodies of the seals among these terms under keys that have this part and are known with it
abbrev pub opened_by : List Tree → Bytes → List Tree → List Tree
opened_by K p [] = []
opened_by K p (seal k t ∷ L) = if has_part k p && key_known (part p ∷ K) k then t ∷ opened_by K p L else opened_by K p L
opened_by K p (_ ∷ L) = opened_by K p L

-- what comes out once this term is known beside the others
abbrev pub comes_out : List Tree → Tree → List Tree
comes_out K (tuple ts) = untrees ts
comes_out K (seal k t) = if key_known K k then t ∷ [] else []
comes_out K (part p) = opened_by K p K
comes_out K _ = []

-- after a look at the next term: it was known, or it stands last among the known ones and what comes out waits
abbrev pub IsLookedAt : List Tree → List Tree → Tree → List Tree → List Tree → Type 0
IsLookedAt K P t L Q = (Among t K × (L ≡ K) × (Q ≡ P)) ⊎ ((Among t K → ⊥) × (L ≡ K ++ t ∷ []) × (Q ≡ P ++ comes_out K t))
