-- Symbolic sealing: what a term opens to, and what it checks.
use Rattle.std.specs.Prelude.{Bool, true, false, Option, Some, None, ◌&&◌, if◌then◌else◌}
use Rattle.term_values.specs.Trees.{Tree, seal, check}
use Rattle.term_values.specs.SameBytes.{same_bytes}
use Rattle.term_values.specs.Same.{same}
use Rattle.term_values.specs.declared.small.Key.{Key}
use Rattle.term_values.specs.declared.small.Key.TheVariants.{One, Two}

-- both keys have the same parts in the same order
abbrev pub same_key : Key → Key → Bool
same_key (One p) (One q) = same_bytes p q
same_key (Two p q) (Two r s) = same_bytes p r && same_bytes q s
same_key _ _ = false

-- the body, where the item is a seal under that key
abbrev pub body_of : Key → Tree → Option Tree
body_of key (seal under body) = if same_key under key then Some body else None
body_of key _ = None

-- the item is the check of that body under that key
abbrev pub is_check : Key → Tree → Tree → Bool
is_check key body (check under checked) = same_key under key && same checked body
is_check key body _ = false
