-- The tests by which the conditions of a configuration are decided.
use Rattle.std.specs.Prelude.{ℕ, Bool, true, not, List, [], ◌∷◌, length, nat_le, ◌==◌, ◌&&◌, ◌||◌}
use Rattle.std.specs.List.{list_any, list_all}
use Rattle.term_values.specs.Trees.{Bytes}
use Rattle.term_values.specs.SameBytes.{same_bytes}
use Rattle.agreement_laws.specs.Configs.{Party, LongTerm, Config, is_of}

-- one of the parties has that name
abbrev pub has_party : List Party → ℕ → Bool
has_party ps n = list_any (λ (p : Party). p.name == n) ps

-- no party has the name of a later one
abbrev pub have_new_names : List Party → Bool
have_new_names [] = true
have_new_names (p ∷ ps) = not (has_party ps p.name) && have_new_names ps

-- the window is at most ten minutes
abbrev pub has_window : Party → Bool
has_window p = nat_le p.window 600_000

-- both names are declared, and differ
abbrev pub is_declared : List Party → LongTerm → Bool
is_declared ps l = has_party ps l.x && has_party ps l.y && not (l.x == l.y)

-- no pair is of the names of a later one
abbrev pub are_new_pairs : List LongTerm → Bool
are_new_pairs [] = true
are_new_pairs (l ∷ ls) = not (list_any (is_of l.x l.y) ls) && are_new_pairs ls

-- one of the parts is this one
abbrev pub has_part : List Bytes → Bytes → Bool
has_part ps p = list_any (λ (q : Bytes). same_bytes q p) ps

-- one of the pairs has this part
abbrev pub pairs_have_part : List LongTerm → Bytes → Bool
pairs_have_part ls p = list_any (λ (l : LongTerm). same_bytes l.part p) ls

-- no part is a later one
abbrev pub are_new_parts : List Bytes → Bool
are_new_parts [] = true
are_new_parts (p ∷ ps) = not (has_part ps p) && are_new_parts ps

-- no part of a pair is that of a later one, or one of the attacker's own
abbrev pub have_new_parts : List Bytes → List LongTerm → Bool
have_new_parts own [] = true
have_new_parts own (l ∷ ls) = not (pairs_have_part ls l.part || has_part own l.part) && have_new_parts own ls

-- the bytes begin with neither of these two
abbrev pub begins_apart : Bytes → Bool
begins_apart [] = true
begins_apart (b ∷ bs) = not (b == 0xd0) && not (b == 0xd1)

-- the parties meet the conditions
abbrev pub are_fit_parties : List Party → Bool
are_fit_parties ps = nat_le (length ps) 64 && list_all has_window ps && have_new_names ps

-- the pairs meet the conditions
abbrev pub are_fit_pairs : List Party → List LongTerm → Bool
are_fit_pairs ps ls = list_all (is_declared ps) ls && are_new_pairs ls

-- the parts meet the conditions
abbrev pub are_fit_parts : List LongTerm → List Bytes → Bool
are_fit_parts ls own = have_new_parts own ls && are_new_parts own && list_all (λ (l : LongTerm). begins_apart l.part) ls && list_all begins_apart own

-- the configuration meets the conditions
abbrev pub are_kept : Config → Bool
are_kept c = are_fit_parties c.parties && are_fit_pairs c.parties c.pairs && are_fit_parts c.pairs c.own
