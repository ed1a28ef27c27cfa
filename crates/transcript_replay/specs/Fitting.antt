-- The tests by which a further line of a configuration is judged.
use Rattle.std.specs.Prelude.{ℕ, Bool, not, ◌&&◌, ◌||◌, List, length, nat_le, nat_lt}
use Rattle.std.specs.List.{list_any}
use Rattle.agreement_laws.specs.Configs.{Config, LongTerm, is_of}
use Rattle.world_run.specs.Tested.{begins_apart, has_part, has_party, is_declared, pairs_have_part}

-- a party of that name and window keeps the conditions of those that are there
abbrev pub fits_party : Config → ℕ → ℕ → Bool
fits_party c name window = nat_lt (length c.parties) 64 && not (has_party c.parties name) && nat_le window 600_000

-- a part keeps them
abbrev pub fits_part : Config → List ℕ → Bool
fits_part c part = begins_apart part && not (pairs_have_part c.pairs part || has_part c.own part)

-- a pair keeps them
abbrev pub fits_pair : Config → LongTerm → Bool
fits_pair c l = is_declared c.parties l && not (list_any (is_of l.x l.y) c.pairs) && fits_part c l.part
