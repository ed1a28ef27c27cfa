-- The table of the mechanisms in the form in which the program holds it.
use Rattle.std.specs.Prelude.{ℕ, zero, suc, List, [], ◌∷◌, map, Option, Some, None, option_map}
use Rattle.mech_rows.specs.declared.kinds.Mech.{Mech}
use Rattle.mech_rows.specs.declared.kinds.Role.{Role}
use Rattle.mech_rows.specs.declared.kinds.Slot.{Slot}
use Rattle.mech_rows.specs.declared.kinds.Clear.{Clear}
use Rattle.mech_rows.specs.declared.kinds.Cover.{Cover}
use Rattle.mech_rows.specs.declared.kinds.Pass.{Pass}
use Rattle.mech_rows.specs.declared.kinds.Row.{Row}
use Rattle.mech_rows.specs.Rows as rows

-- what is there first, then None, in so many places
abbrev pub fill : {X : Type 0} → ℕ → List X → List (Option X)
fill zero xs = []
fill (suc n) [] = None ∷ fill n []
fill (suc n) (x ∷ xs) = Some x ∷ fill n xs

-- a protected item, filled up
abbrev pub filled_cover : rows.Cover → Cover
filled_cover c = record {
  check = c.is_check;
  under = c.under;
  tag = c.tagged;
  slots = fill 4 c.slots;
  made = c.made;
  seen = c.seen;
}

-- a pass of these items, with the places that are left
abbrev pub pass_with : Role → Role → List Clear → List Cover → Pass
pass_with from to clear covers = record { from = from; to = to; clear = fill 4 clear; covers = fill 2 covers }

-- a pass, filled up
abbrev pub filled_pass : rows.Pass → Pass
filled_pass p = pass_with p.from p.to p.clear (map filled_cover p.covers)

-- passes, filled up
abbrev pub filled_passes : List rows.Pass → List (Option Pass)
filled_passes ps = fill 5 (map filled_pass ps)

-- the passes of a mechanism, filled up
abbrev pub filled_row : Mech → Row
filled_row m = record { passes = filled_passes (rows.row_of m) }

-- the slots of an agreement, filled up
abbrev pub filled_agreed : Mech → Role → Option (List (Option Slot))
filled_agreed m r = option_map (fill 6) (rows.agreed_of m r)
