-- What a run says, under symbolic sealing: the messages as values.
use Rattle.std.specs.Prelude.{ℕ, suc, Bool, ◌∷◌, ◌++◌, map, Option, option_map, if◌then◌else◌}
use Rattle.term_values.specs.Trees.{Tree, tag, tuple, trees}
use Rattle.mech_rows.specs.declared.kinds.Slot.TheVariants.{Fwd}
use Rattle.mech_rows.specs.Rows.{tag_of, Cover, Pass, row_of}
use Rattle.mech_rows.specs.Heads.{Head}
use Rattle.mech_rows.specs.Runs.{Notes, Run, Keys, value, clear_item, protected, made, nth}

-- an item in the eyes of a role that makes it or looks into it, and else forwards or keeps it
abbrev pub item_as : Keys → Head → Notes → (Cover → Bool) → Cover → Tree
item_as keys h notes knows c = if knows c then protected keys h notes c else value notes Fwd

-- the message of pass k, counted from 0, for a role that knows these items
abbrev pub message : Keys → Head → Notes → (Cover → Bool) → ℕ → Pass → Tree
message keys h notes knows k p =
    tuple (trees (tag (tag_of h.mech (suc k) 0) ∷ (map (clear_item h notes) p.clear ++ map (item_as keys h notes knows) p.covers)))

-- what the run says in pass k, counted from 0, where its row has that pass
abbrev pub says : Keys → Run → ℕ → Option Tree
says keys run k = option_map (message keys run.head run.notes made k) (nth (row_of run.head.mech) k)
