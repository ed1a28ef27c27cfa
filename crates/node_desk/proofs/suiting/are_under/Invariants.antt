use Rattle.std.proofs.Common.{◌↔◌, drop}
use Rattle.std.specs.Option.{option_copied}
use Rattle.term_values.specs.declared.small.Key.TheVariants.{One}
use Rattle.mech_rows.specs.Runs.{bytes_or_empty}
use Rattle.node_desk.specs.Suits.{AreUnder}
use Rattle.node_desk.proofs.suiting.are_under.Given as goal

-- all are under the part exactly where those left are
abbrev pub invariant-loop-item : goal.invariant-loop-item
invariant-loop-item l = AreUnder (One (bytes_or_empty (option_copied l.part))) (drop l.item-index l.items) ↔ AreUnder (One (bytes_or_empty (option_copied l.part))) l.items
