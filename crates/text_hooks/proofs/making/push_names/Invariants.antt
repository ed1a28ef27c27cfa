use Rattle.std.proofs.Common.{◌≡◌, ◌++◌, map, take}
use Rattle.term_values.specs.Trees.{name}
use Rattle.text_hooks.specs.Parts.{AreSmall}
use Rattle.text_hooks.proofs.making.push_names.Given as goal

abbrev pub invariant-loop-name : goal.invariant-loop-name
invariant-loop-name l = record {
  pushed : l.items.items ≡ l.initial.items.items ++ map name (take l.name-index l.names);
  small : AreSmall 33 l.items.items;
}
