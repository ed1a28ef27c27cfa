use Rattle.std.proofs.Common.{◌≡◌, ◌++◌, map, take}
use Rattle.text_hooks.specs.Parts.{AreSmall, value_term}
use Rattle.text_hooks.proofs.making.push_values.Given as goal

abbrev pub invariant-loop-value : goal.invariant-loop-value
invariant-loop-value l = record {
  pushed : l.items.items ≡ l.initial.items.items ++ map value_term (take l.value-index l.values);
  small : AreSmall 33 l.items.items;
}
