use Rattle.std.proofs.Common.{◌≡◌, ◌++◌, take}
use Rattle.text_hooks.specs.Parts.{items_in}
use Rattle.text_hooks.proofs.making.message_of.Given as goal

abbrev pub invariant-loop-one : goal.invariant-loop-one
invariant-loop-one l = record {
  pushed : l.items.items ≡ l.fn.shown.items ++ items_in (take l.one-index l.made);
}
