use Rattle.std.proofs.Common.{◌≡◌, ◌++◌, drop}
use Rattle.std.specs.Prelude.{option_map}
use Rattle.serde_json.specs.View.{items_view}
use Rattle.ring_text.specs.KeyRings.{placed_in}
use Rattle.ring_text.specs.Members.{each}
use Rattle.ring_text.proofs.lists.texts_of.Given as goal

abbrev pub invariant-loop-value : goal.invariant-loop-value
invariant-loop-value l = option_map (λ rest. l.texts.items ++ rest) (each placed_in (items_view (drop l.value-index l.values))) ≡ each placed_in (items_view l.values)
