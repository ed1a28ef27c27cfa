use Rattle.std.proofs.Common.{◌≡◌, take, true}
use Rattle.mech_rows.specs.Notes.{are_of_kinds, terms_of}
use Rattle.mech_rows.specs.Replies.{noted_among}
use Rattle.text_hooks.proofs.order.chosen.Given as goal

abbrev pub invariant-loop-slot : goal.invariant-loop-slot
invariant-loop-slot l = record {
  noted : terms_of l.notes.items ≡ noted_among (terms_of l.values) (take l.slot-index l.slots);
  kinds : are_of_kinds l.notes.items ≡ true;
}
