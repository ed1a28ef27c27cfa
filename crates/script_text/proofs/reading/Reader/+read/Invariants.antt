use Rattle.std.proofs.Common.{◌≡◌, ◌+◌, ◌-◌, ◌*◌}
use Rattle.script_text.specs.Reading.{items_at, limits, term_at}
use Rattle.script_text.proofs.Loop.{with_front}
use Rattle.script_text.proofs.reading.Reader.+read.Given as goal

abbrev pub decreases-term : goal.decreases-term
decreases-term l = 4 * l.levels

abbrev pub decreases-under : goal.decreases-under
decreases-under l = 4 * l.below + 3

abbrev pub decreases-sealed : goal.decreases-sealed
decreases-sealed l = 4 * l.below + 2

abbrev pub decreases-body : goal.decreases-body
decreases-body l = 4 * l.below + 1

abbrev pub decreases-tuple : goal.decreases-tuple
decreases-tuple l = 4 * l.below + 2

abbrev pub decreases-items : goal.decreases-items
decreases-items l = 4 * l.below + 1

abbrev pub invariant-items-loop : goal.invariant-items-loop
invariant-items-loop l = with_front l.items.items (items_at (term_at limits l.sent l.below) (32 - l.counter) (record { rest = l.self.rest.now; marks = l.marks })) ≡ items_at (term_at limits l.sent l.below) 32 (record { rest = l.fn.self.rest.now; marks = l.fn.marks })
