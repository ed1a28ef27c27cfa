use Rattle.std.proofs.Common.{◌+◌, arith}
use Rattle.std.proofs.lemmas.Result.{err_from_is_err_and}
use Rattle.script_text.specs.Reading.{byte_at, items_at, limits, term_at}
use Rattle.script_text.proofs.Loop.{closes, goes_on, item_fails, marked, no_mark, other_mark, too_many}
use Rattle.script_text.proofs.reading.Reader.+read.Goals as goal

pub items-returns-in_err-item : goal.items-returns-in_err-item
items-returns-in_err-item t c =
    let p = err_from_is_err_and c.from_residual.result c.from_residual.ensures.1 in
    rw (p.1, p.2) (item_fails c.in_err-item.field-0.0 (term_at limits c.args.sent.now c.args.below) c.loop.items.items c.loop.counter (record { rest = c.loop.self.rest.now; marks = c.loop.marks }) (record { rest = c.term.new.self.rest.now; marks = c.term.new.marks }) (items_at (term_at limits c.args.sent.now c.args.below) 32 (record { rest = c.args.self.now.rest.now; marks = c.args.marks.now })) c.loop-test.true c.in_err-item.ensures c.loop.invariant)

pub items-returns-in_err-byte : goal.items-returns-in_err-byte
items-returns-in_err-byte t c =
    let p = err_from_is_err_and c.from_residual-in_err-byte.result c.from_residual-in_err-byte.ensures.1 in
    rw (p.1, p.2) (no_mark (term_at limits c.args.sent.now c.args.below) c.loop.items.items c.loop.counter (record { rest = c.loop.self.rest.now; marks = c.loop.marks }) (record { rest = c.term.new.self.rest.now; marks = c.term.new.marks }) c.in_ok-item.item (items_at (term_at limits c.args.sent.now c.args.below) 32 (record { rest = c.args.self.now.rest.now; marks = c.args.marks.now })) c.loop-test.true c.in_ok-item.ensures c.in_err-byte.ensures c.loop.invariant)

pub items-returns-in-41 : goal.items-returns-in-41
items-returns-in-41 t c =
    rw c.in_ok-push.ensures.items (closes (term_at limits c.args.sent.now c.args.below) c.loop.items.items c.loop.counter (record { rest = c.loop.self.rest.now; marks = c.loop.marks }) (record { rest = c.term.new.self.rest.now; marks = c.term.new.marks }) c.byte.new.self.rest.now c.in_ok-item.item (items_at (term_at limits c.args.sent.now c.args.below) 32 (record { rest = c.args.self.now.rest.now; marks = c.args.marks.now })) c.loop-test.true c.in_ok-item.ensures (marked (byte_at c.term.new.self.rest.now) c.in_ok-byte.field-0 41 c.byte.new.self.rest.now c.in_ok-byte.ensures c.in-41.is) c.loop.invariant)

pub items-returns-in_default : goal.items-returns-in_default
items-returns-in_default t c =
    other_mark (term_at limits c.args.sent.now c.args.below) c.loop.items.items c.loop.counter (record { rest = c.loop.self.rest.now; marks = c.loop.marks }) (record { rest = c.term.new.self.rest.now; marks = c.term.new.marks }) c.byte.new.self.rest.now c.in_ok-byte.field-0 c.in_ok-item.item (items_at (term_at limits c.args.sent.now c.args.below) 32 (record { rest = c.args.self.now.rest.now; marks = c.args.marks.now })) c.loop-test.true c.in_ok-item.ensures c.in_ok-byte.ensures (λ e. omega arith) (λ e. omega arith) c.loop.invariant

pub items-loop-preserved : goal.items-loop-preserved
items-loop-preserved t c =
    rw c.in_ok-push.ensures.items (goes_on (term_at limits c.args.sent.now c.args.below) c.loop.items.items c.loop.counter (c.loop.counter + 1) (record { rest = c.loop.self.rest.now; marks = c.loop.marks }) (record { rest = c.term.new.self.rest.now; marks = c.term.new.marks }) c.byte.new.self.rest.now c.in_ok-item.item (items_at (term_at limits c.args.sent.now c.args.below) 32 (record { rest = c.args.self.now.rest.now; marks = c.args.marks.now })) (omega arith) c.loop-test.true c.in_ok-item.ensures (marked (byte_at c.term.new.self.rest.now) c.in_ok-byte.field-0 44 c.byte.new.self.rest.now c.in_ok-byte.ensures c.in-44.is) c.loop.invariant)

pub items-returns : goal.items-returns
items-returns t c = too_many (term_at limits c.args.sent.now c.args.below) c.loop.items.items c.loop.counter (record { rest = c.loop.self.rest.now; marks = c.loop.marks }) (items_at (term_at limits c.args.sent.now c.args.below) 32 (record { rest = c.args.self.now.rest.now; marks = c.args.marks.now })) c.loop-test.false c.loop.invariant
