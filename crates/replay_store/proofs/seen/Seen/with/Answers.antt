use Rattle.replay_store.proofs.Bits.{far_later, later_one, one_between}
use Rattle.replay_store.proofs.seen.Seen.with.Goals as goal

pub returns-then-by-lt-WINDOW : goal.returns-then-by-lt-WINDOW
returns-then-by-lt-WINDOW c = later_one c.args.self.greatest c.args.self.before c.args.number c.if-number-self.true c.if-by-lt-WINDOW.true

pub returns-else-by-lt-WINDOW : goal.returns-else-by-lt-WINDOW
returns-else-by-lt-WINDOW c = far_later c.args.self.greatest c.args.self.before c.args.number c.if-number-self.true c.if-by-lt-WINDOW.false

pub returns : goal.returns
returns c = one_between c.args.self.greatest c.args.self.before c.args.number c.if-number-self.false c.if-by-ge-WINDOW.false
