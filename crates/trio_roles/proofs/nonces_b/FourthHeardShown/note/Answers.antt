use Rattle.trio_roles.specs.NoncesB.{asker, fourth}
use Rattle.trio_roles.proofs.Growing.{grew_twice}
use Rattle.trio_roles.proofs.nonces_b.FourthHeardShown.note.Goals as goal

pub returns-clause-noted : goal.returns-clause-noted
returns-clause-noted c = grew_twice _ _ _ (asker c.args.self.now.asked) (fourth c.args.self.now.fourth) c.in_ok-note.ensures.noted c.in_ok-note-2.ensures.noted
