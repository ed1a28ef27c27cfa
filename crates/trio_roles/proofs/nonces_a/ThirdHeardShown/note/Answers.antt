use Rattle.trio_roles.specs.NoncesA.{asker, third}
use Rattle.trio_roles.proofs.Growing.{grew_twice}
use Rattle.trio_roles.proofs.nonces_a.ThirdHeardShown.note.Goals as goal

pub returns-clause-noted : goal.returns-clause-noted
returns-clause-noted c = grew_twice _ _ _ (asker c.args.self.now.asked) (third c.args.self.now.third) c.in_ok-note.ensures.noted c.in_ok-note-2.ensures.noted
