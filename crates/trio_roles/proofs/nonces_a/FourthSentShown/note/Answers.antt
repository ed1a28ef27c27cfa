use Rattle.std.proofs.Common.{[], ◌∷◌}
use Rattle.term_values.specs.Trees.{nonce}
use Rattle.mech_rows.specs.declared.kinds.Slot.TheVariants.{Ra}
use Rattle.trio_roles.specs.NoncesA.{third_heard}
use Rattle.trio_roles.proofs.Growing.{grew_twice}
use Rattle.trio_roles.proofs.nonces_a.FourthSentShown.note.Goals as goal

pub returns-clause-noted : goal.returns-clause-noted
returns-clause-noted c = grew_twice _ _ _ (third_heard c.args.self.now.heard) ((Ra, nonce c.args.self.now.ra) ∷ []) c.in_ok-note.ensures.noted c.in_ok-add.ensures.noted
