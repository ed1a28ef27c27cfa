use Rattle.seal_symbolic.proofs.Keys.{seal_opens}
use Rattle.seal_symbolic.proofs.symbolic.SymbolicSealer.seal.Goals as goal

pub returns-clause-opens : goal.returns-clause-opens
returns-clause-opens c = seal_opens c.args.key.now c.args.body.now _ c.in_ok-item.ensures.item
