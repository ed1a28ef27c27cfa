use Rattle.term_values.proofs.SameTrees.{is_same}
use Rattle.seal_symbolic.proofs.symbolic.same_term.Goals as goal

pub returns : goal.returns
returns c = is_same _ _ _ c.same.ensures.equal
