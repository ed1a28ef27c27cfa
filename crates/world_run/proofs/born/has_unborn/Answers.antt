use Rattle.world_run.proofs.Numbers.{unborn_of, of_unborn}
use Rattle.world_run.proofs.born.has_unborn.Goals as goal

pub returns : goal.returns
returns c = (λ t. unborn_of _ _ (c.holds_later.ensures.0 t), λ h. c.holds_later.ensures.1 (of_unborn _ _ h))
