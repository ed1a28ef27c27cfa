use Rattle.std.proofs.Common.{◌∙◌, sym}
use Rattle.world_run.proofs.Decided.{holds, passes}
use Rattle.world_run.proofs.conditions.keeps_conditions.Goals as goal

pub returns : goal.returns
returns c = (λ t. holds _ (sym c.are_kept.ensures ∙ t), λ k. c.are_kept.ensures ∙ passes _ k)
