use Rattle.std.proofs.Common.{◌∙◌, [], ◌∷◌}
use Rattle.authctl.proofs.Fits.{messages_c4}
use Rattle.authctl.proofs.walk.checked_three.Goals as goal

pub returns : goal.returns
returns c =
    c.in_ok-all.ensures ∙ (λ i. c.in_ok-first.ensures i ∷ c.in_ok-second.ensures i ∷ c.in_ok-third.ensures i ∷ []) ∙ messages_c4 c.args.walk.now c.requires
