use Rattle.world_run.proofs.Partnered.{some_partner}
use Rattle.world_run.proofs.laws.completions_have_partners.Goals as goal

pub returns : goal.returns
returns c = record { partner = λ w h run slots g tells i claims. some_partner w g h tells run slots i claims }
