use Rattle.agreement_laws.proofs.Conclusions.{world_origins}
use Rattle.agreement_laws.proofs.laws.items_have_origins.Goals as goal

pub returns : goal.returns
returns c = record { origins = world_origins }
