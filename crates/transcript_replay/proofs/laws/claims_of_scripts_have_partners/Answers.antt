use Rattle.transcript_replay.proofs.Output.{claim_partner}
use Rattle.transcript_replay.proofs.laws.claims_of_scripts_have_partners.Goals as goal

pub returns : goal.returns
returns c = record { partner = λ bytes w h run slots x tells i claims. claim_partner bytes w h run slots x tells i claims }
