use Rattle.tagged_codec.proofs.Framing.{cut_anyhow}
use Rattle.tagged_codec.proofs.laws.cut_anyhow.Goals as goal

pub returns : goal.returns
returns c = cut_anyhow
