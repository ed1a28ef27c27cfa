use Rattle.tagged_codec.proofs.Framing.{told}
use Rattle.tagged_codec.proofs.laws.fed_is_told.Goals as goal

pub returns : goal.returns
returns c = told
