use Rattle.authctl.proofs.Parts.{one_walk}
use Rattle.authctl.proofs.offline.words_tell_one_walk.Goals as goal

pub returns : goal.returns
returns c = record { one = one_walk }
