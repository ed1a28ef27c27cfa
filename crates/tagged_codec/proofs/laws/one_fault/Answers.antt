use Rattle.tagged_codec.proofs.Places.{one_fault_is}
use Rattle.tagged_codec.proofs.laws.one_fault.Goals as goal

pub returns : goal.returns
returns c = one_fault_is
