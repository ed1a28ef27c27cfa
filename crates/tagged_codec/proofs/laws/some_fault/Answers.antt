use Rattle.tagged_codec.proofs.Places.{some_fault_is}
use Rattle.tagged_codec.proofs.laws.some_fault.Goals as goal

pub returns : goal.returns
returns c = some_fault_is
