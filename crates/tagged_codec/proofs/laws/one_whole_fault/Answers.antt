use Rattle.tagged_codec.proofs.Whole.{one_whole_fault_is, no_whole_fault, some_whole_fault_is}
use Rattle.tagged_codec.proofs.laws.one_whole_fault.Goals as goal

pub returns : goal.returns
returns c = record { one = one_whole_fault_is; never_both = no_whole_fault; either = some_whole_fault_is }
