use Rattle.mech_rows.proofs.Unique.{one_message}
use Rattle.mech_rows.proofs.laws.messages_are_said.Goals as goal

pub returns : goal.returns
returns c = record { one = one_message }
