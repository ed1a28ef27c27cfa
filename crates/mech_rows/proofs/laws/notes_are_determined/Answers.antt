use Rattle.mech_rows.proofs.Unique.{one_choice}
use Rattle.mech_rows.proofs.laws.notes_are_determined.Goals as goal

pub returns : goal.returns
returns c = record { alike = one_choice }
