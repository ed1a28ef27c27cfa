use Rattle.fresh_values.proofs.Counts.{same_values}
use Rattle.fresh_values.proofs.laws.counted_values_differ.Goals as goal

pub returns : goal.returns
returns c = record { differ = same_values }
