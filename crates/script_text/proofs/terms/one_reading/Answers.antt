use Rattle.script_text.proofs.Readings.{one_reading_is}
use Rattle.script_text.proofs.terms.one_reading.Goals as goal

pub returns : goal.returns
returns c = one_reading_is
