use Rattle.std.proofs.Common.{length}
use Rattle.ring_text.proofs.doubles.+places_differ.Given as goal

abbrev pub decreases-places_differ : goal.decreases-places_differ
decreases-places_differ l = length l.texts.now
