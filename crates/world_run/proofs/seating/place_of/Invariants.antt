use Rattle.std.proofs.Common.{drop, map}
use Rattle.term_values.specs.Trees.{Among}
use Rattle.world_run.specs.Parties.{seat_name}
use Rattle.world_run.proofs.seating.place_of.Given as goal

abbrev pub invariant-loop-place : goal.invariant-loop-place
invariant-loop-place l = Among l.name (map seat_name (drop l.place l.seats))
