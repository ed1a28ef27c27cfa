use Rattle.std.proofs.Common.{◌++◌, drop, List}
use Rattle.world_run.specs.declared.seat.Seat.{Seat}
use Rattle.world_run.specs.Beginnings.{AreNewSeats}
use Rattle.world_run.proofs.beginning.seats_for.Given as goal

abbrev pub invariant-loop-party : goal.invariant-loop-party
invariant-loop-party l = (more : List Seat) → AreNewSeats l.config (drop l.party-index l.party-items) more → AreNewSeats l.config l.config.parties (l.seats.items ++ more)
