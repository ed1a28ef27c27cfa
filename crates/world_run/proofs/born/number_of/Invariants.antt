use Rattle.std.proofs.Common.{◌≡◌, ◌≤◌, ◌-◌, ◌^◌, drop, min}
use Rattle.world_run.specs.Born.{number_from}
use Rattle.world_run.proofs.born.number_of.Given as goal

abbrev pub invariant-loop-byte : goal.invariant-loop-byte
invariant-loop-byte l = (min (number_from l.number (drop l.byte-index l.bytes)) (2 ^ 64 - 1) ≡ min (number_from 0 l.bytes) (2 ^ 64 - 1)) × (l.number ≤ 2 ^ 64 - 1)
