use Rattle.std.proofs.Common.{◌≡◌, drop}
use Rattle.mech_rows.specs.Rings.{part_by}
use Rattle.mech_rows.proofs.ring.Ring.part_of.Given as goal

abbrev pub invariant-loop-known : goal.invariant-loop-known
invariant-loop-known l = part_by (drop l.known-index l.known-items) l.peer ≡ part_by l.self.peers l.peer
