use Rattle.std.proofs.Common.{◌≡◌, drop}
use Rattle.agreement_laws.specs.Nodes.{server_by}
use Rattle.node_desk.proofs.openings.serves.Given as goal

-- what is left says what all say
abbrev pub invariant-loop-peer : goal.invariant-loop-peer
invariant-loop-peer l = server_by (drop l.peer-index l.peer-items) l.name ≡ server_by l.ring.peers l.name
