-- What a node knows from the start: itself and its peers.
use Rattle.std.specs.Prelude.{ℕ, ◌==◌, Bool, List, [], ◌∷◌, Option, None, if◌then◌else◌}
use Rattle.term_values.specs.Trees.{Bytes}
use Rattle.term_values.specs.declared.small.StampKind.{StampKind}

-- a party that a node knows, and the long-term part that it shares with it
pub record Peer : Type 0 where
  pub name : ℕ
  pub is_server : Bool
  pub part : Option Bytes

-- what a node knows of itself and of its peers
pub record Ring : Type 0 where
  pub me : ℕ
  pub is_server : Bool
  pub kind : StampKind
  pub window : ℕ
  pub peers : List Peer

-- by the first peer of that name
abbrev pub part_by : List Peer → ℕ → Option Bytes
part_by [] n = None
part_by (p ∷ ps) n = if p.name == n then p.part else part_by ps n

-- the long-term keys that a ring has are those of its own pairs
abbrev pub keys_in : Ring → ℕ → ℕ → Option Bytes
keys_in ring x y = if x == ring.me then part_by ring.peers y else if y == ring.me then part_by ring.peers x else None
