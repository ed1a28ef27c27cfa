-- The node that a key ring says, as its members are read in their order. Private calls alone cite this.
use Rattle.std.specs.Prelude.{ℕ, ◌==◌, ◌&&◌, Bool, List, length, nat_le, not, codes, Option, Some, None, option_and_then, if◌then◌else◌}
use Rattle.std.specs.List.{list_any}
use Rattle.serde_json.specs.Data.{Data}
use Rattle.term_values.specs.declared.small.StampKind.{StampKind}
use Rattle.mech_rows.specs.Rings.{Peer, Ring}
use Rattle.ring_text.specs.KeyRings.{all_differ, peer_in, same_key, same_name}
use Rattle.ring_text.specs.Members.{listed, needed, optional}
use Rattle.ring_text.specs.Values.{name_in, server_in, stamps_in, window_in}

-- a node of that name may have these peers: their number, their names and its own, their keys
abbrev pub are_fit : ℕ → List Peer → Bool
are_fit me peers =
    nat_le (length peers) 64
    && (not (list_any (λ p. p.name == me) peers)
    && (all_differ same_name peers && all_differ same_key peers))

-- the node with these peers, where it may have them
abbrev pub with_peers : ℕ → Bool → StampKind → ℕ → List Peer → Option Ring
with_peers me s k w peers =
    if are_fit me peers then Some (record { me = me; is_server = s; kind = k; window = w; peers = peers }) else None

-- the node that the members say
unfoldable pub ring_in : Data → Option Ring
ring_in d =
    option_and_then (λ me. option_and_then (λ s. option_and_then (λ k. option_and_then (λ w.
    option_and_then (with_peers me s k w) (needed (codes "peers") (listed peer_in) d))
    (optional (codes "window") 5000 window_in d)) (needed (codes "stamps") stamps_in d))
    (needed (codes "kind") server_in d)) (needed (codes "me") name_in d)
