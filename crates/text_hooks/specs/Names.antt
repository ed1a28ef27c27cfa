-- Who takes part, by the names.
use Rattle.std.specs.Prelude.{List, [], ◌∷◌, None, Some}
use Rattle.term_values.specs.Trees.{Tree}
use Rattle.term_values.specs.declared.small.Key.{Key}
use Rattle.term_values.specs.declared.small.Key.TheVariants.{One}
use Rattle.mech_rows.specs.declared.kinds.Mech.{Mech}
use Rattle.mech_rows.specs.declared.kinds.Role.{Role}
use Rattle.mech_rows.specs.Heads.{Head}
use Rattle.mech_rows.specs.Rings.{Ring, keys_in}
use Rattle.mech_rows.specs.Runs.{Opening, bytes_or_empty}
use Rattle.text_hooks.specs.declared.names.Pair.{Pair}
use Rattle.text_hooks.specs.declared.names.Three.{Three}

-- the head of a run of two
abbrev pub between : Mech → Role → Pair → Head
between m r n = record { mech = m; role = r; a = n.a; b = n.b; p = None }

-- the head of a run with a third party
abbrev pub among : Mech → Role → Three → Head
among m r n = record { mech = m; role = r; a = n.a; b = n.b; p = Some n.p }

-- the long-term key of A and B, of which the ring has the part
abbrev pub key_of : Ring → Pair → Key
key_of ring n = One (bytes_or_empty (keys_in ring n.a n.b))

-- this item alone, opened to this body under the key of A and B
abbrev pub opened_by : Ring → Pair → Tree → Tree → List Opening
opened_by ring n item body = record { key = key_of ring n; item = item; body = body } ∷ []
