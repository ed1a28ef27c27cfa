-- What the third party seals for A and for B.
use Rattle.std.specs.Prelude.{ℕ, List, [], ◌∷◌, drop}
use Rattle.term_values.specs.Trees.{Bytes, Tree}
use Rattle.term_values.specs.declared.small.Key.{Key}
use Rattle.term_values.specs.declared.small.Key.TheVariants.{One}
use Rattle.mech_rows.specs.Replies.{first_item}
use Rattle.mech_rows.specs.Rings.{Ring, keys_in}
use Rattle.mech_rows.specs.Runs.{Opening, bytes_or_empty}
use Rattle.text_hooks.specs.Parts.{body_of}
use Rattle.text_hooks.specs.declared.making.SlotValue.{SlotValue}
use Rattle.text_hooks.specs.declared.making.SlotValue.TheVariants as slot_value
use Rattle.text_hooks.specs.declared.names.Three.{Three}
use Rattle.text_hooks.specs.declared.sealing.Unsealed.{Unsealed}

-- the second item that was made
abbrev pub second_item : List Opening → Tree
second_item os = first_item (drop 1 os)

-- the items of a list of two, made from these bodies
abbrev pub two_seals : Unsealed → Unsealed → List Opening → List Opening
two_seals one two os =
    record { key = one.key; item = first_item os; body = one.body }
    ∷ record { key = two.key; item = second_item os; body = two.body }
    ∷ []

-- the long-term key of that name and the third party, of which the ring has the part
abbrev pub server_key : Ring → ℕ → Three → Key
server_key ring x n = One (bytes_or_empty (keys_in ring x n.p))

-- a body of three names, a value, a part and a text
abbrev pub part_body : Bytes → Three → SlotValue → Bytes → Bytes → Tree
part_body t n value part x = body_of t (n.a ∷ n.b ∷ n.p ∷ []) (value ∷ slot_value.Part part ∷ []) x

-- what is to be sealed for that name: its key is the one that it shares with the third party
abbrev pub share_for : Ring → ℕ → Three → Bytes → Bytes → SlotValue → Bytes → Unsealed
share_for ring x n part t value text = record { key = server_key ring x n; body = part_body t n value part text }
