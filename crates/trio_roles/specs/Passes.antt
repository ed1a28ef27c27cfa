-- The passes of the mechanisms with a third party, and items that are opened in them.
use Rattle.std.specs.Prelude.{ℕ, List, [], ◌∷◌}
use Rattle.term_values.specs.Trees.{Bytes, Tree}
use Rattle.term_values.specs.declared.small.Key.TheVariants.{One}
use Rattle.mech_rows.specs.Replies.{pass_or_none}
use Rattle.mech_rows.specs.Rings.{Ring, keys_in}
use Rattle.mech_rows.specs.Rows.{Pass, third_by_nonces, third_by_stamps}
use Rattle.mech_rows.specs.Runs.{Opening, bytes_or_empty, nth}
use Rattle.text_hooks.specs.Trios.{by_nonces, by_stamps}
use Rattle.text_hooks.specs.declared.trio.Family.{Family}
use Rattle.text_hooks.specs.declared.trio.Trio.{Trio}

-- pass k, counted from 0, of the mechanism by stamps
abbrev pub stamps_pass : Family → ℕ → Pass
stamps_pass f k = pass_or_none (nth (third_by_stamps (by_stamps f)) k)

-- pass k, counted from 0, of the mechanism by nonces
abbrev pub nonces_pass : Family → ℕ → Pass
nonces_pass f k = pass_or_none (nth (third_by_nonces (by_nonces f)) k)

-- the names in each body
abbrev pub names_in : Trio → List ℕ
names_in t = t.names.a ∷ t.names.b ∷ t.names.p ∷ []

-- an item, opened to this body under the key of two names
abbrev pub opened_under : Ring → ℕ → ℕ → Tree → Tree → Opening
opened_under ring x y item body = record { key = One (bytes_or_empty (keys_in ring x y)); item = item; body = body }

-- an item, opened to this body under the key of a part
abbrev pub opened_by_part : Bytes → Tree → Tree → Opening
opened_by_part p item body = record { key = One p; item = item; body = body }
