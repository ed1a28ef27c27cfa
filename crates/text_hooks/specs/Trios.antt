-- Who takes part in a run with a third party, and for what. The two mechanisms of a shape have the same passes.
use Rattle.std.specs.Prelude.{Bool, ◌||◌}
use Rattle.mech_rows.specs.declared.kinds.Mech.{Mech}
use Rattle.mech_rows.specs.declared.kinds.Mech.TheVariants.{E5, E6, K8, K9}
use Rattle.mech_rows.specs.declared.kinds.Role.{Role}
use Rattle.mech_rows.specs.Facts.{same_mech}
use Rattle.mech_rows.specs.Heads.{Head}
use Rattle.text_hooks.specs.Names.{among}
use Rattle.text_hooks.specs.declared.trio.Family.{Family}
use Rattle.text_hooks.specs.declared.trio.Family.TheVariants.{Entity, Keys}
use Rattle.text_hooks.specs.declared.trio.Trio.{Trio}

-- the mechanism of the family that goes by stamps
abbrev pub by_stamps : Family → Mech
by_stamps Entity = E5
by_stamps Keys = K8

-- the mechanism of the family that goes by nonces
abbrev pub by_nonces : Family → Mech
by_nonces Entity = E6
by_nonces Keys = K9

-- the mechanism goes by stamps
abbrev pub is_by_stamps : Mech → Bool
is_by_stamps m = same_mech m E5 || same_mech m K8

-- the mechanism goes by nonces
abbrev pub is_by_nonces : Mech → Bool
is_by_nonces m = same_mech m E6 || same_mech m K9

-- the head of a run by stamps
abbrev pub stamps_head : Role → Trio → Head
stamps_head r t = among (by_stamps t.family) r t.names

-- the head of a run by nonces
abbrev pub nonces_head : Role → Trio → Head
nonces_head r t = among (by_nonces t.family) r t.names
