-- The runs of the third party in all mechanisms that have one.
use Rattle.std.specs.Prelude.{Bool, ◌||◌}
use Rattle.mech_rows.specs.Heads.{Head}
use Rattle.mech_rows.specs.Verdict.{State}
use Rattle.third_party.specs.NoncesP.{is_nonces_p}
use Rattle.third_party.specs.StampsP.{is_stamps_p}
use Rattle.third_party.specs.NoncesP as nonces_p
use Rattle.third_party.specs.StampsP as stamps_p
use Rattle.third_party.specs.declared.state.PState.{PState}
use Rattle.third_party.specs.declared.state.PState.TheVariants.{ByStamps, ByNonces}

-- the runs whose states there are
abbrev pub plays_p : Head → Bool
plays_p h = is_stamps_p h || is_nonces_p h

-- the run of a state
abbrev pub state_of : PState → State
state_of (ByStamps s) = stamps_p.state_of s
state_of (ByNonces s) = nonces_p.state_of s
