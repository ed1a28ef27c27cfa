-- The runs of A and B in all mechanisms with a third party.
use Rattle.std.specs.Prelude.{Bool, ◌||◌}
use Rattle.mech_rows.specs.Heads.{Head}
use Rattle.mech_rows.specs.Verdict.{State}
use Rattle.trio_roles.specs.NoncesA.{is_nonces_a}
use Rattle.trio_roles.specs.NoncesB.{is_nonces_b}
use Rattle.trio_roles.specs.StampsA.{is_stamps_a}
use Rattle.trio_roles.specs.StampsB.{is_stamps_b}
use Rattle.trio_roles.specs.NoncesA as nonces_a
use Rattle.trio_roles.specs.NoncesB as nonces_b
use Rattle.trio_roles.specs.StampsA as stamps_a
use Rattle.trio_roles.specs.StampsB as stamps_b
use Rattle.trio_roles.specs.declared.state.TrioState.{TrioState}
use Rattle.trio_roles.specs.declared.state.TrioState.TheVariants as trio_state

-- the runs whose states there are
abbrev pub plays_in_trio : Head → Bool
plays_in_trio h = is_stamps_a h || is_stamps_b h || is_nonces_a h || is_nonces_b h

-- the run of a state
abbrev pub state_of : TrioState → State
state_of (trio_state.StampsA s) = stamps_a.state_of s
state_of (trio_state.StampsB s) = stamps_b.state_of s
state_of (trio_state.NoncesA s) = nonces_a.state_of s
state_of (trio_state.NoncesB s) = nonces_b.state_of s
