-- The runs of A and B in the mechanisms by encipherment.
use Rattle.std.specs.Prelude.{Bool, ◌||◌}
use Rattle.mech_rows.specs.Heads.{Head}
use Rattle.mech_rows.specs.Verdict.{State}
use Rattle.roles_9798_2.specs.E1A.{is_e1a}
use Rattle.roles_9798_2.specs.E1B.{is_e1b}
use Rattle.roles_9798_2.specs.E2A.{is_e2a}
use Rattle.roles_9798_2.specs.E2B.{is_e2b}
use Rattle.roles_9798_2.specs.E3A.{is_e3a}
use Rattle.roles_9798_2.specs.E3B.{is_e3b}
use Rattle.roles_9798_2.specs.E4A.{is_e4a}
use Rattle.roles_9798_2.specs.E4B.{is_e4b}
use Rattle.roles_9798_2.specs.E1A as e1a
use Rattle.roles_9798_2.specs.E1B as e1b
use Rattle.roles_9798_2.specs.E2A as e2a
use Rattle.roles_9798_2.specs.E2B as e2b
use Rattle.roles_9798_2.specs.E3A as e3a
use Rattle.roles_9798_2.specs.E3B as e3b
use Rattle.roles_9798_2.specs.E4A as e4a
use Rattle.roles_9798_2.specs.E4B as e4b
use Rattle.roles_9798_2.specs.declared.state.EState.{EState}
use Rattle.roles_9798_2.specs.declared.state.EState.TheVariants.{E1A, E1B, E2A, E2B, E3A, E3B, E4A, E4B}

-- the runs whose states there are
abbrev pub plays_e : Head → Bool
plays_e h = is_e1a h || is_e1b h || is_e2a h || is_e2b h || is_e3a h || is_e3b h || is_e4a h || is_e4b h

-- the run of a state
abbrev pub state_of : EState → State
state_of (E1A s) = e1a.state_of s
state_of (E1B s) = e1b.state_of s
state_of (E2A s) = e2a.state_of s
state_of (E2B s) = e2b.state_of s
state_of (E3A s) = e3a.state_of s
state_of (E3B s) = e3b.state_of s
state_of (E4A s) = e4a.state_of s
state_of (E4B s) = e4b.state_of s
