-- The runs of A and B in the mechanisms by checks.
use Rattle.std.specs.Prelude.{Bool, ◌||◌}
use Rattle.mech_rows.specs.Heads.{Head}
use Rattle.mech_rows.specs.Verdict.{State}
use Rattle.roles_9798_4.specs.C1A.{is_c1a}
use Rattle.roles_9798_4.specs.C1B.{is_c1b}
use Rattle.roles_9798_4.specs.C2A.{is_c2a}
use Rattle.roles_9798_4.specs.C2B.{is_c2b}
use Rattle.roles_9798_4.specs.C3A.{is_c3a}
use Rattle.roles_9798_4.specs.C3B.{is_c3b}
use Rattle.roles_9798_4.specs.C4A.{is_c4a}
use Rattle.roles_9798_4.specs.C4B.{is_c4b}
use Rattle.roles_9798_4.specs.C1A as c1a
use Rattle.roles_9798_4.specs.C1B as c1b
use Rattle.roles_9798_4.specs.C2A as c2a
use Rattle.roles_9798_4.specs.C2B as c2b
use Rattle.roles_9798_4.specs.C3A as c3a
use Rattle.roles_9798_4.specs.C3B as c3b
use Rattle.roles_9798_4.specs.C4A as c4a
use Rattle.roles_9798_4.specs.C4B as c4b
use Rattle.roles_9798_4.specs.declared.state.CState.{CState}
use Rattle.roles_9798_4.specs.declared.state.CState.TheVariants.{C1A, C1B, C2A, C2B, C3A, C3B, C4A, C4B}

-- the runs whose states there are
abbrev pub plays_c : Head → Bool
plays_c h = is_c1a h || is_c1b h || is_c2a h || is_c2b h || is_c3a h || is_c3b h || is_c4a h || is_c4b h

-- the run of a state
abbrev pub state_of : CState → State
state_of (C1A s) = c1a.state_of s
state_of (C1B s) = c1b.state_of s
state_of (C2A s) = c2a.state_of s
state_of (C2B s) = c2b.state_of s
state_of (C3A s) = c3a.state_of s
state_of (C3B s) = c3b.state_of s
state_of (C4A s) = c4a.state_of s
state_of (C4B s) = c4b.state_of s
