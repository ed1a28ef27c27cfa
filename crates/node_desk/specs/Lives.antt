-- The runs that a node may have.
use Rattle.std.specs.Prelude.{Bool, ◌||◌}
use Rattle.mech_rows.specs.Heads.{Head}
use Rattle.mech_rows.specs.Verdict.{State}
use Rattle.roles_9798_2.specs.EStates.{plays_e}
use Rattle.roles_9798_2.specs.EStates as by_encipherment
use Rattle.roles_9798_4.specs.CStates.{plays_c}
use Rattle.roles_9798_4.specs.CStates as by_check
use Rattle.node_desk.specs.declared.live.Live.{Live}
use Rattle.node_desk.specs.declared.live.Live.TheVariants.{E, C}

-- the runs whose states there are
abbrev pub plays_live : Head → Bool
plays_live h = plays_e h || plays_c h

-- the run of a state
abbrev pub live_state : Live → State
live_state (E s) = by_encipherment.state_of s
live_state (C s) = by_check.state_of s
