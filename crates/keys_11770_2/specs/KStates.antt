-- The runs of A and B in the key mechanisms without a third party.
use Rattle.std.specs.Prelude.{Bool, ◌||◌}
use Rattle.mech_rows.specs.Heads.{Head}
use Rattle.mech_rows.specs.Verdict.{State}
use Rattle.keys_11770_2.specs.K3A.{is_k3a}
use Rattle.keys_11770_2.specs.K3B.{is_k3b}
use Rattle.keys_11770_2.specs.K4A.{is_k4a}
use Rattle.keys_11770_2.specs.K4B.{is_k4b}
use Rattle.keys_11770_2.specs.K5A.{is_k5a}
use Rattle.keys_11770_2.specs.K5B.{is_k5b}
use Rattle.keys_11770_2.specs.K6A.{is_k6a}
use Rattle.keys_11770_2.specs.K6B.{is_k6b}
use Rattle.keys_11770_2.specs.K3A as k3a
use Rattle.keys_11770_2.specs.K3B as k3b
use Rattle.keys_11770_2.specs.K4A as k4a
use Rattle.keys_11770_2.specs.K4B as k4b
use Rattle.keys_11770_2.specs.K5A as k5a
use Rattle.keys_11770_2.specs.K5B as k5b
use Rattle.keys_11770_2.specs.K6A as k6a
use Rattle.keys_11770_2.specs.K6B as k6b
use Rattle.keys_11770_2.specs.declared.state.KState.{KState}
use Rattle.keys_11770_2.specs.declared.state.KState.TheVariants.{K3A, K3B, K4A, K4B, K5A, K5B, K6A, K6B}

-- the runs whose states there are
abbrev pub plays_k : Head → Bool
plays_k h = is_k3a h || is_k3b h || is_k4a h || is_k4b h || is_k5a h || is_k5b h || is_k6a h || is_k6b h

-- the run of a state
abbrev pub state_of : KState → State
state_of (K3A s) = k3a.state_of s
state_of (K3B s) = k3b.state_of s
state_of (K4A s) = k4a.state_of s
state_of (K4B s) = k4b.state_of s
state_of (K5A s) = k5a.state_of s
state_of (K5B s) = k5b.state_of s
state_of (K6A s) = k6a.state_of s
state_of (K6B s) = k6b.state_of s
