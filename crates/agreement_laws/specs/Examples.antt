-- Worlds in which completions have what the laws speak of: the laws are not empty.
use Rattle.std.specs.Prelude.{◌≡◌, List, ◌∷◌, ◌++◌}
use Rattle.term_values.specs.Trees.{Among}
use Rattle.term_values.specs.declared.small.Key.{Key}
use Rattle.mech_rows.specs.declared.kinds.Mech.{Mech}
use Rattle.mech_rows.specs.declared.kinds.Role.{Role}
use Rattle.mech_rows.specs.declared.kinds.Slot.{Slot}
use Rattle.agreement_laws.specs.Configs.{Config, IsLawful}
use Rattle.agreement_laws.specs.Nodes.{Event, Restart}
use Rattle.agreement_laws.specs.Sound.{Completion, HasClaim, HasSecret}
use Rattle.agreement_laws.specs.Traces.{Steps}
use Rattle.agreement_laws.specs.Worlds.{Entry, At, Reveal, IsWorld, trace}

-- a world in which a run of that mechanism and role has completed with a claim
pub record ShowsClaim (m : Mech) (r : Role) : Type 0 where
  pub config : Config
  pub entries : List Entry
  pub lawful : IsLawful config
  pub world : IsWorld config entries
  pub completion : Completion (trace entries)
  pub mech : completion.step.after.head.mech ≡ m
  pub role : completion.step.after.head.role ≡ r
  pub slots : List Slot
  pub claim : HasClaim config (trace entries) completion slots

-- a world in which a run of that mechanism and role has completed with a secret
pub record ShowsSecret (m : Mech) (r : Role) : Type 0 where
  pub config : Config
  pub entries : List Entry
  pub lawful : IsLawful config
  pub world : IsWorld config entries
  pub completion : Completion (trace entries)
  pub mech : completion.step.after.head.mech ≡ m
  pub role : completion.step.after.head.role ≡ r
  pub key : Key
  pub secret : HasSecret config (trace entries) completion key

-- the event is a restart
abbrev pub IsRestart : Event → Type 0
IsRestart (Restart now last more) = Unit {0}
IsRestart _ = ⊥

-- a world in which a run of that mechanism and role has completed with a claim; later its key was given away, and its party restarted
pub record ShowsLosses (m : Mech) (r : Role) : Type 0 where
  pub shown : ShowsClaim m r
  -- the entries up to the completion, and those after it
  pub moment : List Entry
  pub later : List Entry
  pub split : shown.entries ≡ later ++ moment
  pub completed : trace moment ≡ Steps shown.completion.id shown.completion.step ∷ shown.completion.before
  pub revealed : Among (Reveal shown.completion.id) later
  pub restart : Event
  pub is_restart : IsRestart restart
  pub restarted : Among (At shown.completion.id.party restart) later
