-- How a run that its party has opened begins in a world.
use Rattle.std.specs.Prelude.{◌≡◌, ◌⊎◌, ℕ, suc, Bool, true, false, List, [], ◌∷◌, ◌++◌, length, Some, None}
use Rattle.term_values.specs.Trees.{Among}
use Rattle.mech_rows.specs.declared.refusal.Refusal.{Refusal}
use Rattle.mech_rows.specs.Heads.{Head}
use Rattle.mech_rows.specs.Moves.{Move}
use Rattle.mech_rows.specs.Replies.{sends_first}
use Rattle.mech_rows.specs.Verdict.{State}
use Rattle.agreement_laws.specs.Configs.{names_in}
use Rattle.agreement_laws.specs.Traces.{RunId}
use Rattle.node_desk.specs.Deliveries.{open_in, spent_refusal}
use Rattle.world_run.specs.declared.opened.Opened.{Opened}
use Rattle.world_run.specs.Turns.{desk_in, next_message, SaysNext, stepped}
use Rattle.world_run.specs.Views.{held_in, is_over, WorldView}

-- a declared party has opened the run, which has no number of the world
pub record IsUnlisted (w : WorldView) (h : Head) (id : RunId) : Type 0 where
  pub declared : Among id.party (names_in w.config)
  pub state : State
  pub current : held_in w.acts id ≡ open_in state
  pub head : state.head ≡ h
  pub unlisted : Among id w.runs → ⊥

-- the world in which the run has the next number
abbrev pub listed : WorldView → RunId → WorldView
listed w id = record w { runs = w.runs ++ id ∷ [] }

-- the run has the next number, and this says whether it says the first message
pub record IsListed (w : WorldView) (id : RunId) (first : Bool) (v : WorldView) : Type 0 where
  pub state : State
  pub current : held_in w.acts id ≡ open_in state
  pub first_is : first ≡ sends_first state
  pub leaves : v ≡ listed w id

-- the run, which has the last number, said its first message
pub record HasSpoken (w : WorldView) (id : RunId) (o : Opened) (v : WorldView) : Type 0 where
  pub step : Move
  pub current : held_in w.acts id ≡ open_in step.before
  pub first : sends_first step.before ≡ true
  pub not_spent : spent_refusal (desk_in w id.party) step.before ≡ None
  pub takes : step.taken ≡ None
  pub says : SaysNext w id.party step.before step
  pub run : o.run ≡ length w.runs
  pub sent : o.sent ≡ Some (next_message w)
  pub done : o.done ≡ is_over step.after
  pub leaves : v ≡ stepped w id step.before step

-- the run has the next number, and waits for its first message
pub record HasWaited (w : WorldView) (id : RunId) (o : Opened) (v : WorldView) : Type 0 where
  pub state : State
  pub current : held_in w.acts id ≡ open_in state
  pub silent : sends_first state ≡ false
  pub run : o.run ≡ suc (length w.runs)
  pub sent : o.sent ≡ None
  pub done : o.done ≡ false
  pub leaves : v ≡ listed w id

-- the run has begun: it waits, or has said its first message
abbrev pub HasBegun : WorldView → RunId → Opened → WorldView → Type 0
HasBegun w id o v = HasWaited w id o v ⊎ HasSpoken (listed w id) id o v

-- why the run does not begin: it says the first message, and there is no stamp for it
pub record IsUnbegun (w : WorldView) (id : RunId) (e : Refusal) : Type 0 where
  pub state : State
  pub current : held_in w.acts id ≡ open_in state
  pub first : sends_first state ≡ true
  pub spent : spent_refusal (desk_in w id.party) state ≡ Some e
