-- What a world keeps.
use Rattle.std.specs.Prelude.{◌≡◌, ◌≢◌, ◌<◌, ◌≤◌, ◌+◌, ◌^◌, ℕ, suc, Bool, false, List, count_by, Option, Some, None, IfSome, option_map}
use Rattle.term_values.specs.Trees.{Among, Tree}
use Rattle.attacker_model.specs.Derivation.{Derivable}
use Rattle.mech_rows.specs.declared.kinds.Slot.{Slot}
use Rattle.mech_rows.specs.Found.{found}
use Rattle.mech_rows.specs.Moves.{Move, step_of}
use Rattle.mech_rows.specs.Steps.{symbolic, IsStep}
use Rattle.mech_rows.specs.Verdict.{State}
use Rattle.agreement_laws.specs.Configs.{Config, AllDiffer, names_in}
use Rattle.agreement_laws.specs.Traces.{RunId, Happening, OccursIn}
use Rattle.agreement_laws.specs.Worlds.{IsWorld, trace}
use Rattle.node_desk.specs.declared.event.Event.{Event}
use Rattle.node_desk.specs.declared.event.Event.TheVariants.{Open, Issue, Commit, Drop, Restart}
use Rattle.node_desk.specs.Desks.{node_at}
use Rattle.node_desk.specs.Helds.{Held}
use Rattle.node_desk.specs.Refusals.{got_refusal}
use Rattle.world_run.specs.declared.given.Given.{Given}
use Rattle.world_run.specs.declared.scene.Scene.{Scene}
use Rattle.world_run.specs.Born.{IsUnborn, HasUnborn}
use Rattle.world_run.specs.Clocks.{clock_in}
use Rattle.world_run.specs.Conditions.{KeepsConditions}
use Rattle.world_run.specs.Turns.{desk_in, did, draws_for, keys_at, moment, next_message, notes_after}
use Rattle.world_run.specs.Views.{Act, entries, held_in, is_over, known_in, told_by, told_of, WorldView}

-- nothing that happened shows a value whose draw has not come
abbrev pub AreBorn : ℕ → List Happening → Type 0
AreBorn n h = (e : Happening) (v : Tree) → Among e h → OccursIn v e → IsUnborn n v → ⊥

-- the run is there and open
abbrev pub is_running : Option Held → Bool
is_running None = false
is_running (Some h) = h.is_open

-- the event is a step of that run of its party
abbrev pub IsStepOf : Event → ℕ → Type 0
IsStepOf (Commit run now step) n = run ≡ n
IsStepOf (Open run head texts) n = ⊥
IsStepOf (Issue now stamp) n = ⊥
IsStepOf (Drop run) n = ⊥
IsStepOf (Restart now last more) n = ⊥

-- a step of that run was entered
abbrev pub HasStepped : List Act → RunId → Type 0
HasStepped acts id = (a : Act) × Among a acts × (a.party ≡ id.party) × IsStepOf a.event id.number

-- each run with a number is one that a declared party opened, and none has two numbers; each run that has stepped has one
pub record AreRuns (c : Config) (acts : List Act) (ids : List RunId) : Type 0 where
  pub there : (id : RunId) → Among id ids → (h : Held) × (held_in acts id ≡ Some h)
  pub declared : (id : RunId) → Among id ids → Among id.party (names_in c)
  pub apart : AllDiffer ids
  pub stepped : (id : RunId) → HasStepped acts id → Among id ids

-- it is a world of the laws, over a configuration that meets the conditions, in which values that look drawn were drawn
pub record IsGenuine (w : WorldView) : Type 0 where
  pub conditions : KeepsConditions w.config
  pub world : IsWorld w.config (entries w.acts)
  pub born : AreBorn w.draws (trace (entries w.acts))
  pub runs : AreRuns w.config w.acts w.runs

-- a message that a step takes is derivable and was born, after so many draws
abbrev pub IsDue : WorldView → ℕ → Option Tree → Type 0
IsDue w before taken = IfSome taken (λ m. Derivable (known_in w) m × (HasUnborn before m → ⊥))

-- a party may enter the step in this world: it took a message that was due, as it stood when the step was made; the run stood in
-- that state between; it drew the values from number `before` on, and before them nothing showed a value that was not drawn
pub record IsReady (w : WorldView) (n : ℕ) (step : Move) : Type 0 where
  pub before : ℕ
  pub state : State
  pub is_step : IsStep symbolic (keys_at w n) (step_of step)
  pub middle : (u : Slot) (t : Tree) → found state.notes u ≡ Some t → (step_of step).middle u ≢ None
  pub notes : step.after.notes ≡ notes_after before step.issued state
  pub due : IsDue w before step.taken
  pub born : AreBorn before (trace (entries w.acts))
  pub draws : w.draws ≡ before + draws_for state
  pub few : w.draws < 2 ^ 64

-- the party entered the step of the run, and the answer says so
pub record IsEntered (w : WorldView) (id : RunId) (step : Move) (g : Given) (v : WorldView) : Type 0 where
  pub fit : got_refusal (node_at (desk_in w id.party)) (clock_in w id.party) step.got ≡ None
  pub pass : g.pass ≡ suc step.before.next
  pub sent : g.sent ≡ option_map (λ _. next_message w) step.reply
  pub done : g.done ≡ is_over step.after
  pub leaves : v ≡ did w id.party (Commit id.number (moment w id.party) step)

-- what contracts see of it
abbrev pub view_of : Scene → WorldView
view_of s = record {
  config = s.parties.config;
  acts = s.parties.acts;
  clocks = s.parties.clocks;
  draws = s.draws.place;
  runs = s.runs.items;
}

-- the runs that are open
abbrev pub running_in : WorldView → ℕ
running_in w = count_by (λ id. is_running (held_in w.acts id)) w.runs

-- what is kept: it is a genuine world; the attacker knows what was sent, the history tells what happened, and each open run has room
-- for its end
pub record IsKept (s : Scene) : Type 0 where
  pub genuine : IsGenuine (view_of s)
  pub learnt : s.knowledge.given ≡ known_in (view_of s)
  pub told : told_by s.history ≡ told_of (view_of s)
  pub room : running_in (view_of s) ≤ s.parties.room
