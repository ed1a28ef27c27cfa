-- The steps that the parties of a world make.
use Rattle.std.specs.Prelude.{◌≡◌, ◌⊎◌, ℕ, ◌+◌, ◌≤◌, Bool, true, false, Some, None, Ok, Err}
use Rattle.term_values.specs.Trees.{Bytes, Tree}
use Rattle.mech_rows.specs.declared.kinds.Mech.{Mech}
use Rattle.mech_rows.specs.declared.kinds.Slot.{Slot}
use Rattle.mech_rows.specs.declared.refusal.Refusal.{Refusal}
use Rattle.mech_rows.specs.declared.refusal.Refusal.TheVariants.{WrongPass}
use Rattle.mech_rows.specs.Moves.{Move}
use Rattle.mech_rows.specs.Replies.{sends_first}
use Rattle.mech_rows.specs.Verdict.{State, Taken}
use Rattle.agreement_laws.specs.Traces.{RunId}
use Rattle.node_desk.specs.Deliveries.{after_message, open_in, spent_refusal, MayCommit}
use Rattle.node_desk.specs.Refusals.{run_refusal}
use Rattle.world_run.specs.Gives.{verdict_in}
use Rattle.world_run.specs.Kept.{IsReady}
use Rattle.world_run.specs.Parties.{PartiesView, as_world}
use Rattle.world_run.specs.Turns.{desk_in, made_by, IsPartAtMost, SaysNext}
use Rattle.world_run.specs.Views.{held_in, WorldView}

-- the step says the first message of the run
pub record IsFirst (w : WorldView) (id : RunId) (step : Move) : Type 0 where
  pub current : held_in w.acts id ≡ open_in step.before
  pub first : sends_first step.before ≡ true
  pub not_spent : spent_refusal (desk_in w id.party) step.before ≡ None
  pub takes : step.taken ≡ None
  pub says : SaysNext w id.party step.before step

-- the open run stands so, and says its first message now
abbrev pub SaysFirst : WorldView → RunId → State → Type 0
SaysFirst w id s = (held_in w.acts id ≡ open_in s) × (sends_first s ≡ true)

-- why no first message is said
abbrev pub IsNotFirst : WorldView → RunId → Refusal → Type 0
IsNotFirst w id e =
    (run_refusal (held_in w.acts id) ≡ Some e)
    ⊎ ((s : State) × (held_in w.acts id ≡ open_in s) × (((sends_first s ≡ false) × (e ≡ WrongPass)) ⊎ ((sends_first s ≡ true) × (spent_refusal (desk_in w id.party) s ≡ Some e))))

module _ (allowed : Mech → Slot → Bytes → Bool) where
  -- the step takes the message for the run, and says what the run says next
  pub record IsAnswered (w : WorldView) (id : RunId) (m : Tree) (step : Move) (taken : Taken) : Type 0 where
    pub current : held_in w.acts id ≡ open_in step.before
    pub fits : verdict_in allowed w id.party step.before m ≡ Ok taken
    pub not_spent : spent_refusal (desk_in w id.party) (after_message step.before taken) ≡ None
    pub takes : step.taken ≡ Some m
    pub opened : step.opened ≡ taken.opened
    pub got : step.got ≡ taken.got
    pub says : SaysNext w id.party (after_message step.before taken) step

  -- why no step is made of the message
  abbrev pub IsUnanswered : WorldView → RunId → Tree → Refusal → Type 0
  IsUnanswered w id m e =
      (run_refusal (held_in w.acts id) ≡ Some e)
      ⊎ ((s : State) × (held_in w.acts id ≡ open_in s) × (
      (verdict_in allowed w id.party s m ≡ Err e)
      ⊎ ((t : Taken) × (verdict_in allowed w id.party s m ≡ Ok t) × (spent_refusal (desk_in w id.party) (after_message s t) ≡ Some e))
      ))

-- the party made what a run in this state says next, and may enter the step
pub record HasMade (old new : PartiesView) (draws after : ℕ) (id : RunId) (s : State) (step : Move) : Type 0 where
  pub leaves : as_world new after ≡ made_by (as_world old draws) id.party s
  pub may : MayCommit (desk_in (as_world new after) id.party) id.number step
  pub room : old.room ≤ new.room + 1

-- the party made the step that takes the message for the run, and may enter it
pub record HasAnswered (allowed : Mech → Slot → Bytes → Bool) (old new : PartiesView) (draws after : ℕ) (id : RunId) (m : Tree) (step : Move) : Type 0 where
  pub taken : Taken
  pub answers : IsAnswered allowed (as_world old draws) id m step taken
  pub made : HasMade old new draws after id (after_message step.before taken) step

-- the party's turn broke off, and it made no step: it made nothing, or a part of what a run says next in such a state
pub record HasBrokenOff (Due : State → Type 0) (old new : PartiesView) (draws after n : ℕ) : Type 0 where
  pub part : IsPartAtMost Due (as_world old draws) n new.acts after
  pub config : new.config ≡ old.config
  pub clocks : new.clocks ≡ old.clocks
  pub room : old.room ≤ new.room + 1

-- the step takes the message for the run, and the world is that in which the party has made it and may enter it
pub record IsMadeOf (allowed : Mech → Slot → Bytes → Bool) (w v : WorldView) (id : RunId) (m : Tree) (step : Move) : Type 0 where
  pub taken : Taken
  pub answers : IsAnswered allowed w id m step taken
  pub leaves : v ≡ made_by w id.party (after_message step.before taken)
  pub may : MayCommit (desk_in v id.party) id.number step
  pub ready : IsReady v id.party step

-- the party's turn broke off, and no step was made: nothing was made, or a part of what a run says next in such a state
pub record IsBrokenOff (Due : State → Type 0) (w v : WorldView) (n : ℕ) : Type 0 where
  pub part : IsPartAtMost Due w n v.acts v.draws
  pub config : v.config ≡ w.config
  pub clocks : v.clocks ≡ w.clocks
  pub runs : v.runs ≡ w.runs
