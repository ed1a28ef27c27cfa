-- A delivery: a message is given to a run of a desk; and the first message of a run.
use Rattle.std.specs.Prelude.{◌≡◌, ◌≢◌, ◌+◌, ◌⊎◌, ℕ, suc, max, Bool, true, false, List, [], length, Option, Some, None, IfSome, is_some, Result, Ok, Err, if◌then◌else◌}
use Rattle.term_values.specs.Trees.{Bytes, Tree}
use Rattle.term_values.specs.declared.small.Key.{Key}
use Rattle.term_values.specs.declared.small.Stamp.{Stamp}
use Rattle.tagged_codec.specs.Grammar.{IsInLimits, IsSpelling}
use Rattle.outside.specs.Told.{Told}
use Rattle.mech_rows.specs.declared.kinds.Mech.{Mech}
use Rattle.mech_rows.specs.declared.kinds.Slot.{Slot}
use Rattle.mech_rows.specs.declared.refusal.Refusal.{Refusal}
use Rattle.mech_rows.specs.declared.refusal.Refusal.TheVariants.{WrongPass, DrawFault, WrongStampKind, Early, Late, Repeated, StoreFull}
use Rattle.mech_rows.specs.Rings.{keys_in}
use Rattle.mech_rows.specs.Runs.{Keys}
use Rattle.mech_rows.specs.Lawful.{tested_by}
use Rattle.mech_rows.specs.Moves.{Move, step_of}
use Rattle.mech_rows.specs.Replies.{sends_first, needs_stamp, new_slots, next_pass, made_in, run_verdict}
use Rattle.mech_rows.specs.Steps.{IsStep}
use Rattle.mech_rows.specs.Verdict.{State, Taken}
use Rattle.text_hooks.specs.Drawn.{DrawsAre, MovedOn}
use Rattle.text_hooks.specs.Refused.{IsNoSpelling}
use Rattle.node_desk.specs.declared.event.Event.TheVariants.{Issue, Commit}
use Rattle.node_desk.specs.Events.{log_of}
use Rattle.node_desk.specs.Helds.{Held}
use Rattle.node_desk.specs.Refusals.{run_refusal, issue_refusal, got_refusal}
use Rattle.node_desk.specs.Desks.{DeskView, node_at, run_at, Entered, Untouched, IsMadeWith, IsUnused, due_stamp}

-- an open run in that state
abbrev pub open_in : State → Option Held
open_in s = Some (record { state = s; is_open = true })

-- the run after it took a message
abbrev pub after_message : State → Taken → State
after_message s t = record { head = s.head; next = suc s.next; notes = t.notes }

-- the desk is as it was, or issued this stamp at the greater of now and the clock
abbrev pub IssuedIs : DeskView → DeskView → ℕ → Option Stamp → Type 0
IssuedIs old new clock None = Untouched old new
IssuedIs old new clock (Some stamp) = Entered old new (Issue (max (node_at old).now clock) stamp)

-- the desk is as it was, or issued a stamp
abbrev pub MayHaveIssued : DeskView → DeskView → ℕ → Type 0
MayHaveIssued old new clock = (stamp : Option Stamp) × IssuedIs old new clock stamp

-- the desk issued a stamp exactly where the run needs one for what it says next
abbrev pub IssuedFor : DeskView → DeskView → ℕ → State → Type 0
IssuedFor old new clock s = (stamp : Option Stamp) × (is_some stamp ≡ needs_stamp s) × IssuedIs old new clock stamp

-- the stamp, where there is one, is the desk's next one at the greater of now and the clock
abbrev pub IsDue : DeskView → ℕ → Option Stamp → Type 0
IsDue d clock issued = IfSome issued (λ stamp. due_stamp (node_at d) clock ≡ Some stamp)

-- the run needs a stamp for what it says next, and the desk issued exactly its next one
abbrev pub HasIssuedDue : DeskView → DeskView → ℕ → State → Type 0
HasIssuedDue old new clock s =
    (needs_stamp s ≡ true) × (stamp : Stamp) × (due_stamp (node_at old) clock ≡ Some stamp) × Entered old new (Issue (max (node_at old).now clock) stamp)

-- where the run needs a stamp for what it says next, none is left
abbrev pub spent_refusal : DeskView → State → Option Refusal
spent_refusal d s = if needs_stamp s then issue_refusal (node_at d) else None

-- how many values the run draws at most for what it says next: one for each new slot, and one for each item that it makes
abbrev pub most_drawn : State → ℕ
most_drawn s = length (new_slots s) + length (made_in (next_pass s).covers)

-- why what the run says next isn't made: no stamp is left; else a draw failed
abbrev pub IsUnsaid : DeskView → Type 0 → State → Refusal → Type 0
IsUnsaid d rose s e = (spent_refusal d s ≡ Some e) ⊎ ((spent_refusal d s ≡ None) × (e ≡ DrawFault) × rose)

-- the refusal of a received stamp
abbrev pub is_of_stamp : Refusal → Bool
is_of_stamp (WrongStampKind slot) = true
is_of_stamp (Early slot at) = true
is_of_stamp (Late slot at) = true
is_of_stamp (Repeated stamp) = true
is_of_stamp (StoreFull count) = true
is_of_stamp _ = false

-- a desk may commit the step: it was made with the ring's keys, its run is current, and no commit has used the stamp that it issued
pub record MayCommit (d : DeskView) (run : ℕ) (step : Move) : Type 0 where
  pub made : IsMadeWith (keys_in d.ring) step
  pub unused : IsUnused step.issued (log_of d.log)
  pub current : run_at d run ≡ open_in step.before

module _ (opens : Key → Tree → Option Tree) (checks : Key → Tree → Tree → Bool) (allowed : Mech → Slot → Bytes → Bool) where
  -- the message of these bytes was judged unfit
  abbrev pub IsUnfit : Keys → State → Bytes → Refusal → Type 0
  IsUnfit keys s bytes e = IsNoSpelling bytes e ⊎ ((m : Tree) × IsSpelling m bytes × (run_verdict opens checks allowed keys s m ≡ Err e))

  -- why bytes that were given to a run were refused before a stamp was issued
  abbrev pub IsTurnedAway : DeskView → ℕ → Bytes → Refusal → Type 0
  IsTurnedAway d run bytes e =
      (run_refusal (run_at d run) ≡ Some e)
      ⊎ ((s : State) × (run_at d run ≡ open_in s) × IsUnfit (keys_in d.ring) s bytes e)

  -- the bytes are a message that fits the open run
  pub record IsFit (d : DeskView) (run : ℕ) (bytes : Bytes) (s : State) (m : Tree) (t : Taken) : Type 0 where
    pub current : run_at d run ≡ open_in s
    pub spells : IsSpelling m bytes
    pub fits : run_verdict opens checks allowed (keys_in d.ring) s m ≡ Ok t

  -- why no step was made of bytes that were given to a run: the first cause that holds, each as the desk was before
  abbrev pub IsUnmade : DeskView → ℕ → Bytes → Type 0 → Refusal → Type 0
  IsUnmade d run bytes rose e =
      IsTurnedAway d run bytes e
      ⊎ ((s : State) × (m : Tree) × (t : Taken) × IsFit d run bytes s m t × IsUnsaid d rose (after_message s t) e)

  -- why bytes that were given to a run were refused: the first cause that holds, each as the desk was before
  abbrev pub IsRefused : DeskView → ℕ → Bytes → ℕ → Type 0 → Refusal → Type 0
  IsRefused d run bytes clock rose e =
      IsUnmade d run bytes rose e
      ⊎ ((s : State) × (m : Tree) × (t : Taken) × IsFit d run bytes s m t × (spent_refusal d (after_message s t) ≡ None) × (got_refusal (node_at d) clock t.got ≡ Some e))

  -- the bytes fit, and the desk issued a stamp exactly where the run needs one for its reply
  abbrev pub HasIssued : DeskView → DeskView → ℕ → Bytes → ℕ → Type 0
  HasIssued old new run bytes clock = (s : State) × (m : Tree) × (t : Taken) × IsFit old run bytes s m t × IssuedFor old new clock (after_message s t)

  -- the desk is as it was; or the bytes fit the open run, which needs a stamp for its reply, and the desk issued exactly its next one
  abbrev pub IssuedAtMost : DeskView → DeskView → ℕ → Bytes → ℕ → Type 0
  IssuedAtMost old new run bytes clock = Untouched old new ⊎ ((s : State) × (m : Tree) × (t : Taken) × IsFit old run bytes s m t × HasIssuedDue old new clock (after_message s t))

  -- where draws are told: they stay; or the bytes fit, and the draws have moved on by no more than the values of the reply
  abbrev pub HasMovedDraws : DeskView → ℕ → Bytes → Option Told → Option Told → Type 0
  HasMovedDraws d run bytes told_old told_new =
      (told_new ≡ told_old)
      ⊎ ((s : State) × (m : Tree) × (t : Taken) × IsFit d run bytes s m t × MovedOn (most_drawn (after_message s t)) told_old told_new)

  -- the step takes the message of these bytes for the run, with the stamp and the draws that its reply needs; the desk may commit it
  pub record MadeFor (iv_of : Tree → Option Bytes) (wants : Bool) (told_old told_new : Option Told) (old new : DeskView) (run : ℕ) (bytes : Bytes) (clock : ℕ) (step : Move) : Type 0 where
    pub message : Tree
    pub spells : IsSpelling message bytes
    pub current : run_at old run ≡ open_in step.before
    pub taken : Taken
    pub fits : run_verdict opens checks allowed (keys_in old.ring) step.before message ≡ Ok taken
    pub takes : step.taken ≡ Some message
    pub opened : step.opened ≡ taken.opened
    pub got : step.got ≡ taken.got
    pub is_step : IsStep (tested_by opens checks) (keys_in old.ring) (step_of step)
    pub not_spent : spent_refusal old (after_message step.before taken) ≡ None
    pub needs : is_some step.issued ≡ needs_stamp (after_message step.before taken)
    pub issued : IssuedIs old new clock step.issued
    pub limits : IfSome step.reply IsInLimits
    pub drawn : IfSome step.reply (λ _. DrawsAre iv_of wants told_old told_new step.issued (new_slots (after_message step.before taken)) (made_in (next_pass (after_message step.before taken)).covers) taken.notes step.after.notes step.sealed)
    pub silent : step.reply ≡ None → (step.after ≡ after_message step.before taken) × (told_new ≡ told_old)
    pub ready : MayCommit new run step

  -- the run took the message of these bytes, and the desk entered the step: nothing was refused
  pub record Delivered (iv_of : Tree → Option Bytes) (wants : Bool) (told_old told_new : Option Told) (old new : DeskView) (run : ℕ) (bytes : Bytes) (clock : ℕ) (reply : Option Tree) : Type 0 where
    pub step : Move
    pub mid : DeskView
    pub made : MadeFor iv_of wants told_old told_new old mid run bytes clock step
    pub fit : got_refusal (node_at old) clock step.got ≡ None
    pub entered : Entered mid new (Commit run (max (node_at old).now clock) step)
    pub replied : reply ≡ step.reply

  -- a step was made of these bytes, and a stamp that it received was refused
  pub record IsStampRefused (iv_of : Tree → Option Bytes) (wants : Bool) (told_old told_new : Option Told) (old new : DeskView) (run : ℕ) (bytes : Bytes) (clock : ℕ) (e : Refusal) : Type 0 where
    pub step : Move
    pub made : MadeFor iv_of wants told_old told_new old new run bytes clock step
    pub refused : got_refusal (node_at old) clock step.got ≡ Some e

-- why the first message of a run isn't said: the run isn't open; it doesn't say its first message now; no stamp is left; a draw failed
abbrev pub IsFirstRefused : DeskView → ℕ → Type 0 → Refusal → Type 0
IsFirstRefused d run rose e =
    (run_refusal (run_at d run) ≡ Some e)
    ⊎ ((s : State) × (run_at d run ≡ open_in s) × (((sends_first s ≡ false) × (e ≡ WrongPass)) ⊎ ((sends_first s ≡ true) × IsUnsaid d rose s e)))

-- the run says its first message now, and the desk issued a stamp exactly where the run needs one for it
abbrev pub HasIssuedFirst : DeskView → DeskView → ℕ → ℕ → Type 0
HasIssuedFirst old new run clock = (s : State) × (run_at old run ≡ open_in s) × (sends_first s ≡ true) × IssuedFor old new clock s

-- the desk is as it was; or the open run says its first message now and needs a stamp for it, and the desk issued exactly its next one
abbrev pub IssuedAtMostFirst : DeskView → DeskView → ℕ → ℕ → Type 0
IssuedAtMostFirst old new run clock = Untouched old new ⊎ ((s : State) × (run_at old run ≡ open_in s) × (sends_first s ≡ true) × HasIssuedDue old new clock s)

-- where draws are told: they stay; or the run says its first message now, and the draws have moved on by no more than its values
abbrev pub HasMovedDrawsFirst : DeskView → ℕ → Option Told → Option Told → Type 0
HasMovedDrawsFirst d run told_old told_new =
    (told_new ≡ told_old)
    ⊎ ((s : State) × (run_at d run ≡ open_in s) × (sends_first s ≡ true) × MovedOn (most_drawn s) told_old told_new)

-- the step says the first message of the run, with the stamp and the draws that it needs; the desk may commit it
pub record FirstFor (opens : Key → Tree → Option Tree) (checks : Key → Tree → Tree → Bool) (iv_of : Tree → Option Bytes) (wants : Bool) (told_old told_new : Option Told) (old new : DeskView) (run clock : ℕ) (step : Move) : Type 0 where
  pub current : run_at old run ≡ open_in step.before
  pub first : sends_first step.before ≡ true
  pub takes : step.taken ≡ None
  pub opened : step.opened ≡ []
  pub got : step.got ≡ []
  pub says : step.reply ≢ None
  pub is_step : IsStep (tested_by opens checks) (keys_in old.ring) (step_of step)
  pub not_spent : spent_refusal old step.before ≡ None
  pub needs : is_some step.issued ≡ needs_stamp step.before
  pub issued : IssuedIs old new clock step.issued
  pub limits : IfSome step.reply IsInLimits
  pub drawn : DrawsAre iv_of wants told_old told_new step.issued (new_slots step.before) (made_in (next_pass step.before).covers) step.before.notes step.after.notes step.sealed
  pub ready : MayCommit new run step

-- the run said its first message, and the desk entered the step: nothing was refused
pub record Started (opens : Key → Tree → Option Tree) (checks : Key → Tree → Tree → Bool) (iv_of : Tree → Option Bytes) (wants : Bool) (told_old told_new : Option Told) (old new : DeskView) (run clock : ℕ) (message : Tree) : Type 0 where
  pub step : Move
  pub mid : DeskView
  pub made : FirstFor opens checks iv_of wants told_old told_new old mid run clock step
  pub entered : Entered mid new (Commit run (max (node_at old).now clock) step)
  pub said : step.reply ≡ Some message
