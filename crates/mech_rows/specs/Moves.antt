-- What prepared messages and steps between typed states stand for.
use Rattle.std.specs.Prelude.{◌≡◌, suc, Bool, List, [], Option, Some, None, IfSome, if◌then◌else◌}
use Rattle.term_values.specs.Trees.{Tree}
use Rattle.term_values.specs.declared.small.Key.{Key}
use Rattle.term_values.specs.declared.small.Stamp.{Stamp}
use Rattle.mech_rows.specs.declared.outcome.Outcome.{Outcome}
use Rattle.mech_rows.specs.declared.kinds.Slot.{Slot}
use Rattle.mech_rows.specs.Rows.{Pass, row_of}
use Rattle.mech_rows.specs.Runs.{Notes, Run, Keys, nth, seen_slots, Opening, Got, Step}
use Rattle.mech_rows.specs.Steps.{Fits, IsStep}
use Rattle.mech_rows.specs.Verdict.{State, run_of}
use Rattle.mech_rows.specs.Lawful.{tested_by, stands_in}
use Rattle.mech_rows.specs.Replies.{Says}

-- what a pass shows to its receiver
abbrev pub seen_at : Option Pass → List Slot
seen_at None = []
seen_at (Some p) = seen_slots p

-- what is noted, and else that
abbrev pub or_else : Option Tree → Option Tree → Option Tree
or_else (Some t) u = Some t
or_else None u = u

-- what a run has learnt from its message: beside what it knew, those of its last notes that the message showed
abbrev pub middle_of : Run → Option Tree → Notes → Notes
middle_of before None last = before.notes
middle_of before (Some t) last = λ s. or_else (before.notes s) (if stands_in (seen_at (nth (row_of before.head.mech) before.next)) s then last s else None)

-- a message that was taken, with the states around it
pub record Ready : Type 0 where
  pub before : State
  pub after : State
  pub taken : Tree
  pub opened : List Opening
  pub got : List Got

-- the message fits the state before, over this sealing and with these keys, and leads to the state after
pub record Fitted (opens : Key → Tree → Option Tree) (checks : Key → Tree → Tree → Bool) (keys : Keys) (r : Ready) : Type 0 where
  pub fits : Fits (tested_by opens checks) keys (run_of r.before) r.taken (run_of r.after).notes r.opened r.got
  pub same_head : r.after.head ≡ r.before.head
  pub moves : r.after.next ≡ suc r.before.next

-- that, over some sealing and with some keys
pub record IsReady (r : Ready) : Type 0 where
  pub opens : Key → Tree → Option Tree
  pub checks : Key → Tree → Tree → Bool
  pub keys : Keys
  pub fitted : Fitted opens checks keys r

-- a step between two states
pub record Move : Type 0 where
  pub before : State
  pub after : State
  pub taken : Option Tree
  pub opened : List Opening
  pub got : List Got
  pub issued : Option Stamp
  pub sealed : List Opening
  pub reply : Option Tree
  pub outcome : Outcome

-- the step between the runs
abbrev pub step_of : Move → Step
step_of m = record {
  before = run_of m.before;
  taken = m.taken;
  middle = middle_of (run_of m.before) m.taken (run_of m.after).notes;
  after = run_of m.after;
  opened = m.opened;
  got = m.got;
  issued = m.issued;
  sealed = m.sealed;
  reply = m.reply;
  outcome = m.outcome;
}

-- it is a step of its row, over some sealing and with some keys
pub record IsMove (m : Move) : Type 0 where
  pub opens : Key → Tree → Option Tree
  pub checks : Key → Tree → Tree → Bool
  pub keys : Keys
  pub is_step : IsStep (tested_by opens checks) keys (step_of m)

-- the move answers the run that stands there: its reply is what that run says, with the new notes and the made items
abbrev pub IsAnswer : (Key → Tree → Option Tree) → (Key → Tree → Tree → Bool) → Keys → State → Move → Type 0
IsAnswer opens checks keys middle m = IfSome m.reply (λ t. Says opens checks keys middle m.after t m.sealed m.issued)
