-- What the opening of a run does to a world, and what it answers.
use Rattle.std.specs.Prelude.{◌≡◌, ◌≢◌, ◌⊎◌, ℕ, suc, ◌≤◌, ◌+◌, true, false, List, [], ◌∷◌, ◌++◌, length, Option, Some, None, Result, Ok, Err, if◌then◌else◌}
use Rattle.term_values.specs.declared.small.Stamp.{Stamp}
use Rattle.mech_rows.specs.declared.refusal.Refusal.{Refusal}
use Rattle.mech_rows.specs.declared.refusal.Refusal.TheVariants.{UnknownParty}
use Rattle.mech_rows.specs.Heads.{Head, me}
use Rattle.mech_rows.specs.Moves.{Move}
use Rattle.mech_rows.specs.Openings.{Texts, opened_state}
use Rattle.mech_rows.specs.Replies.{sends_first}
use Rattle.agreement_laws.specs.Nodes.{opens_in}
use Rattle.agreement_laws.specs.Traces.{RunId}
use Rattle.node_desk.specs.declared.event.Event.TheVariants.{Open, Drop}
use Rattle.node_desk.specs.Deliveries.{spent_refusal}
use Rattle.node_desk.specs.Desks.{node_at}
use Rattle.node_desk.specs.Events.{log_of}
use Rattle.node_desk.specs.Openings.{opening_refusal}
use Rattle.world_run.specs.declared.opened.Opened.{Opened}
use Rattle.world_run.specs.Turns.{desk_in, did, has_name, issued_by, next_message, IsPartAtMost, SaysNext, stepped}
use Rattle.world_run.specs.Views.{Act, act, acts_of, is_over, WorldView}

-- why a run is not opened: its own name is unknown, or its party's node refuses it
abbrev pub open_refusal : WorldView → Head → Option Refusal
open_refusal w h = if has_name w (me h) then opening_refusal (node_at (desk_in w (me h))) h else Some UnknownParty

-- the number, there, of the run that a party opens next
abbrev pub next_run : WorldView → ℕ → ℕ
next_run w n = suc (opens_in (log_of (acts_of n w.acts)))

-- the run that is opened next, by its party and its number there
abbrev pub id_of : WorldView → Head → RunId
id_of w h = record { party = me h; number = next_run w (me h) }

-- the world after the party opened the run, which has no number of the world yet
abbrev pub opened_by : WorldView → Head → Texts → WorldView
opened_by w h texts = did w (me h) (Open (next_run w (me h)) h texts)

-- the world with the run, which has the next number of the world
abbrev pub enlisted : WorldView → Head → Texts → WorldView
enlisted w h texts = let v = opened_by w h texts in record v { runs = w.runs ++ id_of w h ∷ [] }

-- why the run, which its party has opened, does not begin: it says the first message, and there is no stamp for it
abbrev pub begin_refusal : WorldView → Head → Texts → Option Refusal
begin_refusal w h texts = if sends_first (opened_state h texts) then spent_refusal (desk_in (opened_by w h texts) (me h)) (opened_state h texts) else None

-- the run waits for its first message
pub record Waits (w : WorldView) (h : Head) (texts : Texts) (o : Opened) (v : WorldView) : Type 0 where
  pub silent : sends_first (opened_state h texts) ≡ false
  pub sent : o.sent ≡ None
  pub done : o.done ≡ false
  pub leaves : v ≡ enlisted w h texts

-- the run said the first message
pub record Speaks (w : WorldView) (h : Head) (texts : Texts) (o : Opened) (v : WorldView) : Type 0 where
  pub first : sends_first (opened_state h texts) ≡ true
  pub step : Move
  pub before : step.before ≡ opened_state h texts
  pub takes : step.taken ≡ None
  pub says : SaysNext (enlisted w h texts) (me h) (opened_state h texts) step
  pub sent : o.sent ≡ Some (next_message w)
  pub done : o.done ≡ is_over step.after
  pub leaves : v ≡ stepped (enlisted w h texts) (id_of w h) (opened_state h texts) step

-- the run was opened: it has the next number, and waits or said the first message
pub record IsOpened (w : WorldView) (h : Head) (texts : Texts) (o : Opened) (v : WorldView) : Type 0 where
  pub may : open_refusal w h ≡ None
  pub begins : begin_refusal w h texts ≡ None
  pub run : o.run ≡ suc (length w.runs)
  pub goes : Waits w h texts o v ⊎ Speaks w h texts o v

-- the world after a run was opened and given up
abbrev pub given_up : WorldView → Head → Texts → Option Stamp → WorldView
given_up w h texts issued = did (issued_by (opened_by w h texts) (me h) issued) (me h) (Drop (next_run w (me h)))

-- the first refusal that holds: the run is not opened, and nothing has changed; or it was opened and has no stamp, and is given up
abbrev pub IsOpenRefused : WorldView → Head → Texts → Refusal → WorldView → Type 0
IsOpenRefused w h texts e v =
    ((open_refusal w h ≡ Some e) × (v ≡ w))
    ⊎ ((open_refusal w h ≡ None) × (begin_refusal w h texts ≡ Some e) × (v ≡ given_up w h texts None))

-- the run was opened and given up; where it says the first message, a part of that may have been made before
pub record IsPartOpened (w : WorldView) (h : Head) (texts : Texts) (v : WorldView) : Type 0 where
  pub may : open_refusal w h ≡ None
  pub acts : List Act
  pub part : IsPartAtMost (λ s. (s ≡ opened_state h texts) × (sends_first s ≡ true)) (opened_by w h texts) (me h) acts v.draws
  pub gives_up : v.acts ≡ acts ++ act (me h) (Drop (next_run w (me h))) ∷ []
  pub config : v.config ≡ w.config
  pub clocks : v.clocks ≡ w.clocks
  pub runs : v.runs ≡ w.runs

-- what an opening leaves that ended for want of memory: nothing has changed, or the run was opened and given up
abbrev pub IsOpenLeft : WorldView → Head → Texts → WorldView → Type 0
IsOpenLeft w h texts v = (v ≡ w) ⊎ IsPartOpened w h texts v

-- what an opening answers and does, want of memory aside
abbrev pub Opens : WorldView → Head → Texts → Result Opened Refusal → WorldView → Type 0
Opens w h texts (Ok o) v = IsOpened w h texts o v
Opens w h texts (Err e) v = IsOpenRefused w h texts e v
