-- What a party of a world does in its turn.
use Rattle.std.specs.Prelude.{◌≡◌, ◌⊎◌, ℕ, suc, ◌+◌, ◌<◌, ◌≤◌, max, ◌==◌, Bool, true, List, [], ◌∷◌, ◌++◌, length, Option, Some, None, if◌then◌else◌}
use Rattle.std.specs.List.{list_any}
use Rattle.term_values.specs.declared.small.Stamp.{Stamp}
use Rattle.mech_rows.specs.declared.kinds.Slot.{Slot}
use Rattle.mech_rows.specs.Moves.{Move, step_of}
use Rattle.mech_rows.specs.Replies.{sends, needs_stamp, new_slots}
use Rattle.mech_rows.specs.Rings.{keys_in}
use Rattle.mech_rows.specs.Rows.{kind_of, is_stamp}
use Rattle.mech_rows.specs.Runs.{Keys}
use Rattle.mech_rows.specs.Steps.{symbolic, IsStep}
use Rattle.mech_rows.specs.Verdict.{State, Noted}
use Rattle.text_hooks.specs.Drawn.{drawn_values}
use Rattle.outside.specs.Told.{Told}
use Rattle.fresh_values.specs.Counts.{counted_value}
use Rattle.replay_store.specs.Stamps.{next_stamp}
use Rattle.agreement_laws.specs.Configs.{names_in}
use Rattle.agreement_laws.specs.Traces.{RunId}
use Rattle.agreement_laws.specs.Worlds.{ring_of}
use Rattle.node_desk.specs.declared.event.Event.{Event}
use Rattle.node_desk.specs.declared.event.Event.TheVariants.{Issue, Commit}
use Rattle.node_desk.specs.Deliveries.{most_drawn}
use Rattle.node_desk.specs.Desks.{DeskView, node_at}
use Rattle.world_run.specs.Clocks.{clock_in}
use Rattle.world_run.specs.Views.{Act, act, acts_of, sent_in, WorldView}

-- there is a party of that name
abbrev pub has_name : WorldView → ℕ → Bool
has_name w n = list_any (λ m. m == n) (names_in w.config)

-- the party's node, as its desk shows it
abbrev pub desk_in : WorldView → ℕ → DeskView
desk_in w n = record { ring = ring_of w.config n; first = 0; log = acts_of n w.acts; spare = 0 }

-- the long-term keys of a party
abbrev pub keys_at : WorldView → ℕ → Keys
keys_at w n = keys_in (ring_of w.config n)

-- the moment at which a party acts: the greater of its now and its clock
abbrev pub moment : WorldView → ℕ → ℕ
moment w n = max (node_at (desk_in w n)).now (clock_in w n)

-- the world with one further event, of that party
abbrev pub did : WorldView → ℕ → Event → WorldView
did w n e = record w { acts = w.acts ++ act n e ∷ [] }

-- the stamp that the party issues next, where one is left
abbrev pub next_stamp_of : WorldView → ℕ → Option Stamp
next_stamp_of w n = next_stamp (ring_of w.config n).kind (node_at (desk_in w n)).last (moment w n)

-- the stamp that the party issues for what a run in this state says next, where one is needed
abbrev pub stamp_due : WorldView → ℕ → State → Option Stamp
stamp_due w n s = if needs_stamp s then next_stamp_of w n else None

-- the acts, and then the issue of the stamp by that party at that moment, where there is a stamp
abbrev pub with_issue : List Act → ℕ → ℕ → Option Stamp → List Act
with_issue acts n now None = acts
with_issue acts n now (Some stamp) = acts ++ act n (Issue now stamp) ∷ []

-- the world after the party issued the stamp, where there is one
abbrev pub issued_by : WorldView → ℕ → Option Stamp → WorldView
issued_by w n issued = record w { acts = with_issue w.acts n (moment w n) issued }

-- how many of the slots are drawn
abbrev pub drawn_count : List Slot → ℕ
drawn_count [] = 0
drawn_count (s ∷ ss) = if is_stamp (kind_of s) then drawn_count ss else suc (drawn_count ss)

-- how many values a run in this state draws for what it says next
abbrev pub draws_for : State → ℕ
draws_for s = if sends s then drawn_count (new_slots s) else 0

-- the counted draws from number n on
abbrev pub draws_from : ℕ → Told
draws_from n = record { place = n; value = counted_value }

-- the notes of a run after what it says next: each new slot, in the order of the message, has the next draw or the stamp
abbrev pub notes_after : ℕ → Option Stamp → State → Noted
notes_after n issued s = if sends s then s.notes ++ drawn_values (draws_from n) issued (new_slots s) else s.notes

-- the world after the party made what a run in this state says next: it issued the stamp that is due, and drew the next values
abbrev pub made_by : WorldView → ℕ → State → WorldView
made_by w n s = record w { acts = with_issue w.acts n (moment w n) (stamp_due w n s); draws = w.draws + draws_for s }

-- the world after that, where the party has entered the step of the run
abbrev pub stepped : WorldView → RunId → State → Move → WorldView
stepped w id s step = did (made_by w id.party s) id.party (Commit id.number (moment w id.party) step)

-- the acts and draws that are left where the party was to make what a run in this state says next, and broke off: the stamp that is due
-- may have been issued, and some of the values may have been drawn
abbrev pub IsPartMade : WorldView → ℕ → State → List Act → ℕ → Type 0
IsPartMade w n s acts draws = ((acts ≡ w.acts) ⊎ (acts ≡ (made_by w n s).acts)) × (w.draws ≤ draws) × (draws ≤ w.draws + most_drawn s)

-- the acts and draws that are left where a party made no step: the old ones; or a part was made of what a run says next in such a state
abbrev pub IsPartAtMost : (State → Type 0) → WorldView → ℕ → List Act → ℕ → Type 0
IsPartAtMost Due w n acts draws = ((acts ≡ w.acts) × (draws ≡ w.draws)) ⊎ ((s : State) × Due s × IsPartMade w n s acts draws)

-- the step by which a run, which took its message and stands so, says what it says next: it is a step of its row over symbolic
-- sealing, with the stamp that is due and the next draws
pub record SaysNext (w : WorldView) (n : ℕ) (s : State) (step : Move) : Type 0 where
  pub is_step : IsStep symbolic (keys_at w n) (step_of step)
  pub issued : step.issued ≡ stamp_due w n s
  pub notes : step.after.notes ≡ notes_after w.draws step.issued s

-- the number of the next message
abbrev pub next_message : WorldView → ℕ
next_message w = suc (length (sent_in w.acts))

-- there are numbers for one more run and one more message, and draws for the message
pub record HasNumbers (w : WorldView) : Type 0 where
  pub runs : length w.runs < 4_294_967_295
  pub messages : length (sent_in w.acts) < 4_294_967_295
  pub draws : w.draws < 18_446_744_073_709_551_600

-- at most one run, one message and 15 draws were added
pub record HasGrown (old new : WorldView) : Type 0 where
  pub runs : length new.runs ≤ length old.runs + 1
  pub messages : length (sent_in new.acts) ≤ length (sent_in old.acts) + 1
  pub draws : new.draws ≤ old.draws + 15
