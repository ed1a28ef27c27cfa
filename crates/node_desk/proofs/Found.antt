-- The place of an open run in the table.
use Rattle.std.proofs.Common.{◌≡◌, ◌+◌, ◌-◌, ◌<◌, ◌≤◌, ℕ, suc, List, length, Bool, true, false, if◌then◌else◌, Option, Some, None, refl, sym, ap, subst, ◌∙◌, get_or, arith}
use Rattle.std.specs.Prelude.{count_by, slice_get, slice_set}
use Rattle.std.proofs.lemmas.Option.{slice_get_read}
use Rattle.mech_rows.specs.declared.refusal.Refusal.{Refusal}
use Rattle.mech_rows.specs.declared.refusal.Refusal.TheVariants.{EndedRun}
use Rattle.mech_rows.specs.Moves.{Move}
use Rattle.node_desk.specs.declared.live.Live.{Live}
use Rattle.node_desk.specs.declared.event.Event.{Event}
use Rattle.node_desk.specs.declared.run_slot.RunSlot.{RunSlot}
use Rattle.node_desk.specs.Helds.{Held, shown, shown_in, table_at, is_open_slot}
use Rattle.node_desk.specs.Refusals.{run_refusal, IsCurrent}
use Rattle.node_desk.proofs.Counts.{count-set, one-open, one-closed}

-- the slot that was read is that of the table
pub read-slot : (run_slots : List RunSlot) (at : ℕ) (old : RunSlot) → at < length run_slots → old ≡ get_or run_slots at old → slice_get run_slots at ≡ Some old
read-slot run_slots at old l e = slice_get_read run_slots (length run_slots) at old refl l e

table-slot : (log : List Event) (run_slots : List RunSlot) (run at : ℕ) (old : RunSlot) → at + 1 ≡ run → slice_get run_slots at ≡ Some old → table_at log run_slots run ≡ Some (shown_in log old)
table-slot log run_slots run at old r there =
    let number : suc at ≡ run = omega (arith, r) in
    subst (λ (n : ℕ). table_at log run_slots n ≡ Some (shown_in log old)) number (ap (shown log) there)

abbrev open-of : Option Held → Bool
open-of None = false
open-of (Some h) = h.is_open

-- where the step is current, the run of the slot is open
pub open-current : (log : List Event) (run_slots : List RunSlot) (run at : ℕ) (old : RunSlot) (step : Move) → at + 1 ≡ run → slice_get run_slots at ≡ Some old → IsCurrent (table_at log run_slots run) step → old.«open» ≡ true
open-current log run_slots run at old step r there current = ap open-of (sym (table-slot log run_slots run at old r there) ∙ current)

-- where the run isn't refused, the run of the slot is open
pub open-found : (log : List Event) (run_slots : List RunSlot) (run at : ℕ) (old : RunSlot) → at + 1 ≡ run → slice_get run_slots at ≡ Some old → run_refusal (table_at log run_slots run) ≡ None → old.«open» ≡ true
open-found log run_slots run at old r there none = go old.«open» (ap run_refusal (sym (table-slot log run_slots run at old r there)) ∙ none)
  where
    go : (b : Bool) → ◌≡◌ {A = Option Refusal} (if b then None else Some EndedRun) None → b ≡ true
    go true e = refl
    go false e = absurd (cc)

-- one run is open then
pub some-open : (run_slots : List RunSlot) (at : ℕ) (old : RunSlot) → at < length run_slots → slice_get run_slots at ≡ Some old → old.«open» ≡ true → 0 < count_by is_open_slot run_slots
some-open run_slots at old l there o =
    let new : RunSlot = record { start = old.start; at = old.at; «open» = false } in
    let all = count-set run_slots at old new l there in
    let one = one-open old o in
    let none = one-closed new refl in
    omega (arith, all, one, none)

-- how many are open after a commit
pub counted-commit : (run_slots : List RunSlot) (at : ℕ) (old : RunSlot) (start : Live) (stands : Option ℕ) (going : Bool) (running after : ℕ) → at < length run_slots → slice_get run_slots at ≡ Some old → old.«open» ≡ true → running ≡ count_by is_open_slot run_slots → after ≡ (if going then running else running - 1)
    → after ≡ count_by is_open_slot (slice_set run_slots at (record { start = start; at = stands; «open» = going }))
counted-commit run_slots at old start stands true running after l there o r a =
    let new : RunSlot = record { start = start; at = stands; «open» = true } in
    let all = count-set run_slots at old new l there in
    let one = one-open old o in
    let other = one-open new refl in
    omega (arith, all, one, other, r, a)
counted-commit run_slots at old start stands false running after l there o r a =
    let new : RunSlot = record { start = start; at = stands; «open» = false } in
    let all = count-set run_slots at old new l there in
    let one = one-open old o in
    let none = one-closed new refl in
    omega (arith, all, one, none, r, a)

pub no-more : (going : Bool) (running after : ℕ) → after ≡ (if going then running else running - 1) → after ≤ running
no-more true running after a = omega (arith, a)
no-more false running after a = omega (arith, a)
