-- How many runs are open.
use Rattle.std.proofs.Common.{◌≡◌, ◌<◌, ◌+◌, ℕ, zero, suc, List, [], ◌∷◌, ◌++◌, length, Bool, true, false, cond, if◌then◌else◌, Option, Some, None, refl, ap, ◌∙◌, arith}
use Rattle.std.specs.Prelude.{count_by, slice_get, slice_set}
use Rattle.std.proofs.lemmas.List.Sums.{sum_by-set, sum_by-append}
use Rattle.std.proofs.lemmas.Option.{get_or_from_slice_get}
use Rattle.mech_rows.specs.Rings.{Ring}
use Rattle.agreement_laws.specs.Nodes.{Runs, if_open, open_among, opens_in}
use Rattle.node_desk.specs.declared.event.Event.{Event}
use Rattle.node_desk.specs.declared.run_slot.RunSlot.{RunSlot}
use Rattle.node_desk.specs.Helds.{shown, table_at, is_open_slot, AreHeld}
use Rattle.node_desk.specs.Desks.{node_of}
use Rattle.node_desk.proofs.Logs.{standing, runs_are, node_log}

-- 1 for a place that is open, and else 0
abbrev one_open : RunSlot → ℕ
one_open p = cond (is_open_slot p) 1 0

abbrev if_one : Option RunSlot → ℕ
if_one None = 0
if_one (Some p) = one_open p

-- those of the first run_slots
abbrev open_first : List RunSlot → ℕ → ℕ
open_first run_slots zero = 0
open_first run_slots (suc n) = if_one (slice_get run_slots n) + open_first run_slots n

cond-if : (b : Bool) → ◌≡◌ {A = ℕ} (if b then 1 else 0) (cond b 1 0)
cond-if true = refl
cond-if false = refl

if_open-is : (log : List Event) (o : Option RunSlot) → if_open (standing (shown log o)) ≡ if_one o
if_open-is log None = refl
if_open-is log (Some p) = cond-if (is_open_slot p)

open_among-is : (runs : Runs) (log : List Event) (run_slots : List RunSlot) → ((n : ℕ) → runs n ≡ standing (table_at log run_slots n)) → (n : ℕ) → open_among runs n ≡ open_first run_slots n
open_among-is runs log run_slots all zero = refl
open_among-is runs log run_slots all (suc n) =
    let rest = open_among-is runs log run_slots all n in
    let one : if_open (runs (suc n)) ≡ if_one (slice_get run_slots n) = ap if_open (all (suc n)) ∙ if_open-is log (slice_get run_slots n) in
    omega (arith, rest, one)

-- one more place in front
open_first-cons : (p : RunSlot) (run_slots : List RunSlot) (n : ℕ) → open_first (p ∷ run_slots) (suc n) ≡ one_open p + open_first run_slots n
open_first-cons p run_slots zero = omega arith
open_first-cons p run_slots (suc n) = let rest = open_first-cons p run_slots n in omega (arith, rest)

open_first-all : (run_slots : List RunSlot) → open_first run_slots (length run_slots) ≡ count_by is_open_slot run_slots
open_first-all [] = refl
open_first-all (p ∷ run_slots) =
    let rest = open_first-all run_slots in
    let split = sum_by-append one_open (p ∷ []) run_slots in
    open_first-cons p run_slots (length run_slots) ∙ omega (arith, rest, split)

-- the table's count is that of the node
pub open-count : (ring : Ring) (first : ℕ) (log : List Event) (run_slots : List RunSlot) → AreHeld log run_slots → open_among (node_of ring first log).runs (opens_in (node_of ring first log).log) ≡ count_by is_open_slot run_slots
open-count ring first log run_slots held =
    ap (open_among (node_of ring first log).runs) (ap opens_in (node_log ring first log) ∙ held.count)
    ∙ (open_among-is (node_of ring first log).runs log run_slots (λ n. runs_are ring first log n ∙ ap standing (held.each n)) (length run_slots)
    ∙ open_first-all run_slots)

pub opened-count : (ring : Ring) (first : ℕ) (log : List Event) (run_slots : List RunSlot) → AreHeld log run_slots → opens_in (node_of ring first log).log ≡ length run_slots
opened-count ring first log run_slots held = ap opens_in (node_log ring first log) ∙ held.count

pub count-more : (run_slots : List RunSlot) (p : RunSlot) → is_open_slot p ≡ true → count_by is_open_slot (run_slots ++ p ∷ []) ≡ count_by is_open_slot run_slots + 1
count-more run_slots p e = let all = sum_by-append one_open run_slots (p ∷ []) in let one : one_open p ≡ 1 = ap (λ (b : Bool). cond b 1 0) e in omega (arith, all, one)

-- a run that is written over
pub count-set : (run_slots : List RunSlot) (at : ℕ) (old new : RunSlot) → at < length run_slots → slice_get run_slots at ≡ Some old → count_by is_open_slot (slice_set run_slots at new) + one_open old ≡ count_by is_open_slot run_slots + one_open new
count-set run_slots at old new l e = rw (get_or_from_slice_get run_slots at old old e) at (sum_by-set one_open run_slots at new old l)

pub one-open : (p : RunSlot) → is_open_slot p ≡ true → one_open p ≡ 1
one-open p e = ap (λ (b : Bool). cond b 1 0) e

pub one-closed : (p : RunSlot) → is_open_slot p ≡ false → one_open p ≡ 0
one-closed p e = ap (λ (b : Bool). cond b 1 0) e
