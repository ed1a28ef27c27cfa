-- A step has at most two stamps to judge.
use Rattle.std.proofs.Common.{◌≡◌, ◌≤◌, ◌+◌, ℕ, suc, List, [], ◌∷◌, ◌++◌, length, Bool, true, false, ◌&&◌, if◌then◌else◌, is_none, nat_le, Option, Some, None, refl, sym, subst, arith}
use Rattle.std.specs.List.{list_all}
use Rattle.std.proofs.lemmas.Bool.{leb-true}
use Rattle.std.proofs.lemmas.List.{length-append}
use Rattle.term_values.specs.Trees.{Bytes, Tree}
use Rattle.term_values.proofs.Lists.{all_among}
use Rattle.mech_rows.specs.declared.kinds.Mech.{Mech}
use Rattle.mech_rows.specs.declared.kinds.Mech.TheVariants.{E1, E2, E3, E4, E5, E6, C1, C2, C3, C4, K3, K4, K5, K6, K8, K9}
use Rattle.mech_rows.specs.declared.kinds.Slot.{Slot}
use Rattle.mech_rows.specs.Rows.{kind_of, is_stamp, issuer, Cover, Pass, row_of}
use Rattle.mech_rows.specs.Heads.{Head, name_of}
use Rattle.mech_rows.specs.Runs.{Notes, Run, Keys, Got, Opening, value}
use Rattle.mech_rows.specs.Moves.{Move, IsMove}
use Rattle.mech_rows.specs.Steps.{Sealer, Takes, got_of_slots, got_of, stamp_in}
use Rattle.mech_rows.proofs.RowUse.{nth_among}

-- how many of the slots are stamps
abbrev stamp_slots : List Slot → ℕ
stamp_slots [] = 0
stamp_slots (s ∷ ss) = if is_stamp (kind_of s) then suc (stamp_slots ss) else stamp_slots ss

-- of the items that the receiver opens or tests
abbrev seen_stamps : List Cover → ℕ
seen_stamps [] = 0
seen_stamps (c ∷ cs) = (if c.seen then stamp_slots c.slots else 0) + seen_stamps cs

abbrev is_few : Pass → Bool
is_few p = nat_le (seen_stamps p.covers) 2

few : (m : Mech) → list_all is_few (row_of m) ≡ true
few E1 = refl
few E2 = refl
few E3 = refl
few E4 = refl
few E5 = refl
few E6 = refl
few C1 = refl
few C2 = refl
few C3 = refl
few C4 = refl
few K3 = refl
few K4 = refl
few K5 = refl
few K6 = refl
few K8 = refl
few K9 = refl

got-few : (h : Head) (old new : Notes) (t : Bytes) (ss : List Slot) → length (got_of_slots h old new t ss) ≤ stamp_slots ss
got-few h old new t [] = omega arith
got-few h old new t (s ∷ ss) = go (is_stamp (kind_of s)) (is_none (old s)) (got-few h old new t ss)
  where
    go : (b none : Bool) → length (got_of_slots h old new t ss) ≤ stamp_slots ss → length (if b && none then record { slot = s; sender = name_of h (issuer s); tagged = t; stamp = stamp_in (value new s) } ∷ got_of_slots h old new t ss else got_of_slots h old new t ss) ≤ (if b then suc (stamp_slots ss) else stamp_slots ss)
    go true true l = omega (arith, l)
    go true false l = omega (arith, l)
    go false none l = l

all-few : (h : Head) (old new : Notes) (cs : List Cover) → length (got_of h old new cs) ≤ seen_stamps cs
all-few h old new [] = omega arith
all-few h old new (c ∷ cs) = go c.seen (got-few h old new c.tagged c.slots) (all-few h old new cs)
  where
    go : (b : Bool) → length (got_of_slots h old new c.tagged c.slots) ≤ stamp_slots c.slots → length (got_of h old new cs) ≤ seen_stamps cs
        → length ((if b then got_of_slots h old new c.tagged c.slots else []) ++ got_of h old new cs) ≤ (if b then stamp_slots c.slots else 0) + seen_stamps cs
    go true one l = let n = length-append (got_of_slots h old new c.tagged c.slots) (got_of h old new cs) in omega (arith, one, l, n)
    go false one l = omega (arith, l)

taken-few : (opens : Sealer) (keys : Keys) (run : Run) (taken : Option Tree) (notes : Notes) (opened : List Opening) (got : List Got) → Takes opens keys run taken notes opened got → length got ≤ 2
taken-few opens keys run None notes opened got t = subst (λ (g : List Got). length g ≤ 2) (sym t.2) (omega arith)
taken-few opens keys run (Some m) notes opened got t =
    let among = nth_among (row_of run.head.mech) run.next t.pass t.at in
    let most = leb-true (seen_stamps t.pass.covers) 2 (all_among is_few (row_of run.head.mech) (few run.head.mech) t.pass among) in
    let here = all-few run.head run.notes notes t.pass.covers in
    subst (λ (g : List Got). length g ≤ 2) (sym t.got_is) (omega (arith, most, here))

-- a step has at most two
pub got_bound : (step : Move) → IsMove step → length step.got ≤ 2
got_bound step m = taken-few _ m.keys _ step.taken _ step.opened step.got m.is_step.takes
