-- What a run says next: how much it draws for it, and that counted draws do not fail.
use Rattle.std.proofs.Common.{◌≡◌, ◌≢◌, ◌<◌, ◌≤◌, ◌+◌, ◌-◌, ◌^◌, ℕ, zero, suc, min, Bool, true, false, if◌then◌else◌, ◌&&◌, nat_lt, List, [], ◌∷◌, ◌++◌, length, Option, Some, None, is_some, IfSome, refl, sym, ap, subst, ◌∙◌, inl, inr, arith}
use Rattle.std.specs.List.{list_all}
use Rattle.std.proofs.lemmas.Bool.{lt-ltb, ltb-true}
use Rattle.term_values.specs.Trees.{Bytes, Tree}
use Rattle.term_values.specs.declared.small.Key.{Key}
use Rattle.term_values.specs.declared.small.Stamp.{Stamp}
use Rattle.outside.specs.Causes.{Rose}
use Rattle.outside.specs.Told.{Told}
use Rattle.fresh_values.specs.Counts.{Counts, failed_draws}
use Rattle.mech_rows.specs.declared.kinds.Mech.{Mech}
use Rattle.mech_rows.specs.declared.kinds.Mech.TheVariants.{E1, E2, E3, E4, E5, E6, C1, C2, C3, C4, K3, K4, K5, K6, K8, K9}
use Rattle.mech_rows.specs.declared.kinds.Role.{Role}
use Rattle.mech_rows.specs.declared.kinds.Slot.{Slot}
use Rattle.mech_rows.specs.Facts.{same_role}
use Rattle.mech_rows.specs.Heads.{Head}
use Rattle.mech_rows.specs.Lawful.{stands_in}
use Rattle.mech_rows.specs.Replies.{ends_at, made_in, new_slots, next_pass, pass_or_none, sends, slots_in, unknown_slots}
use Rattle.mech_rows.specs.Rows.{Pass, is_stamp, kind_of, row_of}
use Rattle.mech_rows.specs.Runs.{Keys, Notes, Opening, nth, sent_slots}
use Rattle.mech_rows.specs.Steps.{Sealer, Replies}
use Rattle.mech_rows.specs.Verdict.{State}
use Rattle.mech_rows.proofs.RowUse.{same_role_is, same_role_refl}
use Rattle.text_hooks.specs.Drawn.{after_slots, MovedOn}
use Rattle.node_desk.specs.Deliveries.{most_drawn}
use Rattle.world_run.specs.Turns.{drawn_count, draws_for, draws_from}
use Rattle.world_run.proofs.Counted.{after_is, count_is, taken_by}

-- ---- whose pass it is

by_role : (r : Role) (o : Option Pass) → ((p : Pass) → o ≡ Some p → p.from ≢ r) → ends_at (λ p. p.from) r o ≡ false
by_role r None not = refl
by_role r (Some p) not = go (same_role p.from r) refl
  where
    go : (b : Bool) → same_role p.from r ≡ b → same_role p.from r ≡ false
    go true f = absurd (not p refl (same_role_is p.from r f))
    go false f = f

of_role : (r : Role) (o : Option Pass) (p : Pass) → o ≡ Some p → p.from ≡ r → ends_at (λ p. p.from) r o ≡ true
of_role r o p at from = subst (λ (x : Option Pass). ends_at (λ p. p.from) r x ≡ true) (sym at) (subst (λ (q : Role). same_role p.from q ≡ true) from (same_role_refl p.from))

-- a run that answers nothing does not send its next pass
pub sends_none : (opens : Sealer) (keys : Keys) (s : State) (old new : Notes) (reply : Option Tree) (sealed : List Opening) → Replies opens keys s.head s.next old new reply sealed → reply ≡ None → sends s ≡ false
sends_none opens keys s old new None sealed r e = by_role s.head.role (nth (row_of s.head.mech) s.next) r.2
sends_none opens keys s old new (Some t) sealed r e = absurd (cc)

-- one that answers does
pub sends_some : (opens : Sealer) (keys : Keys) (s : State) (old new : Notes) (t : Tree) (reply : Option Tree) (sealed : List Opening) → Replies opens keys s.head s.next old new reply sealed → reply ≡ Some t → sends s ≡ true
sends_some opens keys s old new t None sealed r e = absurd (cc)
sends_some opens keys s old new t (Some u) sealed r e = of_role s.head.role (nth (row_of s.head.mech) s.next) r.pass r.at r.sent

-- ---- how much is drawn

-- the draws of these slots begin and end so
pub slots_drawn : (n : ℕ) (ss : List Slot) → after_slots (draws_from n) ss ≡ draws_from (n + drawn_count ss)
slots_drawn n [] = ap draws_from (omega arith)
slots_drawn n (s ∷ ss) =
    ap (λ (t : Told). after_slots t ss) (after_is n (kind_of s)) ∙ (slots_drawn (n + taken_by (kind_of s)) ss ∙ ap draws_from count)
  where
    count : (n + taken_by (kind_of s)) + drawn_count ss ≡ n + drawn_count (s ∷ ss)
    count = let e = count_is (kind_of s) (drawn_count ss) in omega (arith, e)

unknown_less : (known ss : List Slot) → length (unknown_slots known ss) ≤ length ss
unknown_less known [] = omega arith
unknown_less known (s ∷ ss) = go (stands_in known s) (unknown_less known ss) (unknown_less (s ∷ known) ss)
  where
    go : (b : Bool) → length (unknown_slots known ss) ≤ length ss → length (unknown_slots (s ∷ known) ss) ≤ length ss → length (if b then unknown_slots known ss else s ∷ unknown_slots (s ∷ known) ss) ≤ suc (length ss)
    go true old new = omega (arith, old)
    go false old new = omega (arith, new)

-- each pass of a row shows at most so many values and items
abbrev is_small : Pass → Bool
is_small p = nat_lt (length (sent_slots p) + length (made_in p.covers)) 16

rows_small : (m : Mech) → list_all is_small (row_of m) ≡ true
rows_small E1 = refl
rows_small E2 = refl
rows_small E3 = refl
rows_small E4 = refl
rows_small E5 = refl
rows_small E6 = refl
rows_small C1 = refl
rows_small C2 = refl
rows_small C3 = refl
rows_small C4 = refl
rows_small K3 = refl
rows_small K4 = refl
rows_small K5 = refl
rows_small K6 = refl
rows_small K8 = refl
rows_small K9 = refl

nth_small : (ps : List Pass) (k : ℕ) → list_all is_small ps ≡ true → is_small (pass_or_none (nth ps k)) ≡ true
nth_small [] k e = refl
nth_small (p ∷ ps) zero e = here (is_small p) (list_all is_small ps) e
  where
    here : (a b : Bool) → (a && b) ≡ true → a ≡ true
    here true b f = refl
    here false b f = f
nth_small (p ∷ ps) (suc k) e = nth_small ps k (rest (is_small p) (list_all is_small ps) e)
  where
    rest : (a b : Bool) → (a && b) ≡ true → b ≡ true
    rest true b f = f
    rest false b f = absurd (cc)

pub most_few : (s : State) → most_drawn s ≤ 15
most_few s =
    let a = unknown_less (slots_in s.notes) (sent_slots (next_pass s)) in
    let b = ltb-true (length (sent_slots (next_pass s)) + length (made_in (next_pass s).covers)) 16 (nth_small (row_of s.head.mech) s.next (rows_small s.head.mech)) in
    omega (arith, a, b)

one_at_most : (b : Bool) → (if b then 0 else 1) ≤ 1
one_at_most true = omega arith
one_at_most false = omega arith

drawn_less : (ss : List Slot) → drawn_count ss ≤ length ss
drawn_less [] = omega arith
drawn_less (s ∷ ss) = let e = count_is (kind_of s) (drawn_count ss) in let r = drawn_less ss in let one = one_at_most (is_stamp (kind_of s)) in omega (arith, e, r, one)

pub draws_few : (s : State) → draws_for s ≤ 15
draws_few s = go (sends s)
  where
    go : (b : Bool) → (if b then drawn_count (new_slots s) else 0) ≤ 15
    go true = let a = drawn_less (new_slots s) in let b = most_few s in omega (arith, a, b)
    go false = omega arith

pub draws_most : (s : State) → draws_for s ≤ most_drawn s
draws_most s = go (sends s)
  where
    go : (b : Bool) → (if b then drawn_count (new_slots s) else 0) ≤ most_drawn s
    go true = let a = drawn_less (new_slots s) in omega (arith, a)
    go false = omega arith

-- ---- counted draws do not fail

pub unrisen : (old new : Counts) → new.place < 2 ^ 64 - 1 → Rose (failed_draws old) (failed_draws new) → ⊥
unrisen old new lt rose =
    let none : failed_draws new ≡ 0 = ap (λ (b : Bool). if b then 0 else new.faults) (lt-ltb new.place (2 ^ 64 - 1) lt) in
    omega (arith, rose, none)

-- where the draws are
pub moved_few : (k j : ℕ) (s : State) → MovedOn (most_drawn s) (Some (draws_from k)) (Some (draws_from j)) → (k ≤ j) × (j ≤ k + 15)
moved_few k j s m = let a = m.1.1 in let b = m.1.2 in let f = most_few s in (a, omega (arith, b, f))
