-- Texts by their slots, each slot at most once.
use Rattle.std.proofs.Common.{◌≡◌, Bool, true, false, cond, List, [], ◌∷◌, ◌++◌, refl, arith}
use Rattle.std.specs.Prelude.{Option, Some, None, is_some}
use Rattle.std.proofs.lemmas.Bool.Decides.{nat_tests}
use Rattle.mech_rows.specs.declared.kinds.Slot.{Slot}
use Rattle.mech_rows.specs.Facts.{same_slot}
use Rattle.mech_rows.specs.Found.{found, Once}

pub apart : (a b : Slot) → same_slot a b ≡ false → same_slot b a ≡ false
apart a b h = grind (arith, nat_tests)

keep_none : {X : Type 0} (b : Bool) (v : X) (p q : Option X) → (p ≡ None → q ≡ None) → cond b (Some v) p ≡ None → cond b (Some v) q ≡ None
keep_none true v p q f h = absurd cc
keep_none false v p q f h = f h

split_some : {X : Type 0} (b : Bool) (v : X) (p : Option X) → is_some (cond b (Some v) p) ≡ false → (b ≡ false) × (is_some p ≡ false)
split_some true v p e = absurd cc
split_some false v p e = (refl, e)

found_none : {X : Type 0} (ns : List (Slot × X)) (s : Slot) (x : X) (u : Slot) → found ns u ≡ None → same_slot s u ≡ false → found (ns ++ (s, x) ∷ []) u ≡ None
found_none [] s x u h e = rw e refl
found_none (n ∷ ns) s x u h e = keep_none (same_slot n.0 u) n.1 (found ns u) (found (ns ++ (s, x) ∷ []) u) (λ k. found_none ns s x u k e) h

pub once_more : {X : Type 0} (ns : List (Slot × X)) (s : Slot) (x : X) → Once ns → is_some (found ns s) ≡ false → Once (ns ++ (s, x) ∷ [])
once_more [] s x h e = (refl, tt)
once_more (n ∷ ns) s x h e =
    let parts = split_some (same_slot n.0 s) n.1 (found ns s) e in
    (found_none ns s x n.0 h.0 (apart n.0 s parts.0), once_more ns s x h.1 parts.1)
