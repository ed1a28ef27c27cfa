-- Notes are their slots and their look-ups.
use Rattle.std.proofs.Common.{◌≡◌, ℕ, Bool, true, false, if◌then◌else◌, List, [], ◌∷◌, Option, Some, None, refl, sym, ap, subst, ◌∙◌}
use Rattle.term_values.specs.Trees.{Tree}
use Rattle.mech_rows.specs.declared.kinds.Slot.{Slot}
use Rattle.mech_rows.specs.Facts.{same_slot}
use Rattle.mech_rows.specs.Found.{found, Once}
use Rattle.mech_rows.specs.Heads.{Head}
use Rattle.mech_rows.specs.Verdict.{Noted, State}
use Rattle.mech_rows.specs.Replies.{slots_in}
use Rattle.mech_rows.specs.Noting.{slots_at}
use Rattle.mech_rows.proofs.RowUse.{same_slot_refl, same_slot_is}
use Rattle.mech_rows.proofs.OneRun.{row_once}

-- the first entry answers for its slot
found_first : (s : Slot) (t : Tree) (ns : Noted) → found ((s, t) ∷ ns) s ≡ Some t
found_first s t ns = ap (λ (b : Bool). if b then Some t else found ns s) (same_slot_refl s)

-- look-ups that are equal with one entry more before both lists, of a slot that neither has, are equal without
found_later : (s : Slot) (t : Tree) (ns ms : Noted) → found ns s ≡ None → found ms s ≡ None → ((u : Slot) → found ((s, t) ∷ ns) u ≡ found ((s, t) ∷ ms) u) → (u : Slot) → found ns u ≡ found ms u
found_later s t ns ms a b h u = go (same_slot s u) refl (h u)
  where
    go : (c : Bool) → same_slot s u ≡ c → (if c then Some t else found ns u) ≡ (if c then Some t else found ms u) → found ns u ≡ found ms u
    go true e _ = subst (λ (v : Slot). found ns v ≡ found ms v) (same_slot_is s u e) (a ∙ sym b)
    go false e f = f

some_is : (t u : Tree) → ◌≡◌ {A = Option Tree} (Some t) (Some u) → t ≡ u
some_is t u e = cc

first_slot : (s u : Slot) (ss us : List Slot) → s ∷ ss ≡ u ∷ us → (s ≡ u) × (ss ≡ us)
first_slot s u ss us e = (cc, cc)

-- lists that are equal without their first entries, where these have one slot
one_more : (s r : Slot) (t v : Tree) (ns ms : Noted) → s ≡ r → found ns s ≡ None → found ms r ≡ None → (((u : Slot) → found ns u ≡ found ms u) → ns ≡ ms) → ((u : Slot) → found ((s, t) ∷ ns) u ≡ found ((r, v) ∷ ms) u) → ◌≡◌ {A = Noted} ((s, t) ∷ ns) ((r, v) ∷ ms)
one_more s r t v ns ms slot a b rest h =
    let here = subst (λ (q : Slot). (u : Slot) → found ((s, t) ∷ ns) u ≡ found ((q, v) ∷ ms) u) (sym slot) h in
    let value : t ≡ v = some_is t v (sym (found_first s t ns) ∙ here s ∙ found_first s v ms) in
    let later = subst (λ (w : Tree). (u : Slot) → found ((s, t) ∷ ns) u ≡ found ((s, w) ∷ ms) u) (sym value) here in
    let tails : ns ≡ ms = rest (found_later s t ns ms a (subst (λ (q : Slot). found ms q ≡ None) (sym slot) b) later) in
    cc

pub lookups_are : (ns ms : Noted) → Once ns → Once ms → slots_in ns ≡ slots_in ms → ((u : Slot) → found ns u ≡ found ms u) → ns ≡ ms
lookups_are [] [] o p e h = refl
lookups_are [] (m ∷ ms) o p e h = absurd cc
lookups_are (n ∷ ns) [] o p e h = absurd cc
lookups_are ((s, t) ∷ ns) ((r, v) ∷ ms) o p e h =
    let both = first_slot s r (slots_in ns) (slots_in ms) e in
    one_more s r t v ns ms both.0 o.0 p.0 (λ k. lookups_are ns ms o.1 p.1 both.1 k) h

state_with : Head → ℕ → Noted → State
state_with h k ns = record { head = h; next = k; notes = ns }

-- a state is its parts
parts_are : (s t : State) → s.head ≡ t.head → s.next ≡ t.next → s.notes ≡ t.notes → s ≡ t
unfolding state_with
parts_are s t heads nexts notes =
    ap (λ (h : Head). state_with h s.next s.notes) heads ∙ ap (λ (k : ℕ). state_with t.head k s.notes) nexts ∙ ap (λ (ns : Noted). state_with t.head t.next ns) notes

pub states_are : (s t : State) → s.head ≡ t.head → s.next ≡ t.next → slots_in s.notes ≡ slots_at s.head s.next → slots_in t.notes ≡ slots_at t.head t.next → ((u : Slot) → found s.notes u ≡ found t.notes u) → s ≡ t
states_are s t heads nexts a b h =
    let slots : slots_at s.head s.next ≡ slots_at t.head t.next = rw (heads, nexts) refl in
    let notes : s.notes ≡ t.notes = lookups_are s.notes t.notes (row_once s.head s.next s.notes a) (row_once t.head t.next t.notes b) (a ∙ slots ∙ sym b) h in
    parts_are s t heads nexts notes
