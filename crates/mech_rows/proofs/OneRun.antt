-- What a run has noted by its row names no slot twice.
use Rattle.std.proofs.Common.{◌≡◌, ℕ, Bool, true, false, ◌||◌, if◌then◌else◌, List, [], ◌∷◌, ◌++◌, Some, None, refl, sym, subst}
use Rattle.mech_rows.specs.declared.kinds.Role.{Role}
use Rattle.mech_rows.specs.declared.kinds.Slot.{Slot}
use Rattle.mech_rows.specs.Facts.{same_slot}
use Rattle.mech_rows.specs.Found.{found, Once}
use Rattle.mech_rows.specs.Heads.{Head}
use Rattle.mech_rows.specs.Lawful.{acted_slots, stands_in}
use Rattle.mech_rows.specs.Noting.{own_texts, sent_among, slots_at}
use Rattle.mech_rows.specs.Openings.{sends_slot, text_slots}
use Rattle.mech_rows.specs.Replies.{slots_in, unknown_slots}
use Rattle.mech_rows.specs.Rows.{Pass, row_of}
use Rattle.mech_rows.specs.Verdict.{Noted}
use Rattle.mech_rows.proofs.RowUse.{same_slot_refl, same_slot_is}

-- no slot stands twice
abbrev AreApart : List Slot → Type 0
AreApart [] = Unit {0}
AreApart (s ∷ ss) = (stands_in ss s ≡ false) × AreApart ss

or_true : (a b : Bool) → b ≡ true → (a || b) ≡ true
or_true true b e = refl
or_true false b e = e

or_false : (a b : Bool) → a ≡ false → b ≡ false → (a || b) ≡ false
or_false true b e f = e
or_false false b e f = f

-- what is known is none of what is unknown
known_is_not : (known ss : List Slot) (s : Slot) → stands_in known s ≡ true → stands_in (unknown_slots known ss) s ≡ false
known_is_not known [] s e = refl
known_is_not known (t ∷ ss) s e = go (stands_in known t) refl (same_slot t s) refl (known_is_not known ss s e) (known_is_not (t ∷ known) ss s (or_true (same_slot t s) _ e))
  where
    go : (b : Bool) → stands_in known t ≡ b → (c : Bool) → same_slot t s ≡ c → stands_in (unknown_slots known ss) s ≡ false → stands_in (unknown_slots (t ∷ known) ss) s ≡ false → stands_in (if b then unknown_slots known ss else t ∷ unknown_slots (t ∷ known) ss) s ≡ false
    go true f c g old more = old
    go false f true g old more = let there : stands_in known t ≡ true = subst (λ (u : Slot). stands_in known u ≡ true) (sym (same_slot_is t s g)) e in absurd cc
    go false f false g old more = or_false (same_slot t s) _ g more

-- what is unknown is listed once
unknown_apart : (known ss : List Slot) → AreApart (unknown_slots known ss)
unknown_apart known [] = tt
unknown_apart known (t ∷ ss) = go (stands_in known t) (unknown_apart known ss) (unknown_apart (t ∷ known) ss)
  where
    first : stands_in (t ∷ known) t ≡ true
    first = rw (same_slot_refl t) refl

    go : (b : Bool) → AreApart (unknown_slots known ss) → AreApart (unknown_slots (t ∷ known) ss) → AreApart (if b then unknown_slots known ss else t ∷ unknown_slots (t ∷ known) ss)
    go true old more = old
    go false old more = (known_is_not (t ∷ known) ss t first, more)

-- a slot that neither list has
in_neither : (xs ys : List Slot) (s : Slot) → stands_in xs s ≡ false → stands_in ys s ≡ false → stands_in (xs ++ ys) s ≡ false
in_neither [] ys s e f = f
in_neither (x ∷ xs) ys s e f = go (same_slot x s) e (in_neither xs ys s)
  where
    go : (b : Bool) → (b || stands_in xs s) ≡ false → (stands_in xs s ≡ false → stands_in ys s ≡ false → stands_in (xs ++ ys) s ≡ false) → (b || stands_in (xs ++ ys) s) ≡ false
    go true g rest = g
    go false g rest = rest g f

-- slots that are known, and what is unknown beside them
beside : (xs known ss : List Slot) → AreApart xs → ((s : Slot) → stands_in xs s ≡ true → stands_in known s ≡ true) → AreApart (xs ++ unknown_slots known ss)
beside [] known ss a h = unknown_apart known ss
beside (x ∷ xs) known ss a h =
    let here : stands_in known x ≡ true = h x (rw (same_slot_refl x) refl) in
    (in_neither xs (unknown_slots known ss) x a.0 (known_is_not known ss x here), beside xs known ss a.1 (λ s e. h s (or_true (same_slot x s) _ e)))

-- what is chosen from a list stands in it
chosen_is_not : (r : Role) (ps : List Pass) (ss : List Slot) (s : Slot) → stands_in ss s ≡ false → stands_in (sent_among r ps ss) s ≡ false
chosen_is_not r ps [] s e = refl
chosen_is_not r ps (t ∷ ss) s e = go (sends_slot r t ps) (same_slot t s) refl e (chosen_is_not r ps ss s)
  where
    go : (b c : Bool) → same_slot t s ≡ c → (c || stands_in ss s) ≡ false → (stands_in ss s ≡ false → stands_in (sent_among r ps ss) s ≡ false) → stands_in (if b then t ∷ sent_among r ps ss else sent_among r ps ss) s ≡ false
    go b true f g rest = absurd cc
    go true false f g rest = or_false (same_slot t s) _ f (rest g)
    go false false f g rest = rest g

chosen_apart : (r : Role) (ps : List Pass) (ss : List Slot) → AreApart ss → AreApart (sent_among r ps ss)
chosen_apart r ps [] a = tt
chosen_apart r ps (s ∷ ss) a = go (sends_slot r s ps) (chosen_apart r ps ss a.1)
  where
    go : (b : Bool) → AreApart (sent_among r ps ss) → AreApart (if b then s ∷ sent_among r ps ss else sent_among r ps ss)
    go true rest = (chosen_is_not r ps ss s a.0, rest)
    go false rest = rest

texts_apart : AreApart text_slots
texts_apart = (refl, (refl, (refl, (refl, (refl, (refl, (refl, (refl, (refl, tt)))))))))

slots_apart : (h : Head) (k : ℕ) → AreApart (slots_at h k)
slots_apart h k =
    let ps = row_of h.mech in
    beside (own_texts h.role ps) (own_texts h.role ps) (acted_slots h.role k ps) (chosen_apart h.role ps text_slots texts_apart) (λ s e. e)

-- a slot that stands in no entry is not found
none_found : (ns : Noted) (s : Slot) → stands_in (slots_in ns) s ≡ false → found ns s ≡ None
none_found [] s e = refl
none_found (n ∷ ns) s e = go (same_slot n.0 s) e (none_found ns s)
  where
    go : (b : Bool) → (b || stands_in (slots_in ns) s) ≡ false → (stands_in (slots_in ns) s ≡ false → found ns s ≡ None) → (if b then Some n.1 else found ns s) ≡ None
    go true f rest = absurd cc
    go false f rest = rest f

apart_once : (ns : Noted) → AreApart (slots_in ns) → Once ns
apart_once [] a = tt
apart_once (n ∷ ns) a = (none_found ns n.0 a.0, apart_once ns a.1)

-- notes of the slots of a row have each slot once
pub row_once : (h : Head) (k : ℕ) (ns : Noted) → slots_in ns ≡ slots_at h k → Once ns
row_once h k ns e = apart_once ns (subst AreApart (sym e) (slots_apart h k))
