-- A verdict notes nothing but slots that the pass shows.
use Rattle.std.proofs.Common.{◌≡◌, ◌≢◌, ◌⊎◌, ◌+◌, ℕ, suc, Bool, true, false, ◌&&◌, if◌then◌else◌, List, [], ◌∷◌, ◌++◌, length, Option, Some, None, Result, Ok, Err, refl, sym, ap, subst, ◌∙◌, inl, inr}
use Rattle.term_values.specs.Trees.{Among, Bytes, Tree}
use Rattle.term_values.specs.declared.small.Key.{Key}
use Rattle.term_values.specs.declared.small.Stamp.{Stamp}
use Rattle.term_values.proofs.Lists.{among_left, among_right, any_among}
use Rattle.mech_rows.specs.declared.kinds.Clear.{Clear}
use Rattle.mech_rows.specs.declared.kinds.Clear.TheVariants.{Slot as Shown, NameOfB}
use Rattle.mech_rows.specs.declared.kinds.Mech.{Mech}
use Rattle.mech_rows.specs.declared.kinds.Slot.{Slot}
use Rattle.mech_rows.specs.declared.kinds.Slot.TheVariants.{Fwd}
use Rattle.mech_rows.specs.declared.refusal.Refusal.{Refusal}
use Rattle.mech_rows.specs.declared.refusal.Refusal.TheVariants.{WrongPass, WrongValue, Unopened}
use Rattle.mech_rows.specs.Facts.{same_slot}
use Rattle.mech_rows.specs.Found.{found}
use Rattle.mech_rows.specs.Heads.{Head}
use Rattle.mech_rows.specs.Lawful.{stands_in}
use Rattle.mech_rows.specs.Moves.{Move, middle_of, or_else, seen_at, step_of}
use Rattle.mech_rows.specs.Replies.{receives, sends, new_slots, run_verdict}
use Rattle.mech_rows.specs.Rows.{Cover, Pass, row_of, tag_of}
use Rattle.mech_rows.specs.Runs.{Keys, Notes, body, clear_slots, key_under, nth, seen_in, seen_slots}
use Rattle.term_values.specs.Same.{same}
use Rattle.mech_rows.specs.Verdict.{Noted, State, Taken, at, bind, body_items, joined, judged, judged_part, judged_parts, kept_part, message_items, names_of, note_clear, note_slot, note_slots, on_pass, opened_part, read_slots, refused_text, run_of, seens, taken_by, tested_part, unless, verdict}
use Rattle.mech_rows.proofs.Reading.{bind_ok, found_only, ok_is}
use Rattle.mech_rows.proofs.RowUse.{same_slot_refl}
use Rattle.mech_rows.proofs.VerdictFits.{after_clear, after_items, after_parts}
use Rattle.text_hooks.specs.Drawn.{drawn_values}
use Rattle.node_desk.specs.Deliveries.{after_message}
use Rattle.world_run.specs.Turns.{draws_from, notes_after}

-- what is noted then was noted before, or is in one of these slots
abbrev OnlyNew : Noted → List Slot → Noted → Type 0
OnlyNew ns ss new = (u : Slot) (y : Tree) → found new u ≡ Some y → (found ns u ≡ Some y) ⊎ Among u ss

only_none : (ns : Noted) → OnlyNew ns [] ns
only_none ns u y e = inl e

only_more : (a b c : Noted) (ss us : List Slot) → OnlyNew a ss b → OnlyNew b us c → OnlyNew a (ss ++ us) c
only_more a b c ss us f g u y e = go (g u y e)
  where
    go : (found b u ≡ Some y) ⊎ Among u us → (found a u ≡ Some y) ⊎ Among u (ss ++ us)
    go (inl x) = elim (f u y x) [ inl z ↦ inl z | inr i ↦ inr (among_left ss us u i) ]
    go (inr i) = inr (among_right ss us u i)

only_slot : (place : ℕ) (s : Slot) (t : Tree) (ns new : Noted) → note_slot place s t ns (found ns s) ≡ Ok new → OnlyNew ns (s ∷ []) new
only_slot place s t ns new e u y f = go (found ns s) e
  where
    noted : ns ++ (s, t) ∷ [] ≡ new → (found ns u ≡ Some y) ⊎ Among u (s ∷ [])
    noted is = elim (found_only ns s t u y (subst (λ (ms : Noted). found ms u ≡ Some y) (sym is) f)) [ inl z ↦ inl z | inr z ↦ inr (inl z.0) ]

    compared : (b : Bool) → ◌≡◌ {A = Result Noted Refusal} (if b then Ok ns else Err (WrongValue place s)) (Ok new) → (found ns u ≡ Some y) ⊎ Among u (s ∷ [])
    compared true g = inl (subst (λ (ms : Noted). found ms u ≡ Some y) (sym (ok_is ns new g)) f)
    compared false g = absurd (cc)

    go : (o : Option Tree) → note_slot place s t ns o ≡ Ok new → (found ns u ≡ Some y) ⊎ Among u (s ∷ [])
    go None g = noted (ok_is (ns ++ (s, t) ∷ []) new g)
    go (Some v) g = compared (same t v) g

only_slots : (place : ℕ) (ts : List Tree) (k : ℕ) (ss : List Slot) (ns new : Noted) → note_slots place ts k ss ns ≡ Ok new → OnlyNew ns ss new
only_slots place ts k [] ns new e = subst (OnlyNew ns []) (ok_is ns new e) (only_none ns)
only_slots place ts k (s ∷ ss) ns new e =
    let mid = bind_ok (note_slot place s (at ts k) ns (found ns s)) (note_slots place ts (suc k) ss) new e in
    only_more ns mid.0 new (s ∷ []) ss (only_slot place s (at ts k) ns mid.0 mid.1) (only_slots place ts (suc k) ss mid.0 new mid.2)

only_clear : (ts : List Tree) (k : ℕ) (cs : List Clear) (ns new : Noted) → note_clear ts k cs ns ≡ Ok new → OnlyNew ns (clear_slots cs) new
only_clear ts k [] ns new e = subst (OnlyNew ns []) (ok_is ns new e) (only_none ns)
only_clear ts k (Shown s ∷ cs) ns new e =
    let mid = bind_ok (note_slot 0 s (at ts k) ns (found ns s)) (note_clear ts (suc k) cs) new e in
    only_more ns mid.0 new (s ∷ []) (clear_slots cs) (only_slot 0 s (at ts k) ns mid.0 mid.1) (only_clear ts (suc k) cs mid.0 new mid.2)
only_clear ts k (NameOfB ∷ cs) ns new e = only_clear ts (suc k) cs ns new e

taken_is : (x y : Taken) → ◌≡◌ {A = Result Taken Refusal} (Ok x) (Ok y) → x ≡ y
taken_is x y e = ok_is x y e

only_same : (ns : Noted) (ss : List Slot) → OnlyNew ns ss ns
only_same ns ss u y e = inl e

module _ (opens : Key → Tree → Option Tree) (checks : Key → Tree → Tree → Bool) (keys : Keys) (h : Head) (old : Noted) where
  only_part : (part : ℕ) (c : Cover) (u : Tree) (notes : Noted) (new : Taken) → judged_part opens checks keys h old part c u notes ≡ Ok new → OnlyNew notes (if c.seen then c.slots else Fwd ∷ []) new.notes
  only_part part c u notes new e = go c.seen e
    where
      tested : (key : Key) (b : Tree) (ok : Bool) → tested_part h old part c notes key u b ok ≡ Ok new → OnlyNew notes c.slots new.notes
      tested key b true f = subst (λ (t : Taken). OnlyNew notes c.slots t.notes) (taken_is (taken_by h old c notes key u b) new f) (only_same notes c.slots)
      tested key b false f = absurd (cc)

      opened : (key : Key) (o : Option Tree) → opened_part h old part c notes key u o ≡ Ok new → OnlyNew notes c.slots new.notes
      opened key None f = absurd (cc)
      opened key (Some b) f =
          let items = bind_ok (body_items c.tagged (names_of h) c.slots part b) (λ ts. note_then key b ts) new f in
          let noted = bind_ok (note_slots part items.0 (length (names_of h) + 1) c.slots notes) (λ ns. Ok (taken_by h old c ns key u b)) new items.2 in
          subst (λ (t : Taken). OnlyNew notes c.slots t.notes) (taken_is (taken_by h old c noted.0 key u b) new noted.2) (only_slots part items.0 (length (names_of h) + 1) c.slots notes noted.0 noted.1)
        where
          note_then : Key → Tree → List Tree → Result Taken Refusal
          note_then key b ts = bind (note_slots part ts (length (names_of h) + 1) c.slots notes) (λ ns. Ok (taken_by h old c ns key u b))

      kept : kept_part part notes u ≡ Ok new → OnlyNew notes (Fwd ∷ []) new.notes
      kept f =
          let noted = bind_ok (note_slot part Fwd u notes (found notes Fwd)) (λ ns. Ok (record { notes = ns; opened = []; got = [] })) new f in
          subst (λ (t : Taken). OnlyNew notes (Fwd ∷ []) t.notes) (taken_is (record { notes = noted.0; opened = []; got = [] }) new noted.2) (only_slot part Fwd u notes noted.0 noted.1)

      seen_part : (b : Bool) → (if b then tested_part h old part c notes (key_under keys h (found notes) c.under) u (body h (found notes) c) (checks (key_under keys h (found notes) c.under) (body h (found notes) c) u) else opened_part h old part c notes (key_under keys h (found notes) c.under) u (opens (key_under keys h (found notes) c.under) u)) ≡ Ok new → OnlyNew notes c.slots new.notes
      seen_part true f = tested (key_under keys h (found notes) c.under) (body h (found notes) c) (checks (key_under keys h (found notes) c.under) (body h (found notes) c) u) f
      seen_part false f = opened (key_under keys h (found notes) c.under) (opens (key_under keys h (found notes) c.under) u) f

      go : (b : Bool) → (if b then (if c.is_check then tested_part h old part c notes (key_under keys h (found notes) c.under) u (body h (found notes) c) (checks (key_under keys h (found notes) c.under) (body h (found notes) c) u) else opened_part h old part c notes (key_under keys h (found notes) c.under) u (opens (key_under keys h (found notes) c.under) u)) else kept_part part notes u) ≡ Ok new → OnlyNew notes (if b then c.slots else Fwd ∷ []) new.notes
      go true f = seen_part c.is_check f
      go false f = kept f

  only_parts : (part : ℕ) (ts : List Tree) (k : ℕ) (cs : List Cover) (t new : Taken) → judged_parts opens checks keys h old part ts k cs t ≡ Ok new → OnlyNew t.notes (seen_in cs) new.notes
  only_parts part ts k [] t new e = subst (λ (x : Taken). OnlyNew t.notes [] x.notes) (taken_is t new e) (only_none t.notes)
  only_parts part ts k (c ∷ cs) t new e =
      let one = bind_ok (judged_part opens checks keys h old part c (at ts k) t.notes) (λ x. judged_parts opens checks keys h old (suc part) ts (suc k) cs (joined t x)) new e in
      only_more t.notes one.0.notes new.notes (if c.seen then c.slots else Fwd ∷ []) (seen_in cs) (only_part part c (at ts k) t.notes one.0 one.1) (only_parts (suc part) ts (suc k) cs (joined t one.0) new one.2)

unless_is : (o : Option Refusal) (x y : Taken) → unless o x ≡ Ok y → x ≡ y
unless_is None x y e = ok_is x y e
unless_is (Some r) x y e = absurd (cc)

-- the pass that a verdict is on
pub record OnPass (s : State) (notes : Noted) : Type 0 where
  pub pass : Pass
  pub at : nth (row_of s.head.mech) s.next ≡ Some pass
  pub only : (u : Slot) (y : Tree) → found notes u ≡ Some y → (found s.notes u ≡ Some y) ⊎ Among u (seen_slots pass)

pub verdict_only : (opens : Key → Tree → Option Tree) (checks : Key → Tree → Tree → Bool) (allowed : Mech → Slot → Bytes → Bool) (keys : Keys) (s : State) (m : Tree) (t : Taken) → run_verdict opens checks allowed keys s m ≡ Ok t → OnPass s t.notes
verdict_only opens checks allowed keys s m t e = go (receives s) e
  where
    on : (o : Option Pass) → nth (row_of s.head.mech) s.next ≡ o → on_pass opens checks keys allowed s o m ≡ Ok t → OnPass s t.notes
    on None f g = absurd (cc)
    on (Some p) f g =
        let a = bind_ok (message_items (tag_of s.head.mech (suc s.next) 0) s.head.b p.clear (seens p.covers) m) (after_items opens checks allowed keys s p) t g in
        let b = bind_ok (note_clear a.0 1 p.clear s.notes) (after_clear opens checks allowed keys s p a.0) t a.2 in
        let c = bind_ok (judged_parts opens checks keys s.head s.notes 1 a.0 (length p.clear + 1) p.covers (record { notes = b.0; opened = []; got = [] })) (after_parts opens checks allowed keys s p) t b.2 in
        let all : OnlyNew s.notes (clear_slots p.clear ++ seen_in p.covers) c.0.notes = only_more s.notes b.0 c.0.notes (clear_slots p.clear) (seen_in p.covers) (only_clear a.0 1 p.clear s.notes b.0 b.1) (only_parts opens checks keys s.head s.notes 1 a.0 (length p.clear + 1) p.covers (record { notes = b.0; opened = []; got = [] }) c.0 c.1) in
        record { pass = p; at = f; only = seen p c.0 (unless_is (refused_text allowed s.head.mech c.0.notes (read_slots p)) c.0 t c.2) all }
      where
        seen : (p : Pass) (x : Taken) → x ≡ t → OnlyNew s.notes (clear_slots p.clear ++ seen_in p.covers) x.notes → (u : Slot) (y : Tree) → found t.notes u ≡ Some y → (found s.notes u ≡ Some y) ⊎ Among u (seen_slots p)
        seen p x is all u y h = all u y (subst (λ (z : Taken). found z.notes u ≡ Some y) (sym is) h)

    go : (b : Bool) → (if b then verdict opens checks keys allowed s m else Err WrongPass) ≡ Ok t → OnPass s t.notes
    go true f = on (nth (row_of s.head.mech) s.next) refl f
    go false f = absurd (cc)

-- ---- the middle of a step

found_left : (ns ms : Noted) (u : Slot) (y : Tree) → found ns u ≡ Some y → found (ns ++ ms) u ≡ Some y
found_left [] ms u y e = absurd (cc)
found_left (n ∷ ns) ms u y e = go (same_slot n.0 u) (found_left ns ms u y) e
  where
    go : (b : Bool) → (found ns u ≡ Some y → found (ns ++ ms) u ≡ Some y) → (if b then Some n.1 else found ns u) ≡ Some y → (if b then Some n.1 else found (ns ++ ms) u) ≡ Some y
    go true rest f = f
    go false rest f = rest f

pub found_two : (ns ms : Noted) (u : Slot) (y : Tree) → found (ns ++ ms) u ≡ Some y → (found ns u ≡ Some y) ⊎ (found ms u ≡ Some y)
found_two [] ms u y e = inr e
found_two (n ∷ ns) ms u y e = go (same_slot n.0 u) (found_two ns ms u y) e
  where
    go : (b : Bool) → (found (ns ++ ms) u ≡ Some y → (found ns u ≡ Some y) ⊎ (found ms u ≡ Some y)) → (if b then Some n.1 else found (ns ++ ms) u) ≡ Some y → ((if b then Some n.1 else found ns u) ≡ Some y) ⊎ (found ms u ≡ Some y)
    go true rest f = inl f
    go false rest f = rest f

-- what was noted is noted after the run said what it says next
pub noted_after : (n : ℕ) (issued : Option Stamp) (s : State) (u : Slot) (y : Tree) → found s.notes u ≡ Some y → found (notes_after n issued s) u ≡ Some y
noted_after n issued s u y e = go (sends s)
  where
    go : (b : Bool) → found (if b then s.notes ++ drawn_values (draws_from n) issued (new_slots s) else s.notes) u ≡ Some y
    go true = found_left s.notes (drawn_values (draws_from n) issued (new_slots s)) u y e
    go false = e

some_not : (y : Tree) → Some y ≢ None
some_not y e = cc

-- what a run has noted of its message, the step has noted in its middle
pub middle_noted : (opens : Key → Tree → Option Tree) (checks : Key → Tree → Tree → Bool) (allowed : Mech → Slot → Bytes → Bool) (keys : Keys) (step : Move) (m : Tree) (t : Taken) (n : ℕ) → run_verdict opens checks allowed keys step.before m ≡ Ok t → step.taken ≡ Some m → step.after.notes ≡ notes_after n step.issued (after_message step.before t)
    → (u : Slot) (y : Tree) → found t.notes u ≡ Some y → (step_of step).middle u ≢ None
middle_noted opens checks allowed keys step m t n e takes notes u y f =
    let p = verdict_only opens checks allowed keys step.before m t e in
    let last : found step.after.notes u ≡ Some y = subst (λ (ns : Noted). found ns u ≡ Some y) (sym notes) (noted_after n step.issued (after_message step.before t) u y f) in
    subst (λ (o : Option Tree). middle_of (run_of step.before) o (found step.after.notes) u ≢ None) (sym takes)
    (subst (λ (o : Option Pass). or_else (found step.before.notes u) (if stands_in (seen_at o) u then found step.after.notes u else None) ≢ None) (sym p.at)
    (go p.pass last (found step.before.notes u) refl (p.only u y f)))
  where
    go : (p : Pass) → found step.after.notes u ≡ Some y → (o : Option Tree) → found step.before.notes u ≡ o → (found step.before.notes u ≡ Some y) ⊎ Among u (seen_slots p) → or_else o (if stands_in (seen_slots p) u then found step.after.notes u else None) ≢ None
    go p last (Some x) g i = some_not x
    go p last None g (inl h) = absurd (some_not y (sym h ∙ g))
    go p last None g (inr i) =
        let b : stands_in (seen_slots p) u ≡ true = any_among (λ x. same_slot x u) (seen_slots p) u i (same_slot_refl u) in
        subst (λ (c : Bool). (if c then found step.after.notes u else None) ≢ None) (sym b) (subst (λ (o : Option Tree). o ≢ None) (sym last) (some_not y))
