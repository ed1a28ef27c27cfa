-- What a run says, from the facts on its message: that it sends the pass of its row.
use Rattle.std.proofs.Common.{◌≡◌, ◌⊎◌, Bool, true, false, ◌||◌, if◌then◌else◌, List, [], ◌∷◌, ◌++◌, take, drop, length, Option, Some, None, refl, sym, ap, ap₂, subst, subst₂, ◌∙◌, inl, inr}
use Rattle.std.proofs.lemmas.List.{take-append-drop, append_cancel_left}
use Rattle.term_values.specs.Trees.{Among, Bytes, Tree, stamp}
use Rattle.term_values.specs.declared.small.Key.{Key}
use Rattle.term_values.specs.declared.small.Stamp.{Stamp}
use Rattle.term_values.proofs.Lists.{all_among}
use Rattle.mech_rows.specs.declared.kinds.Kind.{Kind}
use Rattle.mech_rows.specs.declared.kinds.Kind.TheVariants.{Nonce as a_nonce, Stamp as a_stamp, Part as a_part, Text as a_text, Item as an_item}
use Rattle.mech_rows.specs.declared.kinds.Slot.{Slot}
use Rattle.mech_rows.specs.declared.kinds.Under.{Under}
use Rattle.mech_rows.specs.Rows.{kind_of, is_stamp, Cover, Pass, row_of}
use Rattle.mech_rows.specs.Facts.{same_slot}
use Rattle.mech_rows.specs.Found.{found}
use Rattle.mech_rows.specs.Heads.{Head}
use Rattle.mech_rows.specs.Runs.{Notes, Keys, HasKind, Extends, Opening, value, made, nth, sent_slots}
use Rattle.mech_rows.specs.Steps.{ItemsAre, openings, Sends, stamp_in}
use Rattle.mech_rows.specs.Verdict.{Noted, State, run_of}
use Rattle.mech_rows.specs.Lawful.{tested_by, AreNoted, HasActed, stands_in, acted_slots}
use Rattle.mech_rows.specs.Replies.{slots_in, is_of_kind, are_noted, has_acted, pass_or_none, next_pass, ends_at, sends, unknown_slots, new_slots, made_in, sent_items, stamps_in, listed, AreMade, Says}
use Rattle.mech_rows.proofs.Reading.{kind_has}
use Rattle.mech_rows.proofs.RowUse.{same_role_is, same_slot_is}

-- notes

pub noted_is : (ns : Noted) (ss : List Slot) → are_noted ns ss ≡ true → AreNoted (found ns) ss
noted_is ns ss e s i = go (found ns s) refl (all_among (λ u. is_of_kind (kind_of u) (found ns u)) ss e s i)
  where
    go : (o : Option Tree) → found ns s ≡ o → is_of_kind (kind_of s) o ≡ true → (t : Tree) × (found ns s ≡ Some t) × HasKind (kind_of s) t
    go None f k = absurd cc
    go (Some t) f k = (t, f, kind_has (kind_of s) t k)

pub acted_is : (s : State) → has_acted s ≡ true → HasActed (run_of s)
acted_is s e = noted_is s.notes (acted_slots s.head.role s.next (row_of s.head.mech)) e

found_left : (ns ms : Noted) (s : Slot) (t : Tree) → found ns s ≡ Some t → found (ns ++ ms) s ≡ Some t
found_left [] ms s t e = absurd cc
found_left (n ∷ ns) ms s t e = go (same_slot n.0 s) (found_left ns ms s t) e
  where
    go : (b : Bool) → (found ns s ≡ Some t → found (ns ++ ms) s ≡ Some t) → (if b then Some n.1 else found ns s) ≡ Some t → (if b then Some n.1 else found (ns ++ ms) s) ≡ Some t
    go true rest f = f
    go false rest f = rest f

in_slots : (ks : Noted) (s : Slot) (t : Tree) → found ks s ≡ Some t → Among s (slots_in ks)
in_slots [] s t f = absurd cc
in_slots (k ∷ ks) s t f = go (same_slot k.0 s) refl (in_slots ks s t) f
  where
    go : (b : Bool) → same_slot k.0 s ≡ b → (found ks s ≡ Some t → Among s (slots_in ks)) → (if b then Some k.1 else found ks s) ≡ Some t → Among s (slots_in (k ∷ ks))
    go true g rest h = inl (sym (same_slot_is k.0 s g))
    go false g rest h = inr (rest h)

found_cases : (ns ms : Noted) (s : Slot) (t : Tree) → found (ns ++ ms) s ≡ Some t → (found ns s ≡ Some t) ⊎ Among s (slots_in ms)
found_cases [] ms s t e = inr (in_slots ms s t e)
found_cases (n ∷ ns) ms s t e = go (same_slot n.0 s) (found_cases ns ms s t) e
  where
    go : (b : Bool) → (found (ns ++ ms) s ≡ Some t → (found ns s ≡ Some t) ⊎ Among s (slots_in ms)) → (if b then Some n.1 else found (ns ++ ms) s) ≡ Some t → ((if b then Some n.1 else found ns s) ≡ Some t) ⊎ Among s (slots_in ms)
    go true rest f = inl f
    go false rest f = rest f

slots_join : (ns ms : Noted) → slots_in (ns ++ ms) ≡ slots_in ns ++ slots_in ms
slots_join [] ms = refl
slots_join (n ∷ ns) ms = ap (λ (ss : List Slot). n.0 ∷ ss) (slots_join ns ms)

-- a slot that is in no note is not noted
not_found : (ns : Noted) (s : Slot) → stands_in (slots_in ns) s ≡ false → found ns s ≡ None
not_found [] s e = refl
not_found (n ∷ ns) s e = go (same_slot n.0 s) (not_found ns s) e
  where
    go : (b : Bool) → (stands_in (slots_in ns) s ≡ false → found ns s ≡ None) → (b || stands_in (slots_in ns) s) ≡ false → (if b then Some n.1 else found ns s) ≡ None
    go true rest f = absurd cc
    go false rest f = rest f

or_false : (a b : Bool) → (a || b) ≡ false → b ≡ false
or_false true b e = absurd cc
or_false false b e = e

-- an unknown slot is one of the slots, and not known
pub unknown_is : (known ss : List Slot) (s : Slot) → Among s (unknown_slots known ss) → Among s ss × (stands_in known s ≡ false)
unknown_is known [] s i = elim i [ ]
unknown_is known (u ∷ ss) s i = go (stands_in known u) refl (unknown_is known ss s) (unknown_is (u ∷ known) ss s) i
  where
    go : (b : Bool) → stands_in known u ≡ b → (Among s (unknown_slots known ss) → Among s ss × (stands_in known s ≡ false)) → (Among s (unknown_slots (u ∷ known) ss) → Among s ss × (stands_in (u ∷ known) s ≡ false)) → Among s (if b then unknown_slots known ss else u ∷ unknown_slots (u ∷ known) ss) → Among s (u ∷ ss) × (stands_in known s ≡ false)
    go true e same more j = let r = same j in (inr r.0, r.1)
    go false e same more (inl f) = (inl f, subst (λ (v : Slot). stands_in known v ≡ false) (sym f) e)
    go false e same more (inr j) = let r = more j in (inr r.0, or_false (same_slot u s) (stands_in known s) r.1)

-- the notes after what was said

pub record Split (old new : Noted) (ss : List Slot) : Type 0 where
  pub more : Noted
  pub is : new ≡ old ++ more
  pub slots : slots_in more ≡ ss

pub split : (old new : Noted) (ss : List Slot) → take (length old) new ≡ old → slots_in new ≡ slots_in old ++ ss → Split old new ss
split old new ss e f =
    let more : Noted = drop (length old) new in
    let is : new ≡ old ++ more = sym (take-append-drop (length old) new) ∙ ap (λ (xs : Noted). xs ++ more) e in
    record {
      more = more;
      is = is;
      slots = append_cancel_left (slots_in old) (slots_in more) ss (sym (slots_join old more) ∙ (ap slots_in (sym is) ∙ f));
    }

pub extends_said : (old new : Noted) (ss us : List Slot) → Split old new us → ((s : Slot) → Among s us → Among s ss) → are_noted new ss ≡ true → Extends (found old) ss (found new)
extends_said old new ss us sp into noted = record {
  kept = λ s t e. subst (λ (ns : Noted). found ns s ≡ Some t) (sym sp.is) (found_left old sp.more s t e);
  noted = λ s i. let x = all s i in (x.0, x.1);
  only = λ s t e. only s t (found_cases old sp.more s t (subst (λ (ns : Noted). found ns s ≡ Some t) sp.is e));
  kinds = λ s t i e. let x = all s i in subst (HasKind (kind_of s)) (some_is x.0 t (sym x.1 ∙ e)) x.2;
}
  where
    some_is : (x y : Tree) → Some x ≡ Some y → x ≡ y
    some_is x y e = cc

    all : AreNoted (found new) ss
    all = noted_is new ss noted

    only : (s : Slot) (t : Tree) → (found old s ≡ Some t) ⊎ Among s (slots_in sp.more) → (found old s ≡ Some t) ⊎ Among s ss
    only s t (inl e) = inl e
    only s t (inr i) = inr (into s (subst (λ (vs : List Slot). Among s vs) sp.slots i))

-- the items of the message

module _ (opens : Key → Tree → Option Tree) (checks : Key → Tree → Tree → Bool) (keys : Keys) (h : Head) (n : Notes) where
  pub record ItemsSaid (cs : List Cover) (os : List Opening) : Type 0 where
    pub each : ItemsAre (tested_by opens checks) keys h n made cs (sent_items n cs os)
    pub are : os ≡ openings keys h n made cs (sent_items n cs os)

item_said : (opens : Key → Tree → Option Tree) (checks : Key → Tree → Tree → Bool) (keys : Keys) (h : Head) (n : Notes) (k : Bool) (u : Under) (t : Bytes) (ss : List Slot) (b seen : Bool) (cs : List Cover) (os : List Opening) → ((ps : List Opening) → AreMade opens checks keys h n (made_in cs) ps → ItemsSaid opens checks keys h n cs ps) → AreMade opens checks keys h n (made_in (record { is_check = k; under = u; tagged = t; slots = ss; made = b; seen = seen } ∷ cs)) os → ItemsSaid opens checks keys h n (record { is_check = k; under = u; tagged = t; slots = ss; made = b; seen = seen } ∷ cs) os
item_said opens checks keys h n k u t ss false seen cs os rest m = let r = rest os m in record { each = (refl, r.each); are = r.are }
item_said opens checks keys h n k u t ss true seen cs [] rest m = absurd m
item_said opens checks keys h n k u t ss true seen cs (o ∷ os) rest m =
    let r = rest os m.3 in
    record {
      each = (subst₂ (λ (key : Key) (b : Tree). tested_by opens checks k key o.item b) m.0 m.1 m.2, r.each);
      are = ap₂ (λ (x : Opening) (xs : List Opening). x ∷ xs) (ap₂ (λ (key : Key) (b : Tree). record { key = key; item = o.item; body = b }) m.0 m.1) r.are;
    }

pub items_said : (opens : Key → Tree → Option Tree) (checks : Key → Tree → Tree → Bool) (keys : Keys) (h : Head) (n : Notes) (cs : List Cover) (os : List Opening) → AreMade opens checks keys h n (made_in cs) os → ItemsSaid opens checks keys h n cs os
items_said opens checks keys h n [] [] m = record { each = refl; are = refl }
items_said opens checks keys h n [] (o ∷ os) m = absurd m
items_said opens checks keys h n (c ∷ cs) os m = item_said opens checks keys h n c.is_check c.under c.tagged c.slots c.made c.seen cs os (items_said opens checks keys h n cs) m

-- the pass

pub record SendsPass (s : State) : Type 0 where
  pub pass : Pass
  pub at : nth (row_of s.head.mech) s.next ≡ Some pass
  pub is : next_pass s ≡ pass
  pub sent : pass.from ≡ s.head.role

pub sends_pass : (s : State) → sends s ≡ true → SendsPass s
sends_pass s e = go (nth (row_of s.head.mech) s.next) refl e
  where
    go : (o : Option Pass) → nth (row_of s.head.mech) s.next ≡ o → ends_at (λ p. p.from) s.head.role o ≡ true → SendsPass s
    go None f g = absurd cc
    go (Some p) f g = record { pass = p; at = f; is = ap pass_or_none f; sent = same_role_is p.from s.head.role g }

pub says_sends : (opens : Key → Tree → Option Tree) (checks : Key → Tree → Tree → Bool) (keys : Keys) (before after : State) (m : Tree) (sealed : List Opening) (issued : Option Stamp) → sends before ≡ true → Says opens checks keys before after m sealed issued → Sends (tested_by opens checks) keys before.head before.next (found before.notes) (found after.notes) m sealed
says_sends opens checks keys before after m sealed issued e s =
    let p = sends_pass before e in
    let n = found after.notes in
    let sp = split before.notes after.notes (new_slots before) s.keeps s.slots in
    let items = items_said opens checks keys before.head n (next_pass before).covers sealed s.makes in
    subst (λ (q : Pass). nth (row_of before.head.mech) before.next ≡ Some q → q.from ≡ before.head.role → Sends (tested_by opens checks) keys before.head before.next (found before.notes) n m sealed) p.is
    (λ at sent.
    record {
      pass = next_pass before;
      at = at;
      sent = sent;
      extends = extends_said before.notes after.notes (sent_slots (next_pass before)) (new_slots before) sp (λ u i. (unknown_is (slots_in before.notes) (sent_slots (next_pass before)) u i).0) s.values;
      shows = record { items = sent_items n (next_pass before).covers sealed; is = s.shows; each = items.each };
      seals_are = items.are;
    })
    p.at p.sent

-- stamps

pub record StampAt (notes : Noted) (ss : List Slot) (t : Stamp) : Type 0 where
  pub slot : Slot
  pub there : Among slot ss
  pub kind : is_stamp (kind_of slot) ≡ true
  pub value_is : stamp_in (value (found notes) slot) ≡ t

stamp_found : (notes : Noted) (ss : List Slot) (t : Stamp) → Among t (stamps_in notes ss) → StampAt notes ss t
stamp_found notes [] t i = elim i [ ]
stamp_found notes (s ∷ ss) t i = go (is_stamp (kind_of s)) refl (stamp_found notes ss t) i
  where
    later : StampAt notes ss t → StampAt notes (s ∷ ss) t
    later r = record { slot = r.slot; there = inr r.there; kind = r.kind; value_is = r.value_is }

    go : (b : Bool) → is_stamp (kind_of s) ≡ b → (Among t (stamps_in notes ss) → StampAt notes ss t) → Among t (if b then stamp_in (value (found notes) s) ∷ stamps_in notes ss else stamps_in notes ss) → StampAt notes (s ∷ ss) t
    go true e rest (inl f) = record { slot = s; there = inl refl; kind = e; value_is = sym f }
    go true e rest (inr j) = later (rest j)
    go false e rest j = later (rest j)

stamp_there : (notes : Noted) (ss : List Slot) (s : Slot) → Among s ss → is_stamp (kind_of s) ≡ true → Among (stamp_in (value (found notes) s)) (stamps_in notes ss)
stamp_there notes [] s i k = elim i [ ]
stamp_there notes (u ∷ ss) s i k = go (is_stamp (kind_of u)) refl (λ j. stamp_there notes ss s j k) i
  where
    false_true : false ≡ true → ⊥
    false_true x = absurd cc

    go : (b : Bool) → is_stamp (kind_of u) ≡ b → (Among s ss → Among (stamp_in (value (found notes) s)) (stamps_in notes ss)) → Among s (u ∷ ss) → Among (stamp_in (value (found notes) s)) (if b then stamp_in (value (found notes) u) ∷ stamps_in notes ss else stamps_in notes ss)
    go true e rest (inl f) = inl (ap (λ (v : Slot). stamp_in (value (found notes) v)) f)
    go true e rest (inr j) = inr (rest j)
    go false e rest (inl f) = absurd (false_true (sym e ∙ (ap (λ (v : Slot). is_stamp (kind_of v)) (sym f) ∙ k)))
    go false e rest (inr j) = rest j

listed_is : (o : Option Stamp) (t : Stamp) → Among t (listed o) → o ≡ Some t
listed_is None t i = elim i [ ]
listed_is (Some u) t (inl e) = ap Some (sym e)
listed_is (Some u) t (inr i) = elim i [ ]

stamp_kind : (k : Kind) → is_stamp k ≡ true → k ≡ a_stamp
stamp_kind a_stamp e = refl
stamp_kind a_nonce e = absurd cc
stamp_kind a_part e = absurd cc
stamp_kind a_text e = absurd cc
stamp_kind an_item e = absurd cc

pub record Issues (old new : Notes) (t : Stamp) : Type 0 where
  pub slot : Slot
  pub kind : kind_of slot ≡ a_stamp
  pub is_new : old slot ≡ None
  pub is : new slot ≡ Some (stamp t)

pub issues_slot : (opens : Key → Tree → Option Tree) (checks : Key → Tree → Tree → Bool) (keys : Keys) (before after : State) (m : Tree) (sealed : List Opening) (issued : Option Stamp) → Says opens checks keys before after m sealed issued → (t : Stamp) → issued ≡ Some t → Issues (found before.notes) (found after.notes) t
issues_slot opens checks keys before after m sealed issued s t e =
    let f = stamp_found after.notes (new_slots before) t (subst (λ (ts : List Stamp). Among t ts) (sym (s.issues ∙ ap listed e)) (inl refl)) in
    let u = unknown_is (slots_in before.notes) (sent_slots (next_pass before)) f.slot f.there in
    let kind = stamp_kind (kind_of f.slot) f.kind in
    let x = noted_is after.notes (sent_slots (next_pass before)) s.values f.slot u.0 in
    let st : (v : Stamp) × (x.0 ≡ stamp v) = subst (λ (k : Kind). HasKind k x.0) kind x.2 in
    let noted : found after.notes f.slot ≡ Some (stamp st.0) = x.1 ∙ ap Some st.1 in
    let same : st.0 ≡ t = sym (ap stamp_in (value_of f.slot (stamp st.0) noted)) ∙ f.value_is in
    record { slot = f.slot; kind = kind; is_new = not_found before.notes f.slot u.1; is = noted ∙ ap (λ (v : Stamp). Some (stamp v)) same }
  where
    value_of : (u : Slot) (v : Tree) → found after.notes u ≡ Some v → value (found after.notes) u ≡ v
    value_of u v g = rw g refl

pub slot_issued : (opens : Key → Tree → Option Tree) (checks : Key → Tree → Tree → Bool) (keys : Keys) (before after : State) (m : Tree) (sealed : List Opening) (issued : Option Stamp) → Says opens checks keys before after m sealed issued → (t : Stamp) → Issues (found before.notes) (found after.notes) t → issued ≡ Some t
slot_issued opens checks keys before after m sealed issued s t i =
    let sp = split before.notes after.notes (new_slots before) s.keeps s.slots in
    let there : Among i.slot (new_slots before) = go sp.more (found_cases before.notes sp.more i.slot (stamp t) (subst (λ (ns : Noted). found ns i.slot ≡ Some (stamp t)) sp.is i.is)) sp.slots in
    let kind : is_stamp (kind_of i.slot) ≡ true = ap is_stamp i.kind in
    let among = stamp_there after.notes (new_slots before) i.slot there kind in
    let is : stamp_in (value (found after.notes) i.slot) ≡ t = ap stamp_in (value_of i.slot (stamp t) i.is) in
    listed_is issued t (subst₂ (λ (v : Stamp) (vs : List Stamp). Among v vs) is s.issues among)
  where
    value_of : (u : Slot) (v : Tree) → found after.notes u ≡ Some v → value (found after.notes) u ≡ v
    value_of u v g = rw g refl

    go : (ms : Noted) → (found before.notes i.slot ≡ Some (stamp t)) ⊎ Among i.slot (slots_in ms) → slots_in ms ≡ new_slots before → Among i.slot (new_slots before)
    go ms (inl e) f = absurd (no (sym i.is_new ∙ e))
      where
        no : None ≡ Some (stamp t) → ⊥
        no x = absurd cc
    go ms (inr j) f = subst (λ (vs : List Slot). Among i.slot vs) f j
