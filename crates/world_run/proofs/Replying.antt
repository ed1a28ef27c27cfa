-- A run that has noted what it should can say what it says next.
use Rattle.std.proofs.Common.{◌≡◌, ◌⊎◌, ◌<◌, ◌+◌, ℕ, zero, suc, not, Bool, true, false, ◌&&◌, ◌||◌, if◌then◌else◌, List, [], ◌∷◌, ◌++◌, length, take, Option, Some, None, is_some, refl, sym, ap, ap₂, subst, ◌∙◌, inl, inr, arith}
use Rattle.std.specs.List.{list_all, list_any}
use Rattle.term_values.specs.Trees.{Among, Tree, check, seal, stamp}
use Rattle.term_values.specs.declared.small.Key.{Key}
use Rattle.term_values.specs.declared.small.Stamp.{Stamp}
use Rattle.term_values.proofs.Lists.{all_among, among_append, among_if, and_both, and_left, and_right, any_among, none_among, some_among}
use Rattle.outside.specs.Told.{Told}
use Rattle.mech_rows.specs.declared.kinds.Kind.{Kind}
use Rattle.mech_rows.specs.declared.kinds.Kind.TheVariants.{Nonce as a_nonce, Stamp as a_stamp, Part as a_part, Text as a_text, Item as an_item}
use Rattle.mech_rows.specs.declared.kinds.Mech.{Mech}
use Rattle.mech_rows.specs.declared.kinds.Mech.TheVariants.{E1}
use Rattle.mech_rows.specs.declared.kinds.Role.{Role}
use Rattle.mech_rows.specs.declared.kinds.Slot.{Slot}
use Rattle.mech_rows.specs.Facts.{same_role, same_slot}
use Rattle.mech_rows.specs.Found.{found}
use Rattle.mech_rows.specs.Heads.{Head}
use Rattle.mech_rows.specs.Lawful.{acted_slots, own_slots, stands_in, tested_by}
use Rattle.mech_rows.specs.Openings.{is_text, sends_slot}
use Rattle.mech_rows.specs.Replies.{AreMade, Says, are_noted, is_of_kind, listed, made_in, new_slots, next_pass, said, sends, slots_in, stamps_in, unknown_slots}
use Rattle.mech_rows.specs.Rows.{Cover, Pass, is_stamp, kind_of, row_of}
use Rattle.mech_rows.specs.Runs.{HasKind, Keys, Notes, Opening, body, key_under, next_act, nth, seen_slots, sent_slots, value}
use Rattle.mech_rows.specs.Steps.{stamp_in, symbolic_item}
use Rattle.mech_rows.specs.Verdict.{Noted, State, has_kind}
use Rattle.mech_rows.proofs.RowUse.{nth_among, same_role_is, same_role_refl, same_slot_is, same_slot_refl}
use Rattle.mech_rows.proofs.Sending.{SendsPass, sends_pass}
use Rattle.text_hooks.specs.Drawn.{after_slot, drawn_values, issued_term, new_value}
use Rattle.seal_symbolic.specs.Symbolic.{body_of, is_check}
use Rattle.seal_symbolic.proofs.Keys.{checks_is, opens_is}

-- ---- what rows show

-- the value is drawn or issued, or a text
abbrev is_plain : Kind → Bool
is_plain an_item = false
is_plain _ = true

plain_rows : (m : Mech) → list_all (λ p. list_all (λ s. is_plain (kind_of s)) (sent_slots p)) (row_of m) ≡ true
plain_rows E1 = refl
plain_rows _ = refl

plain_at : (m : Mech) (k : ℕ) (p : Pass) → nth (row_of m) k ≡ Some p → (s : Slot) → Among s (sent_slots p) → is_plain (kind_of s) ≡ true
plain_at m k p e s i = all_among (λ u. is_plain (kind_of u)) (sent_slots p) (all_among (λ q. list_all (λ u. is_plain (kind_of u)) (sent_slots q)) (row_of m) (plain_rows m) p (nth_among (row_of m) k p e)) s i

abbrev pub of_stamp : Slot → Bool
of_stamp s = is_stamp (kind_of s)

-- of two stamps in these slots one is known, or they are one
abbrev is_one_stamp : List Slot → Slot → Slot → Bool
is_one_stamp known u v = not (of_stamp u && of_stamp v) || (stands_in known u || (stands_in known v || same_slot u v))

abbrev have_one_stamp : List Slot → List Slot → Bool
have_one_stamp known ss = list_all (λ u. list_all (is_one_stamp known u) ss) ss

-- each pass shows one stamp at most that its sender did not know
abbrev one_stamp_each : Mech → ℕ → List Pass → Bool
one_stamp_each m k [] = true
one_stamp_each m k (p ∷ ps) = have_one_stamp (acted_slots p.from k (row_of m)) (sent_slots p) && one_stamp_each m (suc k) ps

one_stamp_rows : (m : Mech) → one_stamp_each m 0 (row_of m) ≡ true
one_stamp_rows E1 = refl
one_stamp_rows _ = refl

one_stamp_from : (m : Mech) (n k : ℕ) (ps : List Pass) (p : Pass) → one_stamp_each m n ps ≡ true → nth ps k ≡ Some p → have_one_stamp (acted_slots p.from (k + n) (row_of m)) (sent_slots p) ≡ true
one_stamp_from m n k [] p e at = absurd cc
one_stamp_from m n zero (q ∷ ps) p e at =
    let moved : n ≡ 0 + n = omega arith in
    subst (λ (j : ℕ). have_one_stamp (acted_slots p.from j (row_of m)) (sent_slots p) ≡ true) moved
    (subst (λ (x : Pass). have_one_stamp (acted_slots x.from n (row_of m)) (sent_slots x) ≡ true) same (and_left (have_one_stamp (acted_slots q.from n (row_of m)) (sent_slots q)) (one_stamp_each m (suc n) ps) e))
  where
    same : q ≡ p
    same = cc
one_stamp_from m n (suc k) (q ∷ ps) p e at =
    let moved : k + suc n ≡ suc k + n = omega arith in
    subst (λ (j : ℕ). have_one_stamp (acted_slots p.from j (row_of m)) (sent_slots p) ≡ true) moved
    (one_stamp_from m (suc n) k ps p (and_right (have_one_stamp (acted_slots q.from n (row_of m)) (sent_slots q)) (one_stamp_each m (suc n) ps) e) at)

not_or : (a b c d : Bool) → (not a || (b || (c || d))) ≡ true → a ≡ true → b ≡ false → c ≡ false → d ≡ true
not_or true false false d e f g h = e
not_or false b c d e f g h = absurd cc
not_or true true c d e f g h = absurd cc
not_or true false true d e f g h = absurd cc

one_stamp_at : (m : Mech) (k : ℕ) (p : Pass) → nth (row_of m) k ≡ Some p → (u v : Slot) → Among u (sent_slots p) → Among v (sent_slots p) → of_stamp u ≡ true → of_stamp v ≡ true
    → stands_in (acted_slots p.from k (row_of m)) u ≡ false → stands_in (acted_slots p.from k (row_of m)) v ≡ false → u ≡ v
one_stamp_at m k p at u v i j s r other none =
    let moved : k + 0 ≡ k = omega arith in
    let known = acted_slots p.from k (row_of m) in
    let all = subst (λ (n : ℕ). have_one_stamp (acted_slots p.from n (row_of m)) (sent_slots p) ≡ true) moved (one_stamp_from m 0 k (row_of m) p (one_stamp_rows m) at) in
    let one = all_among (is_one_stamp known u) (sent_slots p) (all_among (λ x. list_all (is_one_stamp known x) (sent_slots p)) (sent_slots p) all u i) v j in
    same_slot_is u v (not_or (of_stamp u && of_stamp v) (stands_in known u) (stands_in known v) (same_slot u v) one (and_both (of_stamp u) (of_stamp v) s r) other none)

-- ---- notes

found_left : (ns ms : Noted) (s : Slot) (t : Tree) → found ns s ≡ Some t → found (ns ++ ms) s ≡ Some t
found_left [] ms s t e = absurd cc
found_left (n ∷ ns) ms s t e = go (same_slot n.0 s) (found_left ns ms s t) e
  where
    go : (b : Bool) → (found ns s ≡ Some t → found (ns ++ ms) s ≡ Some t) → (if b then Some n.1 else found ns s) ≡ Some t → (if b then Some n.1 else found (ns ++ ms) s) ≡ Some t
    go true rest f = f
    go false rest f = rest f

found_right : (ns ms : Noted) (s : Slot) → found ns s ≡ None → found (ns ++ ms) s ≡ found ms s
found_right [] ms s e = refl
found_right (n ∷ ns) ms s e = go (same_slot n.0 s) (found_right ns ms s) e
  where
    go : (b : Bool) → (found ns s ≡ None → found (ns ++ ms) s ≡ found ms s) → (if b then Some n.1 else found ns s) ≡ None → (if b then Some n.1 else found (ns ++ ms) s) ≡ found ms s
    go true rest f = absurd cc
    go false rest f = rest f

unfound : (ns : Noted) (s : Slot) → found ns s ≡ None → stands_in (slots_in ns) s ≡ false
unfound [] s e = refl
unfound (n ∷ ns) s e = go (same_slot n.0 s) (unfound ns s) e
  where
    go : (b : Bool) → (found ns s ≡ None → stands_in (slots_in ns) s ≡ false) → (if b then Some n.1 else found ns s) ≡ None → (b || stands_in (slots_in ns) s) ≡ false
    go true rest f = absurd cc
    go false rest f = rest f

found_stands : (ns : Noted) (s : Slot) (t : Tree) → found ns s ≡ Some t → stands_in (slots_in ns) s ≡ true
found_stands [] s t e = absurd cc
found_stands (n ∷ ns) s t e = go (same_slot n.0 s) (found_stands ns s t) e
  where
    go : (b : Bool) → (found ns s ≡ Some t → stands_in (slots_in ns) s ≡ true) → (if b then Some n.1 else found ns s) ≡ Some t → (b || stands_in (slots_in ns) s) ≡ true
    go true rest f = refl
    go false rest f = rest f

slots_join : (ns ms : Noted) → slots_in (ns ++ ms) ≡ slots_in ns ++ slots_in ms
slots_join [] ms = refl
slots_join (n ∷ ns) ms = ap (λ (ss : List Slot). n.0 ∷ ss) (slots_join ns ms)

slots_drawn : (t : Told) (issued : Option Stamp) (ss : List Slot) → slots_in (drawn_values t issued ss) ≡ ss
slots_drawn t issued [] = refl
slots_drawn t issued (s ∷ ss) = ap (λ (us : List Slot). s ∷ us) (slots_drawn (after_slot (kind_of s) t) issued ss)

take_front : (ns ms : Noted) → take (length ns) (ns ++ ms) ≡ ns
take_front [] [] = refl
take_front [] (m ∷ ms) = refl
take_front (n ∷ ns) ms = ap (λ (ks : Noted). n ∷ ks) (take_front ns ms)

-- ---- new slots

unknown_there : (known ss : List Slot) (s : Slot) → Among s ss → stands_in known s ≡ false → Among s (unknown_slots known ss)
unknown_there known [] s i e = absurd i
unknown_there known (u ∷ ss) s i e = go (stands_in known u) refl (same_slot u s) refl i (unknown_there known ss s) (unknown_there (u ∷ known) ss s)
  where
    go : (b : Bool) → stands_in known u ≡ b → (c : Bool) → same_slot u s ≡ c → (s ≡ u) ⊎ Among s ss → (Among s ss → stands_in known s ≡ false → Among s (unknown_slots known ss)) → (Among s ss → stands_in (u ∷ known) s ≡ false → Among s (unknown_slots (u ∷ known) ss))
        → Among s (if b then unknown_slots known ss else u ∷ unknown_slots (u ∷ known) ss)
    go true f c h (inl is) old more = let g : stands_in known s ≡ true = ap (stands_in known) is ∙ f in absurd cc
    go true f c h (inr j) old more = old j e
    go false f c h (inl is) old more = inl is
    go false f true h (inr j) old more = inl (sym (same_slot_is u s h))
    go false f false h (inr j) old more = inr (more j (ap (λ (b : Bool). b || stands_in known s) h ∙ e))

-- an unknown slot is one of the slots, and not known
unknown_is : (known ss : List Slot) (s : Slot) → Among s (unknown_slots known ss) → Among s ss × (stands_in known s ≡ false)
unknown_is known [] s i = absurd i
unknown_is known (u ∷ ss) s i = go (stands_in known u) refl (unknown_is known ss s) (unknown_is (u ∷ known) ss s) i
  where
    rest_false : (a b : Bool) → (a || b) ≡ false → b ≡ false
    rest_false true b e = absurd cc
    rest_false false b e = e

    go : (b : Bool) → stands_in known u ≡ b → (Among s (unknown_slots known ss) → Among s ss × (stands_in known s ≡ false)) → (Among s (unknown_slots (u ∷ known) ss) → Among s ss × (stands_in (u ∷ known) s ≡ false)) → Among s (if b then unknown_slots known ss else u ∷ unknown_slots (u ∷ known) ss) → Among s (u ∷ ss) × (stands_in known s ≡ false)
    go true e old more j = let r = old j in (inr r.0, r.1)
    go false e old more (inl f) = (inl f, subst (λ (v : Slot). stands_in known v ≡ false) (sym f) e)
    go false e old more (inr j) = let r = more j in (inr r.0, rest_false (same_slot u s) (stands_in known s) r.1)

unmarked : (notes : Noted) (ss : List Slot) → ((s : Slot) → Among s ss → of_stamp s ≡ false) → stamps_in notes ss ≡ []
unmarked notes [] none = refl
unmarked notes (s ∷ ss) none = ap (λ (b : Bool). if b then stamp_in (value (found notes) s) ∷ stamps_in notes ss else stamps_in notes ss) (none s (inl refl)) ∙ unmarked notes ss (λ u i. none u (inr i))

-- the one stamp that is new
module _ (notes : Noted) (x : Stamp) where
  -- of two stamps in these slots one is known, or they are one
  abbrev OneNew : List Slot → List Slot → Type 0
  OneNew known ss = (u v : Slot) → Among u ss → Among v ss → of_stamp u ≡ true → of_stamp v ≡ true → stands_in known u ≡ false → stands_in known v ≡ false → u ≡ v

  abbrev Shown : List Slot → Type 0
  Shown ss = (u : Slot) → Among u ss → of_stamp u ≡ true → stamp_in (value (found notes) u) ≡ x

  abbrev IsListed : List Slot → Type 0
  IsListed ss = Shown ss → list_any of_stamp ss ≡ true → stamps_in notes ss ≡ x ∷ []

  or_false : (a b : Bool) → (a || b) ≡ false → (a ≡ false) × (b ≡ false)
  or_false false false e = (refl, refl)
  or_false true b e = absurd cc
  or_false false true e = absurd cc

  unmarked_after : (known ss : List Slot) (u : Slot) → OneNew known (u ∷ ss) → of_stamp u ≡ true → stands_in known u ≡ false → (v : Slot) → Among v (unknown_slots (u ∷ known) ss) → of_stamp v ≡ false
  unmarked_after known ss u one is new v i = decide (of_stamp v) refl
    where
      decide : (b : Bool) → of_stamp v ≡ b → of_stamp v ≡ false
      decide false f = f
      decide true f =
          let r = unknown_is (u ∷ known) ss v i in
          let k = or_false (same_slot u v) (stands_in known v) r.1 in
          let other = k.0 in
          let same : u ≡ v = one u v (inl refl) (inr r.0) is f new k.1 in
          let one_slot : same_slot u v ≡ true = ap (same_slot u) (sym same) ∙ same_slot_refl u in
          absurd cc

  one_stamp : (known ss : List Slot) → OneNew known ss → IsListed (unknown_slots known ss)
  one_stamp known [] one values some = absurd cc
  one_stamp known (u ∷ ss) one values some =
      go (stands_in known u) refl values some (one_stamp known ss (λ v y i j s r n m. one v y (inr i) (inr j) s r n m))
      (one_stamp (u ∷ known) ss (λ v y i j s r n m. one v y (inr i) (inr j) s r (or_false (same_slot u v) (stands_in known v) n).1 (or_false (same_slot u y) (stands_in known y) m).1))
    where
      here : stands_in known u ≡ false → (b : Bool) → of_stamp u ≡ b → Shown (u ∷ unknown_slots (u ∷ known) ss) → (b || list_any of_stamp (unknown_slots (u ∷ known) ss)) ≡ true → IsListed (unknown_slots (u ∷ known) ss)
          → (if b then stamp_in (value (found notes) u) ∷ stamps_in notes (unknown_slots (u ∷ known) ss) else stamps_in notes (unknown_slots (u ∷ known) ss)) ≡ x ∷ []
      here new true is vs e rest = ap₂ (λ (y : Stamp) (ys : List Stamp). y ∷ ys) (vs u (inl refl) is) (unmarked notes (unknown_slots (u ∷ known) ss) (unmarked_after known ss u one is new))
      here new false is vs e rest = rest (λ v i s. vs v (inr i) s) e

      go : (b : Bool) → stands_in known u ≡ b → Shown (if b then unknown_slots known ss else u ∷ unknown_slots (u ∷ known) ss) → list_any of_stamp (if b then unknown_slots known ss else u ∷ unknown_slots (u ∷ known) ss) ≡ true
          → IsListed (unknown_slots known ss) → IsListed (unknown_slots (u ∷ known) ss) → stamps_in notes (if b then unknown_slots known ss else u ∷ unknown_slots (u ∷ known) ss) ≡ x ∷ []
      go true f vs e old more = old vs e
      go false f vs e old more = here f (of_stamp u) refl vs e more

-- ---- values

kind_shows : (k : Kind) (t : Tree) → is_plain k ≡ true → HasKind k t → has_kind k t ≡ true
kind_shows a_nonce t p h = subst (λ (u : Tree). has_kind a_nonce u ≡ true) (sym h.1) refl
kind_shows a_stamp t p h = subst (λ (u : Tree). has_kind a_stamp u ≡ true) (sym h.1) refl
kind_shows a_part t p h = subst (λ (u : Tree). has_kind a_part u ≡ true) (sym h.1) refl
kind_shows a_text t p h = subst (λ (u : Tree). has_kind a_text u ≡ true) (sym h.1) refl
kind_shows an_item t p h = absurd cc

value_shows : (k : Kind) (t : Told) (issued : Option Stamp) → is_plain k ≡ true → is_text k ≡ false → (is_stamp k ≡ true → is_some issued ≡ true) → has_kind k (new_value k t issued) ≡ true
value_shows a_nonce t issued p n s = refl
value_shows a_part t issued p n s = refl
value_shows a_stamp t (Some x) p n s = refl
value_shows a_stamp t None p n s = let wrong = s refl in absurd cc
value_shows a_text t issued p n s = absurd cc
value_shows an_item t issued p n s = absurd cc

stamp_value : (k : Kind) (t : Told) (issued : Option Stamp) → is_stamp k ≡ true → new_value k t issued ≡ issued_term issued
stamp_value a_stamp t issued e = refl
stamp_value a_nonce t issued e = absurd cc
stamp_value a_part t issued e = absurd cc
stamp_value a_text t issued e = absurd cc
stamp_value an_item t issued e = absurd cc

-- the value of a new slot
drawn_there : (t : Told) (issued : Option Stamp) (ss : List Slot) (s : Slot) → Among s ss → (u : Told) × (found (drawn_values t issued ss) s ≡ Some (new_value (kind_of s) u issued))
drawn_there t issued [] s i = absurd i
drawn_there t issued (v ∷ ss) s i = go (same_slot v s) refl i (drawn_there (after_slot (kind_of v) t) issued ss s)
  where
    go : (b : Bool) → same_slot v s ≡ b → (s ≡ v) ⊎ Among s ss → (Among s ss → (u : Told) × (found (drawn_values (after_slot (kind_of v) t) issued ss) s ≡ Some (new_value (kind_of s) u issued))) → (u : Told) × ((if b then Some (new_value (kind_of v) t issued) else found (drawn_values (after_slot (kind_of v) t) issued ss) s) ≡ Some (new_value (kind_of s) u issued))
    go true e j rest = (t, ap (λ (x : Slot). Some (new_value (kind_of x) t issued)) (same_slot_is v s e))
    go false e (inl is) rest = let one_slot : same_slot v s ≡ true = ap (same_slot v) is ∙ same_slot_refl v in absurd cc
    go false e (inr j) rest = rest j

-- ---- items

tests : (b : Bool) (k : Key) (t : Tree) → tested_by body_of is_check b k (symbolic_item b k t) t
tests true k t = (checks_is k t (check k t)).1 refl
tests false k t = (opens_is k (seal k t) t).1 refl

module _ (keys : Keys) (h : Head) (notes : Notes) where
  pub sealed_so : List Cover → List Opening
  sealed_so [] = []
  sealed_so (c ∷ cs) = record { key = key_under keys h notes c.under; item = symbolic_item c.is_check (key_under keys h notes c.under) (body h notes c); body = body h notes c } ∷ sealed_so cs

  made_so : (cs : List Cover) → AreMade body_of is_check keys h notes cs (sealed_so cs)
  unfolding sealed_so
  made_so [] = tt
  made_so (c ∷ cs) = (refl, refl, tests c.is_check (key_under keys h notes c.under) (body h notes c), made_so cs)

-- ---- what a role has sent and seen

-- one of the first k passes shows the slot to the role, which sends or receives it
pub record ActsIn (r : Role) (k : ℕ) (ps : List Pass) (s : Slot) : Type 0 where
  pub place : ℕ
  pub pass : Pass
  pub earlier : place < k
  pub at : nth ps place ≡ Some pass
  pub shows : ((pass.from ≡ r) × Among s (sent_slots pass)) ⊎ ((pass.to ≡ r) × Among s (seen_slots pass))

pub acts_in : (r : Role) (k : ℕ) (ps : List Pass) (s : Slot) → Among s (acted_slots r k ps) → ActsIn r k ps s
acts_in r zero ps s i = absurd i
acts_in r (suc k) [] s i = absurd i
acts_in r (suc k) (p ∷ ps) s i = go (among_append (own_slots r p) (acted_slots r k ps) s i) (acts_in r k ps s)
  where
    sent : ((same_role p.from r ≡ true) × Among s (sent_slots p)) ⊎ ((same_role p.from r ≡ false) × Among s []) → ActsIn r (suc k) (p ∷ ps) s
    sent (inl x) = record { place = zero; pass = p; earlier = omega arith; at = refl; shows = inl (same_role_is p.from r x.0, x.1) }
    sent (inr x) = absurd x.1

    saw : ((same_role p.to r ≡ true) × Among s (seen_slots p)) ⊎ ((same_role p.to r ≡ false) × Among s []) → ActsIn r (suc k) (p ∷ ps) s
    saw (inl x) = record { place = zero; pass = p; earlier = omega arith; at = refl; shows = inr (same_role_is p.to r x.0, x.1) }
    saw (inr x) = absurd x.1

    own : Among s (if same_role p.from r then sent_slots p else []) ⊎ Among s (if same_role p.to r then seen_slots p else []) → ActsIn r (suc k) (p ∷ ps) s
    own (inl j) = sent (among_if (same_role p.from r) (sent_slots p) [] s j)
    own (inr j) = saw (among_if (same_role p.to r) (seen_slots p) [] s j)

    go : Among s (own_slots r p) ⊎ Among s (acted_slots r k ps) → (Among s (acted_slots r k ps) → ActsIn r k ps s) → ActsIn r (suc k) (p ∷ ps) s
    go (inl j) rest = own (among_append (if same_role p.from r then sent_slots p else []) (if same_role p.to r then seen_slots p else []) s j)
    go (inr j) rest = let x = rest j in let lt = x.earlier in record { place = suc x.place; pass = x.pass; earlier = omega (arith, lt); at = x.at; shows = x.shows }

-- ---- what the run says

-- the run has noted what it should: values of their kinds, its own texts, and what it sent and saw
pub record CanSay (s : State) : Type 0 where
  pub kinds : (u : Slot) (t : Tree) → found s.notes u ≡ Some t → HasKind (kind_of u) t
  pub texts : (u : Slot) → is_text (kind_of u) ≡ true → sends_slot s.head.role u (row_of s.head.mech) ≡ true → (t : Tree) × (found s.notes u ≡ Some t)
  pub acted : (u : Slot) → ActsIn s.head.role s.next (row_of s.head.mech) u → (t : Tree) × (found s.notes u ≡ Some t)

-- the run after what it says, with the draws from there on and the stamp
abbrev pub after_saying : State → Told → Option Stamp → State
after_saying s t issued = record { head = s.head; next = next_act s.head (suc s.next); notes = s.notes ++ drawn_values t issued (new_slots s) }

-- the items that it makes
abbrev pub sealed_then : Keys → State → Told → Option Stamp → List Opening
sealed_then keys s t issued = sealed_so keys s.head (found (after_saying s t issued).notes) (made_in (next_pass s).covers)

-- the message
abbrev pub said_then : Keys → State → Told → Option Stamp → Tree
said_then keys s t issued = said s (after_saying s t issued).notes (sealed_then keys s t issued)

module _ (keys : Keys) (s : State) (can : CanSay s) (sending : sends s ≡ true) (t : Told) (issued : Option Stamp) (needs : is_some issued ≡ list_any of_stamp (new_slots s)) where
  abbrev drawn : Noted
  drawn = drawn_values t issued (new_slots s)

  abbrev after : State
  after = after_saying s t issued

  pass : SendsPass s
  pass = sends_pass s sending

  shown_by : (u : Slot) → Among u (sent_slots (next_pass s)) → Among u (sent_slots pass.pass)
  shown_by u i = subst (λ (p : Pass). Among u (sent_slots p)) pass.is i

  sent_text : (u : Slot) → Among u (sent_slots pass.pass) → sends_slot s.head.role u (row_of s.head.mech) ≡ true
  sent_text u i =
      any_among (λ (p : Pass). same_role p.from s.head.role && list_any (same_slot u) (sent_slots p)) (row_of s.head.mech) pass.pass (nth_among (row_of s.head.mech) s.next pass.pass pass.at)
      (and_both (same_role pass.pass.from s.head.role) (list_any (same_slot u) (sent_slots pass.pass)) (subst (λ (r : Role). same_role pass.pass.from r ≡ true) pass.sent (same_role_refl pass.pass.from)) (any_among (same_slot u) (sent_slots pass.pass) u i (same_slot_refl u)))

  no_text : (u : Slot) → Among u (sent_slots pass.pass) → found s.notes u ≡ None → is_text (kind_of u) ≡ false
  no_text u i none = go (is_text (kind_of u)) refl
    where
      go : (b : Bool) → is_text (kind_of u) ≡ b → is_text (kind_of u) ≡ false
      go false e = e
      go true e = let x = can.texts u e (sent_text u i) in let f = x.1 in absurd cc

  stamped : (u : Slot) → Among u (new_slots s) → of_stamp u ≡ true → is_some issued ≡ true
  stamped u i e = needs ∙ any_among of_stamp (new_slots s) u i e

  valued : (u : Slot) → Among u (sent_slots (next_pass s)) → is_of_kind (kind_of u) (found after.notes u) ≡ true
  valued u i = go (found s.notes u) refl
    where
      plain : is_plain (kind_of u) ≡ true
      plain = plain_at s.head.mech s.next pass.pass pass.at u (shown_by u i)

      go : (o : Option Tree) → found s.notes u ≡ o → is_of_kind (kind_of u) (found after.notes u) ≡ true
      go (Some v) e = ap (is_of_kind (kind_of u)) (found_left s.notes drawn u v e) ∙ kind_shows (kind_of u) v plain (can.kinds u v e)
      go None e =
          let new : Among u (new_slots s) = unknown_there (slots_in s.notes) (sent_slots (next_pass s)) u i (unfound s.notes u e) in
          let x = drawn_there t issued (new_slots s) u new in
          ap (is_of_kind (kind_of u)) (found_right s.notes drawn u e ∙ x.1) ∙ value_shows (kind_of u) x.0 issued plain (no_text u (shown_by u i) e) (stamped u new)

  all_valued : (ss : List Slot) → ((u : Slot) → Among u ss → is_of_kind (kind_of u) (found after.notes u) ≡ true) → are_noted after.notes ss ≡ true
  all_valued [] each = refl
  all_valued (u ∷ ss) each = and_both (is_of_kind (kind_of u) (found after.notes u)) (are_noted after.notes ss) (each u (inl refl)) (all_valued ss (λ v i. each v (inr i)))

  new_stamp : (u : Slot) → Among u (new_slots s) → of_stamp u ≡ true → (x : Stamp) → issued ≡ Some x → stamp_in (value (found after.notes) u) ≡ x
  new_stamp u i e x is =
      let r = unknown_is (slots_in s.notes) (sent_slots (next_pass s)) u i in
      let y = drawn_there t issued (new_slots s) u i in
      let at : found after.notes u ≡ Some (stamp x) = found_right s.notes drawn u (not_found r.1) ∙ y.1 ∙ ap Some (stamp_value (kind_of u) y.0 issued e ∙ ap issued_term is) in
      shown at
    where
      not_found : stands_in (slots_in s.notes) u ≡ false → found s.notes u ≡ None
      not_found f = go (found s.notes u) refl
        where
          go : (o : Option Tree) → found s.notes u ≡ o → found s.notes u ≡ None
          go None g = g
          go (Some v) g = let h = found_stands s.notes u v g in absurd cc

      shown : found after.notes u ≡ Some (stamp x) → stamp_in (value (found after.notes) u) ≡ x
      shown f = rw f refl

  unacted : (u : Slot) → stands_in (slots_in s.notes) u ≡ false → stands_in (acted_slots pass.pass.from s.next (row_of s.head.mech)) u ≡ false
  unacted u unknown = go (stands_in (acted_slots pass.pass.from s.next (row_of s.head.mech)) u) refl
    where
      go : (b : Bool) → stands_in (acted_slots pass.pass.from s.next (row_of s.head.mech)) u ≡ b → stands_in (acted_slots pass.pass.from s.next (row_of s.head.mech)) u ≡ false
      go false e = e
      go true e =
          let x = some_among (λ v. same_slot v u) (acted_slots pass.pass.from s.next (row_of s.head.mech)) e in
          let there : Among u (acted_slots s.head.role s.next (row_of s.head.mech)) = subst (λ (r : Role). Among u (acted_slots r s.next (row_of s.head.mech))) pass.sent (subst (λ (v : Slot). Among v (acted_slots pass.pass.from s.next (row_of s.head.mech))) (same_slot_is x.0 u x.2) x.1) in
          let n = can.acted u (acts_in s.head.role s.next (row_of s.head.mech) u there) in
          let stands = found_stands s.notes u n.0 n.1 in
          absurd cc

  issues_so : (o : Option Stamp) → issued ≡ o → stamps_in after.notes (new_slots s) ≡ listed issued
  issues_so None e =
      let none : list_any of_stamp (new_slots s) ≡ false = sym needs ∙ ap is_some e in
      unmarked after.notes (new_slots s) (none_among of_stamp (new_slots s) none) ∙ ap listed (sym e)
  issues_so (Some one) e =
      let some : list_any of_stamp (new_slots s) ≡ true = sym needs ∙ ap is_some e in
      one_stamp after.notes one (slots_in s.notes) (sent_slots (next_pass s))
      (λ u v i j m k x y. one_stamp_at s.head.mech s.next pass.pass pass.at u v (shown_by u i) (shown_by v j) m k (unacted u x) (unacted v y))
      (λ u i m. new_stamp u i m one e) some
      ∙ ap listed (sym e)

  pub says_so : Says body_of is_check keys s after (said_then keys s t issued) (sealed_then keys s t issued) issued
  says_so = record {
    same_head = refl;
    moves = refl;
    keeps = take_front s.notes drawn;
    slots = slots_join s.notes drawn ∙ ap (λ (us : List Slot). slots_in s.notes ++ us) (slots_drawn t issued (new_slots s));
    values = all_valued (sent_slots (next_pass s)) valued;
    shows = refl;
    makes = made_so keys s.head (found after.notes) (made_in (next_pass s).covers);
    issues = issues_so issued refl;
  }
