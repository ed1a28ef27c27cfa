-- What a run says next: there is such a message, where the run has noted what its role sent and saw.
use Rattle.std.proofs.Common.{◌≡◌, ◌⊎◌, ◌<◌, ◌+◌, ℕ, zero, suc, Bool, true, false, not, ◌&&◌, ◌||◌, if◌then◌else◌, List, [], ◌∷◌, ◌++◌, length, take, Option, Some, None, Ok, Err, nat_lt, refl, sym, ap, ap₂, subst, ◌∙◌, inl, inr, arith}
use Rattle.std.proofs.lemmas.Bool.{ltb-false, ltb-true}
use Rattle.mech_rows.specs.declared.refusal.Refusal.TheVariants.{WrongPass}
use Rattle.std.specs.Prelude.{is_some}
use Rattle.std.specs.List.{list_all, list_any}
use Rattle.term_values.specs.Trees.{Among, Bytes, Tree}
use Rattle.term_values.specs.declared.small.Key.{Key}
use Rattle.term_values.specs.declared.small.Stamp.{Stamp}
use Rattle.term_values.proofs.Lists.{all_among, among_append, and_both, and_left, and_right, any_among, some_among}
use Rattle.mech_rows.specs.declared.kinds.Kind.{Kind}
use Rattle.mech_rows.specs.declared.kinds.Kind.TheVariants.{Nonce as a_nonce, Stamp as a_stamp, Part as a_part, Text as a_text, Item as an_item}
use Rattle.mech_rows.specs.declared.kinds.Mech.{Mech}
use Rattle.mech_rows.specs.declared.kinds.Mech.TheVariants.{E1, E2, E3, E4, E5, E6, C1, C2, C3, C4, K3, K4, K5, K6, K8, K9}
use Rattle.mech_rows.specs.declared.kinds.Role.{Role}
use Rattle.mech_rows.specs.declared.kinds.Slot.{Slot}
use Rattle.mech_rows.specs.Facts.{same_role, same_slot}
use Rattle.mech_rows.specs.Found.{found}
use Rattle.mech_rows.specs.Heads.{Head}
use Rattle.mech_rows.specs.Lawful.{HasActed, acted_slots, own_slots, stands_in, tested_by}
use Rattle.mech_rows.specs.Moves.{Fitted, Ready}
use Rattle.mech_rows.specs.Openings.{is_text, sends_slot}
use Rattle.mech_rows.specs.Replies.{AreMade, Says, is_of_kind, listed, made_in, needs_stamp, new_slots, next_pass, pass_or_none, run_verdict, said, sends, slots_in, stamps_in, receives, unknown_slots}
use Rattle.mech_rows.specs.Rows.{Cover, Pass, is_stamp, kind_of, row_of}
use Rattle.mech_rows.specs.Runs.{HasKind, Keys, Notes, Opening, body, key_under, next_act, noted_or_empty, nth, seen_slots, sent_slots, value}
use Rattle.mech_rows.specs.Steps.{stamp_in, symbolic_item}
use Rattle.mech_rows.specs.Verdict.{Noted, State, Taken, has_kind, run_of, verdict}
use Rattle.mech_rows.proofs.RowUse.{nth_among, same_role_is, same_role_refl, same_slot_is, same_slot_refl}
use Rattle.mech_rows.proofs.Sending.{sends_pass, unknown_is}
use Rattle.mech_rows.proofs.Stepping.{receives_pass}
use Rattle.mech_rows.proofs.VerdictFits.{verdict_fits}
use Rattle.seal_symbolic.specs.Symbolic.{body_of, is_check}
use Rattle.seal_symbolic.proofs.Keys.{checks_is, opens_is}
use Rattle.outside.specs.Told.{Told}
use Rattle.text_hooks.specs.Drawn.{after_slot, drawn_values, issued_term, new_value}
use Rattle.agreement_laws.specs.Configs.{AllDiffer}
use Rattle.agreement_laws.proofs.Held.{no_self}
use Rattle.node_desk.specs.Deliveries.{after_message}
use Rattle.world_run.specs.Turns.{draws_from}

-- ---- notes

stands_noted : (ns : Noted) (u : Slot) → stands_in (slots_in ns) u ≡ true → (t : Tree) × (found ns u ≡ Some t)
stands_noted [] u e = absurd cc
stands_noted (n ∷ ns) u e = go (same_slot n.0 u) e (stands_noted ns u)
  where
    go : (b : Bool) → (b || stands_in (slots_in ns) u) ≡ true → (stands_in (slots_in ns) u ≡ true → (t : Tree) × (found ns u ≡ Some t)) → (t : Tree) × ((if b then Some n.1 else found ns u) ≡ Some t)
    go true f rest = (n.1, refl)
    go false f rest = rest f

stands_none : (ns : Noted) (u : Slot) → stands_in (slots_in ns) u ≡ false → found ns u ≡ None
stands_none [] u e = refl
stands_none (n ∷ ns) u e = go (same_slot n.0 u) e (stands_none ns u)
  where
    go : (b : Bool) → (b || stands_in (slots_in ns) u) ≡ false → (stands_in (slots_in ns) u ≡ false → found ns u ≡ None) → (if b then Some n.1 else found ns u) ≡ None
    go true f rest = absurd cc
    go false f rest = rest f

found_before : (ns ms : Noted) (u : Slot) (t : Tree) → found ns u ≡ Some t → found (ns ++ ms) u ≡ Some t
found_before [] ms u t e = absurd cc
found_before (n ∷ ns) ms u t e = go (same_slot n.0 u) e (found_before ns ms u t)
  where
    go : (b : Bool) → (if b then Some n.1 else found ns u) ≡ Some t → (found ns u ≡ Some t → found (ns ++ ms) u ≡ Some t) → (if b then Some n.1 else found (ns ++ ms) u) ≡ Some t
    go true f rest = f
    go false f rest = rest f

found_later : (ns ms : Noted) (u : Slot) → found ns u ≡ None → found (ns ++ ms) u ≡ found ms u
found_later [] ms u e = refl
found_later (n ∷ ns) ms u e = go (same_slot n.0 u) e (found_later ns ms u)
  where
    go : (b : Bool) → (if b then Some n.1 else found ns u) ≡ None → (found ns u ≡ None → found (ns ++ ms) u ≡ found ms u) → (if b then Some n.1 else found (ns ++ ms) u) ≡ found ms u
    go true f rest = absurd cc
    go false f rest = rest f

slots_drawn : (d : Told) (issued : Option Stamp) (us : List Slot) → slots_in (drawn_values d issued us) ≡ us
slots_drawn d issued [] = refl
slots_drawn d issued (u ∷ us) = ap (λ (vs : List Slot). u ∷ vs) (slots_drawn (after_slot (kind_of u) d) issued us)

slots_joined : (ns ms : Noted) → slots_in (ns ++ ms) ≡ slots_in ns ++ slots_in ms
slots_joined [] ms = refl
slots_joined (n ∷ ns) ms = ap (λ (us : List Slot). n.0 ∷ us) (slots_joined ns ms)

taken_back : (ns ms : Noted) → take (length ns) (ns ++ ms) ≡ ns
taken_back [] ms = refl
taken_back (n ∷ ns) ms = ap (λ (ks : Noted). n ∷ ks) (taken_back ns ms)

-- each new slot has a value
drawn_found : (d : Told) (issued : Option Stamp) (us : List Slot) (u : Slot) → Among u us → (e : Told) × (found (drawn_values d issued us) u ≡ Some (new_value (kind_of u) e issued))
drawn_found d issued [] u i = absurd i
drawn_found d issued (s ∷ ss) u i = go (same_slot s u) refl i (drawn_found (after_slot (kind_of s) d) issued ss u)
  where
    go : (b : Bool) → same_slot s u ≡ b → (u ≡ s) ⊎ Among u ss → (Among u ss → (e : Told) × (found (drawn_values (after_slot (kind_of s) d) issued ss) u ≡ Some (new_value (kind_of u) e issued)))
        → (e : Told) × ((if b then Some (new_value (kind_of s) d issued) else found (drawn_values (after_slot (kind_of s) d) issued ss) u) ≡ Some (new_value (kind_of u) e issued))
    go true f j rest = (d, ap (λ (x : Slot). Some (new_value (kind_of x) d issued)) (same_slot_is s u f))
    go false f (inl e) rest = let g : same_slot s u ≡ true = subst (λ (x : Slot). same_slot s x ≡ true) (sym e) (same_slot_refl s) in absurd cc
    go false f (inr j) rest = rest j

-- ---- kinds

-- a value of the kind may be drawn, issued or given, and is no item to hand on
abbrev is_plain : Kind → Bool
is_plain an_item = false
is_plain a_nonce = true
is_plain a_stamp = true
is_plain a_part = true
is_plain a_text = true

kind_by : (k : Kind) (t : Tree) → is_plain k ≡ true → HasKind k t → has_kind k t ≡ true
kind_by a_nonce t e h = subst (λ (u : Tree). has_kind a_nonce u ≡ true) (sym h.1) refl
kind_by a_stamp t e h = subst (λ (u : Tree). has_kind a_stamp u ≡ true) (sym h.1) refl
kind_by a_part t e h = subst (λ (u : Tree). has_kind a_part u ≡ true) (sym h.1) refl
kind_by a_text t e h = subst (λ (u : Tree). has_kind a_text u ≡ true) (sym h.1) refl
kind_by an_item t e h = absurd cc

nothing : false ≡ true → ⊥
nothing e = cc

new_kind : (k : Kind) (d : Told) (issued : Option Stamp) → is_plain k ≡ true → is_text k ≡ false → (is_stamp k ≡ true → is_some issued ≡ true) → has_kind k (new_value k d issued) ≡ true
new_kind a_nonce d issued e f some = refl
new_kind a_part d issued e f some = refl
new_kind a_stamp d (Some x) e f some = refl
new_kind a_stamp d None e f some = absurd (nothing (some refl))
new_kind a_text d issued e f some = absurd cc
new_kind an_item d issued e f some = absurd cc

stamp_value : (k : Kind) (d : Told) (issued : Option Stamp) → is_stamp k ≡ true → new_value k d issued ≡ issued_term issued
stamp_value a_stamp d issued e = refl
stamp_value a_nonce d issued e = absurd cc
stamp_value a_part d issued e = absurd cc
stamp_value a_text d issued e = absurd cc
stamp_value an_item d issued e = absurd cc

-- ---- what each row sends

-- those of the slots that hold stamps and are not known
abbrev new_stamps : List Slot → List Slot → List Slot
new_stamps known [] = []
new_stamps known (s ∷ ss) = if is_stamp (kind_of s) && not (stands_in known s) then s ∷ new_stamps known ss else new_stamps known ss

abbrev all_same : List Slot → Bool
all_same [] = true
all_same (s ∷ ss) = list_all (same_slot s) ss

-- the sender of pass k hands on no item, and issues one stamp at most
abbrev suits : Mech → ℕ → Pass → Bool
suits m k p = list_all (λ s. is_plain (kind_of s)) (sent_slots p) && all_same (new_stamps (acted_slots p.from k (row_of m)) (sent_slots p))

abbrev all_suit : Mech → ℕ → List Pass → Bool
all_suit m k [] = true
all_suit m k (p ∷ ps) = suits m k p && all_suit m (suc k) ps

rows_suit : (m : Mech) → all_suit m 0 (row_of m) ≡ true
rows_suit E1 = refl
rows_suit E2 = refl
rows_suit E3 = refl
rows_suit E4 = refl
rows_suit E5 = refl
rows_suit E6 = refl
rows_suit C1 = refl
rows_suit C2 = refl
rows_suit C3 = refl
rows_suit C4 = refl
rows_suit K3 = refl
rows_suit K4 = refl
rows_suit K5 = refl
rows_suit K6 = refl
rows_suit K8 = refl
rows_suit K9 = refl

suits_from : (m : Mech) (j k n : ℕ) (ps : List Pass) (p : Pass) → n ≡ k + j → nth ps j ≡ Some p → all_suit m k ps ≡ true → suits m n p ≡ true
suits_from m j k n [] p is e f = absurd cc
suits_from m zero k n (q ∷ qs) p is e f =
    let same : q ≡ p = cc in
    let here : k ≡ n = omega (arith, is) in
    subst (λ (i : ℕ). suits m i p ≡ true) here (subst (λ (x : Pass). suits m k x ≡ true) same (and_left (suits m k q) (all_suit m (suc k) qs) f))
suits_from m (suc j) k n (q ∷ qs) p is e f = suits_from m j (suc k) n qs p (omega (arith, is)) e (and_right (suits m k q) (all_suit m (suc k) qs) f)

suits_at : (m : Mech) (k : ℕ) (p : Pass) → nth (row_of m) k ≡ Some p → suits m k p ≡ true
suits_at m k p e = suits_from m k 0 k (row_of m) p (omega arith) e (rows_suit m)

new_there : (known ss : List Slot) (u : Slot) → Among u ss → is_stamp (kind_of u) ≡ true → stands_in known u ≡ false → Among u (new_stamps known ss)
new_there known [] u i k n = absurd i
new_there known (s ∷ ss) u i k n = go (is_stamp (kind_of s) && not (stands_in known s)) refl i (λ j. new_there known ss u j k n)
  where
    go : (b : Bool) → (is_stamp (kind_of s) && not (stands_in known s)) ≡ b → (u ≡ s) ⊎ Among u ss → (Among u ss → Among u (new_stamps known ss)) → Among u (if b then s ∷ new_stamps known ss else new_stamps known ss)
    go true f (inl e) rest = inl e
    go true f (inr j) rest = inr (rest j)
    go false f (inr j) rest = rest j
    go false f (inl e) rest =
        let g : (is_stamp (kind_of s) && not (stands_in known s)) ≡ true = subst (λ (x : Slot). (is_stamp (kind_of x) && not (stands_in known x)) ≡ true) e (and_both (is_stamp (kind_of u)) (not (stands_in known u)) k (ap not n)) in
        absurd cc

same_of : (ss : List Slot) → all_same ss ≡ true → (u v : Slot) → Among u ss → Among v ss → u ≡ v
same_of [] e u v i j = absurd i
same_of (s ∷ ss) e u v i j = sym (first u i) ∙ first v j
  where
    first : (x : Slot) → (x ≡ s) ⊎ Among x ss → s ≡ x
    first x (inl f) = sym f
    first x (inr f) = same_slot_is s x (all_among (same_slot s) ss e x f)

-- ---- new slots

unknown_there : (known ss : List Slot) (u : Slot) → Among u ss → stands_in known u ≡ false → Among u (unknown_slots known ss)
unknown_there known [] u i n = absurd i
unknown_there known (s ∷ ss) u i n = go (stands_in known s) refl i (λ j. unknown_there known ss u j n) (λ j f. unknown_there (s ∷ known) ss u j f)
  where
    next : (b : Bool) → same_slot s u ≡ b → (stands_in (s ∷ known) u ≡ false → Among u (unknown_slots (s ∷ known) ss)) → (u ≡ s) ⊎ Among u (unknown_slots (s ∷ known) ss)
    next true f rest = inl (sym (same_slot_is s u f))
    next false f rest = inr (rest (ap (λ (b : Bool). b || stands_in known u) f ∙ n))

    go : (b : Bool) → stands_in known s ≡ b → (u ≡ s) ⊎ Among u ss → (Among u ss → Among u (unknown_slots known ss)) → (Among u ss → stands_in (s ∷ known) u ≡ false → Among u (unknown_slots (s ∷ known) ss))
        → Among u (if b then unknown_slots known ss else s ∷ unknown_slots (s ∷ known) ss)
    go true f (inl e) rest more = let g : stands_in known u ≡ true = subst (λ (x : Slot). stands_in known x ≡ true) (sym e) f in absurd cc
    go true f (inr j) rest more = rest j
    go false f (inl e) rest more = inl e
    go false f (inr j) rest more = next (same_slot s u) refl (more j)

unknown_differ : (known ss : List Slot) → AllDiffer (unknown_slots known ss)
unknown_differ known [] = tt
unknown_differ known (s ∷ ss) = go (stands_in known s) (unknown_differ known ss) (unknown_differ (s ∷ known) ss)
  where
    new : Among s (unknown_slots (s ∷ known) ss) → ⊥
    new i =
        let f : (same_slot s s || stands_in known s) ≡ false = (unknown_is (s ∷ known) ss s i).1 in
        let g : (true || stands_in known s) ≡ false = ap (λ (b : Bool). b || stands_in known s) (sym (same_slot_refl s)) ∙ f in
        cc

    go : (b : Bool) → AllDiffer (unknown_slots known ss) → AllDiffer (unknown_slots (s ∷ known) ss) → AllDiffer (if b then unknown_slots known ss else s ∷ unknown_slots (s ∷ known) ss)
    go true old more = old
    go false old more = (new, more)

none_listed : (o : Option Stamp) → is_some o ≡ false → [] ≡ listed o
none_listed None e = refl
none_listed (Some x) e = absurd cc

one_listed : (o : Option Stamp) → is_some o ≡ true → stamp_in (issued_term o) ∷ [] ≡ listed o
one_listed None e = absurd cc
one_listed (Some x) e = refl

module _ (notes : Noted) (issued : Option Stamp) where
  no_stamps : (us : List Slot) → ((u : Slot) → Among u us → is_stamp (kind_of u) ≡ false) → stamps_in notes us ≡ []
  no_stamps [] none = refl
  no_stamps (u ∷ us) none = go (is_stamp (kind_of u)) (none u (inl refl)) (no_stamps us (λ v i. none v (inr i)))
    where
      go : (b : Bool) → b ≡ false → stamps_in notes us ≡ [] → (if b then stamp_in (value (found notes) u) ∷ stamps_in notes us else stamps_in notes us) ≡ []
      go true f rest = absurd cc
      go false f rest = rest

  stamps_are : (us : List Slot) → AllDiffer us → ((u v : Slot) → Among u us → Among v us → is_stamp (kind_of u) ≡ true → is_stamp (kind_of v) ≡ true → u ≡ v)
      → ((u : Slot) → Among u us → is_stamp (kind_of u) ≡ true → value (found notes) u ≡ issued_term issued) → is_some issued ≡ list_any (λ u. is_stamp (kind_of u)) us → stamps_in notes us ≡ listed issued
  stamps_are [] d one val some = none_listed issued some
  stamps_are (u ∷ us) d one val some = go (is_stamp (kind_of u)) refl some (stamps_are us d.1 (λ v w i j. one v w (inr i) (inr j)) (λ v i. val v (inr i)))
    where
      other : (v : Slot) → Among v us → is_stamp (kind_of u) ≡ true → (b : Bool) → is_stamp (kind_of v) ≡ b → is_stamp (kind_of v) ≡ false
      other v i k true f = absurd (d.0 (subst (λ (x : Slot). Among x us) (sym (one u v (inl refl) (inr i) k f)) i))
      other v i k false f = f

      go : (b : Bool) → is_stamp (kind_of u) ≡ b → is_some issued ≡ (b || list_any (λ v. is_stamp (kind_of v)) us) → (is_some issued ≡ list_any (λ v. is_stamp (kind_of v)) us → stamps_in notes us ≡ listed issued)
          → (if b then stamp_in (value (found notes) u) ∷ stamps_in notes us else stamps_in notes us) ≡ listed issued
      go true f e rest =
          ap₂ (λ (t : Tree) (l : List Stamp). stamp_in t ∷ l) (val u (inl refl) f) (no_stamps us (λ v i. other v i f (is_stamp (kind_of v)) refl)) ∙ one_listed issued e
      go false f e rest = rest e

-- ---- items

abbrev made_of : Keys → Head → Notes → List Cover → List Opening
made_of keys h notes [] = []
made_of keys h notes (c ∷ cs) =
    record { key = key_under keys h notes c.under; item = symbolic_item c.is_check (key_under keys h notes c.under) (body h notes c); body = body h notes c } ∷ made_of keys h notes cs

tested : (b : Bool) (k : Key) (t : Tree) → tested_by body_of is_check b k (symbolic_item b k t) t
tested true k t = (checks_is k t (symbolic_item true k t)).1 refl
tested false k t = (opens_is k (symbolic_item false k t) t).1 refl

are_made : (keys : Keys) (h : Head) (notes : Notes) (cs : List Cover) → AreMade body_of is_check keys h notes cs (made_of keys h notes cs)
are_made keys h notes [] = tt
are_made keys h notes (c ∷ cs) = (refl, refl, tested c.is_check (key_under keys h notes c.under) (body h notes c), are_made keys h notes cs)

-- ---- what a run says

-- the run has noted what its role sent and saw, each value of its kind, and the texts that it sends
pub record CanSay (s : State) : Type 0 where
  pub kinds : (u : Slot) (t : Tree) → found s.notes u ≡ Some t → HasKind (kind_of u) t
  pub texts : (u : Slot) → (is_text (kind_of u) && sends_slot s.head.role u (row_of s.head.mech)) ≡ true → (t : Tree) × (found s.notes u ≡ Some t)
  pub acted : (j : ℕ) (p : Pass) → j < s.next → nth (row_of s.head.mech) j ≡ Some p → (u : Slot) → Among u (own_slots s.head.role p) → (t : Tree) × (found s.notes u ≡ Some t)

acted_at : (r : Role) (k : ℕ) (ps : List Pass) (u : Slot) → Among u (acted_slots r k ps) → (j : ℕ) × (p : Pass) × (j < k) × (nth ps j ≡ Some p) × Among u (own_slots r p)
acted_at r zero ps u i = absurd i
acted_at r (suc k) [] u i = absurd i
acted_at r (suc k) (p ∷ ps) u i = go (among_append (own_slots r p) (acted_slots r k ps) u i) (acted_at r k ps u)
  where
    go : Among u (own_slots r p) ⊎ Among u (acted_slots r k ps) → (Among u (acted_slots r k ps) → (j : ℕ) × (q : Pass) × (j < k) × (nth ps j ≡ Some q) × Among u (own_slots r q))
        → (j : ℕ) × (q : Pass) × (j < suc k) × (nth (p ∷ ps) j ≡ Some q) × Among u (own_slots r q)
    go (inl j) rest = (0, p, omega arith, refl, j)
    go (inr j) rest = let x = rest j in let lt = x.2 in (suc x.0, x.1, omega (arith, lt), x.3, x.4)

has_acted_by : (s : State) → CanSay s → HasActed (run_of s)
has_acted_by s c u i =
    let x = acted_at s.head.role s.next (row_of s.head.mech) u i in
    let y = c.acted x.0 x.1 x.2 x.3 u x.4 in
    (y.0, y.1, c.kinds u y.0 y.1)

-- the run after it said what it says next, with the draws from number k on
abbrev pub after_saying : State → ℕ → Option Stamp → State
after_saying s k issued = record { head = s.head; next = next_act s.head (suc s.next); notes = s.notes ++ drawn_values (draws_from k) issued (new_slots s) }

-- what it made for it
abbrev pub made_for : Keys → State → ℕ → Option Stamp → List Opening
made_for keys s k issued = made_of keys s.head (found (after_saying s k issued).notes) (made_in (next_pass s).covers)

module _ (s : State) (c : CanSay s) (sent : sends s ≡ true) (k : ℕ) (issued : Option Stamp) (some : is_some issued ≡ needs_stamp s) where
  abbrev pass : Pass
  pass = (sends_pass s sent).pass

  at : nth (row_of s.head.mech) s.next ≡ Some pass
  at = (sends_pass s sent).at

  from : pass.from ≡ s.head.role
  from = (sends_pass s sent).sent

  is_next : next_pass s ≡ pass
  is_next = ap pass_or_none at

  suit : suits s.head.mech s.next (next_pass s) ≡ true
  suit = suits_at s.head.mech s.next (next_pass s) (at ∙ ap Some (sym is_next))

  plain : (u : Slot) → Among u (sent_slots (next_pass s)) → is_plain (kind_of u) ≡ true
  plain u i = all_among (λ x. is_plain (kind_of x)) (sent_slots (next_pass s)) (and_left (list_all (λ x. is_plain (kind_of x)) (sent_slots (next_pass s))) (all_same (new_stamps (acted_slots (next_pass s).from s.next (row_of s.head.mech)) (sent_slots (next_pass s)))) suit) u i

  from_next : (next_pass s).from ≡ s.head.role
  from_next = ap (λ (p : Pass). p.from) is_next ∙ from

  one : all_same (new_stamps (acted_slots s.head.role s.next (row_of s.head.mech)) (sent_slots (next_pass s))) ≡ true
  one = subst (λ (r : Role). all_same (new_stamps (acted_slots r s.next (row_of s.head.mech)) (sent_slots (next_pass s))) ≡ true) from_next
      (and_right (list_all (λ x. is_plain (kind_of x)) (sent_slots (next_pass s))) (all_same (new_stamps (acted_slots (next_pass s).from s.next (row_of s.head.mech)) (sent_slots (next_pass s)))) suit)

  sends_it : (u : Slot) → Among u (sent_slots (next_pass s)) → sends_slot s.head.role u (row_of s.head.mech) ≡ true
  sends_it u i =
      any_among (λ (p : Pass). same_role p.from s.head.role && list_any (same_slot u) (sent_slots p)) (row_of s.head.mech) (next_pass s) (nth_among (row_of s.head.mech) s.next (next_pass s) (at ∙ ap Some (sym is_next)))
      (and_both (same_role (next_pass s).from s.head.role) (list_any (same_slot u) (sent_slots (next_pass s))) (subst (λ (r : Role). same_role r s.head.role ≡ true) (sym from_next) (same_role_refl s.head.role))
      (any_among (same_slot u) (sent_slots (next_pass s)) u i (same_slot_refl u)))

  -- a slot that is not noted holds no text
  no_text : (u : Slot) → Among u (sent_slots (next_pass s)) → found s.notes u ≡ None → (b : Bool) → is_text (kind_of u) ≡ b → is_text (kind_of u) ≡ false
  no_text u i none true f = let x = c.texts u (and_both (is_text (kind_of u)) (sends_slot s.head.role u (row_of s.head.mech)) f (sends_it u i)) in let both : Some x.0 ≡ None = sym x.1 ∙ none in absurd cc
  no_text u i none false f = f

  -- nor was it sent or seen before
  not_acted : (u : Slot) → found s.notes u ≡ None → (b : Bool) → stands_in (acted_slots s.head.role s.next (row_of s.head.mech)) u ≡ b → stands_in (acted_slots s.head.role s.next (row_of s.head.mech)) u ≡ false
  not_acted u none true f =
      let y = some_among (λ t. same_slot t u) (acted_slots s.head.role s.next (row_of s.head.mech)) f in
      let x = has_acted_by s c u (subst (λ (v : Slot). Among v (acted_slots s.head.role s.next (row_of s.head.mech))) (same_slot_is y.0 u y.2) y.1) in
      let both : Some x.0 ≡ None = sym x.1 ∙ none in absurd cc
  not_acted u none false f = f

  new_none : (u : Slot) → Among u (new_slots s) → found s.notes u ≡ None
  new_none u i = stands_none s.notes u (unknown_is (slots_in s.notes) (sent_slots (next_pass s)) u i).1

  new_sent : (u : Slot) → Among u (new_slots s) → Among u (sent_slots (next_pass s))
  new_sent u i = (unknown_is (slots_in s.notes) (sent_slots (next_pass s)) u i).0

  new_found : (u : Slot) → Among u (new_slots s) → (d : Told) × (found (s.notes ++ drawn_values (draws_from k) issued (new_slots s)) u ≡ Some (new_value (kind_of u) d issued))
  new_found u i = let x = drawn_found (draws_from k) issued (new_slots s) u i in (x.0, found_later s.notes (drawn_values (draws_from k) issued (new_slots s)) u (new_none u i) ∙ x.1)

  needed : (u : Slot) → Among u (new_slots s) → is_stamp (kind_of u) ≡ true → is_some issued ≡ true
  needed u i e = some ∙ and_both (sends s) (list_any (λ v. is_stamp (kind_of v)) (new_slots s)) sent (any_among (λ v. is_stamp (kind_of v)) (new_slots s) u i e)

  noted_new : (u : Slot) → Among u (new_slots s) → is_of_kind (kind_of u) (found (s.notes ++ drawn_values (draws_from k) issued (new_slots s)) u) ≡ true
  noted_new u i =
      let x = new_found u i in
      ap (is_of_kind (kind_of u)) x.1 ∙ new_kind (kind_of u) x.0 issued (plain u (new_sent u i)) (no_text u (new_sent u i) (new_none u i) (is_text (kind_of u)) refl) (needed u i)

  noted_each : (u : Slot) → Among u (sent_slots (next_pass s)) → (b : Bool) → stands_in (slots_in s.notes) u ≡ b → is_of_kind (kind_of u) (found (s.notes ++ drawn_values (draws_from k) issued (new_slots s)) u) ≡ true
  noted_each u i true f =
      let x = stands_noted s.notes u f in
      ap (is_of_kind (kind_of u)) (found_before s.notes (drawn_values (draws_from k) issued (new_slots s)) u x.0 x.1) ∙ kind_by (kind_of u) x.0 (plain u i) (c.kinds u x.0 x.1)
  noted_each u i false f = noted_new u (unknown_there (slots_in s.notes) (sent_slots (next_pass s)) u i f)

  all_by : (f : Slot → Bool) (us : List Slot) → ((u : Slot) → Among u us → f u ≡ true) → list_all f us ≡ true
  all_by f [] h = refl
  all_by f (u ∷ us) h = and_both (f u) (list_all f us) (h u (inl refl)) (all_by f us (λ v i. h v (inr i)))

  one_stamp : (u v : Slot) → Among u (new_slots s) → Among v (new_slots s) → is_stamp (kind_of u) ≡ true → is_stamp (kind_of v) ≡ true → u ≡ v
  one_stamp u v i j a b = same_of (new_stamps (acted_slots s.head.role s.next (row_of s.head.mech)) (sent_slots (next_pass s))) one u v (there u i a) (there v j b)
    where
      there : (x : Slot) → Among x (new_slots s) → is_stamp (kind_of x) ≡ true → Among x (new_stamps (acted_slots s.head.role s.next (row_of s.head.mech)) (sent_slots (next_pass s)))
      there x i e = new_there (acted_slots s.head.role s.next (row_of s.head.mech)) (sent_slots (next_pass s)) x (new_sent x i) e (not_acted x (new_none x i) (stands_in (acted_slots s.head.role s.next (row_of s.head.mech)) x) refl)

  stamp_noted : (u : Slot) → Among u (new_slots s) → is_stamp (kind_of u) ≡ true → value (found (s.notes ++ drawn_values (draws_from k) issued (new_slots s))) u ≡ issued_term issued
  stamp_noted u i e = let x = new_found u i in ap noted_or_empty x.1 ∙ stamp_value (kind_of u) x.0 issued e

  pub says_so : (keys : Keys) → Says body_of is_check keys s (after_saying s k issued) (said s (after_saying s k issued).notes (made_for keys s k issued)) (made_for keys s k issued) issued
  says_so keys = record {
    same_head = refl;
    moves = refl;
    keeps = taken_back s.notes (drawn_values (draws_from k) issued (new_slots s));
    slots = slots_joined s.notes (drawn_values (draws_from k) issued (new_slots s)) ∙ ap (λ (us : List Slot). slots_in s.notes ++ us) (slots_drawn (draws_from k) issued (new_slots s));
    values = all_by (λ u. is_of_kind (kind_of u) (found (s.notes ++ drawn_values (draws_from k) issued (new_slots s)) u)) (sent_slots (next_pass s)) (λ u i. noted_each u i (stands_in (slots_in s.notes) u) refl);
    shows = refl;
    makes = are_made keys s.head (found (after_saying s k issued).notes) (made_in (next_pass s).covers);
    issues = stamps_are (s.notes ++ drawn_values (draws_from k) issued (new_slots s)) issued (new_slots s) (unknown_differ (slots_in s.notes) (sent_slots (next_pass s))) one_stamp stamp_noted
        (some ∙ ap (λ (b : Bool). b && list_any (λ u. is_stamp (kind_of u)) (new_slots s)) sent);
  }

-- ---- what a run takes

module _ (allowed : Mech → Slot → Bytes → Bool) (keys : Keys) (s : State) (c : CanSay s) (m : Tree) (t : Taken) where
  -- the message, with the run before and after it
  abbrev pub ready_by : Ready
  ready_by = record { before = s; after = after_message s t; taken = m; opened = t.opened; got = t.got }

  received : (b : Bool) → receives s ≡ b → ◌≡◌ (if b then verdict body_of is_check keys allowed s m else Err WrongPass) (Ok t) → (receives s ≡ true) × (verdict body_of is_check keys allowed s m ≡ Ok t)
  received true e f = (e, f)
  received false e f = absurd cc

  pub fitted_by : run_verdict body_of is_check allowed keys s m ≡ Ok t → Fitted body_of is_check keys ready_by
  fitted_by e =
      let r = received (receives s) refl e in
      let p = receives_pass s r.0 in
      let w = verdict_fits body_of is_check allowed keys s p.pass m t (record { next = p.at; received = p.received; acted = has_acted_by s c }) r.1 in
      record { fits = w.fits; same_head = refl; moves = refl }

  pub then_can_say : Fitted body_of is_check keys ready_by → CanSay (after_message s t)
  then_can_say f = record {
    kinds = λ u x e. kind u x e (f.fits.extends.only u x e);
    texts = λ u e. let x = c.texts u e in (x.0, f.fits.extends.kept u x.0 x.1);
    acted = acted;
  }
    where
      kind : (u : Slot) (x : Tree) → found t.notes u ≡ Some x → (found s.notes u ≡ Some x) ⊎ Among u (seen_slots f.fits.pass) → HasKind (kind_of u) x
      kind u x e (inl g) = c.kinds u x g
      kind u x e (inr i) = f.fits.extends.kinds u x i e

      not_sent : (p : Pass) → p ≡ f.fits.pass → (b : Bool) → same_role p.from s.head.role ≡ b → (u : Slot) → Among u (if b then sent_slots p else []) → ⊥
      not_sent p is true e u i =
          no_self s.head.mech s.next f.fits.pass s.head.role f.fits.at (ap (λ (q : Pass). q.from) (sym is) ∙ same_role_is p.from s.head.role e) f.fits.received
      not_sent p is false e u i = i

      seen_now : (p : Pass) (b : Bool) (u : Slot) → Among u (if b then seen_slots p else []) → Among u (seen_slots p)
      seen_now p true u i = i
      seen_now p false u i = absurd i

      this : (p : Pass) → p ≡ f.fits.pass → (u : Slot) → Among u (own_slots s.head.role p) → (x : Tree) × (found t.notes u ≡ Some x)
      this p is u i = go (among_append (if same_role p.from s.head.role then sent_slots p else []) (if same_role p.to s.head.role then seen_slots p else []) u i)
        where
          go : Among u (if same_role p.from s.head.role then sent_slots p else []) ⊎ Among u (if same_role p.to s.head.role then seen_slots p else []) → (x : Tree) × (found t.notes u ≡ Some x)
          go (inl j) = absurd (not_sent p is (same_role p.from s.head.role) refl u j)
          go (inr j) = f.fits.extends.noted u (subst (λ (q : Pass). Among u (seen_slots q)) is (seen_now p (same_role p.to s.head.role) u j))

      acted : (j : ℕ) (p : Pass) → j < suc s.next → nth (row_of s.head.mech) j ≡ Some p → (u : Slot) → Among u (own_slots s.head.role p) → (x : Tree) × (found t.notes u ≡ Some x)
      acted j p lt at u i = go (nat_lt j s.next) refl
        where
          go : (b : Bool) → nat_lt j s.next ≡ b → (x : Tree) × (found t.notes u ≡ Some x)
          go true e = let x = c.acted j p (ltb-true j s.next e) at u i in (x.0, f.fits.extends.kept u x.0 x.1)
          go false e =
              let le = ltb-false j s.next e in
              let here : j ≡ s.next = omega (arith, lt, le) in
              let both : Some p ≡ Some f.fits.pass = sym at ∙ ap (nth (row_of s.head.mech)) here ∙ f.fits.at in
              let same : p ≡ f.fits.pass = cc in
              this p same u i
