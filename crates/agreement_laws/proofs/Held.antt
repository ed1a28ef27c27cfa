-- What a run of a world holds: each slot that it saw or sent is noted, and each item that it opened or tested is derivable.
use Rattle.std.proofs.Common.{◌≡◌, ℕ, zero, suc, ◌+◌, ◌-◌, ◌<◌, ◌≤◌, ◌⊎◌, List, [], ◌∷◌, ◌++◌, map, drop, Bool, true, false, not, ◌&&◌, ◌||◌, if◌then◌else◌, refl, sym, ap, ap₂, subst, ◌∙◌, inl, inr, Option, Some, None, arith}
use Rattle.std.specs.List.{list_any}
use Rattle.std.proofs.lemmas.Bool.{cases_lt}
use Rattle.term_values.specs.Trees.{Among, Tree, part, tag, tuple, seal, check, trees, IsItem}
use Rattle.term_values.specs.declared.small.Key.{Key}
use Rattle.term_values.specs.declared.small.Key.TheVariants.{One}
use Rattle.attacker_model.specs.Derivation.{Derivable, taken_out}
use Rattle.mech_rows.specs.declared.kinds.Mech.{Mech}
use Rattle.mech_rows.specs.declared.kinds.Role.{Role}
use Rattle.mech_rows.specs.declared.kinds.Slot.{Slot}
use Rattle.mech_rows.specs.declared.kinds.Slot.TheVariants.{Fa, Fwd}
use Rattle.mech_rows.specs.declared.kinds.Under.{Under}
use Rattle.mech_rows.specs.declared.kinds.Under.TheVariants.{Pair, Drawn}
use Rattle.mech_rows.specs.Rows.{Cover, Pass, tag_of, row_of}
use Rattle.mech_rows.specs.Facts.{acts, same_role, same_slot, is_drawn_under, shows_fa, has_fa_by_then}
use Rattle.mech_rows.specs.Heads.{Head}
use Rattle.mech_rows.specs.Runs.{Notes, Run, Keys, value, noted_or_empty, part_bytes, key_under, names, protected, clear_item, seen, nth, clear_slots, sent_in, seen_in, sent_slots, seen_slots, Step, after_taking, reply_pass, passed, first_act, next_act}
use Rattle.agreement_laws.specs.Configs.{Config, keys_of}
use Rattle.agreement_laws.specs.Traces.{Happening, Opens, Steps, Reveals, parts_of, key_of_run, current, with_reply, known_before, Delivered, RunId, same_id}
use Rattle.mech_rows.proofs.Facts.{passes_have_two_ends_holds, fa_is_had_holds}
use Rattle.agreement_laws.proofs.Steps.{acts_from, acts_to}
use Rattle.agreement_laws.proofs.Traces.{IsOpening, IsTrace}
use Rattle.mech_rows.specs.Says.{item_as}
use Rattle.mech_rows.proofs.Symbolic.{SymbolicFits, SymbolicSends, SymbolicTakes, SymbolicReplies, IsSymbolicStep}
use Rattle.term_values.proofs.Lists.{map_among, among_left, among_right, and_left, and_right, not_true, all_among, some_among, and_cases, implied}
use Rattle.attacker_model.proofs.Derivations.{more_known}
use Rattle.mech_rows.proofs.RowUse.{nth_among, same_role_is, same_slot_is, same_role_refl}

pub record IsNoted (notes : Notes) (s : Slot) : Type 0 where
  pub tree : Tree
  pub is : notes s ≡ Some tree

-- what holds of a run before pass k, where the attacker knows K
pub record Held (K : List Tree) (keys : Keys) (h : Head) (k : ℕ) (notes : Notes) : Type 0 where
  pub saw : (j : ℕ) (p : Pass) (s : Slot) → j < k → nth (row_of h.mech) j ≡ Some p → p.to ≡ h.role → Among s (seen_slots p) → IsNoted notes s
  pub said : (j : ℕ) (p : Pass) (s : Slot) → j < k → nth (row_of h.mech) j ≡ Some p → p.from ≡ h.role → Among s (sent_slots p) → IsNoted notes s
  pub got : (j : ℕ) (p : Pass) (d : Cover) → j < k → nth (row_of h.mech) j ≡ Some p → p.to ≡ h.role → Among d p.covers → d.seen ≡ true → Derivable K (protected keys h notes d)

-- between the passes in which a role acts it does not act
between : (r : Role) (n : ℕ) (ps : List Pass) (i : ℕ) (p : Pass) → n + i < first_act r n ps → nth ps i ≡ Some p → acts r p ≡ false
between r n [] i p l e = absurd (cc)
between r n (q ∷ qs) zero p l e = let f : Some q ≡ Some p = e in let g : q ≡ p = cc in subst (λ x. acts r x ≡ false) g (go (acts r q) l)
  where
    go : (b : Bool) → n + zero < (if b then n else first_act r (suc n) qs) → b ≡ false
    go true m = absurd (omega arith)
    go false m = refl
between r n (q ∷ qs) (suc i) p l e = between r (suc n) qs i p (go (acts r q) l) e
  where
    go : (b : Bool) → n + suc i < (if b then n else first_act r (suc n) qs) → suc n + i < first_act r (suc n) qs
    go true m = absurd (omega arith)
    go false m = omega arith

nth-drop : (ps : List Pass) (n i k : ℕ) → k ≡ n + i → nth (drop n ps) i ≡ nth ps k
nth-drop ps zero i k e = let f : i ≡ k = omega arith in ap (nth ps) f
nth-drop [] (suc n) i k e = refl
nth-drop (p ∷ ps) (suc n) i zero e = absurd (omega arith)
nth-drop (p ∷ ps) (suc n) i (suc k) e = nth-drop ps n i k (omega arith)

idle : (h : Head) (k j : ℕ) (p : Pass) → k ≤ j → j < next_act h k → nth (row_of h.mech) j ≡ Some p → acts h.role p ≡ false
idle h k j p le lt at = between h.role k (drop k (row_of h.mech)) (j - k) p (subst (λ (n : ℕ). n < next_act h k) (omega arith) lt) (nth-drop (row_of h.mech) k (j - k) j (omega arith) ∙ at)

-- by the fact passes_have_two_ends
pub no_self : (m : Mech) (k : ℕ) (p : Pass) (r : Role) → nth (row_of m) k ≡ Some p → p.from ≡ r → p.to ≡ r → ⊥
no_self m k p r at e f =
    let no = not_true _ (all_among (λ q. not (same_role q.from q.to)) (row_of m) (passes_have_two_ends_holds m) p (nth_among (row_of m) k p at)) in
    let yes = same_role_refl r in cc

-- a pass before n that shows Fa to the role
pub record HasFa (all : List Pass) (n : ℕ) (r : Role) : Type 0 where
  pub place : ℕ
  pub earlier : place < n
  pub pass : Pass
  pub at : nth all place ≡ Some pass
  pub shows : shows_fa r pass ≡ true

abbrev pub Before : List Pass → ℕ → Pass → Type 0
Before all n q = (j : ℕ) × (j < n) × (nth all j ≡ Some q)

found : (all before : List Pass) (n : ℕ) (p : Pass) (r : Role) → ((q : Pass) → Among q before → Before all n q) → nth all n ≡ Some p → list_any (shows_fa r) (p ∷ before) ≡ true → HasFa all (suc n) r
found all before n p r earlier at h = go (some_among (shows_fa r) (p ∷ before) h)
  where
    go : (q : Pass) × Among q (p ∷ before) × (shows_fa r q ≡ true) → HasFa all (suc n) r
    go (q, inl e, s) = record { place = n; earlier = omega arith; pass = q; at = at ∙ ap Some (sym e); shows = s }
    go (q, inr i, s) = let b = earlier q i in record { place = b.0; earlier = omega (arith, b.1); pass = q; at = b.2; shows = s }

by_then : (all before ps : List Pass) (n : ℕ) → ((q : Pass) → Among q before → Before all n q) → ((i : ℕ) → nth ps i ≡ nth all (n + i)) → has_fa_by_then before ps ≡ true → (k m : ℕ) (p : Pass) (d : Cover) → m ≡ n + k → nth ps k ≡ Some p → Among d p.covers → d.under ≡ Drawn → (d.made ≡ true → HasFa all (suc m) p.from) × (d.seen ≡ true → HasFa all (suc m) p.to)
by_then all before [] n earlier same h k m p d is at i e = absurd (cc)
by_then all before (x ∷ ps) n earlier same h zero m p d is at i e =
    let f : Some x ≡ Some p = at in
    let g : x ≡ p = cc in
    let here : nth all n ≡ Some p = subst (λ (o : ℕ). nth all o ≡ Some p) (omega arith) (sym (same 0) ∙ at) in
    let tests = all_among (λ c. not (is_drawn_under c.under) || ((not c.made || list_any (shows_fa x.from) (x ∷ before)) && (not c.seen || list_any (shows_fa x.to) (x ∷ before)))) x.covers (and_left _ _ h) d (subst (λ y. Among d y.covers) (sym g) i) in
    let both = and_cases _ _ _ tests (ap is_drawn_under e) in
    let m_is : n ≡ m = omega arith in
    subst (λ (o : ℕ). (d.made ≡ true → HasFa all (suc o) p.from) × (d.seen ≡ true → HasFa all (suc o) p.to)) m_is (
      (λ made. found all before n p p.from earlier here (subst (λ y. list_any (shows_fa y.from) (y ∷ before) ≡ true) g (implied _ _ both.0 made))),
      (λ seen. found all before n p p.to earlier here (subst (λ y. list_any (shows_fa y.to) (y ∷ before) ≡ true) g (implied _ _ both.1 seen))),
    )
by_then all before (x ∷ ps) n earlier same h (suc k) m p d is at i e =
    by_then all (x ∷ before) ps (suc n) older (λ o. subst (λ (r : ℕ). nth ps o ≡ nth all r) (omega arith) (same (suc o))) (and_right _ _ h) k m p d (omega arith) at i e
  where
    older : (q : Pass) → Among q (x ∷ before) → Before all (suc n) q
    older q (inl f) = (n, omega arith, subst (λ (o : ℕ). nth all o ≡ Some q) (omega arith) (sym (same 0) ∙ ap Some (sym f)))
    older q (inr j) = let b = earlier q j in (b.0, omega (arith, b.1), b.2)

pub fa_by_then : (m : Mech) (k : ℕ) (p : Pass) (d : Cover) → nth (row_of m) k ≡ Some p → Among d p.covers → d.under ≡ Drawn → (d.made ≡ true → HasFa (row_of m) (suc k) p.from) × (d.seen ≡ true → HasFa (row_of m) (suc k) p.to)
fa_by_then m k p d at i e = by_then (row_of m) [] (row_of m) 0 (λ q j. elim j [ ]) (λ o. ap (nth (row_of m)) (omega arith)) (fa_is_had_holds m) k k p d (omega arith) at i e

in_seen : (cs : List Cover) (c : Cover) (s : Slot) → Among c cs → c.seen ≡ true → Among s c.slots → Among s (seen_in cs)
in_seen [] c s i e j = elim i [ ]
in_seen (d ∷ ds) c s (inl is) e j = among_left _ (seen_in ds) s (subst (λ (x : Cover). Among s (if x.seen then x.slots else Fwd ∷ [])) is (subst (λ (b : Bool). Among s (if b then c.slots else Fwd ∷ [])) (sym e) j))
in_seen (d ∷ ds) c s (inr i) e j = among_right _ (seen_in ds) s (in_seen ds c s i e j)

in_sent : (cs : List Cover) (c : Cover) (s : Slot) → Among c cs → c.made ≡ true → Among s c.slots → Among s (sent_in cs)
in_sent [] c s i e j = elim i [ ]
in_sent (d ∷ ds) c s (inl is) e j = among_left _ (sent_in ds) s (subst (λ (x : Cover). Among s (if x.made then x.slots else [])) is (subst (λ (b : Bool). Among s (if b then c.slots else [])) (sym e) j))
in_sent (d ∷ ds) c s (inr i) e j = among_right _ (sent_in ds) s (in_sent ds c s i e j)

pub seen_slot : (p : Pass) (c : Cover) (s : Slot) → Among c p.covers → c.seen ≡ true → Among s c.slots → Among s (seen_slots p)
seen_slot p c s i e j = among_right (clear_slots p.clear) (seen_in p.covers) s (in_seen p.covers c s i e j)

pub sent_slot : (p : Pass) (c : Cover) (s : Slot) → Among c p.covers → c.made ≡ true → Among s c.slots → Among s (sent_slots p)
sent_slot p c s i e j = among_right (clear_slots p.clear) (sent_in p.covers) s (in_sent p.covers c s i e j)

pub fa_among : (ss : List Slot) → list_any (same_slot Fa) ss ≡ true → Among Fa ss
fa_among ss h = let f = some_among (same_slot Fa) ss h in subst (λ s. Among s ss) (sym (same_slot_is Fa f.0 f.2)) f.1

-- notes that keep what was noted show the same protected items
key_same : (keys : Keys) (h : Head) (old new : Notes) (u : Under) → (u ≡ Drawn → value new Fa ≡ value old Fa) → key_under keys h new u ≡ key_under keys h old u
key_same keys h old new (Pair x y) f = refl
key_same keys h old new Drawn f = ap (λ t. One (part_bytes t)) (f refl)

map_same : (old new : Notes) (ss : List Slot) → ((s : Slot) → Among s ss → value new s ≡ value old s) → map (value new) ss ≡ map (value old) ss
map_same old new [] f = refl
map_same old new (s ∷ ss) f = let e = f s (inl refl) in let r : map (value new) ss ≡ map (value old) ss = map_same old new ss (λ u i. f u (inr i)) in ap₂ (λ (x : Tree) (xs : List Tree). x ∷ xs) e r

pub protected_same : (keys : Keys) (h : Head) (old new : Notes) (d : Cover) → ((s : Slot) → Among s d.slots → value new s ≡ value old s) → (d.under ≡ Drawn → value new Fa ≡ value old Fa) → protected keys h new d ≡ protected keys h old d
protected_same keys h old new d f g =
    ap₂ (λ (k : Key) (b : Tree). if d.is_check then check k b else seal k b) (key_same keys h old new d.under g)
    (ap (λ (vs : List Tree). tuple (trees (tag d.tagged ∷ (names h ++ vs)))) (map_same old new d.slots f))

abbrev pub Keeps : Notes → Notes → Type 0
Keeps old new = (s : Slot) (t : Tree) → old s ≡ Some t → new s ≡ Some t

value_same : (old new : Notes) → Keeps old new → (s : Slot) → IsNoted old s → value new s ≡ value old s
value_same old new keep s n = ap noted_or_empty (keep s n.tree n.is ∙ sym n.is)

still_noted : (old new : Notes) → Keeps old new → (s : Slot) → IsNoted old s → IsNoted new s
still_noted old new keep s n = record { tree = n.tree; is = keep s n.tree n.is }

-- Fa is noted where the role opened or made an item under it
pub fa_noted : (K : List Tree) (keys : Keys) (h : Head) (k : ℕ) (notes : Notes) → Held K keys h k notes → HasFa (row_of h.mech) k h.role → IsNoted notes Fa
fa_noted K keys h k notes held has =
    let c = some_among (λ (c : Cover). c.seen && list_any (same_slot Fa) c.slots) has.pass.covers (and_right _ _ has.shows) in
    held.saw has.place has.pass Fa has.earlier has.at (sym (same_role_is h.role has.pass.to (and_left _ _ has.shows))) (seen_slot has.pass c.0 Fa c.1 (and_left _ _ c.2) (fa_among c.0.slots (and_right _ _ c.2)))

pub has_later : (all : List Pass) (j k : ℕ) (r : Role) → j < k → HasFa all (suc j) r → HasFa all k r
has_later all j k r l has = record { place = has.place; earlier = omega (arith, has.earlier); pass = has.pass; at = has.at; shows = has.shows }

module _ (K : List Tree) (keys : Keys) where
  -- Fa is noted where an item under it was opened in an earlier pass
  pub opened_fa : (h : Head) (k j : ℕ) (notes : Notes) (p : Pass) (d : Cover) → Held K keys h k notes → j < k → nth (row_of h.mech) j ≡ Some p → p.to ≡ h.role → Among d p.covers → d.seen ≡ true → d.under ≡ Drawn → IsNoted notes Fa
  opened_fa h k j notes p d held l at to i e u =
      fa_noted K keys h k notes held (has_later (row_of h.mech) j k h.role l (subst (λ r. HasFa (row_of h.mech) (suc j) r) to ((fa_by_then h.mech j p d at i u).1 e)))

  held_kept : (h : Head) (k : ℕ) (old new : Notes) → Keeps old new → Held K keys h k old → Held K keys h k new
  held_kept h k old new keep held =
      record {
        saw = λ j p s l at to i. still_noted old new keep s (held.saw j p s l at to i);
        said = λ j p s l at from i. still_noted old new keep s (held.said j p s l at from i);
        got = λ j p d l at to i e.
            subst (Derivable K)
            (sym (protected_same keys h old new d (λ s m. value_same old new keep s (held.saw j p s l at to (seen_slot p d s i e m))) (λ u. value_same old new keep Fa (opened_fa h k j old p d held l at to i e u))))
            (held.got j p d l at to i e);
      }

  same_pass : (m : Mech) (j k : ℕ) (p q : Pass) → j < suc k → k ≤ j → nth (row_of m) j ≡ Some p → nth (row_of m) k ≡ Some q → p ≡ q
  same_pass m j k p q l g at here =
      let e : j ≡ k = omega arith in
      let f : Some p ≡ Some q = sym at ∙ (ap (nth (row_of m)) e ∙ here) in cc

  pub held_take : (run : Run) (t : Tree) (new : Notes) → SymbolicFits keys run t new → Derivable K t → Held K keys run.head run.next run.notes → Held K keys run.head (suc run.next) new
  held_take run t new fits d held =
      record {
        saw = λ j p s l at to i. saw j p s l at to i (cases_lt j run.next);
        said = λ j p s l at from i. said j p s l at from i (cases_lt j run.next);
        got = λ j p c l at to i e. got j p c l at to i e (cases_lt j run.next);
      }
    where
      base : Held K keys run.head run.next new
      base = held_kept run.head run.next run.notes new fits.extends.kept held

      saw : (j : ℕ) (p : Pass) (s : Slot) → j < suc run.next → nth (row_of run.head.mech) j ≡ Some p → p.to ≡ run.head.role → Among s (seen_slots p) → (j < run.next) ⊎ (run.next ≤ j) → IsNoted new s
      saw j p s l at to i (inl g) = base.saw j p s g at to i
      saw j p s l at to i (inr g) =
          let e = same_pass run.head.mech j run.next p fits.pass l g at fits.at in
          let n = fits.extends.noted s (subst (λ x. Among s (seen_slots x)) e i) in
          record { tree = n.0; is = n.1 }

      said : (j : ℕ) (p : Pass) (s : Slot) → j < suc run.next → nth (row_of run.head.mech) j ≡ Some p → p.from ≡ run.head.role → Among s (sent_slots p) → (j < run.next) ⊎ (run.next ≤ j) → IsNoted new s
      said j p s l at from i (inl g) = base.said j p s g at from i
      said j p s l at from i (inr g) =
          let e = same_pass run.head.mech j run.next p fits.pass l g at fits.at in
          absurd (no_self run.head.mech run.next fits.pass run.head.role fits.at (subst (λ (x : Pass). x.from ≡ run.head.role) e from) fits.received)

      in_message : (c : Cover) → Among c fits.pass.covers → Derivable K (item_as keys run.head new seen c)
      in_message c i =
          taken_out (trees (tag (tag_of run.head.mech (suc run.next) 0) ∷ (map (clear_item run.head new) fits.pass.clear ++ map (item_as keys run.head new seen) fits.pass.covers)))
          (item_of (item_as keys run.head new seen c) (tag (tag_of run.head.mech (suc run.next) 0) ∷ (map (clear_item run.head new) fits.pass.clear ++ map (item_as keys run.head new seen) fits.pass.covers)) (inr (among_right (map (clear_item run.head new) fits.pass.clear) _ _ (map_among (item_as keys run.head new seen) fits.pass.covers c i))))
          (subst (Derivable K) fits.is d)
        where
          item_of : (u : Tree) (us : List Tree) → Among u us → IsItem u (trees us)
          item_of u [] m = elim m [ ]
          item_of u (v ∷ vs) (inl m) = inl m
          item_of u (v ∷ vs) (inr m) = inr (item_of u vs m)

      got : (j : ℕ) (p : Pass) (c : Cover) → j < suc run.next → nth (row_of run.head.mech) j ≡ Some p → p.to ≡ run.head.role → Among c p.covers → c.seen ≡ true → (j < run.next) ⊎ (run.next ≤ j) → Derivable K (protected keys run.head new c)
      got j p c l at to i e (inl g) = base.got j p c g at to i e
      got j p c l at to i e (inr g) =
          let q = same_pass run.head.mech j run.next p fits.pass l g at fits.at in
          subst (λ (b : Bool). Derivable K (if b then protected keys run.head new c else value new Fwd)) e (in_message c (subst (λ (x : Pass). Among c x.covers) q i))

  pub held_send : (h : Head) (k : ℕ) (old new : Notes) (t : Tree) → SymbolicSends keys h k old new t → Held K keys h k old → Held K keys h (suc k) new
  held_send h k old new t sends held =
      record {
        saw = λ j p s l at to i. saw j p s l at to i (cases_lt j k);
        said = λ j p s l at from i. said j p s l at from i (cases_lt j k);
        got = λ j p c l at to i e. got j p c l at to i e (cases_lt j k);
      }
    where
      base : Held K keys h k new
      base = held_kept h k old new sends.extends.kept held

      not_to : (j : ℕ) (p : Pass) → j < suc k → k ≤ j → nth (row_of h.mech) j ≡ Some p → p.to ≡ h.role → ⊥
      not_to j p l g at to =
          let e = same_pass h.mech j k p sends.pass l g at sends.at in
          no_self h.mech k sends.pass h.role sends.at sends.sent (subst (λ (x : Pass). x.to ≡ h.role) e to)

      saw : (j : ℕ) (p : Pass) (s : Slot) → j < suc k → nth (row_of h.mech) j ≡ Some p → p.to ≡ h.role → Among s (seen_slots p) → (j < k) ⊎ (k ≤ j) → IsNoted new s
      saw j p s l at to i (inl g) = base.saw j p s g at to i
      saw j p s l at to i (inr g) = absurd (not_to j p l g at to)

      said : (j : ℕ) (p : Pass) (s : Slot) → j < suc k → nth (row_of h.mech) j ≡ Some p → p.from ≡ h.role → Among s (sent_slots p) → (j < k) ⊎ (k ≤ j) → IsNoted new s
      said j p s l at from i (inl g) = base.said j p s g at from i
      said j p s l at from i (inr g) =
          let e = same_pass h.mech j k p sends.pass l g at sends.at in
          let n = sends.extends.noted s (subst (λ x. Among s (sent_slots x)) e i) in
          record { tree = n.0; is = n.1 }

      got : (j : ℕ) (p : Pass) (c : Cover) → j < suc k → nth (row_of h.mech) j ≡ Some p → p.to ≡ h.role → Among c p.covers → c.seen ≡ true → (j < k) ⊎ (k ≤ j) → Derivable K (protected keys h new c)
      got j p c l at to i e (inl g) = base.got j p c g at to i e
      got j p c l at to i e (inr g) = absurd (not_to j p l g at to)

  pub held_skip : (h : Head) (k : ℕ) (notes : Notes) → Held K keys h k notes → Held K keys h (next_act h k) notes
  held_skip h k notes held =
      record {
        saw = λ j p s l at to i. saw j p s l at to i (cases_lt j k);
        said = λ j p s l at from i. said j p s l at from i (cases_lt j k);
        got = λ j p c l at to i e. got j p c l at to i e (cases_lt j k);
      }
    where
      saw : (j : ℕ) (p : Pass) (s : Slot) → j < next_act h k → nth (row_of h.mech) j ≡ Some p → p.to ≡ h.role → Among s (seen_slots p) → (j < k) ⊎ (k ≤ j) → IsNoted notes s
      saw j p s l at to i (inl g) = held.saw j p s g at to i
      saw j p s l at to i (inr g) = let no = idle h k j p g l at in let yes = acts_to h.role p to in absurd (cc)

      said : (j : ℕ) (p : Pass) (s : Slot) → j < next_act h k → nth (row_of h.mech) j ≡ Some p → p.from ≡ h.role → Among s (sent_slots p) → (j < k) ⊎ (k ≤ j) → IsNoted notes s
      said j p s l at from i (inl g) = held.said j p s g at from i
      said j p s l at from i (inr g) = let no = idle h k j p g l at in let yes = acts_from h.role p from in absurd (cc)

      got : (j : ℕ) (p : Pass) (c : Cover) → j < next_act h k → nth (row_of h.mech) j ≡ Some p → p.to ≡ h.role → Among c p.covers → c.seen ≡ true → (j < k) ⊎ (k ≤ j) → Derivable K (protected keys h notes c)
      got j p c l at to i e (inl g) = held.got j p c g at to i e
      got j p c l at to i e (inr g) = let no = idle h k j p g l at in let yes = acts_to h.role p to in absurd (cc)

  held_none : (h : Head) (notes : Notes) → Held K keys h 0 notes
  held_none h notes = record { saw = λ j p s l at to i. absurd (omega arith); said = λ j p s l at from i. absurd (omega arith); got = λ j p c l at to i e. absurd (omega arith) }

held_more : (K L : List Tree) (keys : Keys) → ((t : Tree) → Among t K → Among t L) → (h : Head) (k : ℕ) (notes : Notes) → Held K keys h k notes → Held L keys h k notes
held_more K L keys more h k notes held = record { saw = held.saw; said = held.said; got = λ j p c l at to i e. more_known K L more _ (held.got j p c l at to i e) }

-- each run of a world holds these
run_case : (K : List Tree) (keys : Keys) (now : Run) (old : Option Run) → Held K keys now.head now.next now.notes → ((run : Run) → old ≡ Some run → Held K keys run.head run.next run.notes) → (b : Bool) (run : Run) → (if b then Some now else old) ≡ Some run → Held K keys run.head run.next run.notes
run_case K keys now old ok others true run is = let e : now ≡ run = cc in subst (λ (r : Run). Held K keys r.head r.next r.notes) e ok
run_case K keys now old ok others false run is = others run is

pub more_with : (o : Option Tree) (K : List Tree) (t : Tree) → Among t K → Among t (with_reply o K)
more_with None K t i = i
more_with (Some u) K t i = inr i

abbrev pub HeldBy : Config → List Happening → Run → Type 0
HeldBy c h run = Held (known_before c h) (keys_of c) run.head run.next run.notes

held_opening : (c : Config) (h : List Happening) (run : Run) → IsOpening run → HeldBy c h run
held_opening c h run o =
    subst (λ (k : ℕ). Held (known_before c h) (keys_of c) run.head k run.notes) (sym o.first)
    (held_skip (known_before c h) (keys_of c) run.head 0 run.notes (held_none (known_before c h) (keys_of c) run.head run.notes))

pub held_middle : (c : Config) (h : List Happening) (step : Step) → IsSymbolicStep (keys_of c) step → Delivered c h step.taken → HeldBy c h step.before → Held (known_before c h) (keys_of c) step.before.head (reply_pass step) step.middle
held_middle c h step is_step delivered before = middle step.taken is_step.takes delivered
  where
    middle : (o : Option Tree) → SymbolicTakes (keys_of c) step.before o step.middle → Delivered c h o → Held (known_before c h) (keys_of c) step.before.head (after_taking step.before.next o) step.middle
    middle None e d = subst (Held (known_before c h) (keys_of c) step.before.head step.before.next) (sym e) before
    middle (Some t) fits d = held_take (known_before c h) (keys_of c) step.before t step.middle fits d before

pub held_step : (c : Config) (h : List Happening) (step : Step) → IsSymbolicStep (keys_of c) step → Delivered c h step.taken → HeldBy c h step.before → HeldBy c h step.after
held_step c h step is_step delivered before =
    subst (λ (x : Head). Held (known_before c h) (keys_of c) x step.after.next step.after.notes) (sym is_step.same_head)
    (subst (λ (k : ℕ). Held (known_before c h) (keys_of c) step.before.head k step.after.notes) (sym is_step.moves) (held_skip (known_before c h) (keys_of c) step.before.head (passed (reply_pass step) step.reply) step.after.notes (replied step.reply is_step.replies)))
  where
    replied : (o : Option Tree) → SymbolicReplies (keys_of c) step.before.head (reply_pass step) step.middle step.after.notes o → Held (known_before c h) (keys_of c) step.before.head (passed (reply_pass step) o) step.after.notes
    replied None e = subst (Held (known_before c h) (keys_of c) step.before.head (reply_pass step)) (sym e.0) (held_middle c h step is_step delivered before)
    replied (Some t) sends = held_send (known_before c h) (keys_of c) step.before.head (reply_pass step) step.middle step.after.notes t sends (held_middle c h step is_step delivered before)

held_reply : (c : Config) (h : List Happening) (o : Option Tree) (run : Run) → HeldBy c h run → Held (with_reply o (known_before c h)) (keys_of c) run.head run.next run.notes
held_reply c h o run b = held_more (known_before c h) (with_reply o (known_before c h)) (keys_of c) (more_with o (known_before c h)) run.head run.next run.notes b

pub held : (c : Config) (h : List Happening) → IsTrace c h → (id : RunId) (run : Run) → current h id ≡ Some run → HeldBy c h run
held c [] w id run is = absurd (cc)
held c (Opens n now ∷ h) w id run is =
    run_case (known_before c h) (keys_of c) now (current h id) (held_opening c h now w.1.1) (held c h w.0 id) (same_id n id) run is
held c (Steps n step ∷ h) w id run is =
    run_case (with_reply step.reply (known_before c h)) (keys_of c) step.after (current h id)
    (held_reply c h step.reply step.after (held_step c h step w.1.is_step w.1.delivered (held c h w.0 n step.before w.1.runs)))
    (λ r e. held_reply c h step.reply r (held c h w.0 id r e)) (same_id n id) run is
held c (Reveals n ∷ h) w id run is =
    held_more (known_before c h) (map part (parts_of (key_of_run (current h n))) ++ known_before c h) (keys_of c) (λ t i. among_right (map part (parts_of (key_of_run (current h n)))) (known_before c h) t i) run.head run.next run.notes (held c h w.0 id run is)
