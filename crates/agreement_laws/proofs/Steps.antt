-- One step of an honest run keeps the safety of what was sent.
use Rattle.std.proofs.Common.{◌≡◌, ℕ, suc, ◌<◌, ◌≤◌, ◌⊎◌, List, [], ◌∷◌, ◌++◌, map, Bool, true, false, if◌then◌else◌, refl, sym, ap, subst, ◌∙◌, inl, inr, ◌||◌, Option, Some, None, arith}
use Rattle.term_values.specs.Trees.{Among, Bytes, Tree, name, part, tag, seal, check, trees}
use Rattle.term_values.specs.declared.small.Key.{Key}
use Rattle.attacker_model.specs.Derivation.{IsGoodKey}
use Rattle.mech_rows.specs.declared.kinds.Mech.{Mech}
use Rattle.mech_rows.specs.declared.kinds.Role.{Role}
use Rattle.mech_rows.specs.declared.kinds.Role.TheVariants.{P}
use Rattle.mech_rows.specs.declared.kinds.Slot.{Slot}
use Rattle.mech_rows.specs.declared.kinds.Slot.TheVariants.{Fa, Fb, Fwd}
use Rattle.mech_rows.specs.declared.kinds.Kind.{Kind}
use Rattle.mech_rows.specs.declared.kinds.Kind.TheVariants.{Nonce as a_nonce, Stamp as a_stamp, Part as a_part, Text as a_text, Item as an_item}
use Rattle.mech_rows.specs.Rows.{kind_of, Cover, Pass, tag_of, row_of, has_third, pairs_of}
use Rattle.mech_rows.specs.declared.kinds.Under.{Under}
use Rattle.mech_rows.specs.declared.kinds.Under.TheVariants.{Pair, Drawn}
use Rattle.mech_rows.specs.declared.kinds.Clear.{Clear}
use Rattle.mech_rows.specs.declared.kinds.Clear.TheVariants.{Slot as Shown, NameOfB}
use Rattle.mech_rows.specs.Facts.{is_part, is_fwd, covered_slots, acts, is_pair}
use Rattle.mech_rows.specs.Heads.{Head, name_of}
use Rattle.mech_rows.specs.Runs.{Notes, Run, Keys, value, noted_or_empty, bytes_or_empty, key_under, names, body, protected, clear_item, made, seen, nth, clear_slots, sent_in, seen_in, sent_slots, seen_slots, HasKind, Extends, first_act}
use Rattle.mech_rows.specs.Says.{item_as}
use Rattle.mech_rows.proofs.Symbolic.{SymbolicFits, SymbolicSends}
use Rattle.term_values.proofs.Lists.{among_map, map_among, among_append, among_right}
use Rattle.attacker_model.proofs.Safe.{Safe, SafeItems, among_is_safe, all_are_safe, stays_safe}
use Rattle.mech_rows.proofs.RowUse.{among_covered, seen_case, sent_case, pair_is_of_row, no_clear_part, parts_under_pairs, no_clear_fwd, no_fwd_inside, draws_its_parts, same_role_refl}

-- a slot of none of the three special kinds holds a nonce, a stamp or a text
is_plain : Kind → Bool
is_plain a_part = false
is_plain an_item = false
is_plain _ = true

plain_kind : (s : Slot) → is_part s ≡ false → is_fwd s ≡ false → is_plain (kind_of s) ≡ true
unfolding is_plain
plain_kind Fa h g = absurd (cc)
plain_kind Fb h g = absurd (cc)
plain_kind Fwd h g = absurd (cc)
plain_kind _ h g = refl

pub part_kind : (s : Slot) → is_part s ≡ true → kind_of s ≡ a_part
part_kind Fa h = refl
part_kind Fb h = refl
part_kind _ h = absurd (cc)

fwd_is_no_part : is_part Fwd ≡ false
fwd_is_no_part = refl

-- a part slot was in an earlier pass in which the role acts
pub record HadPass (h : Head) (next : ℕ) (s : Slot) : Type 0 where
  pub place : ℕ
  pub earlier : place < next
  pub pass : Pass
  pub at : nth (row_of h.mech) place ≡ Some pass
  pub acting : acts h.role pass ≡ true
  pub there : Among s (covered_slots pass.covers)

-- what holds of a run's notes before pass k
pub record NotesOk (Good : Bytes → Type 0) (Sent : Tree → Type 0) (h : Head) (k : ℕ) (notes : Notes) : Type 0 where
  pub kinds : (s : Slot) (t : Tree) → notes s ≡ Some t → HasKind (kind_of s) t
  pub fwd : (t : Tree) → notes Fwd ≡ Some t → Safe Good Sent t
  pub own : (s : Slot) (t : Tree) → is_part s ≡ true → notes s ≡ Some t → HadPass h k s

or_first : (a b : Bool) → a ≡ true → (a || b) ≡ true
or_first true b h = refl
or_first false b h = absurd (cc)

or_second : (a b : Bool) → b ≡ true → (a || b) ≡ true
or_second true b h = refl
or_second false b h = h

pub first_act_later : (r : Role) (n : ℕ) (ps : List Pass) → n ≤ first_act r n ps
first_act_later r n [] = omega arith
first_act_later r n (p ∷ ps) = go (acts r p) (first_act_later r (suc n) ps)
  where
    go : (b : Bool) → suc n ≤ first_act r (suc n) ps → n ≤ (if b then n else first_act r (suc n) ps)
    go true h = omega arith
    go false h = omega arith

pub acts_from : (r : Role) (p : Pass) → p.from ≡ r → acts r p ≡ true
acts_from r p e = subst (λ x. acts x p ≡ true) e (or_first _ _ (same_role_refl p.from))

pub acts_to : (r : Role) (p : Pass) → p.to ≡ r → acts r p ≡ true
acts_to r p e = subst (λ x. acts x p ≡ true) e (or_second _ _ (same_role_refl p.to))

is_fwd_slot : (s : Slot) → Among s (Fwd ∷ []) → s ≡ Fwd
is_fwd_slot s (inl e) = e
is_fwd_slot s (inr i) = elim i [ ]

shown_slot : (cs : List Clear) (s : Slot) → Among (Shown s) cs → Among s (clear_slots cs)
shown_slot [] s i = elim i [ ]
shown_slot (Shown u ∷ cs) s (inl e) = inl (let f : Shown s ≡ Shown u = e in cc)
shown_slot (Shown u ∷ cs) s (inr i) = inr (shown_slot cs s i)
shown_slot (NameOfB ∷ cs) s (inl e) = absurd (cc)
shown_slot (NameOfB ∷ cs) s (inr i) = shown_slot cs s i

pub pair_case : (u : Under) → is_pair u ≡ true → (x y : Role) × (u ≡ Pair x y)
pair_case (Pair x y) h = (x, y, refl)
pair_case Drawn h = absurd (cc)

module _ (Good : Bytes → Type 0) (Sent : Tree → Type 0) where
  plain_is_safe : (k : Kind) (t : Tree) → is_plain k ≡ true → HasKind k t → Safe Good Sent t
  unfolding is_plain
  plain_is_safe a_nonce t h e = subst (Safe Good Sent) (sym e.1) tt
  plain_is_safe a_stamp t h e = subst (Safe Good Sent) (sym e.1) tt
  plain_is_safe a_text t h e = subst (Safe Good Sent) (sym e.1) tt
  plain_is_safe a_part t h e = absurd (cc)
  plain_is_safe an_item t h e = absurd (cc)

  -- the notes after a pass in which the role acts
  pub extended : (h : Head) (k : ℕ) (p : Pass) (old new : Notes) (slots : List Slot) → NotesOk Good Sent h k old → nth (row_of h.mech) k ≡ Some p → acts h.role p ≡ true → Extends old slots new → ((s : Slot) → is_part s ≡ true → Among s slots → Among s (covered_slots p.covers)) → ((t : Tree) → Among Fwd slots → new Fwd ≡ Some t → Safe Good Sent t) → NotesOk Good Sent h (suc k) new
  extended h k p old new slots ok at acting ext parts fwd =
      record {
        kinds = λ s t e. kind s t e (ext.only s t e);
        fwd = λ t e. forwarded t e (ext.only Fwd t e);
        own = λ s t i e. own s t i (ext.only s t e);
      }
    where
      kind : (s : Slot) (t : Tree) → new s ≡ Some t → (old s ≡ Some t) ⊎ Among s slots → HasKind (kind_of s) t
      kind s t e (inl o) = ok.kinds s t o
      kind s t e (inr i) = ext.kinds s t i e

      forwarded : (t : Tree) → new Fwd ≡ Some t → (old Fwd ≡ Some t) ⊎ Among Fwd slots → Safe Good Sent t
      forwarded t e (inl o) = ok.fwd t o
      forwarded t e (inr i) = fwd t i e

      own : (s : Slot) (t : Tree) → is_part s ≡ true → (old s ≡ Some t) ⊎ Among s slots → HadPass h (suc k) s
      own s t i (inl o) =
          let had = ok.own s t i o in
          record { place = had.place; earlier = omega (arith, had.earlier); pass = had.pass; at = had.at; acting = had.acting; there = had.there }
      own s t i (inr j) = record { place = k; earlier = omega arith; pass = p; at = at; acting = acting; there = parts s i j }

  -- a value that a clear item or a body shows is safe where it is no part and no forwarded item
  value_is_safe : (h : Head) (k : ℕ) (notes : Notes) → NotesOk Good Sent h k notes → (s : Slot) → is_part s ≡ false → is_fwd s ≡ false → Safe Good Sent (value notes s)
  value_is_safe h k notes ok s no_part no_fwd = go (notes s) refl
    where
      go : (o : Option Tree) → notes s ≡ o → Safe Good Sent (noted_or_empty o)
      go None e = tt
      go (Some t) e = plain_is_safe (kind_of s) t (plain_kind s no_part no_fwd) (ok.kinds s t e)

  fwd_is_safe : (h : Head) (k : ℕ) (notes : Notes) → NotesOk Good Sent h k notes → Safe Good Sent (value notes Fwd)
  fwd_is_safe h k notes ok = go (notes Fwd) refl
    where
      go : (o : Option Tree) → notes Fwd ≡ o → Safe Good Sent (noted_or_empty o)
      go None e = tt
      go (Some t) e = ok.fwd t e

  -- what a message leaves in the notes
  pub taken_ok : (keys : Keys) (run : Run) (t : Tree) (notes : Notes) → NotesOk Good Sent run.head run.next run.notes → Safe Good Sent t → SymbolicFits keys run t notes → NotesOk Good Sent run.head (suc run.next) notes
  taken_ok keys run t notes ok safe fits =
      extended run.head run.next fits.pass run.notes notes (seen_slots fits.pass) ok fits.at (acts_to run.head.role fits.pass fits.received) fits.extends
      (λ s i j. in_covers s i (among_append _ _ s j))
      (λ u j e. fwd_ok u e (among_append _ _ Fwd j))
    where
      m : Mech
      m = run.head.mech

      in_cover : (s : Slot) → is_part s ≡ true → (c : Cover) → Among c fits.pass.covers → ((c.seen ≡ true) × Among s c.slots) ⊎ ((c.seen ≡ false) × Among s (Fwd ∷ [])) → Among s (covered_slots fits.pass.covers)
      in_cover s i c j (inl g) = among_covered fits.pass.covers c s j g.1
      in_cover s i c j (inr g) = let e = is_fwd_slot s g.1 in absurd (cc)

      in_covers : (s : Slot) → is_part s ≡ true → Among s (clear_slots fits.pass.clear) ⊎ Among s (seen_in fits.pass.covers) → Among s (covered_slots fits.pass.covers)
      in_covers s i (inl j) = let no = no_clear_part run.head.mech run.next fits.pass fits.at s j in absurd (cc)
      in_covers s i (inr j) = let c = seen_case fits.pass.covers s j in in_cover s i c.0 c.1 c.2

      safe_items : SafeItems Good Sent (trees (tag (tag_of run.head.mech (suc run.next) 0) ∷ (map (clear_item run.head notes) fits.pass.clear ++ map (item_as keys run.head notes seen) fits.pass.covers)))
      safe_items = subst (Safe Good Sent) fits.is safe

      kept_item : (u : Tree) → notes Fwd ≡ Some u → (c : Cover) → Among c fits.pass.covers → ((c.seen ≡ true) × Among Fwd c.slots) ⊎ ((c.seen ≡ false) × Among Fwd (Fwd ∷ [])) → Safe Good Sent u
      kept_item u e c j (inl g) = let no = no_fwd_inside run.head.mech run.next fits.pass fits.at c Fwd j g.1 in absurd (cc)
      kept_item u e c j (inr g) =
          let shown = among_is_safe Good Sent (item_as keys run.head notes seen c) (tag (tag_of run.head.mech (suc run.next) 0) ∷ (map (clear_item run.head notes) fits.pass.clear ++ map (item_as keys run.head notes seen) fits.pass.covers)) (inr (among_right (map (clear_item run.head notes) fits.pass.clear) _ _ (map_among (item_as keys run.head notes seen) fits.pass.covers c j))) safe_items in
          subst (Safe Good Sent) (ap (λ (b : Bool). if b then protected keys run.head notes c else value notes Fwd) g.0 ∙ ap noted_or_empty e) shown

      fwd_ok : (u : Tree) → notes Fwd ≡ Some u → Among Fwd (clear_slots fits.pass.clear) ⊎ Among Fwd (seen_in fits.pass.covers) → Safe Good Sent u
      fwd_ok u e (inl j) = let no = no_clear_fwd run.head.mech run.next fits.pass fits.at Fwd j in absurd (cc)
      fwd_ok u e (inr j) = let c = seen_case fits.pass.covers Fwd j in kept_item u e c.0 c.1 c.2

  -- what a reply leaves in the notes
  pub sent_ok : (keys : Keys) (h : Head) (k : ℕ) (old new : Notes) (t : Tree) → NotesOk Good Sent h k old → SymbolicSends keys h k old new t → NotesOk Good Sent h (suc k) new
  sent_ok keys h k old new t ok sends =
      extended h k sends.pass old new (sent_slots sends.pass) ok sends.at (acts_from h.role sends.pass sends.sent) sends.extends
      (λ s i j. in_covers s i (among_append _ _ s j))
      (λ u j e. absurd (no_fwd (among_append _ _ Fwd j)))
    where
      in_covers : (s : Slot) → is_part s ≡ true → Among s (clear_slots sends.pass.clear) ⊎ Among s (sent_in sends.pass.covers) → Among s (covered_slots sends.pass.covers)
      in_covers s i (inl j) = let no = no_clear_part h.mech k sends.pass sends.at s j in absurd (cc)
      in_covers s i (inr j) = let c = sent_case sends.pass.covers s j in among_covered sends.pass.covers c.0 s c.1 c.3

      no_fwd : Among Fwd (clear_slots sends.pass.clear) ⊎ Among Fwd (sent_in sends.pass.covers) → ⊥
      no_fwd (inl j) = let no = no_clear_fwd h.mech k sends.pass sends.at Fwd j in cc
      no_fwd (inr j) = let c = sent_case sends.pass.covers Fwd j in let no = no_fwd_inside h.mech k sends.pass sends.at c.0 Fwd c.1 c.3 in cc

  made_is_safe : (b : Bool) (k : Key) (t : Tree) → Sent (if b then check k t else seal k t) → ((IsGoodKey Good k → ⊥) → Safe Good Sent t) → Safe Good Sent (if b then check k t else seal k t)
  made_is_safe true k t sent inside = λ good. sent
  made_is_safe false k t sent inside = ((λ good. sent), inside)

  names_are_safe : (b : Bool) (h : Head) (u : Tree) → Among u (if b then name h.a ∷ name h.b ∷ name (name_of h P) ∷ [] else name h.a ∷ name h.b ∷ []) → Safe Good Sent u
  names_are_safe true h u i = among_is_safe Good Sent u (name h.a ∷ name h.b ∷ name (name_of h P) ∷ []) i (tt, (tt, (tt, tt)))
  names_are_safe false h u i = among_is_safe Good Sent u (name h.a ∷ name h.b ∷ []) i (tt, (tt, tt))

  -- the reply is safe, where its protected items count as sent, and where a good part is drawn only for good keys
  pub reply_is_safe : (keys : Keys) (h : Head) (k : ℕ) (old new : Notes) (t : Tree) → NotesOk Good Sent h k old → (sends : SymbolicSends keys h k old new t) → ((c : Cover) → Among c sends.pass.covers → c.made ≡ true → Sent (protected keys h new c)) → ((x y : Role) (s : Slot) (p : Bytes) → Among (x, y) (pairs_of h.mech) → is_part s ≡ true → old s ≡ None → new s ≡ Some (part p) → Good p → Good (bytes_or_empty (keys (name_of h x) (name_of h y)))) → Safe Good Sent t
  reply_is_safe keys h k old new t ok sends sent good =
      subst (Safe Good Sent) (sym sends.is) (tt, all_are_safe Good Sent (map (clear_item h new) p.clear ++ map (item_as keys h new made) p.covers) (λ u i. item_safe u (among_append _ _ u i)))
    where
      p : Pass
      p = sends.pass

      after : NotesOk Good Sent h (suc k) new
      after = sent_ok keys h k old new t ok sends

      drawn : (c : Cover) (s : Slot) → Among c sends.pass.covers → c.made ≡ true → Among s c.slots → is_part s ≡ true → (o : Option Tree) → old s ≡ o → old s ≡ None
      drawn c s i m j e None is = is
      drawn c s i m j e (Some w) is =
          let had = ok.own s w e is in
          absurd (draws_its_parts h.mech had.place k had.pass sends.pass c s had.at sends.at had.earlier i m j e (subst (λ r. acts r had.pass ≡ true) (sym sends.sent) had.acting) had.there)

      part_is_safe : (c : Cover) (s : Slot) → Among c sends.pass.covers → c.made ≡ true → Among s c.slots → is_part s ≡ true → (IsGoodKey Good (key_under keys h new c.under) → ⊥) → (o : Option Tree) → new s ≡ o → Safe Good Sent (noted_or_empty o)
      part_is_safe c s i m j e bad None is = tt
      part_is_safe c s i m j e bad (Some w) is =
          let q = subst (λ d. HasKind d w) (part_kind s e) (after.kinds s w is) in
          let u = pair_case c.under (parts_under_pairs h.mech k sends.pass sends.at c s i j e) in
          let of_row = pair_is_of_row h.mech k sends.pass sends.at c i u.0 u.1 u.2 in
          subst (Safe Good Sent) (sym q.1) (λ g.
          bad (subst (λ (v : Under). IsGoodKey Good (key_under keys h new v)) (sym u.2)
          (good u.0 u.1 s q.0 of_row e (drawn c s i m j e (old s) refl) (is ∙ ap Some q.1) g)))

      slot_is_safe : (c : Cover) (s : Slot) → Among c sends.pass.covers → c.made ≡ true → Among s c.slots → (IsGoodKey Good (key_under keys h new c.under) → ⊥) → (b : Bool) → is_part s ≡ b → Safe Good Sent (value new s)
      slot_is_safe c s i m j bad true e = part_is_safe c s i m j e bad (new s) refl
      slot_is_safe c s i m j bad false e = value_is_safe h (suc k) new after s e (no_fwd_inside h.mech k sends.pass sends.at c s i j)

      body_item : (c : Cover) → Among c sends.pass.covers → c.made ≡ true → (IsGoodKey Good (key_under keys h new c.under) → ⊥) → (u : Tree) → Among u (names h) ⊎ Among u (map (value new) c.slots) → Safe Good Sent u
      body_item c i m bad u (inl j) = names_are_safe (has_third h.mech) h u j
      body_item c i m bad u (inr j) =
          let s = among_map (value new) c.slots u j in
          subst (Safe Good Sent) (sym s.2) (slot_is_safe c s.0 i m s.1 bad (is_part s.0) refl)

      body_is_safe : (c : Cover) → Among c sends.pass.covers → c.made ≡ true → (IsGoodKey Good (key_under keys h new c.under) → ⊥) → Safe Good Sent (body h new c)
      body_is_safe c i m bad = (tt, all_are_safe Good Sent (names h ++ map (value new) c.slots) (λ u j. body_item c i m bad u (among_append _ _ u j)))

      cover_is_safe : (c : Cover) → Among c sends.pass.covers → (b : Bool) → c.made ≡ b → Safe Good Sent (if b then protected keys h new c else value new Fwd)
      cover_is_safe c i true m = made_is_safe c.is_check (key_under keys h new c.under) (body h new c) (sent c i m) (body_is_safe c i m)
      cover_is_safe c i false m = fwd_is_safe h (suc k) new after

      clear_is_safe : (x : Clear) → Among x sends.pass.clear → Safe Good Sent (clear_item h new x)
      clear_is_safe NameOfB i = tt
      clear_is_safe (Shown s) i =
          let j = shown_slot sends.pass.clear s i in
          value_is_safe h (suc k) new after s (no_clear_part h.mech k sends.pass sends.at s j) (no_clear_fwd h.mech k sends.pass sends.at s j)

      item_safe : (u : Tree) → Among u (map (clear_item h new) sends.pass.clear) ⊎ Among u (map (item_as keys h new made) sends.pass.covers) → Safe Good Sent u
      item_safe u (inl i) = let x = among_map (clear_item h new) sends.pass.clear u i in subst (Safe Good Sent) (sym x.2) (clear_is_safe x.0 x.1)
      item_safe u (inr i) = let c = among_map (item_as keys h new made) sends.pass.covers u i in subst (Safe Good Sent) (sym c.2) (cover_is_safe c.0 c.1 c.0.made refl)

  pub later_ok : (h : Head) (k l : ℕ) (notes : Notes) → k ≤ l → NotesOk Good Sent h k notes → NotesOk Good Sent h l notes
  later_ok h k l notes le ok = record { kinds = ok.kinds; fwd = ok.fwd; own = λ s t i e. late (ok.own s t i e) }
    where
      late : {s : Slot} → HadPass h k s → HadPass h l s
      late had = record { place = had.place; earlier = omega (arith, had.earlier); pass = had.pass; at = had.at; acting = had.acting; there = had.there }

-- where more was sent
pub stays_ok : (Good : Bytes → Type 0) (Sent More : Tree → Type 0) → ((t : Tree) → Sent t → More t) → (h : Head) (k : ℕ) (notes : Notes) → NotesOk Good Sent h k notes → NotesOk Good More h k notes
stays_ok Good Sent More more h k notes ok = record { kinds = ok.kinds; fwd = λ t e. stays_safe Good Sent More more t (ok.fwd t e); own = ok.own }
