-- What a step issues and what it has judged, as its lists say it.
use Rattle.std.proofs.Common.{◌≡◌, ℕ, ◌⊎◌, List, [], ◌∷◌, Bool, true, false, not, is_none, ◌&&◌, ◌||◌, if◌then◌else◌, refl, sym, ap, subst, ◌∙◌, inl, inr, Option, Some, None}
use Rattle.std.specs.List.{list_all, list_any}
use Rattle.term_values.specs.Trees.{Among, Bytes, Tree, stamp}
use Rattle.term_values.specs.declared.small.Stamp.{Stamp}
use Rattle.mech_rows.specs.declared.kinds.Mech.{Mech}
use Rattle.mech_rows.specs.declared.kinds.Role.{Role}
use Rattle.mech_rows.specs.declared.kinds.Slot.{Slot}
use Rattle.mech_rows.specs.declared.kinds.Slot.TheVariants.{Fwd}
use Rattle.mech_rows.specs.declared.kinds.Kind.{Kind}
use Rattle.mech_rows.specs.declared.kinds.Kind.TheVariants.{Stamp as a_stamp, Item as an_item}
use Rattle.mech_rows.specs.Rows.{kind_of, is_stamp, issuer, Cover, Pass, row_of}
use Rattle.mech_rows.specs.declared.kinds.Clear.TheVariants.{Slot as Shown}
use Rattle.mech_rows.specs.Facts.{same_slot, judged_tag, is_tag, covers_stamp}
use Rattle.mech_rows.specs.Heads.{Head, name_of}
use Rattle.mech_rows.specs.Runs.{Notes, Keys, value, noted_or_empty, nth, clear_slots, seen_in, seen_slots, sent_slots, HasKind, Got, Step, Draws, reply_pass, Learns}
use Rattle.mech_rows.specs.Steps.{Sealer, stamp_in, got_of_slots, got_of, Takes, Replies, IsStep}
use Rattle.mech_rows.proofs.Facts.{stamps_are_covered_holds, stamps_have_one_tag_holds}
use Rattle.term_values.proofs.Lists.{all_among, some_among, and_left, and_right, and_both, implied, among_append, among_left, among_right}
use Rattle.mech_rows.proofs.RowUse.{nth_among, same_slot_is, seen_case, clear_case}
use Rattle.term_values.proofs.SameBytes.{same_start}

pub is_stamp_kind : (k : Kind) → k ≡ a_stamp → is_stamp k ≡ true
is_stamp_kind k e = ap is_stamp e

some_none : {X : Type 0} (x : X) → Some x ≡ None → ⊥
some_none x e = cc

-- the stamp that a step draws for a slot is the one that it issues
pub record DrawnStamp (step : Step) (t : Tree) : Type 0 where
  pub drawn : Stamp
  pub is : t ≡ stamp drawn
  pub issued : step.issued ≡ Some drawn

pub drawn_stamp : (opens : Sealer) (keys : Keys) (step : Step) → IsStep opens keys step → (s : Slot) (t : Tree) → kind_of s ≡ a_stamp → Draws step s t → DrawnStamp step t
drawn_stamp opens keys step is s t k d = go step.reply is.replies
  where
    with_kind : (x : Stamp) × (t ≡ stamp x) → DrawnStamp step t
    with_kind (x, e) = record { drawn = x; is = e; issued = (is.issues x).1 (s, k, record { is_new = d.is_new; is = d.is ∙ ap Some e }) }

    go : (o : Option Tree) → Replies opens keys step.before.head (reply_pass step) step.middle step.after.notes o step.sealed → DrawnStamp step t
    go None r = absurd (some_none t (sym d.is ∙ (ap (λ (n : Notes). n s) r.0 ∙ d.is_new)))
    go (Some m) sends = by (sends.extends.only s t d.is)
      where
        by : (step.middle s ≡ Some t) ⊎ Among s (sent_slots sends.pass) → DrawnStamp step t
        by (inl e) = absurd (some_none t (sym e ∙ d.is_new))
        by (inr i) = with_kind (subst (λ (x : Kind). HasKind x t) k (sends.extends.kinds s t i d.is))

-- by the fact on shown stamps
stamp_cover : (m : Mech) (k : ℕ) (p : Pass) (s : Slot) → nth (row_of m) k ≡ Some p → kind_of s ≡ a_stamp → Among s (seen_slots p) → (d : Cover) × Among d p.covers × (d.seen ≡ true) × Among s d.slots
stamp_cover m k p s at is i = go (among_append (clear_slots p.clear) (seen_in p.covers) s i)
  where
    slot_in : (ss : List Slot) → list_any (same_slot s) ss ≡ true → Among s ss
    slot_in ss h = let f = some_among (same_slot s) ss h in subst (λ (x : Slot). Among x ss) (sym (same_slot_is s f.0 f.2)) f.1

    shown : list_any (λ (c : Cover). c.seen && list_any (same_slot s) c.slots) p.covers ≡ true → (d : Cover) × Among d p.covers × (d.seen ≡ true) × Among s d.slots
    shown h =
        let d = some_among (λ (c : Cover). c.seen && list_any (same_slot s) c.slots) p.covers h in
        (d.0, d.1, and_left d.0.seen (list_any (same_slot s) d.0.slots) d.2, slot_in d.0.slots (and_right d.0.seen (list_any (same_slot s) d.0.slots) d.2))

    test : Among s (clear_slots p.clear) → covers_stamp p (Shown s) ≡ true
    test j = all_among (covers_stamp p) p.clear (all_among (λ (p : Pass). list_all (covers_stamp p) p.clear) (row_of m) (stamps_are_covered_holds m) p (nth_among (row_of m) k p at)) (Shown s) (clear_case p.clear s j)

    no_fwd : (u : Slot) → kind_of u ≡ a_stamp → u ≡ Fwd → ⊥
    no_fwd u e f = let bad : an_item ≡ a_stamp = sym (ap kind_of f) ∙ e in cc

    covered : (d : Cover) × Among d p.covers × (((d.seen ≡ true) × Among s d.slots) ⊎ ((d.seen ≡ false) × Among s (Fwd ∷ []))) → (d : Cover) × Among d p.covers × (d.seen ≡ true) × Among s d.slots
    covered (d, j, inl q) = (d, j, q.0, q.1)
    covered (d, j, inr (q, inl e)) = absurd (no_fwd s is e)
    covered (d, j, inr (q, inr e)) = absurd e

    go : Among s (clear_slots p.clear) ⊎ Among s (seen_in p.covers) → (d : Cover) × Among d p.covers × (d.seen ≡ true) × Among s d.slots
    go (inl j) = shown (implied (is_stamp (kind_of s)) (list_any (λ (c : Cover). c.seen && list_any (same_slot s) c.slots) p.covers) (test j) (is_stamp_kind (kind_of s) is))
    go (inr j) = covered (seen_case p.covers s j)

-- by the fact stamps_have_one_tag
stamp_tag : (m : Mech) (k : ℕ) (p : Pass) (d : Cover) (s : Slot) → nth (row_of m) k ≡ Some p → Among d p.covers → d.seen ≡ true → Among s d.slots → kind_of s ≡ a_stamp → judged_tag p.to s (row_of m) ≡ Some d.tagged
stamp_tag m k p d s at i seen j is = tag_is (judged_tag p.to s (row_of m)) test
  where
    by_pass : list_all (λ (c : Cover). not c.seen || list_all (λ (s : Slot). not (is_stamp (kind_of s)) || is_tag c.tagged (judged_tag p.to s (row_of m))) c.slots) p.covers ≡ true
    by_pass = all_among (λ (p : Pass). list_all (λ (c : Cover). not c.seen || list_all (λ (s : Slot). not (is_stamp (kind_of s)) || is_tag c.tagged (judged_tag p.to s (row_of m))) c.slots) p.covers) (row_of m) (stamps_have_one_tag_holds m) p (nth_among (row_of m) k p at)

    by_cover : list_all (λ (s : Slot). not (is_stamp (kind_of s)) || is_tag d.tagged (judged_tag p.to s (row_of m))) d.slots ≡ true
    by_cover = implied d.seen (list_all (λ (s : Slot). not (is_stamp (kind_of s)) || is_tag d.tagged (judged_tag p.to s (row_of m))) d.slots) (all_among (λ (c : Cover). not c.seen || list_all (λ (s : Slot). not (is_stamp (kind_of s)) || is_tag c.tagged (judged_tag p.to s (row_of m))) c.slots) p.covers by_pass d i) seen

    test : is_tag d.tagged (judged_tag p.to s (row_of m)) ≡ true
    test = implied (is_stamp (kind_of s)) (is_tag d.tagged (judged_tag p.to s (row_of m))) (all_among (λ (s : Slot). not (is_stamp (kind_of s)) || is_tag d.tagged (judged_tag p.to s (row_of m))) d.slots by_cover s j) (is_stamp_kind (kind_of s) is)

    tag_is : (o : Option Bytes) → is_tag d.tagged o ≡ true → o ≡ Some d.tagged
    tag_is None e = absurd (cc)
    tag_is (Some t) e = ap Some (sym (same_start d.tagged t e))

-- a stamp slot of an opened item that was not noted before stands among the stamps to judge
got_slot : (h : Head) (old new : Notes) (t : Bytes) (ss : List Slot) (s : Slot) → Among s ss → is_stamp (kind_of s) ≡ true → old s ≡ None → Among (record { slot = s; sender = name_of h (issuer s); tagged = t; stamp = stamp_in (value new s) }) (got_of_slots h old new t ss)
got_slot h old new t [] s i k e = elim i [ ]
got_slot h old new t (u ∷ ss) s (inl is) k e =
    subst (λ (x : Slot). Among (record { slot = s; sender = name_of h (issuer s); tagged = t; stamp = stamp_in (value new s) }) (got_of_slots h old new t (x ∷ ss))) is (here (is_stamp (kind_of s) && is_none (old s)) (and_both (is_stamp (kind_of s)) (is_none (old s)) k (ap is_none e)))
  where
    here : (b : Bool) → b ≡ true → Among (record { slot = s; sender = name_of h (issuer s); tagged = t; stamp = stamp_in (value new s) }) (if b then record { slot = s; sender = name_of h (issuer s); tagged = t; stamp = stamp_in (value new s) } ∷ got_of_slots h old new t ss else got_of_slots h old new t ss)
    here true f = inl refl
    here false f = absurd (cc)
got_slot h old new t (u ∷ ss) s (inr i) k e = later (is_stamp (kind_of u) && is_none (old u)) (got_slot h old new t ss s i k e)
  where
    later : (b : Bool) → Among (record { slot = s; sender = name_of h (issuer s); tagged = t; stamp = stamp_in (value new s) }) (got_of_slots h old new t ss) → Among (record { slot = s; sender = name_of h (issuer s); tagged = t; stamp = stamp_in (value new s) }) (if b then record { slot = u; sender = name_of h (issuer u); tagged = t; stamp = stamp_in (value new u) } ∷ got_of_slots h old new t ss else got_of_slots h old new t ss)
    later true j = inr j
    later false j = j

got_there : (h : Head) (old new : Notes) (cs : List Cover) (d : Cover) (s : Slot) → Among d cs → d.seen ≡ true → Among s d.slots → is_stamp (kind_of s) ≡ true → old s ≡ None → Among (record { slot = s; sender = name_of h (issuer s); tagged = d.tagged; stamp = stamp_in (value new s) }) (got_of h old new cs)
got_there h old new [] d s i seen j k e = elim i [ ]
got_there h old new (c ∷ cs) d s (inl is) seen j k e =
    among_left (if c.seen then got_of_slots h old new c.tagged c.slots else []) (got_of h old new cs) _
    (subst (λ (x : Cover). Among (record { slot = s; sender = name_of h (issuer s); tagged = d.tagged; stamp = stamp_in (value new s) }) (if x.seen then got_of_slots h old new x.tagged x.slots else [])) is
    (subst (λ (b : Bool). Among (record { slot = s; sender = name_of h (issuer s); tagged = d.tagged; stamp = stamp_in (value new s) }) (if b then got_of_slots h old new d.tagged d.slots else [])) (sym seen) (got_slot h old new d.tagged d.slots s j k e)))
got_there h old new (c ∷ cs) d s (inr i) seen j k e = among_right (if c.seen then got_of_slots h old new c.tagged c.slots else []) (got_of h old new cs) _ (got_there h old new cs d s i seen j k e)

-- the step has this stamp of this sender judged under this tag
pub record Judges (step : Step) (sender : ℕ) (tag : Option Bytes) (t : Tree) : Type 0 where
  pub slot : Slot
  pub is_stamp_slot : kind_of slot ≡ a_stamp
  pub learns : Learns step slot t
  pub by : sender ≡ name_of step.before.head (issuer slot)
  pub under : tag ≡ judged_tag step.before.head.role slot (row_of step.before.head.mech)

-- the stamp that a step takes for a slot stands in its list
pub record JudgedStamp (step : Step) (sender : ℕ) (tag : Option Bytes) (t : Tree) : Type 0 where
  pub got : Got
  pub there : Among got step.got
  pub by : sender ≡ got.sender
  pub under : tag ≡ Some got.tagged
  pub is : t ≡ stamp got.stamp

pub judged_stamp : (opens : Sealer) (keys : Keys) (step : Step) → IsStep opens keys step → (sender : ℕ) (tag : Option Bytes) (t : Tree) → Judges step sender tag t → JudgedStamp step sender tag t
judged_stamp opens keys step is sender tag t j = go step.taken is.takes
  where
    go : (o : Option Tree) → Takes opens keys step.before o step.middle step.opened step.got → JudgedStamp step sender tag t
    go None r = absurd (some_none t (sym j.learns.is ∙ (ap (λ (n : Notes). n j.slot) r.0 ∙ j.learns.was_new)))
    go (Some m) fits = by (fits.extends.only j.slot t j.learns.is)
      where
        by : (step.before.notes j.slot ≡ Some t) ⊎ Among j.slot (seen_slots fits.pass) → JudgedStamp step sender tag t
        by (inl e) = absurd (some_none t (sym e ∙ j.learns.was_new))
        by (inr i) =
            let d = stamp_cover step.before.head.mech step.before.next fits.pass j.slot fits.at j.is_stamp_slot i in
            let kind = subst (λ (x : Kind). HasKind x t) j.is_stamp_slot (fits.extends.kinds j.slot t i j.learns.is) in
            record {
              got = record { slot = j.slot; sender = name_of step.before.head (issuer j.slot); tagged = d.0.tagged; stamp = stamp_in (value step.middle j.slot) };
              there = subst (Among (record { slot = j.slot; sender = name_of step.before.head (issuer j.slot); tagged = d.0.tagged; stamp = stamp_in (value step.middle j.slot) })) (sym fits.got_is) (got_there step.before.head step.before.notes step.middle fits.pass.covers d.0 j.slot d.1 d.2 d.3 (is_stamp_kind (kind_of j.slot) j.is_stamp_slot) j.learns.was_new);
              by = j.by;
              under = j.under ∙ (ap (λ (r : Role). judged_tag r j.slot (row_of step.before.head.mech)) (sym fits.received) ∙ stamp_tag step.before.head.mech step.before.next fits.pass d.0 j.slot fits.at d.1 d.2 d.3 j.is_stamp_slot);
              is = kind.1 ∙ ap stamp (sym (ap stamp_in (ap noted_or_empty j.learns.is ∙ kind.1)));
            }
