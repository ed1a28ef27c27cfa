-- What the protected items of a message leave, part by part.
use Rattle.std.proofs.Common.{◌≡◌, ◌==◌, ◌+◌, ◌≤◌, ℕ, suc, Bool, true, false, ◌&&◌, ◌⊎◌, inl, inr, List, [], ◌∷◌, ◌++◌, map, length, Option, Some, None, Result, Ok, Err, if◌then◌else◌, is_none, refl, sym, ap, ap₂, subst, ◌∙◌, arith, eqb-true}
use Rattle.std.specs.List.{list_all}
use Rattle.std.proofs.Math.Seq.{drop-cons}
use Rattle.std.proofs.lemmas.Bool.{leb-true}
use Rattle.std.proofs.lemmas.List.{append_assoc, append-nil}
use Rattle.term_values.specs.Trees.{Among, Bytes, Tree, name, tag, tuple, none, trees}
use Rattle.term_values.specs.Lengths.{length_of}
use Rattle.term_values.specs.declared.small.Key.{Key}
use Rattle.term_values.specs.declared.small.Key.TheVariants.{One}
use Rattle.term_values.proofs.Lists.{among_left, among_right, among_append, all_among, some_among, and_left, and_right}
use Rattle.mech_rows.specs.declared.kinds.Slot.{Slot}
use Rattle.mech_rows.specs.declared.kinds.Slot.TheVariants.{Fa, Fwd}
use Rattle.mech_rows.specs.declared.kinds.Under.{Under}
use Rattle.mech_rows.specs.declared.kinds.Under.TheVariants.{Pair, Drawn}
use Rattle.mech_rows.specs.declared.kinds.Kind.TheVariants.{Item as an_item}
use Rattle.mech_rows.specs.declared.kinds.Role.TheVariants.{P}
use Rattle.mech_rows.specs.declared.refusal.Refusal.{Refusal}
use Rattle.mech_rows.specs.declared.refusal.Refusal.TheVariants.{WrongShape, WrongNames}
use Rattle.mech_rows.specs.Rows.{kind_of, is_stamp, issuer, has_third, Cover}
use Rattle.mech_rows.specs.Heads.{Head, name_of}
use Rattle.mech_rows.specs.Facts.{same_slot}
use Rattle.mech_rows.specs.Found.{found}
use Rattle.term_values.specs.Same.{same}
use Rattle.term_values.proofs.SameTrees.{same_is}
use Rattle.mech_rows.proofs.RowUse.{same_slot_is}
use Rattle.mech_rows.specs.Runs.{Notes, Keys, HasKind, Extends, Opening, Got, value, part_bytes, key_under, names, body, seen, seen_in}
use Rattle.mech_rows.specs.Steps.{ItemBy, ItemsAre, openings, got_of, got_of_slots, stamp_in}
use Rattle.mech_rows.specs.Verdict.{Noted, Taken, bind, items_of, at, are_kinds, name_kinds, same_names, body_items, note_slot, note_slots, names_of, taken_by, opened_part, tested_part, kept_part, joined, has_kind, are_kept, seens, judged_part, judged_parts}
use Rattle.mech_rows.specs.Lawful.{tested_by, AreNoted, drawn_slots, needed_slots, shown_slots, stands_in, are_ready}
use Rattle.mech_rows.proofs.Reading.{Grows, bind_ok, ok_is, extends_none, extends_more, one_noted, slots_read, picked, two_picked, tuple_of_items, value_is}

-- notes that grow keep what is noted

pub extends_noted : (a b : Notes) (ss : List Slot) → Extends a ss b → AreNoted b ss
extends_noted a b ss e s i = let x = e.noted s i in (x.0, x.1, e.kinds s x.0 i x.1)

pub noted_extends : (a : Notes) (ss : List Slot) → AreNoted a ss → Extends a ss a
noted_extends a ss n = record {
  kept = λ s t e. e;
  noted = λ s i. let x = n s i in (x.0, x.1);
  only = λ s t e. inl e;
  kinds = λ s t i e. kinds_in s t i e;
}
  where
    some_is : (x y : Tree) → Some x ≡ Some y → x ≡ y
    some_is x y e = cc

    kinds_in : (s : Slot) (t : Tree) → Among s ss → a s ≡ Some t → HasKind (kind_of s) t
    kinds_in s t i e = let x = n s i in subst (HasKind (kind_of s)) (some_is x.0 t (sym x.1 ∙ e)) x.2

pub noted_grows : (a b : Notes) (ss : List Slot) → AreNoted a ss → Grows a b → AreNoted b ss
noted_grows a b ss n g s i = let x = n s i in (x.0, g s x.0 x.1, x.2)

pub noted_more : (a : Notes) (ss us : List Slot) → AreNoted a ss → AreNoted a us → AreNoted a (ss ++ us)
noted_more a ss us n m s i = go (among_append ss us s i)
  where
    go : Among s ss ⊎ Among s us → (t : Tree) × (a s ≡ Some t) × HasKind (kind_of s) t
    go (inl j) = n s j
    go (inr j) = m s j

one_same : (a b : Notes) (ss : List Slot) (s : Slot) → AreNoted a ss → Grows a b → Among s ss → value a s ≡ value b s
one_same a b ss s n g i = let x = n s i in value_is a s x.0 x.1 ∙ sym (value_is b s x.0 (g s x.0 x.1))

pub values_same : (a b : Notes) (ss : List Slot) → AreNoted a ss → Grows a b → map (value a) ss ≡ map (value b) ss
values_same a b [] n g = refl
values_same a b (s ∷ ss) n g = ap₂ (λ (x : Tree) (xs : List Tree). x ∷ xs) (one_same a b (s ∷ ss) s n g (inl refl)) (values_same a b ss (λ u i. n u (inr i)) g)

pub key_same : (keys : Keys) (h : Head) (a b : Notes) (under : Under) → AreNoted a (drawn_slots under) → Grows a b → key_under keys h a under ≡ key_under keys h b under
key_same keys h a b (Pair x y) n g = refl
key_same keys h a b Drawn n g = ap (λ (v : Tree). One (part_bytes v)) (one_same a b (Fa ∷ []) Fa n g (inl refl))

got_same : (h : Head) (old a b : Notes) (t : Bytes) (ss : List Slot) → AreNoted a ss → Grows a b → got_of_slots h old a t ss ≡ got_of_slots h old b t ss
got_same h old a b t [] n g = refl
got_same h old a b t (s ∷ ss) n g =
    ap₂ (λ (v : Tree) (rest : List Got). if is_stamp (kind_of s) && is_none (old s) then record { slot = s; sender = name_of h (issuer s); tagged = t; stamp = stamp_in v } ∷ rest else rest)
    (one_same a b (s ∷ ss) s n g (inl refl))
    (got_same h old a b t ss (λ u i. n u (inr i)) g)

-- what a body was

names_read : (ts : List Tree) (k : ℕ) (ns : List ℕ) → same_names ts k ns ≡ true → picked ts k ns ≡ map name ns
names_read ts k [] e = refl
names_read ts k (n ∷ ns) e = ap₂ (λ (x : Tree) (xs : List Tree). x ∷ xs) (same_is (at ts k) (name n) (and_left (same (at ts k) (name n)) (same_names ts (suc k) ns) e)) (names_read ts (suc k) ns (and_right (same (at ts k) (name n)) (same_names ts (suc k) ns) e))

pub names_are : (h : Head) → names h ≡ map name (names_of h)
names_are h = go (has_third h.mech)
  where
    go : (b : Bool) → (if b then name h.a ∷ name h.b ∷ name (name_of h P) ∷ [] else name h.a ∷ name h.b ∷ []) ≡ map name (if b then h.a ∷ h.b ∷ name_of h P ∷ [] else h.a ∷ h.b ∷ [])
    go true = refl
    go false = refl

pub record BodyRead (t : Bytes) (ns : List ℕ) (ss : List Slot) (b : Tree) (ts : List Tree) : Type 0 where
  pub is : b ≡ tuple (trees (tag t ∷ (map name ns ++ picked ts (length ns + 1) ss)))
  pub kinds : are_kinds ts (length ns + 1) ss ≡ true

pub body_read : (t : Bytes) (ns : List ℕ) (ss : List Slot) (place : ℕ) (b : Tree) (ts : List Tree) → body_items t ns ss place b ≡ Ok ts → BodyRead t ns ss b ts
body_read t ns ss place b ts e = go _ refl _ refl e
  where
    us : List Tree
    us = items_of b

    shape : Bool
    shape = same (at us 0) (tag t) && ((length us == length ns + length ss + 1) && (name_kinds us 1 ns && are_kinds us (length ns + 1) ss))

    read : shape ≡ true → same_names us 1 ns ≡ true → BodyRead t ns ss b us
    read x y =
        let first = same_is (at us 0) (tag t) (and_left (same (at us 0) (tag t)) _ x) in
        let rest = and_right (same (at us 0) (tag t)) _ x in
        let long = eqb-true (length us) (length ns + length ss + 1) (and_left (length us == length ns + length ss + 1) _ rest) in
        let kinds = and_right (length us == length ns + length ss + 1) _ rest in
        record {
          is = tuple_of_items b t first ∙ ap (λ (xs : List Tree). tuple (trees xs)) (drop-cons us 0 (tuple none) (omega (arith, long)) ∙ ap₂ (λ (x : Tree) (xs : List Tree). x ∷ xs) first (two_picked us 1 ns ss long ∙ ap (λ (xs : List Tree). xs ++ picked us (length ns + 1) ss) (names_read us 1 ns y)));
          kinds = and_right (name_kinds us 1 ns) (are_kinds us (length ns + 1) ss) kinds;
        }

    go : (x : Bool) → shape ≡ x → (y : Bool) → same_names us 1 ns ≡ y → ◌≡◌ {A = Result (List Tree) Refusal} (if x then if y then Ok us else Err (WrongNames place) else Err (WrongShape place)) (Ok ts) → BodyRead t ns ss b ts
    go true x true y f = subst (BodyRead t ns ss b) (ok_is us ts f) (read x y)
    go true x false y f = absurd cc
    go false x y z f = absurd cc

-- an item that is only kept is short
pub kept_first : (ts : List Tree) (k : ℕ) (b : Bool) (bs : List Bool) → are_kept ts k (b ∷ bs) ≡ true → (b ≡ false → length_of (at ts k) ≤ 4096) × (are_kept ts (suc k) bs ≡ true)
kept_first ts k true bs e = ((λ f. absurd cc), e)
kept_first ts k false bs e = ((λ f. leb-true (length_of (at ts k)) 4096 (and_left (has_kind an_item (at ts k)) (are_kept ts (suc k) bs) e)), and_right (has_kind an_item (at ts k)) (are_kept ts (suc k) bs) e)

abbrev cover : Bool → Under → Bytes → List Slot → Bool → Bool → Cover
cover b under t ss m s = record { is_check = b; under = under; tagged = t; slots = ss; made = m; seen = s }

module _ (opens : Key → Tree → Option Tree) (checks : Key → Tree → Tree → Bool) (keys : Keys) (h : Head) (old : Noted) where
  abbrev pub Shows : Notes → Cover → Tree → Taken → Type 0
  Shows n c u new =
      ItemBy c.seen (tested_by opens checks) keys h n c u
      × (new.opened ≡ openings keys h n seen (c ∷ []) (u ∷ []))
      × (new.got ≡ (if c.seen then got_of_slots h (found old) n c.tagged c.slots else []))

  abbrev pub PartRead : Cover → Tree → Noted → Taken → Type 0
  PartRead c u ns new = Extends (found ns) (shown_slots c) (found new.notes) × ((n : Notes) → Grows (found new.notes) n → Shows n c u new)

  seal_read : (under : Under) (t : Bytes) (ss : List Slot) (m : Bool) (place : ℕ) (u : Tree) (ns : Noted) (new : Taken) → judged_part opens checks keys h old place (cover false under t ss m true) u ns ≡ Ok new → AreNoted (found ns) (drawn_slots under) → PartRead (cover false under t ss m true) u ns new
  seal_read under t ss m place u ns new e known = go (opens key u) refl e
    where
      c : Cover
      c = cover false under t ss m true

      key : Key
      key = key_under keys h (found ns) under

      read : (b : Tree) → opens key u ≡ Some b → (ts : List Tree) → body_items t (names_of h) ss place b ≡ Ok ts → (nn : Noted) → note_slots place ts (length (names_of h) + 1) ss ns ≡ Ok nn → PartRead c u ns (taken_by h old c nn key u b)
      read b is ts f nn g =
          let bodied = body_read t (names_of h) ss place b ts f in
          let slots = slots_read place ts (length (names_of h) + 1) ss ns nn g bodied.kinds in (
            slots.0,
            λ n grows.
                let b_is : b ≡ body h n c = bodied.is ∙ ap₂ (λ (xs ys : List Tree). tuple (trees (tag t ∷ (xs ++ ys)))) (sym (names_are h)) (sym (slots.1 n grows)) in
                let key_is = key_same keys h (found ns) n under known (λ s x y. grows s x (slots.0.kept s x y)) in (
                  sym (ap (λ (k : Key). opens k u) key_is) ∙ (is ∙ ap Some b_is),
                  ap₂ (λ (k : Key) (x : Tree). record { key = k; item = u; body = x } ∷ []) key_is b_is,
                  got_same h (found old) (found nn) n t ss (extends_noted (found ns) (found nn) ss slots.0) grows,
                ),
          )

      go : (o : Option Tree) → opens key u ≡ o → opened_part h old place c ns key u o ≡ Ok new → PartRead c u ns new
      go None is f = absurd cc
      go (Some b) is f =
          let one = bind_ok (body_items t (names_of h) ss place b) (λ ts. bind (note_slots place ts (length (names_of h) + 1) ss ns) (λ nn. Ok (taken_by h old c nn key u b))) new f in
          let two = bind_ok (note_slots place one.0 (length (names_of h) + 1) ss ns) (λ nn. Ok (taken_by h old c nn key u b)) new one.2 in
          subst (PartRead c u ns) (ok_is (taken_by h old c two.0 key u b) new two.2) (read b is one.0 one.1 two.0 two.1)

  check_read : (under : Under) (t : Bytes) (ss : List Slot) (m : Bool) (place : ℕ) (u : Tree) (ns : Noted) (new : Taken) → judged_part opens checks keys h old place (cover true under t ss m true) u ns ≡ Ok new → AreNoted (found ns) (drawn_slots under) → AreNoted (found ns) ss → PartRead (cover true under t ss m true) u ns new
  check_read under t ss m place u ns new e known there = go (checks key shown u) refl e
    where
      c : Cover
      c = cover true under t ss m true

      key : Key
      key = key_under keys h (found ns) under

      shown : Tree
      shown = body h (found ns) c

      read : checks key shown u ≡ true → PartRead c u ns (taken_by h old c ns key u shown)
      read is = (
        noted_extends (found ns) ss there,
        λ n grows.
            let shown_is : shown ≡ body h n c = ap (λ (xs : List Tree). tuple (trees (tag t ∷ (names h ++ xs)))) (values_same (found ns) n ss there grows) in
            let key_is = key_same keys h (found ns) n under known grows in (
              sym (ap₂ (λ (k : Key) (x : Tree). checks k x u) key_is shown_is) ∙ is,
              ap₂ (λ (k : Key) (x : Tree). record { key = k; item = u; body = x } ∷ []) key_is shown_is,
              got_same h (found old) (found ns) n t ss there grows,
            ),
      )

      go : (b : Bool) → checks key shown u ≡ b → tested_part h old place c ns key u shown b ≡ Ok new → PartRead c u ns new
      go true is f = subst (PartRead c u ns) (ok_is (taken_by h old c ns key u shown) new f) (read is)
      go false is f = absurd cc

  kept_read : (b : Bool) (under : Under) (t : Bytes) (ss : List Slot) (m : Bool) (place : ℕ) (u : Tree) (ns : Noted) (new : Taken) → kept_part place ns u ≡ Ok new → length_of u ≤ 4096 → PartRead (cover b under t ss m false) u ns new
  kept_read b under t ss m place u ns new e short =
      let one = bind_ok (note_slot place Fwd u ns (found ns Fwd)) (λ nn. Ok (record { notes = nn; opened = []; got = [] })) new e in
      let two = one_noted place Fwd u ns one.0 one.1 short in
      subst (PartRead (cover b under t ss m false) u ns) (ok_is (record { notes = one.0; opened = []; got = [] }) new one.2)
      (two.0, λ n grows. (sym (value_is n Fwd u (grows Fwd u two.1)), refl, refl))

  fields_read : (b : Bool) (under : Under) (t : Bytes) (ss : List Slot) (m s : Bool) (place : ℕ) (u : Tree) (ns : Noted) (new : Taken) → judged_part opens checks keys h old place (cover b under t ss m s) u ns ≡ Ok new → AreNoted (found ns) (needed_slots (cover b under t ss m s)) → (s ≡ false → length_of u ≤ 4096) → PartRead (cover b under t ss m s) u ns new
  fields_read b under t ss m false place u ns new e known short = kept_read b under t ss m place u ns new e (short refl)
  fields_read false under t ss m true place u ns new e known short = seal_read under t ss m place u ns new e (λ s i. known s (among_left (drawn_slots under) [] s i))
  fields_read true under t ss m true place u ns new e known short = check_read under t ss m place u ns new e (λ s i. known s (among_left (drawn_slots under) ss s i)) (λ s i. known s (among_right (drawn_slots under) ss s i))

  pub part_read : (c : Cover) (place : ℕ) (u : Tree) (ns : Noted) (new : Taken) → judged_part opens checks keys h old place c u ns ≡ Ok new → AreNoted (found ns) (needed_slots c) → (c.seen ≡ false → length_of u ≤ 4096) → PartRead c u ns new
  part_read c = fields_read c.is_check c.under c.tagged c.slots c.made c.seen

  openings_cons : (n : Notes) (c : Cover) (cs : List Cover) (u : Tree) (us : List Tree) → openings keys h n seen (c ∷ cs) (u ∷ us) ≡ openings keys h n seen (c ∷ []) (u ∷ []) ++ openings keys h n seen cs us
  openings_cons n c cs u us = go c.seen (record { key = key_under keys h n c.under; item = u; body = body h n c }) (openings keys h n seen cs us)
    where
      go : (b : Bool) (o : Opening) (os : List Opening) → (if b then o ∷ os else os) ≡ (if b then o ∷ [] else []) ++ os
      go true o os = refl
      go false o os = refl

  pub ready_noted : (n : Notes) (known ss : List Slot) → AreNoted n known → list_all (stands_in known) ss ≡ true → AreNoted n ss
  ready_noted n known ss noted e s i =
      let x = some_among (λ t. same_slot t s) known (all_among (stands_in known) ss e s i) in
      subst (λ (v : Slot). (t : Tree) × (n v ≡ Some t) × HasKind (kind_of v) t) (same_slot_is x.0 s x.2) (noted x.0 x.1)

  abbrev pub PartsShow : Notes → List Cover → List Tree → Taken → Taken → Type 0
  PartsShow n cs us before after =
      ItemsAre (tested_by opens checks) keys h n seen cs us
      × (after.opened ≡ before.opened ++ openings keys h n seen cs us)
      × (after.got ≡ before.got ++ got_of h (found old) n cs)

  pub parts_read : (place : ℕ) (ts : List Tree) (k : ℕ) (cs : List Cover) (before after : Taken) (known : List Slot) → judged_parts opens checks keys h old place ts k cs before ≡ Ok after → AreNoted (found before.notes) known → are_ready known cs ≡ true → are_kept ts k (seens cs) ≡ true → Extends (found before.notes) (seen_in cs) (found after.notes) × ((n : Notes) → Grows (found after.notes) n → PartsShow n cs (picked ts k cs) before after)
  parts_read place ts k [] before after known e noted ready kept =
      let is = ok_is before after e in (
        subst (λ (x : Taken). Extends (found before.notes) [] (found x.notes)) is (extends_none (found before.notes)),
        λ n grows. (refl, ap (λ (x : Taken). x.opened) (sym is) ∙ sym (append-nil before.opened), ap (λ (x : Taken). x.got) (sym is) ∙ sym (append-nil before.got)),
      )
  parts_read place ts k (c ∷ cs) before after known e noted ready kept =
      let split = bind_ok (judged_part opens checks keys h old place c (at ts k) before.notes) (λ new. judged_parts opens checks keys h old (suc place) ts (suc k) cs (joined before new)) after e in
      let new = split.0 in
      let needed = ready_noted (found before.notes) known (needed_slots c) noted (and_left (list_all (stands_in known) (needed_slots c)) (are_ready (known ++ shown_slots c) cs) ready) in
      let one = part_read c place (at ts k) before.notes new split.1 needed (kept_first ts k c.seen (seens cs) kept).0 in
      let more = noted_more (found new.notes) known (shown_slots c) (noted_grows (found before.notes) (found new.notes) known noted one.0.kept) (extends_noted (found before.notes) (found new.notes) (shown_slots c) one.0) in
      let rest = parts_read (suc place) ts (suc k) cs (joined before new) after (known ++ shown_slots c) split.2 more (and_right (list_all (stands_in known) (needed_slots c)) (are_ready (known ++ shown_slots c) cs) ready) (kept_first ts k c.seen (seens cs) kept).1 in (
        extends_more (found before.notes) (found new.notes) (found after.notes) (shown_slots c) (seen_in cs) one.0 rest.0,
        λ n grows.
            let r = rest.1 n grows in
            let o = one.1 n (λ s x y. grows s x (rest.0.kept s x y)) in
            let us = picked ts (suc k) cs in (
              (o.0, r.0),
              r.1 ∙ (append_assoc before.opened new.opened (openings keys h n seen cs us) ∙ ap (λ (xs : List Opening). before.opened ++ xs) (ap (λ (ys : List Opening). ys ++ openings keys h n seen cs us) o.1 ∙ sym (openings_cons n c cs (at ts k) us))),
              r.2 ∙ (append_assoc before.got new.got (got_of h (found old) n cs) ∙ ap (λ (xs : List Got). before.got ++ (xs ++ got_of h (found old) n cs)) o.2),
            ),
      )
