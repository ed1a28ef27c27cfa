-- A message that the run welcomes is taken, with these notes.
use Rattle.std.proofs.Common.{◌≡◌, ◌==◌, ◌+◌, ◌≤◌, ℕ, suc, Bool, true, false, ◌&&◌, ◌⊎◌, inl, inr, List, [], ◌∷◌, ◌++◌, map, length, Option, Some, None, Result, Ok, Err, if◌then◌else◌, refl, sym, ap, ap₂, subst, ◌∙◌, arith, eq-eqb}
use Rattle.std.specs.List.{list_all}
use Rattle.std.proofs.lemmas.Bool.{le-leb}
use Rattle.std.proofs.lemmas.List.{append-nil, length-append, length-map}
use Rattle.term_values.specs.Trees.{Among, Bytes, Tree, name, tag, tuple, trees}
use Rattle.term_values.specs.Lengths.{length_of}
use Rattle.term_values.specs.declared.small.Key.{Key}
use Rattle.term_values.proofs.Lists.{among_left, among_right, and_left, and_right, and_both}
use Rattle.term_values.proofs.Trees.{untrees_trees}
use Rattle.mech_rows.specs.declared.kinds.Mech.{Mech}
use Rattle.mech_rows.specs.declared.kinds.Slot.{Slot}
use Rattle.mech_rows.specs.declared.kinds.Slot.TheVariants.{Fwd}
use Rattle.mech_rows.specs.declared.kinds.Under.{Under}
use Rattle.mech_rows.specs.declared.kinds.Kind.{Kind}
use Rattle.mech_rows.specs.declared.kinds.Kind.TheVariants.{Nonce as a_nonce, Stamp as a_stamp, Part as a_part, Text as a_text, Item as an_item}
use Rattle.mech_rows.specs.declared.refusal.Refusal.{Refusal}
use Rattle.mech_rows.specs.declared.refusal.Refusal.TheVariants.{WrongPass, WrongShape, WrongNames, TextRefused}
use Rattle.mech_rows.specs.Rows.{kind_of, tag_of, Cover, Pass, row_of}
use Rattle.mech_rows.specs.Heads.{Head}
use Rattle.mech_rows.specs.Found.{found}
use Rattle.term_values.specs.Same.{same}
use Rattle.term_values.proofs.SameTrees.{same_refl}
use Rattle.mech_rows.specs.Runs.{Notes, Keys, Opening, Got, Extends, nth, value, noted_or_empty, clear_item, clear_slots, key_under, names, body, seen, seen_in, seen_slots}
use Rattle.mech_rows.specs.Steps.{ItemBy, ItemsAre, openings, got_of}
use Rattle.mech_rows.specs.Verdict.{Noted, State, Taken, bind, at, has_kind, is_name, are_kinds, are_clear, are_kept, clear_names, name_kinds, same_names, message_items, body_items, note_slots, note_clear, names_of, taken_by, opened_part, tested_part, joined, seens, judged_part, judged_parts, read_slots, text_bytes, text_refusal, refused_text, unless, on_pass, verdict}
use Rattle.mech_rows.specs.Lawful.{tested_by, acted_slots, AreNoted, IsWelcome, Receives, TextsAllowed, drawn_slots, needed_slots, shown_slots, stands_in, are_ready}
use Rattle.mech_rows.proofs.Reading.{Grows, ok_is, extends_more, clear_read, picked, value_is}
use Rattle.mech_rows.proofs.Parts.{extends_noted, noted_grows, noted_more, values_same, key_same, names_are, part_read, parts_read, ready_noted, kept_first, PartsShow}
use Rattle.mech_rows.proofs.VerdictFits.{after_parts, after_clear, after_items, judged_at}
use Rattle.mech_rows.proofs.Taking.{plain, plain_pass, plain_at, picked_here, one_taken, slots_taken, slots_kinds, clear_taken, clear_kinds}

-- bodies

names_taken : (ts : List Tree) (k : ℕ) (ns : List ℕ) → map name ns ≡ picked ts k ns → (name_kinds ts k ns ≡ true) × (same_names ts k ns ≡ true)
names_taken ts k [] e = (refl, refl)
names_taken ts k (n ∷ ns) e =
    let first : name n ≡ at ts k = cc in
    let others : map name ns ≡ picked ts (suc k) ns = cc in
    let rest = names_taken ts (suc k) ns others in (
      and_both (is_name (at ts k)) (name_kinds ts (suc k) ns) (subst (λ (u : Tree). is_name u ≡ true) first refl) rest.0,
      and_both (same (at ts k) (name n)) (same_names ts (suc k) ns) (same_refl (at ts k) (name n) (sym first)) rest.1,
    )

two_tests : {X : Type 0} (x y : Bool) (u d e : Result X Refusal) → x ≡ true → y ≡ true → (if x then if y then u else d else e) ≡ u
two_tests true true u d e f g = refl
two_tests true false u d e f g = absurd cc
two_tests false y u d e f g = absurd cc

three_tests : {X : Type 0} (x y z : Bool) (u c d e : Result X Refusal) → x ≡ true → y ≡ true → z ≡ true → (if x then if y then if z then u else c else d else e) ≡ u
three_tests true true true u c d e f g h = refl
three_tests true true false u c d e f g h = absurd cc
three_tests true false z u c d e f g h = absurd cc
three_tests false y z u c d e f g h = absurd cc

abbrev body_list : Bytes → List ℕ → List Tree → List Tree
body_list t ns vs = tag t ∷ (map name ns ++ vs)

names_at : (t : Bytes) (ns : List ℕ) (vs : List Tree) → picked (body_list t ns vs) 1 ns ≡ map name ns
names_at t ns vs = picked_here (tag t ∷ []) (map name ns) vs ns (length-map ns name)

slots_at : (t : Bytes) (ns : List ℕ) (vs : List Tree) (ss : List Slot) → length vs ≡ length ss → picked (body_list t ns vs) (length ns + 1) ss ≡ vs
slots_at t ns vs ss e =
    let place : length ns + 1 ≡ length (tag t ∷ map name ns) = omega (arith, length-map ns name) in
    ap₂ (λ (us : List Tree) (k : ℕ). picked (tag t ∷ (map name ns ++ us)) k ss) (sym (append-nil vs)) place ∙ picked_here (tag t ∷ map name ns) vs [] ss e

body_taken : (t : Bytes) (ns : List ℕ) (ss : List Slot) (place : ℕ) (n : Notes) → list_all plain ss ≡ true → AreNoted n ss → body_items t ns ss place (tuple (trees (body_list t ns (map (value n) ss)))) ≡ Ok (body_list t ns (map (value n) ss))
body_taken t ns ss place n p noted =
    subst (λ (us : List Tree). (if same (at us 0) (tag t) && ((length us == length ns + length ss + 1) && (name_kinds us 1 ns && are_kinds us (length ns + 1) ss)) then if same_names us 1 ns then Ok us else Err (WrongNames place) else Err (WrongShape place)) ≡ Ok (body_list t ns (map (value n) ss))) (sym (untrees_trees (body_list t ns (map (value n) ss)))) made
  where
    vs : List Tree
    vs = map (value n) ss

    us : List Tree
    us = body_list t ns vs

    long : length us ≡ length ns + length ss + 1
    long = omega (arith, length-append (map name ns) vs, length-map ns name, length-map ss (value n))

    read : (name_kinds us 1 ns ≡ true) × (same_names us 1 ns ≡ true)
    read = names_taken us 1 ns (sym (names_at t ns vs))

    kinds : are_kinds us (length ns + 1) ss ≡ true
    kinds = slots_kinds us (length ns + 1) ss n p noted (sym (slots_at t ns vs ss (length-map ss (value n))))

    shape : same (at us 0) (tag t) && ((length us == length ns + length ss + 1) && (name_kinds us 1 ns && are_kinds us (length ns + 1) ss)) ≡ true
    shape = and_both (same (at us 0) (tag t)) _ (same_refl (tag t) (tag t) refl) (and_both (length us == length ns + length ss + 1) _ (eq-eqb (length us) (length ns + length ss + 1) long) (and_both (name_kinds us 1 ns) (are_kinds us (length ns + 1) ss) read.0 kinds))

    made : (if same (at us 0) (tag t) && ((length us == length ns + length ss + 1) && (name_kinds us 1 ns && are_kinds us (length ns + 1) ss)) then if same_names us 1 ns then Ok us else Err (WrongNames place) else Err (WrongShape place)) ≡ Ok us
    made = two_tests _ _ (Ok us) (Err (WrongNames place)) (Err (WrongShape place)) shape read.1

abbrev cover : Bool → Under → Bytes → List Slot → Bool → Bool → Cover
cover b under t ss m s = record { is_check = b; under = under; tagged = t; slots = ss; made = m; seen = s }

module _ (opens : Key → Tree → Option Tree) (checks : Key → Tree → Tree → Bool) (keys : Keys) (h : Head) (old : Noted) (n : Notes) where
  abbrev pub Taking : Cover → ℕ → Tree → Noted → Type 0
  Taking c place u ns = (new : Taken) × (judged_part opens checks keys h old place c u ns ≡ Ok new) × Grows (found new.notes) n

  seal_taken : (under : Under) (t : Bytes) (ss : List Slot) (m : Bool) (place : ℕ) (u : Tree) (ns : Noted) → Grows (found ns) n → AreNoted (found ns) (drawn_slots under) → AreNoted n ss → list_all plain ss ≡ true → opens (key_under keys h n under) u ≡ Some (body h n (cover false under t ss m true)) → Taking (cover false under t ss m true) place u ns
  seal_taken under t ss m place u ns grows known noted p is =
      let shown : Tree = tuple (trees us) in
      let shown_is : body h n c ≡ tuple (trees us) = ap (λ (xs : List Tree). tuple (trees (tag t ∷ (xs ++ map (value n) ss)))) (names_are h) in
      let opened : opens key u ≡ Some (tuple (trees us)) = ap (λ (k : Key). opens k u) (key_same keys h (found ns) n under known grows) ∙ (is ∙ ap Some shown_is) in
      let slots = slots_taken place us (length (names_of h) + 1) ss ns n grows noted (sym (slots_at t (names_of h) (map (value n) ss) ss (length-map ss (value n)))) in (
        taken_by h old c slots.0 key u (tuple (trees us)),
        ap (opened_part h old place c ns key u) opened
            ∙ (ap (λ (r : Result (List Tree) Refusal). bind r (λ ts. bind (note_slots place ts (length (names_of h) + 1) ss ns) (λ nn. Ok (taken_by h old c nn key u (tuple (trees us)))))) (body_taken t (names_of h) ss place n p noted)
            ∙ ap (λ (r : Result Noted Refusal). bind r (λ nn. Ok (taken_by h old c nn key u (tuple (trees us))))) slots.1),
        slots.2,
      )
    where
      c : Cover
      c = cover false under t ss m true

      key : Key
      key = key_under keys h (found ns) under

      us : List Tree
      us = body_list t (names_of h) (map (value n) ss)

  check_taken : (under : Under) (t : Bytes) (ss : List Slot) (m : Bool) (place : ℕ) (u : Tree) (ns : Noted) → Grows (found ns) n → AreNoted (found ns) (drawn_slots under) → AreNoted (found ns) ss → checks (key_under keys h n under) (body h n (cover true under t ss m true)) u ≡ true → Taking (cover true under t ss m true) place u ns
  check_taken under t ss m place u ns grows known there is =
      let shown_is : shown ≡ body h n c = ap (λ (xs : List Tree). tuple (trees (tag t ∷ (names h ++ xs)))) (values_same (found ns) n ss there grows) in
      let passes : checks key shown u ≡ true = ap₂ (λ (k : Key) (x : Tree). checks k x u) (key_same keys h (found ns) n under known grows) shown_is ∙ is in
      (taken_by h old c ns key u shown, ap (tested_part h old place c ns key u shown) passes, grows)
    where
      c : Cover
      c = cover true under t ss m true

      key : Key
      key = key_under keys h (found ns) under

      shown : Tree
      shown = body h (found ns) c

  kept_taken : (b : Bool) (under : Under) (t : Bytes) (ss : List Slot) (m : Bool) (place : ℕ) (u : Tree) (ns : Noted) → Grows (found ns) n → AreNoted n (Fwd ∷ []) → u ≡ value n Fwd → Taking (cover b under t ss m false) place u ns
  kept_taken b under t ss m place u ns grows noted is =
      let x = noted Fwd (inl refl) in
      let there : n Fwd ≡ Some u = x.1 ∙ ap Some (sym (value_is n Fwd x.0 x.1) ∙ sym is) in
      let one = one_taken place Fwd u ns n grows there in
      (record { notes = one.0; opened = []; got = [] }, ap (λ (r : Result Noted Refusal). bind r (λ nn. Ok (record { notes = nn; opened = []; got = [] }))) one.1, one.2)

  fields_taken : (b : Bool) (under : Under) (t : Bytes) (ss : List Slot) (m s : Bool) (place : ℕ) (u : Tree) (ns : Noted) → Grows (found ns) n → AreNoted (found ns) (needed_slots (cover b under t ss m s)) → AreNoted n (shown_slots (cover b under t ss m s)) → list_all plain ss ≡ true → ItemBy s (tested_by opens checks) keys h n (cover b under t ss m s) u → Taking (cover b under t ss m s) place u ns
  fields_taken b under t ss m false place u ns grows known noted p is = kept_taken b under t ss m place u ns grows noted is
  fields_taken false under t ss m true place u ns grows known noted p is = seal_taken under t ss m place u ns grows (λ s i. known s (among_left (drawn_slots under) [] s i)) noted p is
  fields_taken true under t ss m true place u ns grows known noted p is = check_taken under t ss m place u ns grows (λ s i. known s (among_left (drawn_slots under) ss s i)) (λ s i. known s (among_right (drawn_slots under) ss s i)) is

  pub part_taken : (c : Cover) (place : ℕ) (u : Tree) (ns : Noted) → Grows (found ns) n → AreNoted (found ns) (needed_slots c) → AreNoted n (shown_slots c) → list_all plain c.slots ≡ true → ItemBy c.seen (tested_by opens checks) keys h n c u → Taking c place u ns
  part_taken c = fields_taken c.is_check c.under c.tagged c.slots c.made c.seen

  pub parts_taken : (place : ℕ) (ts : List Tree) (k : ℕ) (cs : List Cover) (before : Taken) (known : List Slot) → Grows (found before.notes) n → AreNoted n (seen_in cs) → list_all (λ (c : Cover). list_all plain c.slots) cs ≡ true → ItemsAre (tested_by opens checks) keys h n seen cs (picked ts k cs) → AreNoted (found before.notes) known → are_ready known cs ≡ true → are_kept ts k (seens cs) ≡ true → (after : Taken) × (judged_parts opens checks keys h old place ts k cs before ≡ Ok after) × Grows (found after.notes) n
  parts_taken place ts k [] before known grows noted p items there ready kept = (before, refl, grows)
  parts_taken place ts k (c ∷ cs) before known grows noted p items there ready kept =
      let needed = ready_noted opens checks keys h old (found before.notes) known (needed_slots c) there (and_left (list_all (stands_in known) (needed_slots c)) (are_ready (known ++ shown_slots c) cs) ready) in
      let one = part_taken c place (at ts k) before.notes grows needed (λ s i. noted s (among_left (shown_slots c) (seen_in cs) s i)) (and_left (list_all plain c.slots) (list_all (λ (d : Cover). list_all plain d.slots) cs) p) items.0 in
      let read = part_read opens checks keys h old c place (at ts k) before.notes one.0 one.1 needed (kept_first ts k c.seen (seens cs) kept).0 in
      let more = noted_more (found one.0.notes) known (shown_slots c) (noted_grows (found before.notes) (found one.0.notes) known there read.0.kept) (extends_noted (found before.notes) (found one.0.notes) (shown_slots c) read.0) in
      let rest = parts_taken (suc place) ts (suc k) cs (joined before one.0) (known ++ shown_slots c) one.2 (λ s i. noted s (among_right (shown_slots c) (seen_in cs) s i)) (and_right (list_all plain c.slots) (list_all (λ (d : Cover). list_all plain d.slots) cs) p) items.1 more (and_right (list_all (stands_in known) (needed_slots c)) (are_ready (known ++ shown_slots c) cs) ready) (kept_first ts k c.seen (seens cs) kept).1 in
      (rest.0, ap (λ (r : Result Taken Refusal). bind r (λ new. judged_parts opens checks keys h old (suc place) ts (suc k) cs (joined before new))) one.1 ∙ rest.1, rest.2)

-- the message as a whole

items_long : (opens : Key → Tree → Option Tree) (checks : Key → Tree → Tree → Bool) (keys : Keys) (h : Head) (n : Notes) (cs : List Cover) (us : List Tree) → ItemsAre (tested_by opens checks) keys h n seen cs us → length us ≡ length cs
items_long opens checks keys h n [] us e = ap length e
items_long opens checks keys h n (c ∷ cs) [] e = absurd e
items_long opens checks keys h n (c ∷ cs) (u ∷ us) e = omega (arith, items_long opens checks keys h n cs us e.1)

seens_long : (cs : List Cover) → length (seens cs) ≡ length cs
seens_long [] = refl
seens_long (c ∷ cs) = omega (arith, seens_long cs)

kept_item : (b : Bool) (opens : Key → Tree → Option Tree) (checks : Key → Tree → Tree → Bool) (keys : Keys) (h : Head) (n : Notes) (c : Cover) (u : Tree) → ItemBy b (tested_by opens checks) keys h n c u → b ≡ false → u ≡ value n Fwd
kept_item true opens checks keys h n c u i f = absurd cc
kept_item false opens checks keys h n c u i f = i

-- an item that is only kept has at most 4,096 bytes
abbrev KeptShort : Notes → List Cover → Type 0
KeptShort notes cs = (c : Cover) → Among c cs → c.seen ≡ false → length_of (value notes Fwd) ≤ 4096

fwd_short : (n : Notes) (b : Bool) (ss : List Slot) → AreNoted n (if b then ss else Fwd ∷ []) → b ≡ false → length_of (value n Fwd) ≤ 4096
fwd_short n true ss noted f = absurd cc
fwd_short n false ss noted f = let x = noted Fwd (inl refl) in subst (λ (v : Tree). length_of v ≤ 4096) (sym (value_is n Fwd x.0 x.1)) x.2

kept_noted : (n : Notes) (cs : List Cover) → AreNoted n (seen_in cs) → KeptShort n cs
kept_noted n [] noted d i off = absurd i
kept_noted n (c ∷ cs) noted d (inl is) off = fwd_short n c.seen c.slots (λ s i. noted s (among_left (shown_slots c) (seen_in cs) s i)) (ap seen (sym is) ∙ off)
kept_noted n (c ∷ cs) noted d (inr i) off = kept_noted n cs (λ s j. noted s (among_right (shown_slots c) (seen_in cs) s j)) d i off

kept_step : (ts : List Tree) (k : ℕ) (b : Bool) (bs : List Bool) → (b ≡ false → length_of (at ts k) ≤ 4096) → are_kept ts (suc k) bs ≡ true → are_kept ts k (b ∷ bs) ≡ true
kept_step ts k true bs f e = e
kept_step ts k false bs f e = and_both (has_kind an_item (at ts k)) (are_kept ts (suc k) bs) (le-leb (length_of (at ts k)) 4096 (f refl)) e

kept_made : (opens : Key → Tree → Option Tree) (checks : Key → Tree → Tree → Bool) (keys : Keys) (h : Head) (n : Notes) (ts : List Tree) (k : ℕ) (cs : List Cover) → KeptShort n cs → ItemsAre (tested_by opens checks) keys h n seen cs (picked ts k cs) → are_kept ts k (seens cs) ≡ true
kept_made opens checks keys h n ts k [] short items = refl
kept_made opens checks keys h n ts k (c ∷ cs) short items =
    kept_step ts k c.seen (seens cs) (λ off. subst (λ (v : Tree). length_of v ≤ 4096) (sym (kept_item c.seen opens checks keys h n c (at ts k) items.0 off)) (short c (inl refl) off))
    (kept_made opens checks keys h n ts (suc k) cs (λ d i off. short d (inr i) off) items.1)

text_step : (k : Kind) (s : Slot) (ok : Bool) (rest : Option Refusal) → (k ≡ a_text → ok ≡ true) → rest ≡ None → text_refusal k s ok rest ≡ None
text_step a_text s ok rest f e = ap (λ (b : Bool). if b then rest else Some (TextRefused s)) (f refl) ∙ e
text_step a_nonce s ok rest f e = e
text_step a_stamp s ok rest f e = e
text_step a_part s ok rest f e = e
text_step an_item s ok rest f e = e

texts_made : (allowed : Mech → Slot → Bytes → Bool) (m : Mech) (after : Noted) (n : Notes) (ss : List Slot) → ((u : Slot) → found after u ≡ n u) → TextsAllowed allowed m n ss → refused_text allowed m after ss ≡ None
texts_made allowed m after n [] same texts = refl
texts_made allowed m after n (s ∷ ss) same texts =
    text_step (kind_of s) s (allowed m s (text_bytes (value (found after) s))) (refused_text allowed m after ss)
    (λ f. ap (λ (v : Option Tree). allowed m s (text_bytes (noted_or_empty v))) (same s) ∙ texts s (inl refl) f)
    (texts_made allowed m after n ss same (λ u i f. texts u (inr i) f))

pub same_notes : (before after n : Notes) (ss : List Slot) → Extends before ss after → Extends before ss n → Grows after n → (u : Slot) → after u ≡ n u
same_notes before after n ss made given grows u = go (after u) refl
  where
    there : (y : Tree) → (before u ≡ Some y) ⊎ Among u ss → (t : Tree) × (after u ≡ Some t)
    there y (inl e) = (y, made.kept u y e)
    there y (inr i) = made.noted u i

    none_some : {X : Type 0} (t : Tree) → after u ≡ None → after u ≡ Some t → X
    none_some t e f = let bad : None ≡ Some t = sym e ∙ f in absurd cc

    last : after u ≡ None → (o : Option Tree) → n u ≡ o → after u ≡ n u
    last e None f = e ∙ sym f
    last e (Some y) f = let x = there y (given.only u y f) in none_some x.0 e x.1

    go : (o : Option Tree) → after u ≡ o → after u ≡ n u
    go (Some x) e = e ∙ sym (grows u x e)
    go None e = last e (n u) refl

-- what fits, at the pass that is the next one
pub record Pieces (opens : Key → Tree → Option Tree) (checks : Key → Tree → Tree → Bool) (keys : Keys) (s : State) (m : Tree) (n : Notes) (o : List Opening) (g : List Got) (p : Pass) : Type 0 where
  pub extends : Extends (found s.notes) (seen_slots p) n
  pub items : List Tree
  pub is : m ≡ tuple (trees (tag (tag_of s.head.mech (suc s.next) 0) ∷ (map (clear_item s.head n) p.clear ++ items)))
  pub each : ItemsAre (tested_by opens checks) keys s.head n seen p.covers items
  pub opened : o ≡ openings keys s.head n seen p.covers items
  pub got : g ≡ got_of s.head (found s.notes) n p.covers

pass_is : (x : Option Pass) (p q : Pass) → x ≡ Some p → x ≡ Some q → p ≡ q
pass_is x p q e f = let both : Some p ≡ Some q = sym e ∙ f in cc

abbrev pub Verdicts : (Key → Tree → Option Tree) → (Key → Tree → Tree → Bool) → (Mech → Slot → Bytes → Bool) → Keys → State → Tree → Notes → List Opening → List Got → Type 0
Verdicts opens checks allowed keys s m n o g = (t : Taken) × (verdict opens checks keys allowed s m ≡ Ok t) × ((u : Slot) → found t.notes u ≡ n u) × (t.opened ≡ o) × (t.got ≡ g)

pub verdict_taken : (opens : Key → Tree → Option Tree) (checks : Key → Tree → Tree → Bool) (allowed : Mech → Slot → Bytes → Bool) (keys : Keys) (s : State) (p : Pass) (m : Tree) (n : Notes) (o : List Opening) (g : List Got) → Receives s p → IsWelcome opens checks allowed keys s p m n o g → Verdicts opens checks allowed keys s m n o g
verdict_taken opens checks allowed keys s p m n o g receives w =
    (parts.0, verdict_is, equal, show.1 ∙ (ap (openings keys h n seen p.covers) covers_at ∙ sym piece.opened), show.2 ∙ sym piece.got)
  where
    h : Head
    h = s.head

    first : Bytes
    first = tag_of h.mech (suc s.next) 0

    piece : Pieces opens checks keys s m n o g p
    piece = subst (Pieces opens checks keys s m n o g) (pass_is (nth (row_of s.head.mech) s.next) w.fits.pass p w.fits.at receives.next) (record {
      extends = w.fits.extends;
      items = w.fits.shows.items;
      is = w.fits.shows.is;
      each = w.fits.shows.each;
      opened = w.fits.opens_are;
      got = w.fits.got_is;
    })

    cl : List Tree
    cl = map (clear_item h n) p.clear

    ts : List Tree
    ts = tag first ∷ (cl ++ piece.items)

    noted : AreNoted n (seen_slots p)
    noted = extends_noted (found s.notes) n (seen_slots p) piece.extends

    noted_clear : AreNoted n (clear_slots p.clear)
    noted_clear u i = noted u (among_left (clear_slots p.clear) (seen_in p.covers) u i)

    noted_parts : AreNoted n (seen_in p.covers)
    noted_parts u i = noted u (among_right (clear_slots p.clear) (seen_in p.covers) u i)

    clear_at : picked ts 1 p.clear ≡ cl
    clear_at = picked_here (tag first ∷ []) cl piece.items p.clear (length-map p.clear (clear_item h n))

    many : length piece.items ≡ length p.covers
    many = items_long opens checks keys h n p.covers piece.items piece.each

    covers_at : picked ts (length p.clear + 1) p.covers ≡ piece.items
    covers_at =
        let place : length p.clear + 1 ≡ length (tag first ∷ cl) = omega (arith, length-map p.clear (clear_item h n)) in
        ap₂ (λ (us : List Tree) (k : ℕ). picked (tag first ∷ (cl ++ us)) k p.covers) (sym (append-nil piece.items)) place ∙ picked_here (tag first ∷ cl) piece.items [] p.covers many

    is_plain_pass : plain_pass p ≡ true
    is_plain_pass = plain_at h.mech s.next p receives.next

    plain_clear : list_all plain (clear_slots p.clear) ≡ true
    plain_clear = and_left (list_all plain (clear_slots p.clear)) (list_all (λ (c : Cover). list_all plain c.slots) p.covers) is_plain_pass

    plain_parts : list_all (λ (c : Cover). list_all plain c.slots) p.covers ≡ true
    plain_parts = and_right (list_all plain (clear_slots p.clear)) (list_all (λ (c : Cover). list_all plain c.slots) p.covers) is_plain_pass

    kinds : (are_clear ts 1 p.clear ≡ true) × (clear_names h.b ts 1 p.clear ≡ true)
    kinds = clear_kinds h ts 1 p.clear n plain_clear noted_clear (sym clear_at)

    items_at : ItemsAre (tested_by opens checks) keys h n seen p.covers (picked ts (length p.clear + 1) p.covers)
    items_at = subst (ItemsAre (tested_by opens checks) keys h n seen p.covers) (sym covers_at) piece.each

    kept : are_kept ts (length p.clear + 1) (seens p.covers) ≡ true
    kept = kept_made opens checks keys h n ts (length p.clear + 1) p.covers (kept_noted n p.covers noted_parts) items_at

    long : length ts ≡ length p.clear + length (seens p.covers) + 1
    long = omega (arith, length-append cl piece.items, length-map p.clear (clear_item h n), many, seens_long p.covers)

    shape : (length ts == length p.clear + length (seens p.covers) + 1) && (are_clear ts 1 p.clear && are_kept ts (length p.clear + 1) (seens p.covers)) ≡ true
    shape = and_both (length ts == length p.clear + length (seens p.covers) + 1) _ (eq-eqb (length ts) (length p.clear + length (seens p.covers) + 1) long) (and_both (are_clear ts 1 p.clear) (are_kept ts (length p.clear + 1) (seens p.covers)) kinds.0 kept)

    tests : List Tree → Result (List Tree) Refusal
    tests us =
        if same (at us 0) (tag first) then
        if (length us == length p.clear + length (seens p.covers) + 1) && (are_clear us 1 p.clear && are_kept us (length p.clear + 1) (seens p.covers)) then
        if clear_names h.b us 1 p.clear then Ok us
        else Err (WrongNames 0)
        else Err (WrongShape 0)
        else Err WrongPass

    passed : tests ts ≡ Ok ts
    passed = three_tests (same (at ts 0) (tag first)) _ (clear_names h.b ts 1 p.clear) (Ok ts) (Err (WrongNames 0)) (Err (WrongShape 0)) (Err WrongPass) (same_refl (tag first) (tag first) refl) shape kinds.1

    read : message_items first h.b p.clear (seens p.covers) m ≡ Ok ts
    read = ap (message_items first h.b p.clear (seens p.covers)) piece.is ∙ subst (λ (us : List Tree). tests us ≡ Ok ts) (sym (untrees_trees ts)) passed

    clear : (new : Noted) × (note_clear ts 1 p.clear s.notes ≡ Ok new) × Grows (found new) n
    clear = clear_taken h ts 1 p.clear s.notes n piece.extends.kept noted_clear (sym clear_at)

    clear_extends : Extends (found s.notes) (clear_slots p.clear) (found clear.0)
    clear_extends = (clear_read h ts 1 p.clear s.notes clear.0 clear.1 kinds.0 kinds.1).0

    acted : List Slot
    acted = acted_slots p.to s.next (row_of h.mech)

    known : AreNoted (found clear.0) (acted ++ clear_slots p.clear)
    known =
        let before = noted_grows (found s.notes) (found clear.0) acted (subst (λ r. AreNoted (found s.notes) (acted_slots r s.next (row_of h.mech))) (sym receives.received) receives.acted) clear_extends.kept in
        noted_more (found clear.0) acted (clear_slots p.clear) before (extends_noted (found s.notes) (found clear.0) (clear_slots p.clear) clear_extends)

    start : Taken
    start = record { notes = clear.0; opened = []; got = [] }

    parts : (after : Taken) × (judged_parts opens checks keys h s.notes 1 ts (length p.clear + 1) p.covers start ≡ Ok after) × Grows (found after.notes) n
    parts = parts_taken opens checks keys h s.notes n 1 ts (length p.clear + 1) p.covers start (acted ++ clear_slots p.clear) clear.2 noted_parts plain_parts items_at known (judged_at h.mech s.next p receives.next) kept

    parts_are : Extends (found clear.0) (seen_in p.covers) (found parts.0.notes) × ((n : Notes) → Grows (found parts.0.notes) n → PartsShow opens checks keys h s.notes n p.covers (picked ts (length p.clear + 1) p.covers) start parts.0)
    parts_are = parts_read opens checks keys h s.notes 1 ts (length p.clear + 1) p.covers start parts.0 (acted ++ clear_slots p.clear) parts.1 known (judged_at h.mech s.next p receives.next) kept

    show : PartsShow opens checks keys h s.notes n p.covers (picked ts (length p.clear + 1) p.covers) start parts.0
    show = parts_are.1 n parts.2

    equal : (u : Slot) → found parts.0.notes u ≡ n u
    equal = same_notes (found s.notes) (found parts.0.notes) n (seen_slots p) (extends_more (found s.notes) (found clear.0) (found parts.0.notes) (clear_slots p.clear) (seen_in p.covers) clear_extends parts_are.0) piece.extends parts.2

    verdict_is : verdict opens checks keys allowed s m ≡ Ok parts.0
    verdict_is =
        ap (λ (x : Option Pass). on_pass opens checks keys allowed s x m) receives.next
        ∙ (ap (λ (r : Result (List Tree) Refusal). bind r (after_items opens checks allowed keys s p)) read
        ∙ (ap (λ (r : Result Noted Refusal). bind r (after_clear opens checks allowed keys s p ts)) clear.1
        ∙ (ap (λ (r : Result Taken Refusal). bind r (after_parts opens checks allowed keys s p)) parts.1
        ∙ ap (λ (r : Option Refusal). unless r parts.0) (texts_made allowed h.mech parts.0.notes n (read_slots p) equal w.texts))))

-- there is one choice of notes, openings and stamps
pub one_welcome : (opens : Key → Tree → Option Tree) (checks : Key → Tree → Tree → Bool) (allowed : Mech → Slot → Bytes → Bool) (keys : Keys) (s : State) (p : Pass) (m : Tree) (n k : Notes) (o q : List Opening) (g i : List Got) → Receives s p → IsWelcome opens checks allowed keys s p m n o g → IsWelcome opens checks allowed keys s p m k q i → ((u : Slot) → n u ≡ k u) × (o ≡ q) × (g ≡ i)
one_welcome opens checks allowed keys s p m n k o q g i receives w x =
    let a = verdict_taken opens checks allowed keys s p m n o g receives w in
    let b = verdict_taken opens checks allowed keys s p m k q i receives x in
    let one : a.0 ≡ b.0 = ok_is a.0 b.0 (sym a.1 ∙ b.1) in (
      (λ u. sym (a.2 u) ∙ (ap (λ (t : Taken). found t.notes u) one ∙ b.2 u)),
      sym a.3 ∙ (ap (λ (t : Taken). t.opened) one ∙ b.3),
      sym a.4 ∙ (ap (λ (t : Taken). t.got) one ∙ b.4),
    )
