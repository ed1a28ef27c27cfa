-- A message that the verdict takes fits the run.
use Rattle.std.proofs.Common.{◌≡◌, ◌==◌, ◌+◌, ℕ, zero, suc, Bool, true, false, ◌&&◌, inl, inr, List, [], ◌∷◌, ◌++◌, length, Option, Some, None, Result, Ok, Err, if◌then◌else◌, refl, sym, ap, ap₂, subst, ◌∙◌, arith, eqb-true}
use Rattle.std.proofs.Math.Seq.{drop-cons}
use Rattle.term_values.specs.Trees.{Bytes, Tree, tag, tuple, none, trees}
use Rattle.term_values.specs.declared.small.Key.{Key}
use Rattle.term_values.proofs.Lists.{and_left, and_right}
use Rattle.mech_rows.specs.declared.kinds.Mech.{Mech}
use Rattle.mech_rows.specs.declared.kinds.Mech.TheVariants.{E1, E2, E3, E4, E5, E6, C1, C2, C3, C4, K3, K4, K5, K6, K8, K9}
use Rattle.mech_rows.specs.declared.kinds.Slot.{Slot}
use Rattle.mech_rows.specs.declared.kinds.Clear.{Clear}
use Rattle.mech_rows.specs.declared.kinds.Kind.{Kind}
use Rattle.mech_rows.specs.declared.kinds.Kind.TheVariants.{Nonce as a_nonce, Stamp as a_stamp, Part as a_part, Text as a_text, Item as an_item}
use Rattle.mech_rows.specs.declared.refusal.Refusal.{Refusal}
use Rattle.mech_rows.specs.declared.refusal.Refusal.TheVariants.{WrongPass, WrongShape, WrongNames}
use Rattle.mech_rows.specs.Rows.{kind_of, tag_of, Cover, Pass, row_of}
use Rattle.mech_rows.specs.Found.{found}
use Rattle.term_values.specs.Same.{same}
use Rattle.term_values.proofs.SameTrees.{same_is}
use Rattle.mech_rows.specs.Runs.{Keys, value, clear_slots, seen_in, nth}
use Rattle.mech_rows.specs.Verdict.{Noted, State, Taken, bind, items_of, at, are_clear, are_kept, clear_names, message_items, note_clear, read_slots, text_bytes, text_refusal, refused_text, unless, seens, judged_parts, on_pass, verdict}
use Rattle.mech_rows.specs.Lawful.{acted_slots, AreNoted, IsWelcome, Receives, TextsAllowed, are_ready, are_judged}
use Rattle.mech_rows.proofs.Reading.{bind_ok, ok_is, extends_more, clear_read, picked, two_picked, tuple_of_items}
use Rattle.mech_rows.proofs.Parts.{extends_noted, noted_grows, noted_more, parts_read}

-- the row fact: each receiver can judge what it is shown

judged_rows : (m : Mech) → are_judged m 0 (row_of m) ≡ true
judged_rows E1 = refl
judged_rows E2 = refl
judged_rows E3 = refl
judged_rows E4 = refl
judged_rows E5 = refl
judged_rows E6 = refl
judged_rows C1 = refl
judged_rows C2 = refl
judged_rows C3 = refl
judged_rows C4 = refl
judged_rows K3 = refl
judged_rows K4 = refl
judged_rows K5 = refl
judged_rows K6 = refl
judged_rows K8 = refl
judged_rows K9 = refl

judged_from : (m : Mech) (j k : ℕ) (ps : List Pass) (p : Pass) → are_judged m j ps ≡ true → nth ps k ≡ Some p → are_ready (acted_slots p.to (k + j) (row_of m) ++ clear_slots p.clear) p.covers ≡ true
judged_from m j k [] p e f = absurd cc
judged_from m j zero (q ∷ ps) p e f =
    let same : q ≡ p = cc in
    let start : are_ready (acted_slots q.to j (row_of m) ++ clear_slots q.clear) q.covers ≡ true = and_left (are_ready (acted_slots q.to j (row_of m) ++ clear_slots q.clear) q.covers) (are_judged m (suc j) ps) e in
    let shift : j ≡ 0 + j = omega arith in
    subst (λ (i : ℕ). are_ready (acted_slots p.to i (row_of m) ++ clear_slots p.clear) p.covers ≡ true) shift
    (subst (λ (r : Pass). are_ready (acted_slots r.to j (row_of m) ++ clear_slots r.clear) r.covers ≡ true) same start)
judged_from m j (suc k) (q ∷ ps) p e f =
    let shift : k + suc j ≡ suc k + j = omega arith in
    subst (λ (i : ℕ). are_ready (acted_slots p.to i (row_of m) ++ clear_slots p.clear) p.covers ≡ true) shift
    (judged_from m (suc j) k ps p (and_right (are_ready (acted_slots q.to j (row_of m) ++ clear_slots q.clear) q.covers) (are_judged m (suc j) ps) e) f)

pub judged_at : (m : Mech) (k : ℕ) (p : Pass) → nth (row_of m) k ≡ Some p → are_ready (acted_slots p.to k (row_of m) ++ clear_slots p.clear) p.covers ≡ true
judged_at m k p e =
    let shift : k + 0 ≡ k = omega arith in
    subst (λ (i : ℕ). are_ready (acted_slots p.to i (row_of m) ++ clear_slots p.clear) p.covers ≡ true) shift (judged_from m 0 k (row_of m) p (judged_rows m) e)

-- the message

picked_seens : (ts : List Tree) (k : ℕ) (cs : List Cover) → picked ts k (seens cs) ≡ picked ts k cs
picked_seens ts k [] = refl
picked_seens ts k (c ∷ cs) = ap (λ (xs : List Tree). at ts k ∷ xs) (picked_seens ts (suc k) cs)

pub record MessageRead (t : Bytes) (b : ℕ) (clear : List Clear) (kept : List Bool) (m : Tree) (ts : List Tree) : Type 0 where
  pub is : m ≡ tuple (trees (tag t ∷ (picked ts 1 clear ++ picked ts (length clear + 1) kept)))
  pub kinds : are_clear ts 1 clear ≡ true
  pub short : are_kept ts (length clear + 1) kept ≡ true
  pub names : clear_names b ts 1 clear ≡ true

pub message_read : (t : Bytes) (b : ℕ) (clear : List Clear) (kept : List Bool) (m : Tree) (ts : List Tree) → message_items t b clear kept m ≡ Ok ts → MessageRead t b clear kept m ts
message_read t b clear kept m ts e = go _ refl _ refl _ refl e
  where
    us : List Tree
    us = items_of m

    shape : Bool
    shape = (length us == length clear + length kept + 1) && (are_clear us 1 clear && are_kept us (length clear + 1) kept)

    read : same (at us 0) (tag t) ≡ true → shape ≡ true → clear_names b us 1 clear ≡ true → MessageRead t b clear kept m us
    read x y z =
        let first = same_is (at us 0) (tag t) x in
        let long = eqb-true (length us) (length clear + length kept + 1) (and_left (length us == length clear + length kept + 1) _ y) in
        let kinds = and_right (length us == length clear + length kept + 1) _ y in
        record {
          is = tuple_of_items m t first ∙ ap (λ (xs : List Tree). tuple (trees xs)) (drop-cons us 0 (tuple none) (omega (arith, long)) ∙ ap₂ (λ (v : Tree) (xs : List Tree). v ∷ xs) first (two_picked us 1 clear kept long));
          kinds = and_left (are_clear us 1 clear) (are_kept us (length clear + 1) kept) kinds;
          short = and_right (are_clear us 1 clear) (are_kept us (length clear + 1) kept) kinds;
          names = z;
        }

    go : (x : Bool) → same (at us 0) (tag t) ≡ x → (y : Bool) → shape ≡ y → (z : Bool) → clear_names b us 1 clear ≡ z → ◌≡◌ {A = Result (List Tree) Refusal} (if x then if y then if z then Ok us else Err (WrongNames 0) else Err (WrongShape 0) else Err WrongPass) (Ok ts) → MessageRead t b clear kept m ts
    go true x true y true z f = subst (MessageRead t b clear kept m) (ok_is us ts f) (read x y z)
    go true x true y false z f = absurd cc
    go true x false y w z f = absurd cc
    go false x v y w z f = absurd cc

-- texts

text_first : (k : Kind) (s : Slot) (ok : Bool) (rest : Option Refusal) → text_refusal k s ok rest ≡ None → (k ≡ a_text → ok ≡ true) × (rest ≡ None)
text_first a_text s true rest e = ((λ f. refl), e)
text_first a_text s false rest e = absurd cc
text_first a_nonce s ok rest e = ((λ f. absurd cc), e)
text_first a_stamp s ok rest e = ((λ f. absurd cc), e)
text_first a_part s ok rest e = ((λ f. absurd cc), e)
text_first an_item s ok rest e = ((λ f. absurd cc), e)

texts_allowed : (allowed : Mech → Slot → Bytes → Bool) (m : Mech) (notes : Noted) (ss : List Slot) → refused_text allowed m notes ss ≡ None → TextsAllowed allowed m (found notes) ss
texts_allowed allowed m notes [] e s i f = absurd i
texts_allowed allowed m notes (u ∷ ss) e s (inl is) f =
    let one = text_first (kind_of u) u (allowed m u (text_bytes (value (found notes) u))) (refused_text allowed m notes ss) e in
    subst (λ (v : Slot). allowed m v (text_bytes (value (found notes) v)) ≡ true) (sym is) (one.0 (ap kind_of (sym is) ∙ f))
texts_allowed allowed m notes (u ∷ ss) e s (inr i) f = texts_allowed allowed m notes ss (text_first (kind_of u) u (allowed m u (text_bytes (value (found notes) u))) (refused_text allowed m notes ss) e).1 s i f

unless_ok : (o : Option Refusal) (x y : Taken) → unless o x ≡ Ok y → (o ≡ None) × (x ≡ y)
unless_ok None x y e = (refl, ok_is x y e)
unless_ok (Some r) x y e = absurd cc

-- the verdict

module _ (opens : Key → Tree → Option Tree) (checks : Key → Tree → Tree → Bool) (allowed : Mech → Slot → Bytes → Bool) (keys : Keys) (s : State) (p : Pass) where
  abbrev pub after_parts : Taken → Result Taken Refusal
  after_parts t = unless (refused_text allowed s.head.mech t.notes (read_slots p)) t

  abbrev pub after_clear : List Tree → Noted → Result Taken Refusal
  after_clear ts clear = bind (judged_parts opens checks keys s.head s.notes 1 ts (length p.clear + 1) p.covers (record { notes = clear; opened = []; got = [] })) after_parts

  abbrev pub after_items : List Tree → Result Taken Refusal
  after_items ts = bind (note_clear ts 1 p.clear s.notes) (after_clear ts)

pub verdict_fits : (opens : Key → Tree → Option Tree) (checks : Key → Tree → Tree → Bool) (allowed : Mech → Slot → Bytes → Bool) (keys : Keys) (s : State) (p : Pass) (m : Tree) (t : Taken) → Receives s p → verdict opens checks keys allowed s m ≡ Ok t → IsWelcome opens checks allowed keys s p m (found t.notes) t.opened t.got
verdict_fits opens checks allowed keys s p m t receives e =
    let is = receives.next in
    let role = receives.received in
    let acted = receives.acted in
    let e_p : on_pass opens checks keys allowed s (Some p) m ≡ Ok t = ap (λ (o : Option Pass). on_pass opens checks keys allowed s o m) (sym is) ∙ e in
    let a = bind_ok (message_items (tag_of s.head.mech (suc s.next) 0) s.head.b p.clear (seens p.covers) m) (after_items opens checks allowed keys s p) t e_p in
    let ts = a.0 in
    let b = bind_ok (note_clear ts 1 p.clear s.notes) (after_clear opens checks allowed keys s p ts) t a.2 in
    let c = bind_ok (judged_parts opens checks keys s.head s.notes 1 ts (length p.clear + 1) p.covers (record { notes = b.0; opened = []; got = [] })) (after_parts opens checks allowed keys s p) t b.2 in
    let last = unless_ok (refused_text allowed s.head.mech c.0.notes (read_slots p)) c.0 t c.2 in
    let read = message_read (tag_of s.head.mech (suc s.next) 0) s.head.b p.clear (seens p.covers) m ts a.1 in
    let clear = clear_read s.head ts 1 p.clear s.notes b.0 b.1 read.kinds read.names in
    let before = noted_grows (found s.notes) (found b.0) (acted_slots p.to s.next (row_of s.head.mech)) (subst (λ r. AreNoted (found s.notes) (acted_slots r s.next (row_of s.head.mech))) (sym role) acted) clear.0.kept in
    let known = noted_more (found b.0) (acted_slots p.to s.next (row_of s.head.mech)) (clear_slots p.clear) before (extends_noted (found s.notes) (found b.0) (clear_slots p.clear) clear.0) in
    let parts = parts_read opens checks keys s.head s.notes 1 ts (length p.clear + 1) p.covers (record { notes = b.0; opened = []; got = [] }) c.0 (acted_slots p.to s.next (row_of s.head.mech) ++ clear_slots p.clear) c.1 known (judged_at s.head.mech s.next p is) read.short in
    let final = found c.0.notes in
    let show = parts.1 final (λ u x f. f) in
    let made : IsWelcome opens checks allowed keys s p m final c.0.opened c.0.got = record {
      fits = record {
        pass = p;
        at = is;
        received = role;
        extends = extends_more (found s.notes) (found b.0) final (clear_slots p.clear) (seen_in p.covers) clear.0 parts.0;
        shows = record {
          items = picked ts (length p.clear + 1) p.covers;
          is = read.is ∙ ap₂ (λ (xs ys : List Tree). tuple (trees (tag (tag_of s.head.mech (suc s.next) 0) ∷ (xs ++ ys)))) (sym (clear.1 final parts.0.kept)) (picked_seens ts (length p.clear + 1) p.covers);
          each = show.0;
        };
        opens_are = show.1;
        got_is = show.2;
      };
      texts = texts_allowed allowed s.head.mech c.0.notes (read_slots p) last.0;
    } in
    subst (λ (x : Taken). IsWelcome opens checks allowed keys s p m (found x.notes) x.opened x.got) last.1 made
