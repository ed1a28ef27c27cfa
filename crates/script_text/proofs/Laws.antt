-- A term that is read is written so, and what is written so is read.
use Rattle.std.proofs.Common.{◌≡◌, ℕ, zero, suc, ◌-◌, ◌*◌, ◌^◌, ◌<◌, ◌≤◌, Bool, true, false, ◌&&◌, ltb, eqb, List, [], ◌∷◌, ◌++◌, length, refl, sym, ap, subst, ◌∙◌, append_assoc, arith, inl, inr}
use Rattle.std.specs.Prelude.{Option, Some, None, is_some}
use Rattle.std.specs.Fmt.{decimal}
use Rattle.std.proofs.lemmas.Bool.{eqb-true}
use Rattle.std.proofs.lemmas.Bool.Decides.{nat_tests}
use Rattle.std.proofs.lemmas.List.{append-nil}
use Rattle.hex.specs.Hex.{encode_lower}
use Rattle.term_values.specs.declared.Key.{Key}
use Rattle.term_values.specs.declared.Key.TheVariants.{One, Two}
use Rattle.term_values.specs.declared.Stamp.TheVariants.{Time, Seq}
use Rattle.term_values.specs.Trees.{Tree, Trees, trees, untrees, count_of, depth_of, greatest_depth}
use Rattle.term_values.specs.Trees as tree
use Rattle.term_values.specs.Lengths.{length_of}
use Rattle.script_text.specs.declared.reading.Marks.{Marks}
use Rattle.script_text.specs.Notation.{Written, Writtens, notation, list_notation, more_notation, key_notation, IsWellFormed, AreWellFormed, IsKeyOfParts, AreBytes, replaced, all_replaced, is_named, are_named, message_named, item_named, or_empty, name, stamp, nonce, part, text, tag, blob, tuple, seal, check, message, message_item, none, item}
use Rattle.script_text.specs.Reading.{◌>>=◌, Read, State, Bounds, keeping, byte_at, mark_at, skip_at, bytes_at, just, upto, numeral_at, number_at, second_at, key_at, name_at, atom_at, lent_at, found_at, before_rest, sent_at, items_at, tuple_at, sealed_at, tree_under, term_at}
use Rattle.script_text.proofs.Words.{bind_some, guard_some, held_some, chosen, some_is, byte_takes, mark_takes, skip_takes, skip_leaves, Digits, bytes_takes, numeral_takes, number_takes}

-- ---- what is read is written so

count_just : (n m : ℕ) → just (2 * n) (2 * m) ≡ true → m ≡ n
count_just n m h = omega (arith, eqb-true _ _ h)

part_of : (bytes : List ℕ) (x : List ℕ × List ℕ) → Digits (just 64) bytes x → AreBytes 32 x.0
part_of bytes x d = (omega (arith, eqb-true _ _ d.count), d.fits)

at_most : (n m : ℕ) → upto (2 * n) (2 * m) ≡ true → m ≤ n
at_most n m h = grind (arith, nat_tests)

positive : (n : ℕ) → eqb n 0 ≡ false → 0 < n
positive n h = grind (arith, nat_tests)

-- a key that was read from a text
pub record KeyTaken (bytes : List ℕ) (x : Key × List ℕ) : Type 0 where
  pub parts : bytes ≡ key_notation x.0 ++ x.1
  pub values : IsKeyOfParts x.0

second_takes : (p bytes : List ℕ) (x : Key × List ℕ) → AreBytes 32 p → second_at p bytes ≡ Some x → KeyTaken (75 ∷ 58 ∷ encode_lower p ++ bytes) x
unfolding second_at
second_takes p bytes x fits e =
    elim (chosen (skip_at 43 bytes).0 _ _ _ e) [
      | inl a ↦
          let plus : bytes ≡ 43 ∷ (skip_at 43 bytes).1 = skip_takes 43 bytes (skip_at 43 bytes) refl a.0 in
          let q = bind_some (bytes_at (just 64) (skip_at 43 bytes).1) (λ q. Some (Two p q.0, q.1)) x a.1 in
          let d = bytes_takes (just 64) (skip_at 43 bytes).1 q.0 q.1 in
          let made : Key × List ℕ = (Two p q.0.0, q.0.1) in
          subst (KeyTaken (75 ∷ 58 ∷ encode_lower p ++ bytes)) (some_is made x q.2) (record {
            parts = ap (λ (l : List ℕ). 75 ∷ 58 ∷ encode_lower p ++ l) (plus ∙ ap (λ (l : List ℕ). 43 ∷ l) d.parts) ∙ ap (λ (l : List ℕ). 75 ∷ 58 ∷ l) (sym (append_assoc (encode_lower p) (43 ∷ encode_lower q.0.0) q.0.1));
            values = (fits, part_of _ q.0 d);
          })
      | inr a ↦
          let same : bytes ≡ (skip_at 43 bytes).1 = skip_leaves 43 bytes (skip_at 43 bytes) refl a.0 in
          let made : Key × List ℕ = (One p, (skip_at 43 bytes).1) in
          subst (KeyTaken (75 ∷ 58 ∷ encode_lower p ++ bytes)) (some_is made x a.1) (record {
            parts = ap (λ (l : List ℕ). 75 ∷ 58 ∷ encode_lower p ++ l) same;
            values = fits;
          })
    ]

key_takes : (bytes : List ℕ) (x : Key × List ℕ) → key_at bytes ≡ Some x → KeyTaken bytes x
unfolding key_at
key_takes bytes x e =
    let k = bind_some (mark_at 75 bytes) _ x e in
    let c = bind_some (mark_at 58 k.0.1) _ x k.2 in
    let p = bind_some (bytes_at (just 64) c.0.1) (λ p. second_at p.0 p.1) x c.2 in
    let d = bytes_takes (just 64) c.0.1 p.0 p.1 in
    let whole : bytes ≡ 75 ∷ 58 ∷ encode_lower p.0.0 ++ p.0.1 =
    mark_takes 75 bytes k.0 k.1 ∙ ap (λ (l : List ℕ). 75 ∷ l) (mark_takes 58 k.0.1 c.0 c.1 ∙ ap (λ (l : List ℕ). 58 ∷ l) d.parts) in
    subst (λ (l : List ℕ). KeyTaken l x) (sym whole) (second_takes p.0.0 p.0.1 x (part_of _ p.0 d) p.2)

-- an atom that was read behind a letter and a colon
pub record AtomTaken (letter : ℕ) (bytes : List ℕ) (x : Tree × List ℕ) : Type 0 where
  pub it : Written
  pub parts : letter ∷ 58 ∷ bytes ≡ notation it ++ x.1
  pub values : IsWellFormed it
  pub made : (sent : List Tree) → replaced sent it ≡ x.0
  pub named : (sent : List Tree) → is_named sent it ≡ true

-- a field that is read, and the atom that is made of it
atom_of : {X : Type 0} (letter : ℕ) (bytes : List ℕ) (read : Read X) (make : X → Tree) (x : Tree × List ℕ)
    → ((y : X × List ℕ) → read ≡ Some y → AtomTaken letter bytes (make y.0, y.1))
    → (read >>= λ y. Some (make y.0, y.1)) ≡ Some x → AtomTaken letter bytes x
atom_of letter bytes read make x takes e =
    let a = bind_some read (λ y. Some (make y.0, y.1)) x e in
    subst (AtomTaken letter bytes) (some_is (make a.0.0, a.0.1) x a.2) (takes a.0 a.1)

lettered : (letter c : ℕ) (bytes front rest : List ℕ) → eqb letter c ≡ true → bytes ≡ front ++ rest → letter ∷ 58 ∷ bytes ≡ c ∷ 58 ∷ front ++ rest
lettered letter c bytes front rest is parts = ap (λ (k : ℕ). k ∷ 58 ∷ bytes) (eqb-true letter c is) ∙ ap (λ (l : List ℕ). c ∷ 58 ∷ l) parts

name_takes : (letter : ℕ) (bytes : List ℕ) (x : Tree × List ℕ) → eqb letter 78 ≡ true → name_at bytes ≡ Some x → AtomTaken letter bytes x
unfolding name_at
name_takes letter bytes x is e =
    let n = bind_some (number_at (2 ^ 32) bytes) _ x e in
    let t = number_takes (2 ^ 32) bytes n.0 (omega arith) n.1 in
    let g = guard_some (eqb n.0.0 0) (Some (tree.name n.0.0, n.0.1)) x n.2 in
    let made : Tree × List ℕ = (tree.name n.0.0, n.0.1) in
    subst (AtomTaken letter bytes) (some_is made x g.1) (record {
      it = name n.0.0;
      parts = lettered letter 78 bytes (decimal n.0.0) n.0.1 is t.0;
      values = (positive n.0.0 g.0, t.1);
      made = λ sent. refl;
      named = λ sent. refl;
    })

atom_takes : (most letter : ℕ) (bytes : List ℕ) (x : Tree × List ℕ) → atom_at most letter bytes ≡ Some x → AtomTaken letter bytes x
unfolding atom_at
atom_takes most letter bytes x e =
    elim (chosen (eqb letter 78) _ _ _ e) [
      | inl a ↦ name_takes letter bytes x a.0 a.1
      | inr e ↦ elim (chosen (eqb letter 84) _ _ _ e.1) [
        | inl a ↦ atom_of letter bytes (number_at (2 ^ 64) bytes) (λ n. tree.stamp (Time n)) x (λ y r. let t = number_takes (2 ^ 64) bytes y (omega arith) r in record { it = stamp (Time y.0); parts = lettered letter 84 bytes (decimal y.0) y.1 a.0 t.0; values = t.1; made = λ sent. refl; named = λ sent. refl }) a.1
        | inr e ↦ elim (chosen (eqb letter 81) _ _ _ e.1) [
          | inl a ↦ atom_of letter bytes (number_at (2 ^ 64) bytes) (λ n. tree.stamp (Seq n)) x (λ y r. let t = number_takes (2 ^ 64) bytes y (omega arith) r in record { it = stamp (Seq y.0); parts = lettered letter 81 bytes (decimal y.0) y.1 a.0 t.0; values = t.1; made = λ sent. refl; named = λ sent. refl }) a.1
          | inr e ↦ elim (chosen (eqb letter 82) _ _ _ e.1) [
            | inl a ↦ atom_of letter bytes (bytes_at (just 32) bytes) (λ b. tree.nonce b) x (λ y r. let d = bytes_takes (just 32) bytes y r in record { it = nonce y.0; parts = lettered letter 82 bytes (encode_lower y.0) y.1 a.0 d.parts; values = (count_just 16 (length y.0) d.count, d.fits); made = λ sent. refl; named = λ sent. refl }) a.1
            | inr e ↦ elim (chosen (eqb letter 70) _ _ _ e.1) [
              | inl a ↦ atom_of letter bytes (bytes_at (just 64) bytes) (λ b. tree.part b) x (λ y r. let d = bytes_takes (just 64) bytes y r in record { it = part y.0; parts = lettered letter 70 bytes (encode_lower y.0) y.1 a.0 d.parts; values = (count_just 32 (length y.0) d.count, d.fits); made = λ sent. refl; named = λ sent. refl }) a.1
              | inr e ↦ elim (chosen (eqb letter 88) _ _ _ e.1) [
                | inl a ↦ atom_of letter bytes (bytes_at (upto 2048) bytes) (λ b. tree.text b) x (λ y r. let d = bytes_takes (upto 2048) bytes y r in record { it = text y.0; parts = lettered letter 88 bytes (encode_lower y.0) y.1 a.0 d.parts; values = (at_most 1024 (length y.0) d.count, d.fits); made = λ sent. refl; named = λ sent. refl }) a.1
                | inr e ↦ elim (chosen (eqb letter 71) _ _ _ e.1) [
                  | inl a ↦ atom_of letter bytes (bytes_at (just 8) bytes) (λ b. tree.tag b) x (λ y r. let d = bytes_takes (just 8) bytes y r in record { it = tag y.0; parts = lettered letter 71 bytes (encode_lower y.0) y.1 a.0 d.parts; values = (count_just 4 (length y.0) d.count, d.fits); made = λ sent. refl; named = λ sent. refl }) a.1
                  | inr e ↦ elim (chosen (eqb letter 66) _ _ _ e.1) [
                    | inl a ↦ atom_of letter bytes (bytes_at (upto most) bytes) (λ b. tree.blob b) x (λ y r. let d = bytes_takes (upto most) bytes y r in record { it = blob y.0; parts = lettered letter 66 bytes (encode_lower y.0) y.1 a.0 d.parts; values = d.fits; made = λ sent. refl; named = λ sent. refl }) a.1
                    | inr e ↦ absurd (let never = e.1 in cc)
                  ]
                ]
              ]
            ]
          ]
        ]
      ]
    ]

-- a term that was read, with what was noted of each `@`
pub record Taken (sent : List Tree) (bytes : List ℕ) (marks : Marks) (x : Tree × State) : Type 0 where
  pub it : Written
  pub parts : bytes ≡ notation it ++ x.1.rest
  pub values : IsWellFormed it
  pub made : replaced sent it ≡ x.0
  pub named : x.1.marks.named ≡ (marks.named && is_named sent it)

-- items that were read, up to the closing parenthesis
pub record ItemsTaken (sent : List Tree) (bytes : List ℕ) (marks : Marks) (x : List Tree × State) : Type 0 where
  pub it : Writtens
  pub parts : bytes ≡ list_notation it ++ 41 ∷ x.1.rest
  pub values : AreWellFormed it
  pub made : all_replaced sent it ≡ trees x.0
  pub named : x.1.marks.named ≡ (marks.named && are_named sent it)

pub and_true : (a : Bool) → (a && true) ≡ a
and_true true = refl
and_true false = refl

pub and_assoc : (a b c : Bool) → ((a && b) && c) ≡ (a && (b && c))
and_assoc true b c = refl
and_assoc false b c = refl

keeping_some : {X : Type 0} (marks : Marks) (read : Read X) (x : X × State) → keeping marks read ≡ Some x → (read ≡ Some (x.0, x.1.rest)) × (x.1.marks ≡ marks)
keeping_some {X} marks (Some y) x e =
    let made : X × State = (y.0, record { rest = y.1; marks = marks }) in
    let same : made ≡ x = some_is made x e in
    (ap (λ (z : X × State). Some (z.0, z.1.rest)) same, ap (λ (z : X × State). z.1.marks) (sym same))
keeping_some marks None x e = absurd cc

lent_takes : (levels : ℕ) (t : Tree) (marks : Marks) (y : Tree × Marks) → lent_at levels t marks ≡ Some y → (t ≡ y.0) × (y.1.named ≡ marks.named)
unfolding lent_at
lent_takes levels t marks y e =
    let a = guard_some (ltb levels (depth_of t)) _ y e in
    let b = guard_some (ltb marks.left (length_of t)) _ y a.1 in
    let made : Tree × Marks = (t, record marks { left = marks.left - length_of t }) in
    let same : made ≡ y = some_is made y b.1 in
    (ap (λ (z : Tree × Marks). z.0) same, ap (λ (z : Tree × Marks). z.1.named) (sym same))

found_takes : (levels : ℕ) (found : Option Tree) (marks : Marks) (y : Tree × Marks) → found_at levels found marks ≡ Some y → (or_empty found ≡ y.0) × (y.1.named ≡ (marks.named && is_some found))
unfolding found_at
found_takes levels found marks y e = lent_takes levels (or_empty found) (record marks { named = marks.named && is_some found }) y e

before_some : (rest : List ℕ) (read : Option (Tree × Marks)) (x : Tree × State) → before_rest rest read ≡ Some x → (read ≡ Some (x.0, x.1.marks)) × (x.1.rest ≡ rest)
before_some rest (Some y) x e =
    let made : Tree × State = (y.0, record { rest = rest; marks = y.1 }) in
    let same : made ≡ x = some_is made x e in
    (ap (λ (z : Tree × State). Some (z.0, z.1.marks)) same, ap (λ (z : Tree × State). z.1.rest) (sym same))
before_some rest None x e = absurd cc

sent_takes : (sent : List Tree) (levels : ℕ) (s : State) (x : Tree × State) → sent_at sent levels s ≡ Some x → Taken sent (64 ∷ s.rest) s.marks x
unfolding sent_at
sent_takes sent levels s x e =
    let m = bind_some (numeral_at s.rest) _ x e in
    let n = numeral_takes s.rest m.0 m.1 in
    elim (chosen (skip_at 46 m.0.1).0 _ _ _ m.2) [
      | inl a ↦
          let dot : m.0.1 ≡ 46 ∷ (skip_at 46 m.0.1).1 = skip_takes 46 m.0.1 (skip_at 46 m.0.1) refl a.0 in
          let i = bind_some (numeral_at (skip_at 46 m.0.1).1) _ x a.1 in
          let k = numeral_takes (skip_at 46 m.0.1).1 i.0 i.1 in
          let b = before_some i.0.1 (found_at levels (item_named sent m.0.0 i.0.0) s.marks) x i.2 in
          let f = found_takes levels (item_named sent m.0.0 i.0.0) s.marks (x.0, x.1.marks) b.0 in
          record {
            it = message_item m.0.0 i.0.0;
            parts = ap (λ (l : List ℕ). 64 ∷ l) (n.0 ∙ ap (λ (l : List ℕ). m.0.0 ++ l) (dot ∙ ap (λ (l : List ℕ). 46 ∷ l) (k.0 ∙ ap (λ (l : List ℕ). i.0.0 ++ l) (sym b.1))) ∙ sym (append_assoc m.0.0 (46 ∷ i.0.0) x.1.rest));
            values = (n.1, k.1);
            made = f.0;
            named = f.1;
          }
      | inr a ↦
          let same : m.0.1 ≡ (skip_at 46 m.0.1).1 = skip_leaves 46 m.0.1 (skip_at 46 m.0.1) refl a.0 in
          let b = before_some (skip_at 46 m.0.1).1 (found_at levels (message_named sent m.0.0) s.marks) x a.1 in
          let f = found_takes levels (message_named sent m.0.0) s.marks (x.0, x.1.marks) b.0 in
          record {
            it = message m.0.0;
            parts = ap (λ (l : List ℕ). 64 ∷ l) (n.0 ∙ ap (λ (l : List ℕ). m.0.0 ++ l) (same ∙ sym b.1));
            values = n.1;
            made = f.0;
            named = f.1;
          }
    ]

-- a reader of terms that takes what is written
abbrev IsSound : List Tree → (State → Option (Tree × State)) → Type 0
IsSound sent one = (s : State) (x : Tree × State) → one s ≡ Some x → Taken sent s.rest s.marks x

-- items as they stand behind the first of them
pub record MoreTaken (sent : List Tree) (bytes : List ℕ) (marks : Marks) (x : List Tree × State) : Type 0 where
  pub first : Written
  pub others : Writtens
  pub parts : bytes ≡ (notation first ++ more_notation others) ++ 41 ∷ x.1.rest
  pub values : IsWellFormed first × AreWellFormed others
  pub made : tree.item (replaced sent first) (all_replaced sent others) ≡ trees x.0
  pub named : x.1.marks.named ≡ (marks.named && (is_named sent first && are_named sent others))

joined : (a b c d : List ℕ) → (a ++ 44 ∷ (b ++ c)) ++ d ≡ a ++ 44 ∷ ((b ++ c) ++ d)
joined a b c d = append_assoc a (44 ∷ (b ++ c)) d

items_take : (sent : List Tree) (one : State → Option (Tree × State)) → IsSound sent one → (n : ℕ) (s : State) (x : List Tree × State) → items_at one n s ≡ Some x → MoreTaken sent s.rest s.marks x
unfolding items_at
items_take sent one sound zero s x e = absurd cc
items_take sent one sound (suc n) s x e =
    let a = bind_some (one s) _ x e in
    let m = bind_some (byte_at a.0.1.rest) _ x a.2 in
    let first = sound s a.0 a.1 in
    let mark = byte_takes a.0.1.rest m.0 m.1 in
    elim (chosen (eqb m.0.0 41) _ _ _ m.2) [
      | inl c ↦
          let made : List Tree × State = (a.0.0 ∷ [], record { rest = m.0.1; marks = a.0.1.marks }) in
          let close : a.0.1.rest ≡ 41 ∷ m.0.1 = mark ∙ ap (λ (k : ℕ). k ∷ m.0.1) (eqb-true _ _ c.0) in
          subst (MoreTaken sent s.rest s.marks) (some_is made x c.1) (record {
            first = first.it;
            others = none;
            parts = first.parts ∙ ap (λ (l : List ℕ). notation first.it ++ l) close ∙ ap (λ (l : List ℕ). l ++ 41 ∷ m.0.1) (sym (append-nil (notation first.it)));
            values = (first.values, tt);
            made = ap (λ (t : Tree). tree.item t tree.none) first.made;
            named = first.named ∙ ap (λ (v : Bool). s.marks.named && v) (sym (and_true (is_named sent first.it)));
          })
      | inr c ↦
          let g = held_some (eqb m.0.0 44) _ x c.1 in
          let later : State = record { rest = m.0.1; marks = a.0.1.marks } in
          let b = bind_some (items_at one n later) (λ others. Some (a.0.0 ∷ others.0, others.1)) x g.1 in
          let rest = items_take sent one sound n later b.0 b.1 in
          let made : List Tree × State = (a.0.0 ∷ b.0.0, b.0.1) in
          let comma : a.0.1.rest ≡ 44 ∷ m.0.1 = mark ∙ ap (λ (k : ℕ). k ∷ m.0.1) (eqb-true _ _ g.0) in
          subst (MoreTaken sent s.rest s.marks) (some_is made x b.2) (record {
            first = first.it;
            others = item rest.first rest.others;
            parts = first.parts ∙ ap (λ (l : List ℕ). notation first.it ++ l) (comma ∙ ap (λ (l : List ℕ). 44 ∷ l) rest.parts)
                ∙ sym (joined (notation first.it) (notation rest.first) (more_notation rest.others) (41 ∷ b.0.1.rest));
            values = (first.values, rest.values);
            made = ap (λ (t : Tree). tree.item t (tree.item (replaced sent rest.first) (all_replaced sent rest.others))) first.made ∙ ap (tree.item a.0.0) rest.made;
            named = rest.named ∙ ap (λ (v : Bool). v && (is_named sent rest.first && are_named sent rest.others)) first.named ∙ and_assoc s.marks.named (is_named sent first.it) (is_named sent rest.first && are_named sent rest.others);
          })
    ]

tuple_takes : (sent : List Tree) (one : State → Option (Tree × State)) → IsSound sent one → (n : ℕ) (s : State) (x : List Tree × State) → tuple_at one n s ≡ Some x → ItemsTaken sent s.rest s.marks x
unfolding tuple_at
tuple_takes sent one sound n s x e =
    elim (chosen (skip_at 41 s.rest).0 _ _ _ e) [
      | inl a ↦
          let close : s.rest ≡ 41 ∷ (skip_at 41 s.rest).1 = skip_takes 41 s.rest (skip_at 41 s.rest) refl a.0 in
          let nothing : List Tree = [] in
          let made : List Tree × State = (nothing, record { rest = (skip_at 41 s.rest).1; marks = s.marks }) in
          subst (ItemsTaken sent s.rest s.marks) (some_is made x a.1) (record { it = none; parts = close; values = tt; made = refl; named = sym (and_true s.marks.named) })
      | inr a ↦
          let same : s.rest ≡ (skip_at 41 s.rest).1 = skip_leaves 41 s.rest (skip_at 41 s.rest) refl a.0 in
          let m = items_take sent one sound n (record { rest = (skip_at 41 s.rest).1; marks = s.marks }) x a.1 in
          record { it = item m.first m.others; parts = same ∙ m.parts; values = m.values; made = m.made; named = m.named }
    ]

-- a key and a body that were read
pub record SealedTaken (sent : List Tree) (bytes : List ℕ) (marks : Marks) (x : (Key × Tree) × State) : Type 0 where
  pub it : Written
  pub parts : bytes ≡ 91 ∷ (key_notation x.0.0 ++ 124 ∷ (notation it ++ 93 ∷ [])) ++ x.1.rest
  pub values : IsKeyOfParts x.0.0 × IsWellFormed it
  pub made : replaced sent it ≡ x.0.1
  pub named : x.1.marks.named ≡ (marks.named && is_named sent it)

pub sealed_parts : (a b c : List ℕ) → a ++ 124 ∷ (b ++ 93 ∷ c) ≡ (a ++ 124 ∷ (b ++ 93 ∷ [])) ++ c
sealed_parts a b c = ap (λ (l : List ℕ). a ++ 124 ∷ l) (sym (append_assoc b (93 ∷ []) c)) ∙ sym (append_assoc a (124 ∷ (b ++ 93 ∷ [])) c)

sealed_takes : (sent : List Tree) (one : State → Option (Tree × State)) → IsSound sent one → (s : State) (x : (Key × Tree) × State) → sealed_at one s ≡ Some x → SealedTaken sent s.rest s.marks x
unfolding sealed_at
sealed_takes sent one sound s x e =
    let o = bind_some (mark_at 91 s.rest) _ x e in
    let k = bind_some (key_at o.0.1) _ x o.2 in
    let b = bind_some (mark_at 124 k.0.1) _ x k.2 in
    let w = bind_some (one (record { rest = b.0.1; marks = s.marks })) _ x b.2 in
    let c = bind_some (mark_at 93 w.0.1.rest) _ x w.2 in
    let key = key_takes o.0.1 k.0 k.1 in
    let body = sound (record { rest = b.0.1; marks = s.marks }) w.0 w.1 in
    let made : (Key × Tree) × State = ((k.0.0, w.0.0), record { rest = c.0.1; marks = w.0.1.marks }) in
    subst (SealedTaken sent s.rest s.marks) (some_is made x c.2) (record {
      it = body.it;
      parts = mark_takes 91 s.rest o.0 o.1 ∙ ap (λ (l : List ℕ). 91 ∷ l) (key.parts ∙ ap (λ (l : List ℕ). key_notation k.0.0 ++ l) (mark_takes 124 k.0.1 b.0 b.1 ∙ ap (λ (l : List ℕ). 124 ∷ l) (body.parts ∙ ap (λ (l : List ℕ). notation body.it ++ l) (mark_takes 93 w.0.1.rest c.0 c.1)))
          ∙ sealed_parts (key_notation k.0.0) (notation body.it) c.0.1);
      values = (key.values, body.values);
      made = body.made;
      named = body.named;
    })

abbrev TakenAs : List Tree → ℕ → State → Tree × State → Type 0
TakenAs sent letter s x = Taken sent (letter ∷ s.rest) s.marks x

tuple_as : (sent : List Tree) (letter : ℕ) (s : State) (b : List Tree × State) → eqb letter 40 ≡ true → ItemsTaken sent s.rest s.marks b → TakenAs sent letter s (tree.tuple (trees b.0), b.1)
tuple_as sent letter s b is t = record {
  it = tuple t.it;
  parts = ap (λ (k : ℕ). k ∷ s.rest) (eqb-true _ _ is) ∙ ap (λ (l : List ℕ). 40 ∷ l) (t.parts ∙ sym (append_assoc (list_notation t.it) (41 ∷ []) b.1.rest));
  values = t.values;
  made = ap tree.tuple t.made;
  named = t.named;
}

tree_takes : (bounds : Bounds) (sent : List Tree) (levels : ℕ) (one : State → Option (Tree × State)) → IsSound sent one → (letter : ℕ) (s : State) (x : Tree × State) → tree_under bounds sent levels one letter s ≡ Some x → TakenAs sent letter s x
unfolding tree_under
tree_takes bounds sent levels one sound letter s x e =
    elim (chosen (eqb letter 40) _ _ _ e) [
      | inl a ↦
          let b = bind_some (tuple_at one bounds.items s) (λ ts. Some (tree.tuple (trees ts.0), ts.1)) x a.1 in
          let made : Tree × State = (tree.tuple (trees b.0.0), b.0.1) in
          subst (TakenAs sent letter s) (some_is made x b.2) (tuple_as sent letter s b.0 a.0 (tuple_takes sent one sound bounds.items s b.0 b.1))
      | inr e ↦ elim (chosen (eqb letter 83) _ _ _ e.1) [
        | inl a ↦
            let b = bind_some (sealed_at one s) (λ b. Some (tree.seal b.0.0 b.0.1, b.1)) x a.1 in
            let made : Tree × State = (tree.seal b.0.0.0 b.0.0.1, b.0.1) in
            let t = sealed_takes sent one sound s b.0 b.1 in
            subst (TakenAs sent letter s) (some_is made x b.2) (record {
              it = seal b.0.0.0 t.it;
              parts = ap (λ (k : ℕ). k ∷ s.rest) (eqb-true _ _ a.0) ∙ ap (λ (l : List ℕ). 83 ∷ l) t.parts;
              values = t.values;
              made = ap (tree.seal b.0.0.0) t.made;
              named = t.named;
            })
        | inr e ↦ elim (chosen (eqb letter 67) _ _ _ e.1) [
          | inl a ↦
              let b = bind_some (sealed_at one s) (λ b. Some (tree.check b.0.0 b.0.1, b.1)) x a.1 in
              let made : Tree × State = (tree.check b.0.0.0 b.0.0.1, b.0.1) in
              let t = sealed_takes sent one sound s b.0 b.1 in
              subst (TakenAs sent letter s) (some_is made x b.2) (record {
                it = check b.0.0.0 t.it;
                parts = ap (λ (k : ℕ). k ∷ s.rest) (eqb-true _ _ a.0) ∙ ap (λ (l : List ℕ). 67 ∷ l) t.parts;
                values = t.values;
                made = ap (tree.check b.0.0.0) t.made;
                named = t.named;
              })
          | inr e ↦ elim (chosen (eqb letter 64) _ _ _ e.1) [
            | inl a ↦ subst (λ (k : ℕ). TakenAs sent k s x) (sym (eqb-true letter 64 a.0)) (sent_takes sent levels s x a.1)
            | inr e ↦
                let c = bind_some (mark_at 58 s.rest) (λ colon. keeping s.marks (atom_at bounds.digits letter colon.1)) x e.1 in
                let k = keeping_some s.marks (atom_at bounds.digits letter c.0.1) x c.2 in
                let a = atom_takes bounds.digits letter c.0.1 (x.0, x.1.rest) k.0 in
                record {
                  it = a.it;
                  parts = ap (λ (l : List ℕ). letter ∷ l) (mark_takes 58 s.rest c.0 c.1) ∙ a.parts;
                  values = a.values;
                  made = a.made sent;
                  named = ap (λ (m : Marks). m.named) k.1 ∙ sym (and_true s.marks.named) ∙ ap (λ (v : Bool). s.marks.named && v) (sym (a.named sent));
                }
          ]
        ]
      ]
    ]

pub term_takes : (bounds : Bounds) (sent : List Tree) (levels : ℕ) → IsSound sent (term_at bounds sent levels)
unfolding term_at
term_takes bounds sent zero s x e = absurd cc
term_takes bounds sent (suc below) s x e =
    let k = bind_some (byte_at s.rest) _ x e in
    let made = tree_takes bounds sent (suc below) (term_at bounds sent below) (term_takes bounds sent below) k.0.0 (record { rest = k.0.1; marks = s.marks }) x k.2 in
    subst (λ (l : List ℕ). Taken sent l s.marks x) (sym (byte_takes s.rest k.0 k.1)) made
