-- What the reader's answers say of readings.
use Rattle.std.proofs.Common.{◌≡◌, ℕ, ◌+◌, ◌*◌, ◌≤◌, Bool, true, false, eqb, List, [], ◌∷◌, ◌++◌, length, refl, sym, ap, subst, ◌∙◌, arith}
use Rattle.std.specs.Prelude.{Some, None, Result, Err}
use Rattle.std.proofs.lemmas.Bool.{eqb-true}
use Rattle.std.proofs.lemmas.List.{append-nil}
use Rattle.term_values.specs.Trees.{Tree, Trees, count_of, depth_of, greatest_depth}
use Rattle.term_values.specs.Trees as tree
use Rattle.term_values.specs.Lengths.{length_of, lengths_of}
use Rattle.term_values.specs.Limits.{Fits, AllFit}
use Rattle.tagged_codec.specs.Grammar.{IsInLimits}
use Rattle.tagged_codec.proofs.Grammar.{length_of_spelling}
use Rattle.script_text.specs.declared.reading.Marks.{Marks}
use Rattle.script_text.specs.declared.reading.ReadFault.{ReadFault}
use Rattle.script_text.specs.declared.reading.ReadFault.TheVariants as fault
use Rattle.script_text.specs.declared.bad.BadLine.{BadLine}
use Rattle.script_text.specs.declared.bad.BadLine.TheVariants as bad
use Rattle.script_text.specs.Faults.{bad_of}
use Rattle.script_text.specs.Notation.{Written, Writtens, notation, IsWellFormed, IsReading, replaced, all_replaced, is_named, plain, all_plain, name, stamp, nonce, part, text, tag, blob, tuple, seal, check, message, message_item, none, item}
use Rattle.script_text.specs.Reading.{Reads, State, Bounds, limits, term_at}
use Rattle.script_text.proofs.Laws.{Taken, term_takes}
use Rattle.script_text.proofs.Words.{some_is}
use Rattle.script_text.proofs.Again.{IsBounded, AreBounded, after, at, borrowed, all_borrowed, count_written, stops_end, term_again}

count_replaced : (sent : List Tree) (ws : Writtens) → count_written ws ≡ count_of (all_replaced sent ws)
count_replaced sent none = refl
count_replaced sent (item w ws) = omega (arith, count_replaced sent ws)

mutual
  bounded_is : (sent : List Tree) (w : Written) → Fits (replaced sent w) → IsBounded limits w
  bounded_is sent (blob b) h = omega arith
  bounded_is sent (tuple ws) h = (omega (arith, count_replaced sent ws, h.0), all_bounded sent ws h.1)
  bounded_is sent (seal k w) h = bounded_is sent w h.1
  bounded_is sent (check k w) h = bounded_is sent w h.1
  bounded_is sent (name n) h = tt
  bounded_is sent (stamp s) h = tt
  bounded_is sent (nonce b) h = tt
  bounded_is sent (part b) h = tt
  bounded_is sent (text b) h = tt
  bounded_is sent (tag b) h = tt
  bounded_is sent (message m) h = tt
  bounded_is sent (message_item m i) h = tt

  all_bounded : (sent : List Tree) (ws : Writtens) → AllFit (all_replaced sent ws) → AreBounded limits ws
  all_bounded sent none h = tt
  all_bounded sent (item w ws) h = (bounded_is sent w h.0, all_bounded sent ws h.1)

mutual
  borrowed_le : (sent : List Tree) (w : Written) → borrowed sent w ≤ length_of (replaced sent w)
  borrowed_le sent (tuple ws) = omega (arith, all_borrowed_le sent ws)
  borrowed_le sent (seal k w) = omega (arith, borrowed_le sent w)
  borrowed_le sent (check k w) = omega (arith, borrowed_le sent w)
  borrowed_le sent (name n) = omega arith
  borrowed_le sent (stamp s) = omega arith
  borrowed_le sent (nonce b) = omega arith
  borrowed_le sent (part b) = omega arith
  borrowed_le sent (text b) = omega arith
  borrowed_le sent (tag b) = omega arith
  borrowed_le sent (blob b) = omega arith
  borrowed_le sent (message m) = omega arith
  borrowed_le sent (message_item m i) = omega arith

  all_borrowed_le : (sent : List Tree) (ws : Writtens) → all_borrowed sent ws ≤ lengths_of (all_replaced sent ws)
  all_borrowed_le sent none = omega arith
  all_borrowed_le sent (item w ws) = omega (arith, borrowed_le sent w, all_borrowed_le sent ws)

-- the marks before anything was read
abbrev pub start : Marks
start = record { left = 8192; named = true }

-- a reading is what is read
pub read_is : (sent : List Tree) (bytes : List ℕ) (w : Written) → IsReading sent bytes w → term_at limits sent 8 (at bytes start) ≡ Some (replaced sent w, at [] (after sent w start))
read_is sent bytes w r =
    let short : borrowed sent w ≤ 8192 = omega (arith, borrowed_le sent w, length_of_spelling (replaced sent w) r.limits.fits, r.limits.length) in
    ap (λ (l : List ℕ). term_at limits sent 8 (at l start)) (r.written ∙ sym (append-nil (notation w)))
    ∙ term_again limits sent 8 w [] start r.values (bounded_is sent w r.limits.fits) r.limits.levels short stops_end

-- nothing is read where there is no reading
pub no_reading : (sent : List Tree) (bytes : List ℕ) → term_at limits sent 8 (at bytes start) ≡ None → (w : Written) → IsReading sent bytes w → ⊥
no_reading sent bytes e w r = absurd (let never = sym (read_is sent bytes w r) ∙ e in cc)

-- what is read leaves nothing, and is the term
pub only_reading : (sent : List Tree) (bytes : List ℕ) (t : Tree) (s : State) → term_at limits sent 8 (at bytes start) ≡ Some (t, s) → (w : Written) → IsReading sent bytes w → (s.rest ≡ []) × (replaced sent w ≡ t)
only_reading sent bytes t s e w r =
    let made : Tree × State = (replaced sent w, at [] (after sent w start)) in
    let read : Tree × State = (t, s) in
    let same : made ≡ read = some_is made read (sym (read_is sent bytes w r) ∙ e) in
    (ap (λ (x : Tree × State). x.1.rest) (sym same), ap (λ (x : Tree × State). x.0) same)

-- two readings of one text say the same
pub one_reading_is : (sent : List Tree) (bytes : List ℕ) (v w : Written) → IsReading sent bytes v → IsReading sent bytes w → (replaced sent v ≡ replaced sent w) × (is_named sent v ≡ is_named sent w)
one_reading_is sent bytes v w p q =
    let first : Tree × State = (replaced sent v, at [] (after sent v start)) in
    let second : Tree × State = (replaced sent w, at [] (after sent w start)) in
    let same : first ≡ second = some_is first second (sym (read_is sent bytes v p) ∙ read_is sent bytes w q) in
    (ap (λ (x : Tree × State). x.0) same, ap (λ (x : Tree × State). x.1.marks.named) same)

-- what is read whole and is in the limits is a reading
pub record Found (sent : List Tree) (bytes : List ℕ) (t : Tree) (each : Bool) : Type 0 where
  pub it : Written
  pub reading : IsReading sent bytes it
  pub made : t ≡ replaced sent it
  pub named : is_named sent it ≡ each

pub found_reading : (sent : List Tree) (bytes : List ℕ) (t : Tree) (s : State) → term_at limits sent 8 (at bytes start) ≡ Some (t, s) → s.rest ≡ [] → IsInLimits t → Found sent bytes t s.marks.named
found_reading sent bytes t s e whole small =
    let x : Taken sent bytes start (t, s) = term_takes limits sent 8 (at bytes start) (t, s) e in
    record {
      it = x.it;
      reading = record {
        written = x.parts ∙ ap (λ (l : List ℕ). notation x.it ++ l) whole ∙ append-nil (notation x.it);
        values = x.values;
        limits = subst IsInLimits (sym x.made) small;
      };
      made = sym x.made;
      named = sym x.named;
    }

-- ---- no two terms share a notation

mutual
  plain_replaced : (t : Tree) → replaced [] (plain t) ≡ t
  plain_replaced (tree.name n) = refl
  plain_replaced (tree.stamp s) = refl
  plain_replaced (tree.nonce b) = refl
  plain_replaced (tree.part b) = refl
  plain_replaced (tree.text b) = refl
  plain_replaced (tree.tag b) = refl
  plain_replaced (tree.blob b) = refl
  plain_replaced (tree.tuple ts) = ap tree.tuple (all_plain_replaced ts)
  plain_replaced (tree.seal k t) = ap (tree.seal k) (plain_replaced t)
  plain_replaced (tree.check k t) = ap (tree.check k) (plain_replaced t)

  all_plain_replaced : (ts : Trees) → all_replaced [] (all_plain ts) ≡ ts
  all_plain_replaced tree.none = refl
  all_plain_replaced (tree.item t ts) = ap (λ (u : Tree). tree.item u (all_replaced [] (all_plain ts))) (plain_replaced t) ∙ ap (tree.item t) (all_plain_replaced ts)

mutual
  plain_borrows : (t : Tree) → borrowed [] (plain t) ≡ 0
  plain_borrows (tree.name n) = refl
  plain_borrows (tree.stamp s) = refl
  plain_borrows (tree.nonce b) = refl
  plain_borrows (tree.part b) = refl
  plain_borrows (tree.text b) = refl
  plain_borrows (tree.tag b) = refl
  plain_borrows (tree.blob b) = refl
  plain_borrows (tree.tuple ts) = all_plain_borrow ts
  plain_borrows (tree.seal k t) = plain_borrows t
  plain_borrows (tree.check k t) = plain_borrows t

  all_plain_borrow : (ts : Trees) → all_borrowed [] (all_plain ts) ≡ 0
  all_plain_borrow tree.none = refl
  all_plain_borrow (tree.item t ts) = omega (arith, plain_borrows t, all_plain_borrow ts)

abbrev wide : ℕ → Bounds
wide n = record { items = n; digits = 2 * n }

pub some_length : (t : Tree) → 1 ≤ length_of t
some_length (tree.tuple ts) = omega arith
some_length (tree.seal k t) = omega arith
some_length (tree.check k t) = omega arith
some_length (tree.name n) = omega arith
some_length (tree.stamp s) = omega arith
some_length (tree.nonce b) = omega arith
some_length (tree.part b) = omega arith
some_length (tree.text b) = omega arith
some_length (tree.tag b) = omega arith
some_length (tree.blob b) = omega arith

count_le : (ts : Trees) (n : ℕ) → lengths_of ts ≤ n → count_written (all_plain ts) ≤ n
count_le tree.none n h = omega arith
count_le (tree.item t ts) n h = omega (arith, some_length t, count_le ts (lengths_of ts) (omega arith))

mutual
  plain_bounded : (n : ℕ) (t : Tree) → length_of t ≤ n → IsBounded (wide n) (plain t)
  plain_bounded n (tree.name k) h = tt
  plain_bounded n (tree.stamp s) h = tt
  plain_bounded n (tree.nonce b) h = tt
  plain_bounded n (tree.part b) h = tt
  plain_bounded n (tree.text b) h = tt
  plain_bounded n (tree.tag b) h = tt
  plain_bounded n (tree.blob b) h = omega arith
  plain_bounded n (tree.tuple ts) h = (count_le ts n (omega arith), all_plain_bounded n ts (omega arith))
  plain_bounded n (tree.seal k t) h = plain_bounded n t (omega arith)
  plain_bounded n (tree.check k t) h = plain_bounded n t (omega arith)

  all_plain_bounded : (n : ℕ) (ts : Trees) → lengths_of ts ≤ n → AreBounded (wide n) (all_plain ts)
  all_plain_bounded n tree.none h = tt
  all_plain_bounded n (tree.item t ts) h = (plain_bounded n t (omega arith), all_plain_bounded n ts (omega arith))

plain_again : (n : ℕ) (t : Tree) → length_of t ≤ n → depth_of t ≤ n → IsWellFormed (plain t) → term_at (wide n) [] n (at (notation (plain t)) start) ≡ Some (replaced [] (plain t), at [] (after [] (plain t) start))
plain_again n t long deep values =
    let low : depth_of (replaced [] (plain t)) ≤ n = omega (arith, ap depth_of (plain_replaced t)) in
    ap (λ (l : List ℕ). term_at (wide n) [] n (at l start)) (sym (append-nil (notation (plain t))))
    ∙ term_again (wide n) [] n (plain t) [] start values (plain_bounded n t long) low (omega (arith, plain_borrows t)) stops_end

pub one_term : (t u : Tree) → IsWellFormed (plain t) → IsWellFormed (plain u) → notation (plain t) ≡ notation (plain u) → t ≡ u
one_term t u p q e =
    let n : ℕ = (length_of t + length_of u) + (depth_of t + depth_of u) in
    let a = plain_again n t (omega arith) (omega arith) p in
    let b = plain_again n u (omega arith) (omega arith) q in
    let first : Tree × State = (replaced [] (plain t), at [] (after [] (plain t) start)) in
    let second : Tree × State = (replaced [] (plain u), at [] (after [] (plain u) start)) in
    let same : first ≡ second = some_is first second (sym a ∙ ap (λ (l : List ℕ). term_at (wide n) [] n (at l start)) e ∙ b) in
    sym (plain_replaced t) ∙ ap (λ (x : Tree × State). x.0) same ∙ plain_replaced u

-- ---- the exits of a reading

-- nothing more is there, and the term is within the limits
pub not_whole : (sent : List Tree) (bytes : List ℕ) (t : Tree) (s : State) → term_at limits sent 8 (at bytes start) ≡ Some (t, s) → (s.rest ≡ [] → ⊥) → (w : Written) → IsReading sent bytes w → ⊥
not_whole sent bytes t s e more w r = more (only_reading sent bytes t s e w r).0

pub not_small : (sent : List Tree) (bytes : List ℕ) (t : Tree) (s : State) → term_at limits sent 8 (at bytes start) ≡ Some (t, s) → (IsInLimits t → ⊥) → (w : Written) → IsReading sent bytes w → ⊥
not_small sent bytes t s e large w r = large (subst IsInLimits (only_reading sent bytes t s e w r).1 r.limits)

pub fails_reading : (e : ReadFault) (sent : List Tree) (bytes : List ℕ) (s : State) → Reads {X = Tree} (λ t. t) (Err e) s (term_at limits sent 8 (at bytes start)) → bad_of e ≡ bad.Grammar → (w : Written) → IsReading sent bytes w → ⊥
fails_reading fault.Malformed sent bytes s h is w r = no_reading sent bytes h w r
fails_reading fault.Memory sent bytes s h is w r = absurd cc

pub err_is : {T : Type 0} (x y : BadLine) (r : Result T BadLine) → r ≡ Err x → r ≡ Err y → x ≡ y
err_is x y r p q = cc

pub is_nil : (xs : List ℕ) (b : Bool) → b ≡ eqb (length xs) 0 → b ≡ true → xs ≡ []
is_nil [] b e h = refl
is_nil (x ∷ xs) b e h = absurd (omega (arith, eqb-true _ _ (sym e ∙ h)))

pub not_nil : (xs : List ℕ) (b : Bool) → b ≡ eqb (length xs) 0 → b ≡ false → xs ≡ [] → ⊥
not_nil [] b e h nil = absurd (let never : true ≡ false = sym e ∙ h in cc)
not_nil (x ∷ xs) b e h nil = absurd cc

pub not_both : (b : Bool) → b ≡ false → b ≡ true → ⊥
not_both b p q = absurd (let never : false ≡ true = sym p ∙ q in cc)
