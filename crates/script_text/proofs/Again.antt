-- What is written is read again, whatever follows.
use Rattle.std.proofs.Common.{◌≡◌, ℕ, zero, suc, ◌+◌, ◌-◌, ◌*◌, ◌^◌, ◌≤◌, true, false, ◌&&◌, ltb, eqb, List, [], ◌∷◌, ◌++◌, length, refl, sym, ap, ◌∙◌, append_assoc, arith}
use Rattle.std.specs.Prelude.{Option, Some, None, is_some, if◌then◌else◌, ◌==◌}
use Rattle.std.specs.List.{prefix_len}
use Rattle.std.specs.Char.{is_ascii_digit}
use Rattle.std.proofs.lemmas.Bool.{eq-eqb, le-ltb}
use Rattle.std.proofs.lemmas.Bool.Decides.{nat_tests}
use Rattle.hex.specs.Hex.{encode_lower}
use Rattle.term_values.specs.declared.Key.{Key}
use Rattle.term_values.specs.declared.Key.TheVariants.{One, Two}
use Rattle.term_values.specs.declared.Stamp.{Stamp}
use Rattle.term_values.specs.declared.Stamp.TheVariants.{Time, Seq}
use Rattle.term_values.specs.Trees.{Tree, Trees, trees, untrees, count_of, depth_of, greatest_depth}
use Rattle.term_values.specs.Trees as tree
use Rattle.term_values.specs.Lengths.{length_of}
use Rattle.term_values.proofs.Trees.{trees_untrees}
use Rattle.script_text.specs.declared.reading.Marks.{Marks}
use Rattle.script_text.specs.Notation.{Written, Writtens, notation, list_notation, more_notation, key_notation, stamp_notation, is_numeral, IsWellFormed, AreWellFormed, IsKeyOfParts, IsStampOf64, replaced, all_replaced, is_named, are_named, message_named, item_named, or_empty, name, stamp, nonce, part, text, tag, blob, tuple, seal, check, message, message_item, none, item}
use Rattle.script_text.specs.Reading.{◌>>=◌, State, Bounds, byte_at, mark_at, skip_at, digits_of, just, upto, second_at, key_at, name_at, atom_at, lent_at, found_at, sent_at, items_at, tuple_at, sealed_at, tree_under, term_at}
use Rattle.script_text.proofs.Words.{bytes_again, numeral_again, number_again}
use Rattle.script_text.proofs.Laws.{and_true, and_assoc, sealed_parts}

-- what follows goes on no word
pub record Stops (rest : List ℕ) : Type 0 where
  pub digits : digits_of rest ≡ 0
  pub decimals : prefix_len is_ascii_digit rest ≡ 0
  pub dot : skip_at 46 rest ≡ (false, rest)

pub stops_end : Stops []
unfolding skip_at
stops_end = record { digits = refl; decimals = refl; dot = refl }

stops_close : (rest : List ℕ) → Stops (41 ∷ rest)
unfolding skip_at
stops_close rest = record { digits = refl; decimals = refl; dot = refl }

stops_comma : (rest : List ℕ) → Stops (44 ∷ rest)
unfolding skip_at
stops_comma rest = record { digits = refl; decimals = refl; dot = refl }

stops_bracket : (rest : List ℕ) → Stops (93 ∷ rest)
unfolding skip_at
stops_bracket rest = record { digits = refl; decimals = refl; dot = refl }

abbrev pub count_written : Writtens → ℕ
count_written none = 0
count_written (item w ws) = count_written ws + 1

-- no tuple has more items and no blob more digits than that
abbrev mutual
  pub IsBounded : Bounds → Written → Type 0
  IsBounded b (blob bytes) = 2 * length bytes ≤ b.digits
  IsBounded b (tuple ws) = (count_written ws ≤ b.items) × AreBounded b ws
  IsBounded b (seal k w) = IsBounded b w
  IsBounded b (check k w) = IsBounded b w
  IsBounded b _ = Unit {0}

  pub AreBounded : Bounds → Writtens → Type 0
  AreBounded b none = Unit {0}
  AreBounded b (item w ws) = IsBounded b w × AreBounded b ws

-- how many bytes the terms that stand by their numbers take
abbrev mutual
  pub borrowed : List Tree → Written → ℕ
  borrowed sent (tuple ws) = all_borrowed sent ws
  borrowed sent (seal k w) = borrowed sent w
  borrowed sent (check k w) = borrowed sent w
  borrowed sent (message m) = length_of (or_empty (message_named sent m))
  borrowed sent (message_item m i) = length_of (or_empty (item_named sent m i))
  borrowed sent _ = 0

  pub all_borrowed : List Tree → Writtens → ℕ
  all_borrowed sent none = 0
  all_borrowed sent (item w ws) = borrowed sent w + all_borrowed sent ws

abbrev pub after : List Tree → Written → Marks → Marks
after sent w m = record { left = m.left - borrowed sent w; named = m.named && is_named sent w }

abbrev pub after_all : List Tree → Writtens → Marks → Marks
after_all sent ws m = record { left = m.left - all_borrowed sent ws; named = m.named && are_named sent ws }

marks_are : (m k : Marks) → m.left ≡ k.left → m.named ≡ k.named → m ≡ k
marks_are m k p q i = record { left = p i; named = q i }

-- marks after what holds no `@`
kept : (m : Marks) → m ≡ record { left = m.left - 0; named = m.named && true }
kept m = marks_are m (record { left = m.left - 0; named = m.named && true }) (omega arith) (sym (and_true m.named))

after_both : (sent : List Tree) (w : Written) (ws : Writtens) (m : Marks) → after_all sent ws (after sent w m) ≡ after_all sent (item w ws) m
after_both sent w ws m = marks_are (after_all sent ws (after sent w m)) (after_all sent (item w ws) m) (omega arith) (and_assoc m.named (is_named sent w) (are_named sent ws))

abbrev pub at : List ℕ → Marks → State
at rest m = record { rest = rest; marks = m }

pub upto_is : (n k : ℕ) → k ≤ n → upto n k ≡ true
upto_is n k h = grind (arith, nat_tests)

pub just_is : (n k : ℕ) → k ≡ n → just n k ≡ true
just_is n k h = eq-eqb k n h

key_again : (k : Key) (rest : List ℕ) → IsKeyOfParts k → key_at (key_notation k ++ 124 ∷ rest) ≡ Some (k, 124 ∷ rest)
unfolding key_at mark_at second_at skip_at
key_again (One p) rest fits = rw (bytes_again (just 64) p (124 ∷ rest) fits.1 (just_is 64 (2 * length p) (omega (arith, fits.0))) refl) refl
key_again (Two p q) rest fits =
    ap (λ (l : List ℕ). key_at (75 ∷ 58 ∷ l)) (append_assoc (encode_lower p) (43 ∷ encode_lower q) (124 ∷ rest))
    ∙ rw (bytes_again (just 64) p (43 ∷ encode_lower q ++ 124 ∷ rest) fits.0.1 (just_is 64 (2 * length p) (omega (arith, fits.0.0))) refl, bytes_again (just 64) q (124 ∷ rest) fits.1.1 (just_is 64 (2 * length q) (omega (arith, fits.1.0))) refl) refl

some_depth : (t : Tree) → 1 ≤ depth_of t
some_depth (tree.tuple ts) = omega arith
some_depth (tree.seal k t) = omega arith
some_depth (tree.check k t) = omega arith
some_depth (tree.name n) = omega arith
some_depth (tree.stamp s) = omega arith
some_depth (tree.nonce b) = omega arith
some_depth (tree.part b) = omega arith
some_depth (tree.text b) = omega arith
some_depth (tree.tag b) = omega arith
some_depth (tree.blob b) = omega arith

-- a term does not begin with a closing parenthesis
no_close_stamp : (s : Stamp) (rest : List ℕ) → skip_at 41 (stamp_notation s ++ rest) ≡ (false, stamp_notation s ++ rest)
unfolding skip_at
no_close_stamp (Time ms) rest = refl
no_close_stamp (Seq n) rest = refl

no_close : (w : Written) (rest : List ℕ) → skip_at 41 (notation w ++ rest) ≡ (false, notation w ++ rest)
unfolding skip_at
no_close (name n) rest = refl
no_close (stamp s) rest = no_close_stamp s rest
no_close (nonce b) rest = refl
no_close (part b) rest = refl
no_close (text b) rest = refl
no_close (tag b) rest = refl
no_close (blob b) rest = refl
no_close (tuple ws) rest = refl
no_close (seal k w) rest = refl
no_close (check k w) rest = refl
no_close (message m) rest = refl
no_close (message_item m i) rest = refl

found_again : (levels : ℕ) (found : Option Tree) (m : Marks) → depth_of (or_empty found) ≤ levels → length_of (or_empty found) ≤ m.left
    → found_at levels found m ≡ Some (or_empty found, record { left = m.left - length_of (or_empty found); named = m.named && is_some found })
unfolding found_at lent_at
found_again levels found m low fits =
    let a : ltb levels (depth_of (or_empty found)) ≡ false = le-ltb _ _ low in
    let b : ltb m.left (length_of (or_empty found)) ≡ false = le-ltb _ _ fits in
    rw (a, b) refl

message_again : (sent : List Tree) (levels : ℕ) (d rest : List ℕ) (m : Marks) → is_numeral d ≡ true → depth_of (or_empty (message_named sent d)) ≤ levels → length_of (or_empty (message_named sent d)) ≤ m.left → Stops rest
    → sent_at sent levels (at (d ++ rest) m) ≡ Some (or_empty (message_named sent d), at rest (after sent (message d) m))
unfolding sent_at
message_again sent levels d rest m is low fits stops =
    rw (numeral_again d rest is stops.decimals, stops.dot, found_again levels (message_named sent d) m low fits) refl

item_again : (sent : List Tree) (levels : ℕ) (d e rest : List ℕ) (m : Marks) → is_numeral d ≡ true → is_numeral e ≡ true → depth_of (or_empty (item_named sent d e)) ≤ levels → length_of (or_empty (item_named sent d e)) ≤ m.left → Stops rest
    → sent_at sent levels (at ((d ++ 46 ∷ e) ++ rest) m) ≡ Some (or_empty (item_named sent d e), at rest (after sent (message_item d e) m))
unfolding sent_at skip_at
item_again sent levels d e rest m is is_too low fits stops =
    ap (λ (l : List ℕ). sent_at sent levels (at l m)) (append_assoc d (46 ∷ e) rest)
    ∙ rw (numeral_again d (46 ∷ e ++ rest) is refl, numeral_again e rest is_too stops.decimals, found_again levels (item_named sent d e) m low fits) refl

-- the rest of items once one was read
abbrev tail_of : (State → Option (Tree × State)) → ℕ → Tree → State → Option (List Tree × State)
tail_of one n t s =
    byte_at s.rest >>= λ mark.
    if mark.0 == 41 then Some (t ∷ [], record { rest = mark.1; marks = s.marks })
    else if mark.0 == 44 then (items_at one n (record { rest = mark.1; marks = s.marks }) >>= λ others. Some (t ∷ others.0, others.1))
    else None

stops_more : (ws : Writtens) (rest : List ℕ) → Stops (more_notation ws ++ 41 ∷ rest)
stops_more none rest = stops_close rest
stops_more (item w ws) rest = stops_comma ((notation w ++ more_notation ws) ++ 41 ∷ rest)

stamp_again : (b : Bounds) (sent : List Tree) (levels : ℕ) (s : Stamp) (rest : List ℕ) (m : Marks) → IsStampOf64 s → Stops rest → term_at b sent (suc levels) (at (stamp_notation s ++ rest) m) ≡ Some (tree.stamp s, at rest m)
unfolding term_at byte_at tree_under mark_at atom_at
stamp_again b sent levels (Time ms) rest m lt stops = rw (number_again (2 ^ 64) ms rest (omega arith) lt stops.decimals) refl
stamp_again b sent levels (Seq n) rest m lt stops = rw (number_again (2 ^ 64) n rest (omega arith) lt stops.decimals) refl

abbrev with_marks : Tree → List ℕ → Marks → Option (Tree × State)
with_marks t rest m = Some (t, at rest m)

sealed_again : (one : State → Option (Tree × State)) (k : Key) (w : Written) (t : Tree) (rest : List ℕ) (m n : Marks) → IsKeyOfParts k → one (at (notation w ++ 93 ∷ rest) m) ≡ Some (t, at (93 ∷ rest) n)
    → sealed_at one (at (91 ∷ (key_notation k ++ 124 ∷ (notation w ++ 93 ∷ [])) ++ rest) m) ≡ Some ((k, t), at rest n)
unfolding sealed_at mark_at
sealed_again one k w t rest m n fits again =
    ap (λ (l : List ℕ). sealed_at one (at (91 ∷ l) m)) (sym (sealed_parts (key_notation k) (notation w) rest))
    ∙ rw (key_again k (notation w ++ 93 ∷ rest) fits, again) refl

mutual
  unfolding term_at byte_at tree_under mark_at atom_at name_at tuple_at items_at skip_at

  pub term_again : (b : Bounds) (sent : List Tree) (levels : ℕ) (w : Written) (rest : List ℕ) (m : Marks) → IsWellFormed w → IsBounded b w → depth_of (replaced sent w) ≤ levels → borrowed sent w ≤ m.left → Stops rest
      → term_at b sent levels (at (notation w ++ rest) m) ≡ Some (replaced sent w, at rest (after sent w m))
  term_again b sent zero w rest m values bounded low fits stops = absurd (omega (arith, some_depth (replaced sent w)))
  term_again b sent (suc l) (name n) rest m values bounded low fits stops =
      let is_not : eqb n 0 ≡ false = grind (arith, values.0) in
      rw (number_again (2 ^ 32) n rest (omega arith) values.1 stops.decimals, is_not) (ap (with_marks (tree.name n) rest) (kept m))
  term_again b sent (suc l) (stamp s) rest m values bounded low fits stops = stamp_again b sent l s rest m values stops ∙ ap (with_marks (tree.stamp s) rest) (kept m)
  term_again b sent (suc l) (nonce bytes) rest m values bounded low fits stops = rw (bytes_again (just 32) bytes rest values.1 (just_is 32 (2 * length bytes) (omega (arith, values.0))) stops.digits) (ap (with_marks (tree.nonce bytes) rest) (kept m))
  term_again b sent (suc l) (part bytes) rest m values bounded low fits stops = rw (bytes_again (just 64) bytes rest values.1 (just_is 64 (2 * length bytes) (omega (arith, values.0))) stops.digits) (ap (with_marks (tree.part bytes) rest) (kept m))
  term_again b sent (suc l) (text bytes) rest m values bounded low fits stops = rw (bytes_again (upto 2048) bytes rest values.1 (upto_is 2048 (2 * length bytes) (omega (arith, values.0))) stops.digits) (ap (with_marks (tree.text bytes) rest) (kept m))
  term_again b sent (suc l) (tag bytes) rest m values bounded low fits stops = rw (bytes_again (just 8) bytes rest values.1 (just_is 8 (2 * length bytes) (omega (arith, values.0))) stops.digits) (ap (with_marks (tree.tag bytes) rest) (kept m))
  term_again b sent (suc l) (blob bytes) rest m values bounded low fits stops = rw (bytes_again (upto b.digits) bytes rest values (upto_is b.digits (2 * length bytes) bounded) stops.digits) (ap (with_marks (tree.blob bytes) rest) (kept m))
  term_again b sent (suc l) (tuple ws) rest m values bounded low fits stops =
      ap (λ (k : List ℕ). term_at b sent (suc l) (at (40 ∷ k) m)) (append_assoc (list_notation ws) (41 ∷ []) rest)
      ∙ rw (list_again b sent l ws b.items rest m values bounded.1 bounded.0 (omega arith) fits, trees_untrees (all_replaced sent ws)) refl
  term_again b sent (suc l) (seal k w) rest m values bounded low fits stops =
      rw (sealed_again (term_at b sent l) k w (replaced sent w) rest m (after sent w m) values.0 (term_again b sent l w (93 ∷ rest) m values.1 bounded (omega arith) fits (stops_bracket rest))) refl
  term_again b sent (suc l) (check k w) rest m values bounded low fits stops =
      rw (sealed_again (term_at b sent l) k w (replaced sent w) rest m (after sent w m) values.0 (term_again b sent l w (93 ∷ rest) m values.1 bounded (omega arith) fits (stops_bracket rest))) refl
  term_again b sent (suc l) (message d) rest m values bounded low fits stops = message_again sent (suc l) d rest m values low fits stops
  term_again b sent (suc l) (message_item d e) rest m values bounded low fits stops = item_again sent (suc l) d e rest m values.0 values.1 low fits stops

  list_again : (b : Bounds) (sent : List Tree) (levels : ℕ) (ws : Writtens) (n : ℕ) (rest : List ℕ) (m : Marks) → AreWellFormed ws → AreBounded b ws → count_written ws ≤ n → greatest_depth (all_replaced sent ws) ≤ levels → all_borrowed sent ws ≤ m.left
      → tuple_at (term_at b sent levels) n (at (list_notation ws ++ 41 ∷ rest) m) ≡ Some (untrees (all_replaced sent ws), at rest (after_all sent ws m))
  list_again b sent levels none n rest m values bounded few low fits = ap (λ (k : Marks). Some ([], at rest k)) (kept m)
  list_again b sent levels (item w ws) zero rest m values bounded few low fits = absurd (omega arith)
  list_again b sent levels (item w ws) (suc n) rest m values bounded few low fits =
      ap (λ (l : List ℕ). tuple_at (term_at b sent levels) (suc n) (at l m)) (append_assoc (notation w) (more_notation ws) (41 ∷ rest))
      ∙ rw (no_close w (more_notation ws ++ 41 ∷ rest), term_again b sent levels w (more_notation ws ++ 41 ∷ rest) m values.0 bounded.0 (omega arith) (omega arith) (stops_more ws rest))
      (more_again b sent levels ws n (replaced sent w) rest (after sent w m) values.1 bounded.1 (omega arith) (omega arith) (omega arith)
      ∙ ap (λ (z : Marks). Some (replaced sent w ∷ untrees (all_replaced sent ws), at rest z)) (after_both sent w ws m))

  more_again : (b : Bounds) (sent : List Tree) (levels : ℕ) (ws : Writtens) (n : ℕ) (t : Tree) (rest : List ℕ) (m : Marks) → AreWellFormed ws → AreBounded b ws → count_written ws ≤ n → greatest_depth (all_replaced sent ws) ≤ levels → all_borrowed sent ws ≤ m.left
      → tail_of (term_at b sent levels) n t (at (more_notation ws ++ 41 ∷ rest) m) ≡ Some (t ∷ untrees (all_replaced sent ws), at rest (after_all sent ws m))
  more_again b sent levels none n t rest m values bounded few low fits = ap (λ (k : Marks). Some (t ∷ [], at rest k)) (kept m)
  more_again b sent levels (item w ws) zero t rest m values bounded few low fits = absurd (omega arith)
  more_again b sent levels (item w ws) (suc n) t rest m values bounded few low fits =
      ap (λ (l : List ℕ). tail_of (term_at b sent levels) (suc n) t (at (44 ∷ l) m)) (append_assoc (notation w) (more_notation ws) (41 ∷ rest))
      ∙ rw (term_again b sent levels w (more_notation ws ++ 41 ∷ rest) m values.0 bounded.0 (omega arith) (omega arith) (stops_more ws rest))
      (ap (λ (r : Option (List Tree × State)). r >>= λ others. Some (t ∷ others.0, others.1)) (more_again b sent levels ws n (replaced sent w) rest (after sent w m) values.1 bounded.1 (omega arith) (omega arith) (omega arith))
      ∙ ap (λ (z : Marks). Some (t ∷ replaced sent w ∷ untrees (all_replaced sent ws), at rest z)) (after_both sent w ws m))
