-- Digits of hexadecimal and of decimal numbers.
use Rattle.std.proofs.Common.{◌≡◌, ℕ, zero, suc, ◌+◌, ◌-◌, ◌*◌, ◌^◌, ◌≤◌, ◌<◌, false, ltb, min, List, [], ◌∷◌, length, get_or, drop, sym, ap, arith}
use Rattle.std.specs.Prelude.{Ok, Some}
use Rattle.std.proofs.lemmas.Bool.{le-ltb}
use Rattle.hex.specs.Hex.{decode_of, decode_sized}
use Rattle.hex.proofs.HexLemmas.{decode_of-ok, decode_sized-twice}
use Rattle.term_values.specs.Trees.{Tree, depth_of}
use Rattle.term_values.specs.Lengths.{length_of}
use Rattle.script_text.specs.declared.reading.Marks.{Marks}
use Rattle.script_text.specs.Notation.{value_after}
use Rattle.script_text.specs.Reading.{lent_at}

pub sized_is : (s : List ℕ) (n : ℕ) → length s ≡ 2 * n → decode_sized s n ≡ decode_of s
sized_is = decode_sized-twice

pub decoded_length : (s bytes : List ℕ) → decode_of s ≡ Ok bytes → length s ≡ 2 * length bytes
decoded_length s bytes e = (decode_of-ok s bytes e).2

-- digits only make a number greater
pub value_grows : (n : ℕ) (cs : List ℕ) → n ≤ value_after n cs
value_grows n [] = omega arith
value_grows n (c ∷ cs) = omega (arith, value_grows (10 * n + (c - 48)) cs)

-- the value with the next digit is no more than the whole number
pub value_next : (v i : ℕ) (word : List ℕ) → i < length word → 10 * v + (get_or word i 0 - 48) ≤ value_after v (drop i word)
value_next v i [] lt = absurd (omega arith)
value_next v zero (c ∷ cs) lt = value_grows (10 * v + (c - 48)) cs
value_next v (suc i) (c ∷ cs) lt = value_next v i cs (omega arith)

-- a term that is lent
pub lent_is : (levels shown left : ℕ) (t u : Tree) (marks : Marks) → shown ≡ min (depth_of t) (2 ^ 32 - 1) → shown ≤ levels → levels ≤ 8 → left + length_of t ≡ marks.left → u ≡ t
    → lent_at levels t marks ≡ Some (u, record { left = left; named = marks.named })
unfolding lent_at
lent_is levels shown left t u marks d le small fits same =
    let a : ltb levels (depth_of t) ≡ false = le-ltb _ _ (omega arith) in
    let b : ltb marks.left (length_of t) ≡ false = le-ltb _ _ (omega arith) in
    let e : marks.left - length_of t ≡ left = omega arith in
    let m : Marks = record { left = left; named = marks.named } in
    rw (a, b, e) (ap (λ (x : Tree). Some (x, m)) (sym same))
