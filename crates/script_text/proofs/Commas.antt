-- A notation has fewer commas than the spelling of its term has bytes.
use Rattle.std.proofs.Common.{◌≡◌, ℕ, ◌+◌, ◌^◌, ◌<◌, ◌≤◌, Bool, true, false, ◌&&◌, cond, eqb, List, [], ◌∷◌, ◌++◌, refl, ap, arith, rules}
use Rattle.std.specs.List.{count_by, list_all}
use Rattle.std.specs.Char.{is_ascii_digit}
use Rattle.std.specs.Fmt.{decimal}
use Rattle.std.proofs.lemmas.Bool.Decides.{nat_tests}
use Rattle.std.proofs.lemmas.Fmt.{digits_decimal}
use Rattle.std.proofs.lemmas.List.Recursion.{is_count_by}
use Rattle.std.proofs.lemmas.Str.Parse.{IsNumeralModel, IsDigitsTest, FoldsDigits, numerals_by_fold}
use Rattle.hex.specs.Hex.{IsBytes, encode_lower}
use Rattle.term_values.specs.declared.Key.{Key}
use Rattle.term_values.specs.declared.Key.TheVariants.{One, Two}
use Rattle.term_values.specs.declared.Stamp.TheVariants.{Time, Seq}
use Rattle.term_values.specs.Trees.{Tree}
use Rattle.term_values.specs.Lengths.{length_of, lengths_of}
use Rattle.tagged_codec.proofs.Grammar.{length_of_spelling}
use Rattle.script_text.specs.Notation.{Written, Writtens, notation, list_notation, more_notation, key_notation, is_numeral, value_after, IsWellFormed, AreWellFormed, IsKeyOfParts, IsReading, replaced, all_replaced, message_named, item_named, or_empty, name, stamp, nonce, part, text, tag, blob, tuple, seal, check, message, message_item, none, item}
use Rattle.script_text.specs.Reading.{is_lower_digit}
use Rattle.script_text.proofs.Words.{encoded_is_lower}
use Rattle.script_text.proofs.Readings.{some_length}

abbrev is_comma : ℕ → Bool
is_comma c = eqb c 44

abbrev commas_of : List ℕ → ℕ
commas_of [] = 0
commas_of (c ∷ cs) = cond (is_comma c) (1 + commas_of cs) (commas_of cs)

commas_counted : (xs : List ℕ) → commas_of xs ≡ count_by is_comma xs
commas_counted = is_count_by commas_of is_comma refl (λ c cs. refl)

one_more : (b : Bool) (m n k : ℕ) → m ≡ n + k → cond b (1 + m) m ≡ cond b (1 + n) n + k
one_more true m n k e = omega (arith, e)
one_more false m n k e = e

commas_append : (xs ys : List ℕ) → commas_of (xs ++ ys) ≡ commas_of xs + commas_of ys
commas_append [] ys = omega arith
commas_append (x ∷ xs) ys = one_more (is_comma x) (commas_of (xs ++ ys)) (commas_of xs) (commas_of ys) (commas_append xs ys)

-- ---- words without commas

both_of : (a b : Bool) → (a && b) ≡ true → (a ≡ true) × (b ≡ true)
both_of true b e = (refl, e)
both_of false b e = absurd cc

all_first : (p : ℕ → Bool) (x : ℕ) (xs : List ℕ) → list_all p (x ∷ xs) ≡ true → (p x ≡ true) × (list_all p xs ≡ true)
all_first p x xs all = both_of (p x) (list_all p xs) all

none_here : (b : Bool) (n : ℕ) → b ≡ false → n ≡ 0 → cond b (1 + n) n ≡ 0
none_here true n is e = absurd cc
none_here false n is e = e

no_commas : (p : ℕ → Bool) (apart : (c : ℕ) → p c ≡ true → is_comma c ≡ false) (xs : List ℕ) → list_all p xs ≡ true → commas_of xs ≡ 0
no_commas p apart [] all = refl
no_commas p apart (x ∷ xs) all =
    let here = all_first p x xs all in
    none_here (is_comma x) (commas_of xs) (apart x here.0) (no_commas p apart xs here.1)

lower_apart : (c : ℕ) → is_lower_digit c ≡ true → is_comma c ≡ false
lower_apart c h = grind (arith, nat_tests)

digit_apart : (c : ℕ) → is_ascii_digit c ≡ true → is_comma c ≡ false
digit_apart c h = grind (arith, nat_tests)

hex_commas : (b : List ℕ) → IsBytes b → commas_of (encode_lower b) ≡ 0
hex_commas b fits = no_commas is_lower_digit lower_apart (encode_lower b) (encoded_is_lower b fits)

abbrev AreDigits : List ℕ → Type 0
AreDigits ds = list_all is_ascii_digit ds ≡ true

digits_test : IsDigitsTest AreDigits
digits_test = search rules

digits_fold : FoldsDigits value_after
digits_fold = search rules

own : IsNumeralModel AreDigits (value_after 0)
own = numerals_by_fold AreDigits digits_test value_after digits_fold

decimal_commas : (n : ℕ) → n < 2 ^ 64 → commas_of (decimal n) ≡ 0
decimal_commas n lt = no_commas is_ascii_digit digit_apart (decimal n) (digits_decimal own n lt)

numeral_all : (ds : List ℕ) → is_numeral ds ≡ true → AreDigits ds
numeral_all [] e = absurd cc
numeral_all (d ∷ []) e = ap (λ (b : Bool). b && true) e
numeral_all (d ∷ c ∷ ds) e = (both_of _ _ e).1

numeral_commas : (ds : List ℕ) → is_numeral ds ≡ true → commas_of ds ≡ 0
numeral_commas ds e = no_commas is_ascii_digit digit_apart ds (numeral_all ds e)

key_commas : (k : Key) → IsKeyOfParts k → commas_of (key_notation k) ≡ 0
key_commas (One p) h = hex_commas p h.1
key_commas (Two p q) h = omega (arith, commas_append (encode_lower p) (43 ∷ encode_lower q), hex_commas p h.0.1, hex_commas q h.1.1)

-- ---- fewer commas than bytes

mutual
  commas_lt : (sent : List Tree) (w : Written) → IsWellFormed w → commas_of (notation w) < length_of (replaced sent w)
  commas_lt sent (name n) h = omega (arith, decimal_commas n (omega (arith, h.1)))
  commas_lt sent (stamp (Time ms)) h = omega (arith, decimal_commas ms h)
  commas_lt sent (stamp (Seq n)) h = omega (arith, decimal_commas n h)
  commas_lt sent (nonce b) h = omega (arith, hex_commas b h.1)
  commas_lt sent (part b) h = omega (arith, hex_commas b h.1)
  commas_lt sent (text b) h = omega (arith, hex_commas b h.1)
  commas_lt sent (tag b) h = omega (arith, hex_commas b h.1)
  commas_lt sent (blob b) h = omega (arith, hex_commas b h)
  commas_lt sent (tuple ws) h = omega (arith, commas_append (list_notation ws) (41 ∷ []), list_commas sent ws h)
  commas_lt sent (seal k w) h = omega (arith, commas_append (key_notation k) (124 ∷ (notation w ++ 93 ∷ [])), key_commas k h.0, commas_append (notation w) (93 ∷ []), commas_lt sent w h.1)
  commas_lt sent (check k w) h = omega (arith, commas_append (key_notation k) (124 ∷ (notation w ++ 93 ∷ [])), key_commas k h.0, commas_append (notation w) (93 ∷ []), commas_lt sent w h.1)
  commas_lt sent (message m) h = omega (arith, numeral_commas m h, some_length (or_empty (message_named sent m)))
  commas_lt sent (message_item m i) h = omega (arith, commas_append m (46 ∷ i), numeral_commas m h.0, numeral_commas i h.1, some_length (or_empty (item_named sent m i)))

  list_commas : (sent : List Tree) (ws : Writtens) → AreWellFormed ws → commas_of (list_notation ws) ≤ lengths_of (all_replaced sent ws)
  list_commas sent none h = omega arith
  list_commas sent (item w ws) h = omega (arith, commas_append (notation w) (more_notation ws), commas_lt sent w h.0, more_commas sent ws h.1)

  more_commas : (sent : List Tree) (ws : Writtens) → AreWellFormed ws → commas_of (more_notation ws) ≤ lengths_of (all_replaced sent ws)
  more_commas sent none h = omega arith
  more_commas sent (item w ws) h = omega (arith, commas_append (notation w) (more_notation ws), commas_lt sent w h.0, more_commas sent ws h.1)

-- a text with more commas than a spelling has bytes is no reading
pub many_commas : (sent : List Tree) (bytes : List ℕ) → 8192 < count_by is_comma bytes → (w : Written) → IsReading sent bytes w → ⊥
many_commas sent bytes many w r =
    absurd (omega (arith, many, commas_counted bytes, ap commas_of r.written, commas_lt sent w r.values, length_of_spelling (replaced sent w) r.limits.fits, r.limits.length))
