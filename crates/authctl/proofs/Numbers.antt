-- Names in decimal: reading them is the inverse of printing them.
use Rattle.std.proofs.Common.{◌≡◌, ℕ, ◌^◌, ◌<◌, ◌≤◌, List, get_or, decimal, sym, ap, ◌∙◌, subst, arith}
use Rattle.std.specs.Prelude.{Result, Ok, Err, IfSome, IsNone}
use Rattle.std.specs.Result.{result_ok}
use Rattle.std.specs.Str.{IsUtf8}
use Rattle.std.specs.Str.Parse.{ParsesUnsigned, IsNumeral, digits_value, without_leading_plus}
use Rattle.std.specs.Result.{OkIff}
use Rattle.std.proofs.lemmas.Fmt.{IsAscii-decimal, first_decimal, decimal-digits_value, parse-decimal, decimal_is_IsNumeral}
use Rattle.std.proofs.lemmas.Str.{IsUtf8-from_ascii}
use Rattle.std.proofs.lemmas.Str.Parse.{digit_at, numerals_by_value, tells_digits, without_leading_plus_none}

-- a word that begins with a digit from 1 to 9 and is read as a number is that number in decimal
pub number_read : {E : Type 0} (word text : List ℕ) (r : Result ℕ E) → 49 ≤ get_or word 0 0 → get_or word 0 0 ≤ 57 → text ≡ word → ParsesUnsigned 32 10 text r → IfSome (result_ok r) (λ n. word ≡ decimal n)
number_read word text (Err e) low high same h = tt
number_read {E} word text (Ok n) low high same h =
    let plain : without_leading_plus text ≡ word = without_leading_plus_none text (λ plus. absurd (omega (arith, plus, ap (λ (w : List ℕ). get_or w 0 0) same))) ∙ same in
    let read = subst (λ (w : List ℕ). OkIff {E = E} (Ok n) (IsNumeral 10 w × (digits_value 10 w < 2 ^ 32)) (digits_value 10 w)) plain h in
    sym (ap decimal read.1 ∙ decimal-digits_value (numerals_by_value _ tells_digits) word read.0.0.1 read.0.0.0 (λ z. absurd (omega arith)) (omega (arith, read.0.1)))

pub number_not_read : {E : Type 0} (word text : List ℕ) (r : Result ℕ E) (n : ℕ) → n < 2 ^ 32 → text ≡ word → ParsesUnsigned 32 10 text r → IsNone (result_ok r) → word ≡ decimal n → ⊥
number_not_read word text (Ok m) n fits same h none e = absurd cc
number_not_read {E} word text (Err x) n fits same h none e =
    let failed : Result ℕ E = Err x in
    let ok : failed ≡ Ok n = parse-decimal {E = E} 32 n text failed fits (omega arith) (same ∙ e) h in absurd cc

pub decimal_is_text : (n : ℕ) → n < 2 ^ 32 → IsUtf8 (decimal n)
decimal_is_text n fits = IsUtf8-from_ascii (decimal n) (IsAscii-decimal n (omega arith))

pub decimal_begins : (n : ℕ) → 0 < n → n < 2 ^ 32 → 49 ≤ get_or (decimal n) 0 0
decimal_begins n some fits = omega (arith, first_decimal n some (omega arith))

pub decimal_first : (n : ℕ) → n < 2 ^ 32 → get_or (decimal n) 0 0 ≤ 57
decimal_first n fits =
    let (numeral, value) = decimal_is_IsNumeral n (omega arith) in
    omega (arith, digit_at (decimal n) 0 numeral.1 numeral.0)
