-- Words of a text: what is read is what stands there, and what stands there is read.
use Rattle.std.proofs.Common.{◌≡◌, ◌⊎◌, ℕ, zero, suc, ◌+◌, ◌*◌, ◌/◌, ◌%◌, ◌^◌, ◌<◌, ◌≤◌, Bool, true, false, not, ◌&&◌, ◌||◌, cond, ltb, eqb, List, [], ◌∷◌, ◌++◌, length, get_or, take, drop, refl, sym, ap, subst, ◌∙◌, arith, rules, inl, inr}
use Rattle.std.specs.Prelude.{Option, Some, None, Result, Ok, Err, slice_index}
use Rattle.std.specs.List.{list_all, prefix_len}
use Rattle.std.specs.Char.{is_ascii_digit}
use Rattle.std.specs.Fmt.{decimal}
use Rattle.std.proofs.lemmas.Bool.{cases_lt, eqb-true, ltb-true, lt-ltb}
use Rattle.std.proofs.lemmas.Bool.Decides.{nat_tests}
use Rattle.std.proofs.lemmas.Fmt.{decimal-digits_value, decimal_digit, decimal_nonempty, digits_decimal, digits_value-decimal, first_decimal}
use Rattle.std.proofs.lemmas.List.{take_at, drop_at, take-append-drop}
use Rattle.std.proofs.lemmas.List.Folds.{length-prefix_len}
use Rattle.std.proofs.lemmas.Str.Parse.{IsNumeralModel, IsDigitsTest, FoldsDigits, numerals_by_fold}
use Rattle.hex.specs.Hex.{IsBytes, decode_of, decode_pairs, encode_lower, encode_with, hex_digit_value, lower_digits, value_at, pair_value, digit_or_error}
use Rattle.hex.specs.Hex as hex
use Rattle.hex.specs.declared.error.FromHexError.{FromHexError}
use Rattle.hex.proofs.HexLemmas.{decode_of-ok, decode_of-encode_lower, decode_of-even, length-encode_with}
use Rattle.script_text.specs.Notation.{is_numeral, value_after, value_of}
use Rattle.script_text.specs.Reading.{◌>>=◌, byte_at, mark_at, skip_at, bytes_at, decoded, digits_of, is_lower_digit, numeral_at, number_at}

pub bind_some : {A B : Type 0} (r : Option A) (f : A → Option B) (y : B) → (r >>= f) ≡ Some y → (x : A) × (r ≡ Some x) × (f x ≡ Some y)
bind_some (Some x) f y e = (x, refl, e)
bind_some None f y e = absurd cc

-- a test that did not fail
pub guard_some : {A : Type 0} (b : Bool) (x : Option A) (y : A) → cond b None x ≡ Some y → (b ≡ false) × (x ≡ Some y)
guard_some true x y e = absurd cc
guard_some false x y e = (refl, e)

-- a test that held
pub held_some : {A : Type 0} (b : Bool) (x : Option A) (y : A) → cond b x None ≡ Some y → (b ≡ true) × (x ≡ Some y)
held_some true x y e = (refl, e)
held_some false x y e = absurd cc

pub chosen : {A : Type 0} (b : Bool) (x y z : A) → cond b x y ≡ z → ((b ≡ true) × (x ≡ z)) ⊎ ((b ≡ false) × (y ≡ z))
chosen true x y z e = inl (refl, e)
chosen false x y z e = inr (refl, e)

abbrev given : {A : Type 0} → A → Option A
given x = Some x

pub some_is : {A : Type 0} (x y : A) → given x ≡ given y → x ≡ y
some_is x y e = cc

and_left : (a b : Bool) → (a && b) ≡ true → a ≡ true
and_left true b e = refl
and_left false b e = absurd cc

and_right : (a b : Bool) → (a && b) ≡ true → b ≡ true
and_right true b e = e
and_right false b e = absurd cc

both : (a b : Bool) → a ≡ true → b ≡ true → (a && b) ≡ true
both a b p q = rw (p, q) refl

-- ---- one character

pub byte_takes : (bytes : List ℕ) (x : ℕ × List ℕ) → byte_at bytes ≡ Some x → bytes ≡ x.0 ∷ x.1
unfolding byte_at
byte_takes [] x e = absurd cc
byte_takes (b ∷ bytes) x e = let same : (b, bytes) ≡ x = some_is (b, bytes) x e in ap (λ (y : ℕ × List ℕ). y.0 ∷ y.1) same

pub mark_takes : (c : ℕ) (bytes : List ℕ) (x : Unit {0} × List ℕ) → mark_at c bytes ≡ Some x → bytes ≡ c ∷ x.1
unfolding mark_at
mark_takes c [] x e = absurd cc
mark_takes c (b ∷ bytes) x e =
    let h = held_some (eqb b c) (Some (tt, bytes)) x e in
    let here : Unit {0} × List ℕ = (tt, bytes) in
    let after : bytes ≡ x.1 = ap (λ (y : Unit {0} × List ℕ). y.1) (some_is here x h.1) in
    ap (λ (k : ℕ). k ∷ bytes) (eqb-true b c h.0) ∙ ap (λ (l : List ℕ). c ∷ l) after

pub skip_takes : (c : ℕ) (bytes : List ℕ) (z : Bool × List ℕ) → skip_at c bytes ≡ z → z.0 ≡ true → bytes ≡ c ∷ z.1
unfolding skip_at
skip_takes c [] z e h = let none : Bool × List ℕ = (false, []) in let f : false ≡ true = ap (λ (y : Bool × List ℕ). y.0) (let k : none ≡ z = e in k) ∙ h in absurd cc
skip_takes c (b ∷ bytes) z e h =
    elim (chosen (eqb b c) (true, bytes) (false, b ∷ bytes) z e) [
      | inl a ↦ ap (λ (k : ℕ). k ∷ bytes) (eqb-true b c a.0) ∙ ap (λ (y : Bool × List ℕ). c ∷ y.1) a.1
      | inr a ↦ let f : false ≡ true = ap (λ (y : Bool × List ℕ). y.0) a.1 ∙ h in absurd cc
    ]

pub skip_leaves : (c : ℕ) (bytes : List ℕ) (z : Bool × List ℕ) → skip_at c bytes ≡ z → z.0 ≡ false → bytes ≡ z.1
unfolding skip_at
skip_leaves c [] z e h = ap (λ (y : Bool × List ℕ). y.1) e
skip_leaves c (b ∷ bytes) z e h =
    elim (chosen (eqb b c) (true, bytes) (false, b ∷ bytes) z e) [
      | inl a ↦ let f : true ≡ false = ap (λ (y : Bool × List ℕ). y.0) a.1 ∙ h in absurd cc
      | inr a ↦ ap (λ (y : Bool × List ℕ). y.1) a.1
    ]

-- ---- the characters in front that pass

one_passes : (p : ℕ → Bool) (x : ℕ) (xs : List ℕ) (v : Bool) → p x ≡ v → list_all p (take (prefix_len p xs) xs) ≡ true → list_all p (take (cond v (1 + prefix_len p xs) 0) (x ∷ xs)) ≡ true
one_passes p x xs true is h =
    let one : 1 + prefix_len p xs ≡ suc (prefix_len p xs) = omega arith in
    rw one (both (p x) (list_all p (take (prefix_len p xs) xs)) is h)
one_passes p x xs false is h = refl

pub front_passes : (p : ℕ → Bool) (xs : List ℕ) → list_all p (take (prefix_len p xs) xs) ≡ true
front_passes p [] = refl
front_passes p (x ∷ xs) = one_passes p x xs (p x) refl (front_passes p xs)

pub front_ends : (p : ℕ → Bool) (ds rest : List ℕ) → list_all p ds ≡ true → prefix_len p rest ≡ 0 → prefix_len p (ds ++ rest) ≡ length ds
front_ends p [] rest all stop = stop
front_ends p (d ∷ ds) rest all stop =
    let here : p d ≡ true = and_left (p d) (list_all p ds) all in
    rw here (omega (arith, front_ends p ds rest (and_right (p d) (list_all p ds) all) stop))

-- ---- digits of hexadecimal

-- a test that holds of each number below n
abbrev all_below : (ℕ → Bool) → ℕ → Bool
all_below test zero = true
all_below test (suc n) = test n && all_below test n

at_below : (test : ℕ → Bool) (n k : ℕ) → all_below test n ≡ true → k < n → test k ≡ true
at_below test zero k all lt = absurd (omega arith)
at_below test (suc n) k all lt =
    elim (cases_lt k n) [
      | inl below ↦ at_below test n k (and_right (test n) (all_below test n) all) below
      | inr top ↦
          let same : k ≡ n = omega arith in
          ap test same ∙ and_left (test n) (all_below test n) all
    ]

abbrev value_or : Option ℕ → ℕ
value_or (Some v) = v
value_or None = 0

abbrev writes_back : ℕ → Bool
writes_back c = not (is_lower_digit c) || eqb (slice_index lower_digits (value_or (hex_digit_value c))) c

abbrev is_written : ℕ → Bool
is_written v = is_lower_digit (slice_index lower_digits v)

below_103 : (c : ℕ) → is_lower_digit c ≡ true → c < 103
below_103 c h = grind (arith, nat_tests)

or_right : (a b : Bool) → a ≡ true → (not a || b) ≡ true → b ≡ true
or_right true b p e = e
or_right false b p e = absurd cc

digit_back : (c v : ℕ) → is_lower_digit c ≡ true → hex_digit_value c ≡ Some v → slice_index lower_digits v ≡ c
digit_back c v low is =
    let all : writes_back c ≡ true = at_below writes_back 103 c refl (below_103 c low) in
    let same : eqb (slice_index lower_digits (value_or (hex_digit_value c))) c ≡ true = or_right (is_lower_digit c) _ low all in
    ap (λ (o : Option ℕ). slice_index lower_digits (value_or o)) (sym is) ∙ eqb-true _ _ same

digit_is_lower : (v : ℕ) → v < 16 → is_lower_digit (slice_index lower_digits v) ≡ true
digit_is_lower v lt = at_below is_written 16 v refl lt

pub encoded_is_lower : (bytes : List ℕ) → IsBytes bytes → list_all is_lower_digit (encode_lower bytes) ≡ true
unfolding encode_with
encoded_is_lower [] fits = refl
encoded_is_lower (b ∷ rest) fits =
    let small : b < 256 = fits 0 in
    both _ _ (digit_is_lower (b / 16) (omega arith)) (both _ _ (digit_is_lower (b % 16) (omega arith)) (encoded_is_lower rest (λ i. fits (suc i))))

decoded_some : (r : Result (List ℕ) FromHexError) (b : List ℕ) → decoded r ≡ Some b → r ≡ Ok b
decoded_some (Ok a) b e = ap Ok (some_is a b e)
decoded_some (Err x) b e = absurd cc

-- ---- what an `Ok` of the library's decoding shows

bind_ok : {A B : Type 0} (r : Result A FromHexError) (f : A → Result B FromHexError) (y : B) → hex.◌>>=◌ r f ≡ Ok y → (x : A) × (r ≡ Ok x) × (f x ≡ Ok y)
bind_ok (Ok x) f y h = (x, refl, h)
bind_ok (Err e) f y h = absurd cc

abbrev the_ok : {A : Type 0} → A → Result A FromHexError
the_ok x = Ok x

ok_is : {A : Type 0} (x y : A) → the_ok x ≡ the_ok y → x ≡ y
ok_is x y e = cc

digit_value : (c i v : ℕ) (o : Option ℕ) → digit_or_error c i o ≡ Ok v → o ≡ Some v
digit_value c i v (Some w) e = ap Some (ok_is w v e)
digit_value c i v None e = absurd cc

small_value : (c v : ℕ) → hex_digit_value c ≡ Some v → v < 16
small_value c v h = grind (arith)

pair_parts : (h l byte : ℕ) → l < 16 → h * 16 + l ≡ byte → (byte / 16 ≡ h) × (byte % 16 ≡ l)
pair_parts h l byte lt e = (omega arith, omega arith)

-- the digits of what was decoded are those that were read
pub decoded_back : (i : ℕ) (s bytes : List ℕ) → decode_pairs i s ≡ Ok bytes → list_all is_lower_digit s ≡ true → encode_lower bytes ≡ s
unfolding decode_pairs encode_with
decoded_back i [] bytes e low = let same : [] ≡ bytes = ok_is [] bytes e in rw (← same) refl
decoded_back i (a ∷ []) bytes e low = absurd cc
decoded_back i (a ∷ b ∷ rest) bytes e low =
    let low_rest = and_right (is_lower_digit a) (list_all is_lower_digit (b ∷ rest)) low in
    let p = bind_ok (pair_value a b i) _ bytes e in
    let q = bind_ok (value_at a i) _ p.0 p.1 in
    let r = bind_ok (value_at b (i + 1)) _ p.0 q.2 in
    let t = bind_ok (decode_pairs (i + 2) rest) _ bytes p.2 in
    let more = decoded_back (i + 2) rest t.0 t.1 (and_right (is_lower_digit b) (list_all is_lower_digit rest) low_rest) in
    let first : hex_digit_value a ≡ Some q.0 = digit_value a i q.0 (hex_digit_value a) q.1 in
    let second : hex_digit_value b ≡ Some r.0 = digit_value b (i + 1) r.0 (hex_digit_value b) r.1 in
    let high : slice_index lower_digits q.0 ≡ a = digit_back a q.0 (and_left (is_lower_digit a) _ low) first in
    let lower : slice_index lower_digits r.0 ≡ b = digit_back b r.0 (and_left (is_lower_digit b) (list_all is_lower_digit rest) low_rest) second in
    let parts = pair_parts q.0 r.0 p.0 (small_value b r.0 second) (ok_is _ _ r.2) in
    let whole : p.0 ∷ t.0 ≡ bytes = ok_is (p.0 ∷ t.0) bytes t.2 in
    rw (← whole, parts.0, parts.1, high, lower, more) refl

-- ---- bytes by their digits

pub record Digits (wanted : ℕ → Bool) (bytes : List ℕ) (x : List ℕ × List ℕ) : Type 0 where
  pub parts : bytes ≡ encode_lower x.0 ++ x.1
  pub fits : IsBytes x.0
  pub count : wanted (2 * length x.0) ≡ true

pub bytes_takes : (wanted : ℕ → Bool) (bytes : List ℕ) (x : List ℕ × List ℕ) → bytes_at wanted bytes ≡ Some x → Digits wanted bytes x
unfolding bytes_at
bytes_takes wanted bytes x e =
    let n : ℕ = digits_of bytes in
    let h = held_some (wanted n) _ x e in
    let b = bind_some (decoded (decode_of (take n bytes))) (λ b. Some (b, drop n bytes)) x h.1 in
    let ok : decode_of (take n bytes) ≡ Ok b.0 = decoded_some _ b.0 b.1 in
    let facts = decode_of-ok (take n bytes) b.0 ok in
    let back : encode_lower b.0 ≡ take n bytes = decoded_back 0 (take n bytes) b.0 (sym (decode_of-even (take n bytes) facts.0) ∙ ok) (front_passes is_lower_digit bytes) in
    let count : n ≡ 2 * length b.0 = omega (arith, facts.2, length-prefix_len is_lower_digit bytes) in
    let made : List ℕ × List ℕ = (b.0, drop n bytes) in
    subst (Digits wanted bytes) (some_is made x b.2) (record {
      parts = sym (take-append-drop n bytes) ∙ ap (λ (l : List ℕ). l ++ drop n bytes) (sym back);
      fits = facts.3;
      count = ap wanted (sym count) ∙ h.0;
    })

pub bytes_again : (wanted : ℕ → Bool) (b rest : List ℕ) → IsBytes b → wanted (2 * length b) ≡ true → digits_of rest ≡ 0 → bytes_at wanted (encode_lower b ++ rest) ≡ Some (b, rest)
unfolding bytes_at
bytes_again wanted b rest fits count stop =
    let len : length (encode_lower b) ≡ 2 * length b = length-encode_with lower_digits b in
    let n : digits_of (encode_lower b ++ rest) ≡ 2 * length b = front_ends is_lower_digit (encode_lower b) rest (encoded_is_lower b fits) stop ∙ len in
    rw (n, count, take_at (encode_lower b) rest (2 * length b) len, drop_at (encode_lower b) rest (2 * length b) len, decode_of-encode_lower b fits) refl

-- ---- numbers

abbrev AreDigits : List ℕ → Type 0
AreDigits ds = list_all is_ascii_digit ds ≡ true

digits_test : IsDigitsTest AreDigits
digits_test = search rules

digits_fold : FoldsDigits value_after
digits_fold = search rules

own : IsNumeralModel AreDigits (value_after 0)
own = numerals_by_fold AreDigits digits_test value_after digits_fold

no_zero : (d : ℕ) → d ≡ 48 → not (eqb d 48) ≡ true → ⊥
no_zero d is h = grind (arith, nat_tests)

not_zero : (d : ℕ) → (d ≡ 48 → ⊥) → not (eqb d 48) ≡ true
not_zero d h = grind (arith, nat_tests)

numeral_digits : (ds : List ℕ) → is_numeral ds ≡ true → AreDigits ds × (0 < length ds) × (get_or ds 0 0 ≡ 48 → length ds ≡ 1)
numeral_digits [] e = absurd cc
numeral_digits (d ∷ []) e = (both _ _ e refl, omega arith, λ _. refl)
numeral_digits (d ∷ c ∷ ds) e = (and_right (not (eqb d 48)) _ e, omega arith, λ zero_first. absurd (no_zero d zero_first (and_left (not (eqb d 48)) _ e)))

numeral_of : (ds : List ℕ) → AreDigits ds → 0 < length ds → (get_or ds 0 0 ≡ 48 → length ds ≡ 1) → is_numeral ds ≡ true
numeral_of [] all some alone = absurd (omega arith)
numeral_of (d ∷ []) all some alone = and_left (is_ascii_digit d) true all
numeral_of (d ∷ c ∷ ds) all some alone = both _ _ (not_zero d (λ z. absurd (omega (arith, alone z)))) all

pub numeral_takes : (bytes : List ℕ) (x : List ℕ × List ℕ) → numeral_at bytes ≡ Some x → (bytes ≡ x.0 ++ x.1) × (is_numeral x.0 ≡ true)
unfolding numeral_at
numeral_takes bytes x e =
    let n : ℕ = prefix_len is_ascii_digit bytes in
    let h = held_some (is_numeral (take n bytes)) _ x e in
    let made : List ℕ × List ℕ = (take n bytes, drop n bytes) in
    subst (λ (y : List ℕ × List ℕ). (bytes ≡ y.0 ++ y.1) × (is_numeral y.0 ≡ true)) (some_is made x h.1) (sym (take-append-drop n bytes), h.0)

pub numeral_again : (ds rest : List ℕ) → is_numeral ds ≡ true → prefix_len is_ascii_digit rest ≡ 0 → numeral_at (ds ++ rest) ≡ Some (ds, rest)
unfolding numeral_at
numeral_again ds rest is stop =
    let n : prefix_len is_ascii_digit (ds ++ rest) ≡ length ds = front_ends is_ascii_digit ds rest (numeral_digits ds is).0 stop in
    rw (n, take_at ds rest (length ds) refl, drop_at ds rest (length ds) refl, is) refl

pub number_takes : (limit : ℕ) (bytes : List ℕ) (x : ℕ × List ℕ) → limit ≤ 2 ^ 64 → number_at limit bytes ≡ Some x → (bytes ≡ decimal x.0 ++ x.1) × (x.0 < limit)
unfolding number_at
number_takes limit bytes x small e =
    let b = bind_some (numeral_at bytes) (λ ds. cond (ltb (value_of ds.0) limit) (Some (value_of ds.0, ds.1)) None) x e in
    let t = numeral_takes bytes b.0 b.1 in
    let h = held_some (ltb (value_of b.0.0) limit) (Some (value_of b.0.0, b.0.1)) x b.2 in
    let facts = numeral_digits b.0.0 t.1 in
    let low : value_of b.0.0 < limit = ltb-true _ _ h.0 in
    let word : decimal (value_of b.0.0) ≡ b.0.0 = decimal-digits_value own b.0.0 facts.0 facts.1 facts.2 (omega arith) in
    let made : ℕ × List ℕ = (value_of b.0.0, b.0.1) in
    subst (λ (y : ℕ × List ℕ). (bytes ≡ decimal y.0 ++ y.1) × (y.0 < limit)) (some_is made x h.1) (t.0 ∙ ap (λ (l : List ℕ). l ++ b.0.1) (sym word), low)

first_alone : (n : ℕ) → n < 2 ^ 64 → get_or (decimal n) 0 0 ≡ 48 → length (decimal n) ≡ 1
first_alone zero lt e = ap length (decimal_digit 0 (omega arith))
first_alone (suc n) lt e = absurd (omega (arith, first_decimal (suc n) (omega arith) lt))

pub number_again : (limit n : ℕ) (rest : List ℕ) → limit ≤ 2 ^ 64 → n < limit → prefix_len is_ascii_digit rest ≡ 0 → number_at limit (decimal n ++ rest) ≡ Some (n, rest)
unfolding number_at
number_again limit n rest small lt stop =
    let wide : n < 2 ^ 64 = omega arith in
    let is : is_numeral (decimal n) ≡ true = numeral_of (decimal n) (digits_decimal own n wide) (decimal_nonempty n wide) (first_alone n wide) in
    let value : value_of (decimal n) ≡ n = digits_value-decimal own n wide in
    let low : ltb n limit ≡ true = lt-ltb _ _ lt in
    rw (numeral_again (decimal n) rest is stop, value, low) refl
