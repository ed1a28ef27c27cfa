-- What is sealed opens, what is checked tests, and how long both are.
use Rattle.std.proofs.Common.{◌≡◌, ℕ, suc, ◌+◌, ◌-◌, ◌<◌, ◌≤◌, true, false, ltb, List, [], ◌∷◌, ◌++◌, length, take, drop, refl, sym, ap, ap₂, subst, ◌∙◌, append_assoc, arith, length-append}
use Rattle.std.specs.Prelude.{Some, None, bit_xor}
use Rattle.std.specs.Int.Bits.{xor_assoc, xor_self, xor_zero_r}
use Rattle.std.proofs.lemmas.Bool.{le-ltb}
use Rattle.std.proofs.lemmas.List.{take_at, drop_at, drop-take}
use Rattle.sha2.proofs.Facts256.{length-sha256}
use Rattle.term_values.specs.declared.small.Key.{Key}
use Rattle.term_values.specs.Trees.{Tree, blob}
use Rattle.term_values.specs.SameBytes.{same_bytes}
use Rattle.term_values.proofs.SameBytes.{same_bytes_refl}
use Rattle.tagged_codec.specs.Grammar.{spelling}
use Rattle.tagged_codec.proofs.Grammar.{length_of_spelling}
use Rattle.seal_trait.specs.Items.{IsItemOf, IsShort}
use Rattle.seal_etm.specs.Hmac.{hmac}
use Rattle.seal_etm.specs.Layout.{check_bytes, check_value, checked, ciphered, combined_from, deciphered, derived, front_of, has_check_value, hidden, iv_of, opened, seal_bytes, spelled, stream_byte}
use Rattle.seal_etm.proofs.Spelled.{in_limits, long_is, spelling_is}

length_hmac : (key input : List ℕ) → length (hmac key input) ≡ 32
unfolding hmac
length_hmac key input = length-sha256 _

length_combined : (key iv : List ℕ) (k : ℕ) (bytes : List ℕ) → length (combined_from key iv k bytes) ≡ length bytes
length_combined key iv k [] = refl
length_combined key iv k (b ∷ bytes) = omega (arith, length_combined key iv (suc k) bytes)

xor_back : (b s : ℕ) → bit_xor (bit_xor b s) s ≡ b
xor_back b s = xor_assoc b s s ∙ ap (bit_xor b) (xor_self s) ∙ xor_zero_r b

-- the stream takes away what it put on
combined_back : (key iv : List ℕ) (k : ℕ) (bytes : List ℕ) → combined_from key iv k (combined_from key iv k bytes) ≡ bytes
combined_back key iv k [] = refl
combined_back key iv k (b ∷ bytes) = ap₂ (λ (x : ℕ) (xs : List ℕ). x ∷ xs) (xor_back b (stream_byte key iv k)) (combined_back key iv (suc k) bytes)

-- bytes that are an iv, a ciphertext and the check value of both
record Parts (key : Key) (bytes iv ciphertext : List ℕ) : Type 0 where
  front : front_of bytes ≡ iv ++ ciphertext
  value : drop (length bytes - 32) bytes ≡ check_value key (iv ++ ciphertext)
  start : take 16 bytes ≡ iv
  hidden : drop 16 (iv ++ ciphertext) ≡ ciphertext
  long : 48 ≤ length bytes

parts_of : (key : Key) (iv ciphertext : List ℕ) → length iv ≡ 16 → Parts key ((iv ++ ciphertext) ++ check_value key (iv ++ ciphertext)) iv ciphertext
parts_of key iv ciphertext whole =
    let value : List ℕ = check_value key (iv ++ ciphertext) in
    let thirty_two : length value ≡ 32 = length_hmac (derived 2 key) (iv ++ ciphertext) in
    let sum : length ((iv ++ ciphertext) ++ value) ≡ length (iv ++ ciphertext) + length value = length-append (iv ++ ciphertext) value in
    let before : length (iv ++ ciphertext) ≡ length ((iv ++ ciphertext) ++ value) - 32 = omega (arith, sum, thirty_two) in
    record {
      front = take_at (iv ++ ciphertext) value _ before;
      value = drop_at (iv ++ ciphertext) value _ before;
      start = ap (take 16) (append_assoc iv ciphertext value) ∙ take_at iv (ciphertext ++ value) 16 whole;
      hidden = drop_at iv ciphertext 16 whole;
      long = omega (arith, sum, thirty_two, length-append iv ciphertext, whole);
    }

opens_by : (key : Key) (bytes iv ciphertext : List ℕ) → Parts key bytes iv ciphertext → opened key (blob bytes) ≡ spelled (ciphered key iv ciphertext)
opens_by key bytes iv ciphertext p =
    let long : ltb (length bytes) 48 ≡ false = le-ltb _ _ p.long in
    let value : has_check_value key bytes ≡ true =
    ap₂ (λ (a b : List ℕ). same_bytes a b) p.value (ap (check_value key) p.front) ∙ same_bytes_refl (check_value key (iv ++ ciphertext)) in
    let hidden : drop 16 (front_of bytes) ≡ ciphertext = ap (drop 16) p.front ∙ p.hidden in
    let body : spelled (ciphered key (take 16 bytes) (drop 16 (front_of bytes))) ≡ spelled (ciphered key iv ciphertext) = ap₂ (λ (a b : List ℕ). spelled (ciphered key a b)) p.start hidden in
    rw (long, value) body

-- what is sealed opens
seal_opens : (key : Key) (body : Tree) (iv : List ℕ) → length iv ≡ 16 → IsShort body → opened key (blob (seal_bytes key body iv)) ≡ Some body
seal_opens key body iv whole short =
    opens_by key _ iv (ciphered key iv (spelling body)) (parts_of key iv (ciphered key iv (spelling body)) whole)
    ∙ ap spelled (combined_back (derived 1 key) iv 0 (spelling body)) ∙ spelling_is body (in_limits body short)

seal_iv : (key : Key) (body : Tree) (iv : List ℕ) → length iv ≡ 16 → iv_of (blob (seal_bytes key body iv)) ≡ Some iv
seal_iv key body iv whole =
    let p = parts_of key iv (ciphered key iv (spelling body)) whole in
    let long : ltb (length (seal_bytes key body iv)) 16 ≡ false = le-ltb _ _ (omega (arith, p.long)) in
    rw long (ap Some p.start)

length_seal : (key : Key) (body : Tree) (iv : List ℕ) → length iv ≡ 16 → length (seal_bytes key body iv) ≡ length (spelling body) + 48
length_seal key body iv whole =
    omega (arith, length-append (hidden key body iv) (check_value key (hidden key body iv)), length_hmac (derived 2 key) (hidden key body iv), length-append iv (ciphered key iv (spelling body)), length_combined (derived 1 key) iv 0 (spelling body), whole)

seal_limits : (key : Key) (body : Tree) (iv : List ℕ) → length iv ≡ 16 → IsShort body → IsItemOf body (blob (seal_bytes key body iv))
seal_limits key body iv whole short =
    let long = length_seal key body iv whole in
    let plain = length_of_spelling body short.fits in
    record { fits = omega (arith, long, plain, short.length); levels = omega arith; length = omega (arith, long, plain) }

check_checks : (key : Key) (body : Tree) → checked key body (blob (check_bytes key body)) ≡ true
check_checks key body = same_bytes_refl (check_bytes key body)

pub checks_by : (key : Key) (body item : Tree) (bytes : List ℕ) → item ≡ blob bytes → bytes ≡ check_bytes key body → checked key body item ≡ true
checks_by key body item bytes is value = rw (is, value) (check_checks key body)

pub item_opens : (key : Key) (body item : Tree) (iv : List ℕ) → item ≡ blob (seal_bytes key body iv) → length iv ≡ 16 → IsShort body → opened key item ≡ Some body
item_opens key body item iv is whole short = ap (opened key) is ∙ seal_opens key body iv whole short

pub item_iv : (key : Key) (body item : Tree) (iv : List ℕ) → item ≡ blob (seal_bytes key body iv) → length iv ≡ 16 → iv_of item ≡ Some iv
item_iv key body item iv is whole = ap iv_of is ∙ seal_iv key body iv whole

pub item_limits : (key : Key) (body item : Tree) (iv : List ℕ) → item ≡ blob (seal_bytes key body iv) → length iv ≡ 16 → IsShort body → IsItemOf body item
item_limits key body item iv is whole short = subst (IsItemOf body) (sym is) (seal_limits key body iv whole short)

-- ---- what lies between the iv and the check value

middle : (bytes : List ℕ) → 48 ≤ length bytes → take (length bytes - 32 - 16) (drop 16 bytes) ≡ drop 16 (front_of bytes)
middle bytes long =
    let total : length bytes - 32 ≡ 16 + (length bytes - 32 - 16) = omega arith in
    sym (ap (λ (n : ℕ). drop 16 (take n bytes)) total ∙ drop-take 16 (length bytes - 32 - 16) bytes)

pub reads_middle : (key : Key) (bytes cipher plain : List ℕ) → 48 ≤ length bytes → cipher ≡ derived 1 key → plain ≡ combined_from cipher (take 16 bytes) 0 (take (length bytes - 32 - 16) (drop 16 bytes)) → spelled plain ≡ deciphered key bytes
reads_middle key bytes cipher plain long is e =
    ap spelled (e ∙ ap₂ (λ (k b : List ℕ). combined_from k (take 16 bytes) 0 b) is (middle bytes long))

pub long_middle : (key : Key) (bytes : List ℕ) → 48 ≤ length bytes → 8192 < length (take (length bytes - 32 - 16) (drop 16 bytes)) → deciphered key bytes ≡ None
long_middle key bytes long lt =
    long_is (ciphered key (take 16 bytes) (drop 16 (front_of bytes))) (omega (arith, lt, length_combined (derived 1 key) (take 16 bytes) 0 (drop 16 (front_of bytes)), ap length (middle bytes long)))
