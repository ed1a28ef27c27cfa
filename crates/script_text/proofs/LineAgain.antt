-- The words of a line are read as what they say, and as nothing else.
use Rattle.std.proofs.Common.{◌≡◌, ℕ, ◌+◌, ◌*◌, ◌^◌, ◌<◌, ◌≤◌, Bool, true, false, ◌&&◌, cond, ltb, eqb, List, [], ◌∷◌, ◌++◌, length, map, refl, sym, ap, subst, ◌∙◌, append_assoc, arith}
use Rattle.std.specs.Prelude.{Option, Some, None, codes, is_some}
use Rattle.std.specs.Str.{bytes_eq}
use Rattle.std.specs.Fmt.{decimal}
use Rattle.std.proofs.lemmas.Bool.{lt-ltb}
use Rattle.std.proofs.lemmas.Bool.Decides.{nat_tests}
use Rattle.std.proofs.lemmas.List.{append-nil}
use Rattle.hex.specs.Hex.{encode_lower, lower_digits}
use Rattle.hex.proofs.HexLemmas.{length-encode_with}
use Rattle.term_values.specs.Trees.{Tree}
use Rattle.mech_rows.specs.declared.kinds.Mech.{Mech}
use Rattle.mech_rows.specs.declared.kinds.Mech.TheVariants.{E1, E2, E3, E4, E5, E6, C1, C2, C3, C4, K3, K4, K5, K6, K8, K9}
use Rattle.mech_rows.specs.declared.kinds.Role.{Role}
use Rattle.mech_rows.specs.declared.kinds.Role.TheVariants.{A, B, P}
use Rattle.mech_rows.specs.declared.kinds.Slot.{Slot}
use Rattle.mech_rows.specs.declared.kinds.Slot.TheVariants.{Ra, Rb, Ra2, Ta, Tb, Tp, Fa, Fb, X1, X2, X3, X4, X5, X6, X7, X8, X9, Fwd}
use Rattle.mech_rows.specs.Found.{found, Once}
use Rattle.mech_rows.specs.Facts.{same_slot}
use Rattle.script_text.specs.Notation.{AreBytes}
use Rattle.script_text.specs.Lines.{WrittenLine, AreLineValues, AreSentTexts, IsNameNumber, IsTextBytes, SlotTexts, is_end, is_offered, is_text, line_words, mech_name, prefix_word, role_name, said, silent, time_party, seq_party, secret_pair, revealed_pair, own, allow, clock, opening, give, drop, text_word}
use Rattle.script_text.specs.LineReading.{mech_in, name_in, number_below, number_in, part_in, plain_words, prefix_in, role_in, slot_at, slot_in, text_at, text_in, texts_from, whole}
use Rattle.script_text.specs.Reading.{byte_at, bytes_at, just, mark_at, number_at, upto}
use Rattle.script_text.specs.Refusals.{slot_name}
use Rattle.script_text.proofs.Again.{just_is, upto_is}
use Rattle.script_text.proofs.LineSound.{is_loud}
use Rattle.script_text.proofs.Slots.{apart}
use Rattle.script_text.proofs.Spelled.{and_left}
use Rattle.script_text.proofs.Words.{bytes_again, number_again}

-- ---- numbers and parts

pub number_in_is : (limit n : ℕ) → limit ≤ 2 ^ 64 → n < limit → number_in limit (decimal n) ≡ Some n
number_in_is limit n small lt = ap (λ (w : List ℕ). whole (number_at limit w)) (sym (append-nil (decimal n))) ∙ rw (number_again limit n [] small lt refl) refl

pub name_in_is : (n : ℕ) → IsNameNumber n → name_in (decimal n) ≡ Some n
name_in_is n fits =
    let some : eqb n 0 ≡ false = grind (arith, fits.0) in
    rw (number_in_is (2 ^ 32) n (omega arith) fits.1, some) refl

pub number_below_is : (limit n : ℕ) → limit ≤ 2 ^ 32 → n < limit → number_below limit (decimal n) ≡ Some n
number_below_is limit n small lt =
    let low : ltb n limit ≡ true = lt-ltb _ _ lt in
    rw (number_in_is (2 ^ 32) n (omega arith) (omega arith), low) refl

pub part_in_is : (p : List ℕ) → AreBytes 32 p → part_in (encode_lower p) ≡ Some p
part_in_is p fits = ap (λ (w : List ℕ). whole (bytes_at (just 64) w)) (sym (append-nil (encode_lower p))) ∙ rw (bytes_again (just 64) p [] fits.1 (just_is 64 (2 * length p) (omega (arith, fits.0))) refl) refl

short : (p : List ℕ) → IsTextBytes p → upto 2048 (2 * length p) ≡ true
short p fits = upto_is 2048 (2 * length p) (omega (arith, fits.0))

digits_in_is : (p : List ℕ) → IsTextBytes p → whole (bytes_at (upto 2048) (encode_lower p)) ≡ Some p
digits_in_is p fits = ap (λ (w : List ℕ). whole (bytes_at (upto 2048) w)) (sym (append-nil (encode_lower p))) ∙ rw (bytes_again (upto 2048) p [] fits.1 (short p fits) refl) refl

-- ---- names

pub mech_in_is : (m : Mech) → is_offered m ≡ true → mech_in (mech_name m) ≡ Some m
mech_in_is E1 h = refl
mech_in_is E2 h = refl
mech_in_is E3 h = refl
mech_in_is E4 h = refl
mech_in_is C1 h = refl
mech_in_is C2 h = refl
mech_in_is C3 h = refl
mech_in_is C4 h = refl
mech_in_is E5 h = absurd cc
mech_in_is E6 h = absurd cc
mech_in_is K3 h = absurd cc
mech_in_is K4 h = absurd cc
mech_in_is K5 h = absurd cc
mech_in_is K6 h = absurd cc
mech_in_is K8 h = absurd cc
mech_in_is K9 h = absurd cc

pub role_in_is : (r : Role) → is_end r ≡ true → role_in (role_name r) ≡ Some r
role_in_is A h = refl
role_in_is B h = refl
role_in_is P h = absurd cc

-- ---- slots and texts

slot_at_is : (s : Slot) (rest : List ℕ) → is_text s ≡ true → slot_at (slot_name s ++ rest) ≡ Some (s, rest)
unfolding slot_at mark_at byte_at
slot_at_is X1 rest h = refl
slot_at_is X2 rest h = refl
slot_at_is X3 rest h = refl
slot_at_is X4 rest h = refl
slot_at_is X5 rest h = refl
slot_at_is X6 rest h = refl
slot_at_is X7 rest h = refl
slot_at_is X8 rest h = refl
slot_at_is X9 rest h = refl
slot_at_is Ra rest h = absurd cc
slot_at_is Rb rest h = absurd cc
slot_at_is Ra2 rest h = absurd cc
slot_at_is Ta rest h = absurd cc
slot_at_is Tb rest h = absurd cc
slot_at_is Tp rest h = absurd cc
slot_at_is Fa rest h = absurd cc
slot_at_is Fb rest h = absurd cc
slot_at_is Fwd rest h = absurd cc

pub slot_in_is : (s : Slot) → is_text s ≡ true → slot_in (slot_name s) ≡ Some s
slot_in_is s h = ap (λ (w : List ℕ). whole (slot_at w)) (sym (append-nil (slot_name s))) ∙ rw (slot_at_is s [] h) refl

pub text_in_is : (t : Slot × List ℕ) → is_text t.0 ≡ true → IsTextBytes t.1 → text_in (text_word t) ≡ Some t
unfolding text_at mark_at
text_in_is t h fits =
    ap (λ (w : List ℕ). whole (text_at (slot_name t.0 ++ 61 ∷ w))) (sym (append-nil (encode_lower t.1)))
    ∙ rw (slot_at_is t.0 (61 ∷ (encode_lower t.1 ++ [])) h, bytes_again (upto 2048) t.1 [] fits.1 (short t.1 fits) refl) refl

off : (b : Bool) → (b && false) ≡ false
off true = refl
off false = refl

longer : (n : ℕ) → eqb (2 * (n + 1)) 0 ≡ false
longer n = grind (arith, nat_tests)

-- digits are no dash, and not none
length_two : (xs : List ℕ) (n : ℕ) → length xs ≡ 2 * (n + 1) → (bytes_eq xs (codes "-") ≡ false) × (eqb (length xs) 0 ≡ false)
length_two [] n e = absurd (omega (arith, e))
length_two (x ∷ []) n e = absurd (omega (arith, e))
length_two (x ∷ y ∷ xs) n e = (off (eqb x 45), ap (λ (k : ℕ). eqb k 0) e ∙ longer n)

pub prefix_in_is : (p : List ℕ) → IsTextBytes p → prefix_in (prefix_word p) ≡ Some p
prefix_in_is [] fits = refl
prefix_in_is (b ∷ bs) fits =
    let len : length (encode_lower (b ∷ bs)) ≡ 2 * (length bs + 1) = omega (arith, length-encode_with lower_digits (b ∷ bs)) in
    let two = length_two (encode_lower (b ∷ bs)) (length bs) len in
    rw (two.0, two.1, digits_in_is (b ∷ bs) fits) refl

pub cond_none : {X : Type 0} (b : Bool) (v : X) (p : Option X) → cond b (Some v) p ≡ None → (b ≡ false) × (p ≡ None)
cond_none true v p e = absurd cc
cond_none false v p e = (refl, e)

-- a slot of which no text is found has none of these
later_apart : (ns ts : SlotTexts) (t : Slot × List ℕ) (s : Slot) → found (ns ++ t ∷ ts) s ≡ None → same_slot t.0 s ≡ false
later_apart [] ts t s e = (cond_none (same_slot t.0 s) t.1 (found ts s) e).0
later_apart (n ∷ ns) ts t s e = later_apart ns ts t s (cond_none (same_slot n.0 s) n.1 (found (ns ++ t ∷ ts) s) e).1

-- no earlier text has this slot
earlier : (so_far ts : SlotTexts) (t : Slot × List ℕ) → Once (so_far ++ t ∷ ts) → is_some (found so_far t.0) ≡ false
earlier [] ts t once = refl
earlier (n ∷ ns) ts t once =
    let other : same_slot n.0 t.0 ≡ false = apart t.0 n.0 (later_apart ns ts t n.0 once.0) in
    rw other (earlier ns ts t once.1)

pub texts_from_is : (m : Mech) (r : Role) (so_far ts : SlotTexts) → AreSentTexts m r ts → Once (so_far ++ ts) → texts_from m r so_far (map text_word ts) ≡ Some (so_far ++ ts)
unfolding texts_from
texts_from_is m r so_far [] sent once = ap Some (sym (append-nil so_far))
texts_from_is m r so_far (t ∷ ts) sent once =
    let text : is_text t.0 ≡ true = and_left (is_text t.0) _ sent.0 in
    let fresh : is_some (found so_far t.0) ≡ false = earlier so_far ts t once in
    let more : Once ((so_far ++ t ∷ []) ++ ts) = subst Once (sym (append_assoc so_far (t ∷ []) ts)) once in
    rw (text_in_is t text sent.1, sent.0, fresh) (texts_from_is m r (so_far ++ t ∷ []) ts sent.2 more ∙ ap Some (append_assoc so_far (t ∷ []) ts))

-- ---- lines

-- the line gives no term
abbrev pub is_plain : WrittenLine → Bool
is_plain (give run term) = false
is_plain l = is_loud l

pub plain_is : (sent : List Tree) (l : WrittenLine) → is_plain l ≡ true → AreLineValues sent l → plain_words (line_words l) ≡ Some (said sent l)
plain_is sent silent plain values = absurd cc
plain_is sent (time_party name window) plain values = rw (name_in_is name values.0, number_below_is 600001 window (omega arith) (omega (arith, values.1))) refl
plain_is sent (seq_party name) plain values = rw (name_in_is name values) refl
plain_is sent (secret_pair a b part) plain values = rw (name_in_is a values.0, name_in_is b values.1, part_in_is part values.2) refl
plain_is sent (revealed_pair a b part) plain values = rw (name_in_is a values.0, name_in_is b values.1, part_in_is part values.2) refl
plain_is sent (own part) plain values = rw (part_in_is part values) refl
plain_is sent (allow mech slot longest start) plain values =
    rw (mech_in_is mech values.0, slot_in_is slot values.1, number_below_is 1025 longest (omega arith) (omega (arith, values.2)), prefix_in_is start values.3) refl
plain_is sent (clock name ms) plain values = rw (name_in_is name values.0, number_in_is (2 ^ 64) ms (omega arith) values.1) refl
plain_is sent (opening mech role a b texts) plain values =
    rw (mech_in_is mech values.0, role_in_is role values.1, name_in_is a values.2, name_in_is b values.3, texts_from_is mech role [] texts values.4 values.5) refl
plain_is sent (give run term) plain values = absurd cc
plain_is sent (drop run) plain values = rw (number_in_is (2 ^ 32) run (omega arith) values) refl
