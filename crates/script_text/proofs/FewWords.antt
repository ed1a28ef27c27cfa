-- No line has more than fourteen words.
use Rattle.std.proofs.Common.{◌≡◌, ℕ, ◌+◌, ◌<◌, ◌≤◌, Bool, true, false, cond, List, [], ◌∷◌, length, map, refl, sym, ap, ◌∙◌, arith}
use Rattle.std.specs.Prelude.{None}
use Rattle.std.specs.List.{count_by}
use Rattle.std.proofs.lemmas.Bool.{eqb-true}
use Rattle.std.proofs.lemmas.List.Splits.{length-slice_split}
use Rattle.term_values.specs.Trees.{Tree}
use Rattle.mech_rows.specs.declared.kinds.Mech.{Mech}
use Rattle.mech_rows.specs.declared.kinds.Role.{Role}
use Rattle.mech_rows.specs.declared.kinds.Slot.{Slot}
use Rattle.mech_rows.specs.declared.kinds.Slot.TheVariants.{Ra, Rb, Ra2, Ta, Tb, Tp, Fa, Fb, X1, X2, X3, X4, X5, X6, X7, X8, X9, Fwd}
use Rattle.mech_rows.specs.Facts.{same_slot, slot_number}
use Rattle.mech_rows.specs.Found.{found, Once}
use Rattle.script_text.specs.Lines.{WrittenLine, AreSentTexts, IsLine, SlotTexts, is_blank, is_silent, is_text, silent, time_party, seq_party, secret_pair, revealed_pair, own, allow, clock, opening, give, drop, text_word, words_of}
use Rattle.script_text.proofs.LineAgain.{cond_none}
use Rattle.script_text.proofs.LineTexts.{not_both}
use Rattle.script_text.proofs.Spelled.{and_left}

abbrev one_if : Bool → ℕ
one_if b = cond b 1 0

-- how many texts have the slot
abbrev of_slot : Slot → SlotTexts → ℕ
of_slot s [] = 0
of_slot s (t ∷ ts) = one_if (same_slot t.0 s) + of_slot s ts

none_of : (s : Slot) (ts : SlotTexts) → found ts s ≡ None → of_slot s ts ≡ 0
none_of s [] e = refl
none_of s (t ∷ ts) e =
    let parts = cond_none (same_slot t.0 s) t.1 (found ts s) e in
    omega (arith, ap one_if parts.0, none_of s ts parts.1)

found_alike : (s u : Slot) (ts : SlotTexts) → slot_number s ≡ slot_number u → found ts s ≡ found ts u
found_alike s u [] e = refl
found_alike s u (t ∷ ts) e = rw (e, found_alike s u ts e) refl

one_more : (s : Slot) (t : Slot × List ℕ) (ts : SlotTexts) (b : Bool) → same_slot t.0 s ≡ b → found ts t.0 ≡ None → of_slot s ts ≤ 1 → one_if b + of_slot s ts ≤ 1
one_more s t ts true same fresh few =
    let none : found ts s ≡ None = sym (found_alike t.0 s ts (eqb-true _ _ same)) ∙ fresh in
    omega (arith, none_of s ts none)
one_more s t ts false same fresh few = omega (arith, few)

one_of : (s : Slot) (ts : SlotTexts) → Once ts → of_slot s ts ≤ 1
one_of s [] once = omega arith
one_of s (t ∷ ts) once = one_more s t ts (same_slot t.0 s) refl once.0 (one_of s ts once.1)

-- the texts of all text slots
abbrev of_all : SlotTexts → ℕ
of_all ts = of_slot X1 ts + of_slot X2 ts + of_slot X3 ts + of_slot X4 ts + of_slot X5 ts + of_slot X6 ts + of_slot X7 ts + of_slot X8 ts + of_slot X9 ts

abbrev as_one : Slot → ℕ
as_one s = one_if (same_slot s X1) + one_if (same_slot s X2) + one_if (same_slot s X3) + one_if (same_slot s X4) + one_if (same_slot s X5) + one_if (same_slot s X6) + one_if (same_slot s X7) + one_if (same_slot s X8) + one_if (same_slot s X9)

counts : (s : Slot) → is_text s ≡ true → as_one s ≡ 1
counts X1 h = refl
counts X2 h = refl
counts X3 h = refl
counts X4 h = refl
counts X5 h = refl
counts X6 h = refl
counts X7 h = refl
counts X8 h = refl
counts X9 h = refl
counts Ra h = absurd cc
counts Rb h = absurd cc
counts Ra2 h = absurd cc
counts Ta h = absurd cc
counts Tb h = absurd cc
counts Tp h = absurd cc
counts Fa h = absurd cc
counts Fb h = absurd cc
counts Fwd h = absurd cc

all_counted : (m : Mech) (r : Role) (ts : SlotTexts) → AreSentTexts m r ts → length ts ≤ of_all ts
all_counted m r [] sent = omega arith
all_counted m r (t ∷ ts) sent =
    let text : as_one t.0 ≡ 1 = counts t.0 (and_left (is_text t.0) _ sent.0) in
    omega (arith, text, all_counted m r ts sent.2)

nine_at_most : (m : Mech) (r : Role) (ts : SlotTexts) → AreSentTexts m r ts → Once ts → length ts ≤ 9
nine_at_most m r ts sent once =
    omega (arith, all_counted m r ts sent, one_of X1 ts once, one_of X2 ts once, one_of X3 ts once, one_of X4 ts once, one_of X5 ts once, one_of X6 ts once, one_of X7 ts once, one_of X8 ts once, one_of X9 ts once)

length_map : (ts : SlotTexts) → length (map text_word ts) ≡ length ts
length_map [] = refl
length_map (t ∷ ts) = omega (arith, length_map ts)

words_below : (text : List ℕ) (n : ℕ) (words : List (List ℕ)) → words_of text ≡ words → length words ≤ n → count_by is_blank text < n
words_below text n words e few = omega (arith, length-slice_split is_blank text, ap length e, few)

-- a line that says something has fewer than fourteen blanks
pub few_blanks : (sent : List Tree) (text : List ℕ) (l : WrittenLine) → is_silent text ≡ false → IsLine sent text l → count_by is_blank text < 14
few_blanks sent text silent loud line = absurd (not_both (is_silent text) line.written loud)
few_blanks sent text (time_party n w) loud line = words_below text 14 _ line.written (omega arith)
few_blanks sent text (seq_party n) loud line = words_below text 14 _ line.written (omega arith)
few_blanks sent text (secret_pair a b p) loud line = words_below text 14 _ line.written (omega arith)
few_blanks sent text (revealed_pair a b p) loud line = words_below text 14 _ line.written (omega arith)
few_blanks sent text (own p) loud line = words_below text 14 _ line.written (omega arith)
few_blanks sent text (allow m s n p) loud line = words_below text 14 _ line.written (omega arith)
few_blanks sent text (clock n ms) loud line = words_below text 14 _ line.written (omega arith)
few_blanks sent text (opening m r a b ts) loud line =
    words_below text 14 _ line.written (omega (arith, length_map ts, nine_at_most m r ts line.values.4 line.values.5))
few_blanks sent text (give n w) loud line = words_below text 14 _ line.written (omega arith)
few_blanks sent text (drop n) loud line = words_below text 14 _ line.written (omega arith)
