-- Reading the words of a line, one after the other: a value, or none. Private calls alone cite this; what a line says stands in
-- Lines.
use Rattle.std.specs.Prelude.{◌≡◌, ℕ, ◌^◌, ◌==◌, not, ◌&&◌, List, [], ◌∷◌, ◌++◌, Bool, true, false, IsTrue, length, nat_lt, codes, Option, Some, None, is_some, Result, Ok, Err, if◌then◌else◌}
use Rattle.std.specs.Str.{bytes_eq}
use Rattle.term_values.specs.declared.small.StampKind.TheVariants.{Time, Seq}
use Rattle.mech_rows.specs.declared.kinds.Mech.{Mech}
use Rattle.mech_rows.specs.declared.kinds.Mech.TheVariants.{E1, E2, E3, E4, C1, C2, C3, C4}
use Rattle.mech_rows.specs.declared.kinds.Role.{Role}
use Rattle.mech_rows.specs.declared.kinds.Role.TheVariants.{A, B}
use Rattle.mech_rows.specs.declared.kinds.Slot.{Slot}
use Rattle.mech_rows.specs.declared.kinds.Slot.TheVariants.{X1, X2, X3, X4, X5, X6, X7, X8, X9}
use Rattle.mech_rows.specs.Found.{found}
use Rattle.script_text.specs.declared.line.Line.{Line}
use Rattle.script_text.specs.declared.line.Line.TheVariants as line
use Rattle.script_text.specs.declared.reading.Malformed.{Malformed}
use Rattle.script_text.specs.declared.reading.ReadFault.{ReadFault}
use Rattle.script_text.specs.declared.reading.ReadFault.TheVariants as fault
use Rattle.term_values.specs.Trees.{Tree}
use Rattle.script_text.specs.Lines.{SlotTexts, sends_text}
use Rattle.script_text.specs.Notation.{IsReading, Written, is_named, replaced}
use Rattle.script_text.specs.Reading.{◌>>=◌, Read, byte_at, bytes_at, just, mark_at, number_at, upto}

-- what a reader of words returned, seen by view, is what the words say, unless memory ran out
abbrev pub Gives : {X Y : Type 0} → (X → Y) → Result X ReadFault → Option Y → Type 0
Gives view (Ok x) said = said ≡ Some (view x)
Gives view (Err fault.Malformed) said = said ≡ None
Gives view (Err fault.Memory) said = Unit {0}

-- what a reader of words that takes no memory returned, seen by view, is what the words say
abbrev pub GivesExactly : {X Y : Type 0} → (X → Y) → Result X Malformed → Option Y → Type 0
GivesExactly view (Ok x) said = said ≡ Some (view x)
GivesExactly view (Err e) said = said ≡ None

-- a reading that leaves nothing
abbrev pub whole : {X : Type 0} → Read X → Option X
whole (Some x) = if length x.1 == 0 then Some x.0 else None
whole None = None

-- a number below a limit
abbrev pub number_in : ℕ → List ℕ → Option ℕ
number_in limit word = whole (number_at limit word)

-- a number below 2 ^ 32 and below a limit
abbrev pub number_below : ℕ → List ℕ → Option ℕ
number_below limit word = number_in (2 ^ 32) word >>= λ n. if nat_lt n limit then Some n else None

-- a number that a name may have
abbrev pub name_in : List ℕ → Option ℕ
name_in word = number_in (2 ^ 32) word >>= λ n. if n == 0 then None else Some n

-- 64 digits
abbrev pub part_in : List ℕ → Option (List ℕ)
part_in word = whole (bytes_at (just 64) word)

-- the mechanisms that lines may name: those without a third party in the families E and C
abbrev pub mech_in : List ℕ → Option Mech
mech_in word =
    if bytes_eq word (codes "E1") then Some E1
    else if bytes_eq word (codes "E2") then Some E2
    else if bytes_eq word (codes "E3") then Some E3
    else if bytes_eq word (codes "E4") then Some E4
    else if bytes_eq word (codes "C1") then Some C1
    else if bytes_eq word (codes "C2") then Some C2
    else if bytes_eq word (codes "C3") then Some C3
    else if bytes_eq word (codes "C4") then Some C4
    else None

-- a role that lines may name
abbrev pub role_in : List ℕ → Option Role
role_in word = if bytes_eq word (codes "A") then Some A else if bytes_eq word (codes "B") then Some B else None

-- the slot X1 to X9 of that digit
abbrev pub slot_of_digit : ℕ → Option Slot
slot_of_digit c =
    if c == 49 then Some X1
    else if c == 50 then Some X2
    else if c == 51 then Some X3
    else if c == 52 then Some X4
    else if c == 53 then Some X5
    else if c == 54 then Some X6
    else if c == 55 then Some X7
    else if c == 56 then Some X8
    else if c == 57 then Some X9
    else None

-- a slot in front, X1 to X9
unfoldable pub slot_at : List ℕ → Read Slot
slot_at bytes = mark_at 88 bytes >>= λ x. byte_at x.1 >>= λ digit. slot_of_digit digit.0 >>= λ slot. Some (slot, digit.1)

-- a slot X1 to X9
abbrev pub slot_in : List ℕ → Option Slot
slot_in word = whole (slot_at word)

-- a slot, `=` and the digits of at most 1,024 bytes
unfoldable pub text_at : List ℕ → Read (Slot × List ℕ)
text_at bytes = slot_at bytes >>= λ slot. mark_at 61 slot.1 >>= λ equals. bytes_at (upto 2048) equals.1 >>= λ text. Some ((slot.0, text.0), text.1)

-- a slot with its text
abbrev pub text_in : List ℕ → Option (Slot × List ℕ)
text_in word = whole (text_at word)

-- `-` for none, or the digits of at most 1,024 bytes
abbrev pub prefix_in : List ℕ → Option (List ℕ)
prefix_in word =
    if bytes_eq word (codes "-") then Some []
    else if length word == 0 then None
    else whole (bytes_at (upto 2048) word)

-- texts behind those that were read: slots that the role sends, each at most once
unfoldable pub texts_from : Mech → Role → SlotTexts → List (List ℕ) → Option SlotTexts
texts_from m r so_far [] = Some so_far
texts_from m r so_far (word ∷ words) =
    text_in word >>= λ text. if sends_text m r text.0 && not (is_some (found so_far text.0)) then texts_from m r (so_far ++ text ∷ []) words else None

-- two words
abbrev pub two_words : List ℕ → List ℕ → Option Line
two_words verb x =
    if bytes_eq verb (codes "own") then (part_in x >>= λ part. Some (line.Own part))
    else if bytes_eq verb (codes "drop") then (number_in (2 ^ 32) x >>= λ run. Some (line.Drop run))
    else None

-- three words, but for `give`
abbrev pub three_words : List ℕ → List ℕ → List ℕ → Option Line
three_words verb x y =
    if bytes_eq verb (codes "party") && bytes_eq y (codes "seq") then (name_in x >>= λ name. Some (line.Party name Seq 5000))
    else if bytes_eq verb (codes "clock") then (name_in x >>= λ name. number_in (2 ^ 64) y >>= λ ms. Some (line.Clock name ms))
    else None

-- two names and their part
abbrev pub pair_words : List ℕ → List ℕ → List ℕ → Bool → Option Line
pair_words x y z revealed = name_in x >>= λ a. name_in y >>= λ b. part_in z >>= λ part. Some (line.Pair a b part revealed)

-- four words
abbrev pub four_words : List ℕ → List ℕ → List ℕ → List ℕ → Option Line
four_words verb x y z =
    if bytes_eq verb (codes "party") && bytes_eq y (codes "time") then (name_in x >>= λ name. number_below 600001 z >>= λ window. Some (line.Party name Time window))
    else if bytes_eq verb (codes "pair") then pair_words x y z false
    else None

-- a mechanism, a slot, a length and a beginning
abbrev pub allow_words : List ℕ → List ℕ → List ℕ → List ℕ → Option Line
allow_words w x y z =
    mech_in w >>= λ mech. slot_in x >>= λ slot. number_below 1025 y >>= λ longest. prefix_in z >>= λ start.
    Some (line.Allow (record { mech = mech; slot = slot; longest = longest; «prefix» = start }))

-- five words, but for `open`
abbrev pub five_words : List ℕ → List ℕ → List ℕ → List ℕ → List ℕ → Option Line
five_words verb w x y z =
    if bytes_eq verb (codes "pair") && bytes_eq z (codes "revealed") then pair_words w x y true
    else if bytes_eq verb (codes "allow") then allow_words w x y z
    else None

-- `open`, a mechanism, a role, two names, and texts
abbrev pub open_words : List ℕ → List ℕ → List ℕ → List ℕ → List (List ℕ) → Option Line
open_words m r x y texts =
    mech_in m >>= λ mech. role_in r >>= λ role. name_in x >>= λ a. name_in y >>= λ b. texts_from mech role [] texts >>= λ ts.
    Some (line.Open (record { mech = mech; role = role; a = a; b = b; p = None }) ts)

-- more words than a line of five has
abbrev pub five_at_most : List (List ℕ) → Option Line → Option Line
five_at_most [] line = line
five_at_most (word ∷ words) line = None

-- what words say, but for `give`
abbrev pub plain_words : List (List ℕ) → Option Line
plain_words (verb ∷ x ∷ []) = two_words verb x
plain_words (verb ∷ x ∷ y ∷ []) = three_words verb x y
plain_words (verb ∷ x ∷ y ∷ z ∷ []) = four_words verb x y z
plain_words (verb ∷ w ∷ x ∷ y ∷ z ∷ texts) =
    if bytes_eq verb (codes "open") then open_words w x y z texts else five_at_most texts (five_words verb w x y z)
plain_words _ = None

-- the words of a line with a term, whatever its run and its term are
abbrev pub IsGiveWords : List (List ℕ) → List ℕ → List ℕ → Type 0
IsGiveWords words run term = words ≡ codes "give" ∷ run ∷ term ∷ []

-- the line gives the term that it writes to this run, and each `@` of it names what is there
abbrev pub IsGiven : List Tree → List ℕ → List ℕ → Line → Type 0
IsGiven sent run term l =
    (n : ℕ) × (w : Written) × (number_in (2 ^ 32) run ≡ Some n) × IsReading sent term w × IsTrue (is_named sent w) × (l ≡ line.Give n (replaced sent w))

-- the words are a run and a term, of which an `@` names nothing
abbrev pub IsGivenUnnamed : List Tree → List ℕ → List ℕ → Type 0
IsGivenUnnamed sent run term =
    (n : ℕ) × (w : Written) × (number_in (2 ^ 32) run ≡ Some n) × IsReading sent term w × (is_named sent w ≡ false)

-- the words are no run and no term
abbrev pub IsNoneGiven : List Tree → List ℕ → List ℕ → Type 0
IsNoneGiven sent run term = (n : ℕ) → number_in (2 ^ 32) run ≡ Some n → (w : Written) → IsReading sent term w → ⊥
