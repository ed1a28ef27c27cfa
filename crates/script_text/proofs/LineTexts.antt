-- A text is a line where its words are the line's.
use Rattle.std.proofs.Common.{◌≡◌, ℕ, ◌^◌, Bool, true, false, cond, eqb, List, [], ◌∷◌, length, map, slice_index_or, refl, sym, ap, subst, ◌∙◌, arith, inl, inr}
use Rattle.std.specs.Prelude.{Option, Some, None, codes, IfOk, IsTrue, Result, Ok, Err, ◌⊎◌}
use Rattle.std.specs.List.{onto_first}
use Rattle.std.proofs.lemmas.Bool.{eqb-true}
use Rattle.std.specs.Fmt.{decimal}
use Rattle.term_values.specs.Trees.{Tree}
use Rattle.script_text.specs.declared.line.Line.{Line}
use Rattle.script_text.specs.declared.line.Line.TheVariants as line
use Rattle.script_text.specs.declared.reading.ReadFault.{ReadFault}
use Rattle.script_text.specs.declared.reading.ReadFault.TheVariants as fault
use Rattle.script_text.specs.declared.bad.BadLine.{BadLine}
use Rattle.script_text.specs.declared.bad.BadLine.TheVariants as bad
use Rattle.script_text.specs.Faults.{bad_of}
use Rattle.script_text.specs.Notation.{IsReading, Written, is_named, notation, replaced}
use Rattle.script_text.specs.Lines.{WrittenLine, IsLine, IsWrittenSo, is_blank, is_line_named, is_silent, line_words, said, silent, time_party, seq_party, secret_pair, revealed_pair, own, allow, clock, opening, give, drop, words_of}
use Rattle.script_text.specs.LineReading.{Gives, IsGiveWords, number_in, plain_words}
use Rattle.script_text.proofs.LineAgain.{is_plain, number_in_is, plain_is}
use Rattle.script_text.proofs.LineSound.{is_loud, words_say}
use Rattle.script_text.proofs.Readings.{one_reading_is}
use Rattle.script_text.proofs.Spelled.{number_in_some}
use Rattle.script_text.proofs.Words.{some_is}

-- the first character of the first word; # where there is none
abbrev first_character : List (List ℕ) → ℕ
first_character ((c ∷ cs) ∷ words) = c
first_character _ = 35

onto : (c : ℕ) (b : Bool) (words : List (List ℕ)) → b ≡ false → first_character (cond b ([] ∷ words) (onto_first c words)) ≡ c
onto c true words e = absurd cc
onto c false [] e = refl
onto c false (w ∷ ws) e = refl

-- a line that says nothing has no first word of its own
silent_first : (text : List ℕ) → is_silent text ≡ true → first_character (words_of text) ≡ 35
silent_first [] h = refl
silent_first (c ∷ cs) h =
    let same : c ≡ 35 = eqb-true c 35 h in
    onto c (is_blank c) (words_of cs) (ap is_blank same) ∙ same

line_first : (l : WrittenLine) → is_loud l ≡ true → eqb (first_character (line_words l)) 35 ≡ false
line_first silent h = absurd cc
line_first (time_party n w) h = refl
line_first (seq_party n) h = refl
line_first (secret_pair a b p) h = refl
line_first (revealed_pair a b p) h = refl
line_first (own p) h = refl
line_first (allow m s n p) h = refl
line_first (clock n ms) h = refl
line_first (opening m r a b ts) h = refl
line_first (give n w) h = refl
line_first (drop n) h = refl

pub not_both : (b : Bool) → b ≡ true → b ≡ false → ⊥
not_both b p q = absurd (let never : true ≡ false = sym p ∙ q in cc)

-- no text says nothing and has a line's words
pub no_silent : (text : List ℕ) (l : WrittenLine) → is_loud l ≡ true → words_of text ≡ line_words l → is_silent text ≡ true → ⊥
no_silent text l loud words quiet =
    let first : first_character (line_words l) ≡ 35 = sym (ap first_character words) ∙ silent_first text quiet in
    not_both (eqb (first_character (line_words l)) 35) (ap (λ (c : ℕ). eqb c 35) first) (line_first l loud)

pub to_text : (text : List ℕ) (l : WrittenLine) → is_loud l ≡ true → words_of text ≡ line_words l → IsWrittenSo text l
to_text text silent h e = absurd cc
to_text text (time_party n w) h e = e
to_text text (seq_party n) h e = e
to_text text (secret_pair a b p) h e = e
to_text text (revealed_pair a b p) h e = e
to_text text (own p) h e = e
to_text text (allow m s n p) h e = e
to_text text (clock n ms) h e = e
to_text text (opening m r a b ts) h e = e
to_text text (give n w) h e = e
to_text text (drop n) h e = e

pub of_text : (text : List ℕ) (l : WrittenLine) → is_loud l ≡ true → IsWrittenSo text l → words_of text ≡ line_words l
of_text text silent h e = absurd cc
of_text text (time_party n w) h e = e
of_text text (seq_party n) h e = e
of_text text (secret_pair a b p) h e = e
of_text text (revealed_pair a b p) h e = e
of_text text (own p) h e = e
of_text text (allow m s n p) h e = e
of_text text (clock n ms) h e = e
of_text text (opening m r a b ts) h e = e
of_text text (give n w) h e = e
of_text text (drop n) h e = e

-- the line has words and no term
record Plain (l : WrittenLine) : Type 0 where
  plain : is_plain l ≡ true
  loud : is_loud l ≡ true
  named : (sent : List Tree) → is_line_named sent l ≡ true

-- the line gives a term
abbrev GiveOf : WrittenLine → Type 0
GiveOf l = (n : ℕ) × (w : Written) × (l ≡ give n w)

sort : (l : WrittenLine) → (l ≡ silent) ⊎ (Plain l ⊎ GiveOf l)
sort silent = inl refl
sort (time_party n w) = inr (inl (record { plain = refl; loud = refl; named = λ sent. refl }))
sort (seq_party n) = inr (inl (record { plain = refl; loud = refl; named = λ sent. refl }))
sort (secret_pair a b p) = inr (inl (record { plain = refl; loud = refl; named = λ sent. refl }))
sort (revealed_pair a b p) = inr (inl (record { plain = refl; loud = refl; named = λ sent. refl }))
sort (own p) = inr (inl (record { plain = refl; loud = refl; named = λ sent. refl }))
sort (allow m s n p) = inr (inl (record { plain = refl; loud = refl; named = λ sent. refl }))
sort (clock n ms) = inr (inl (record { plain = refl; loud = refl; named = λ sent. refl }))
sort (opening m r a b ts) = inr (inl (record { plain = refl; loud = refl; named = λ sent. refl }))
sort (give n w) = inr (inr (n, w, refl))
sort (drop n) = inr (inl (record { plain = refl; loud = refl; named = λ sent. refl }))

-- ---- what the answers of the reader say

-- what a text says that is read whole
abbrev pub IsSaid : List Tree → List ℕ → Line → Type 0
IsSaid sent text l = (w : WrittenLine) × IsLine sent text w × IsTrue (is_line_named sent w) × (l ≡ said sent w)

-- words that were read say it
pub plain_said : (sent : List Tree) (text : List ℕ) (words : List (List ℕ)) (l : Line) → words ≡ words_of text → plain_words words ≡ Some l → IsSaid sent text l
plain_said sent text words l same e =
    let s = words_say words l e in
    (s.it, record { written = to_text text s.it s.loud (sym same ∙ s.spelled); values = s.values sent }, s.named sent, s.made sent)

-- a run and a term that were read are a line
pub given_line : (sent : List Tree) (text run term : List ℕ) (n : ℕ) (w : Written) → IsGiveWords (words_of text) run term → number_in (2 ^ 32) run ≡ Some n → IsReading sent term w → IsLine sent text (give n w)
given_line sent text run term n w words number reading =
    let is = number_in_some (2 ^ 32) run n (omega arith) number in
    record {
      written = words ∙ ap (λ (v : List ℕ). codes "give" ∷ v ∷ term ∷ []) is.0 ∙ ap (λ (v : List ℕ). codes "give" ∷ decimal n ∷ v ∷ []) reading.written;
      values = (is.1, reading.values, reading.limits);
    }

abbrev second_word : List (List ℕ) → List ℕ
second_word (a ∷ b ∷ words) = b
second_word _ = []

abbrev third_word : List (List ℕ) → List ℕ
third_word (a ∷ b ∷ c ∷ words) = c
third_word _ = []

-- a line of that run and that term has such words
pub line_gives : (sent : List Tree) (text run term : List ℕ) (n : ℕ) (w : Written) → IsGiveWords (words_of text) run term → IsLine sent text (give n w) → (number_in (2 ^ 32) run ≡ Some n) × IsReading sent term w
line_gives sent text run term n w words line =
    let same : codes "give" ∷ run ∷ term ∷ [] ≡ codes "give" ∷ decimal n ∷ notation w ∷ [] = sym words ∙ line.written in
    let second : run ≡ decimal n = ap second_word same in
    let third : term ≡ notation w = ap third_word same in
    (ap (number_in (2 ^ 32)) second ∙ number_in_is (2 ^ 32) n (omega arith) line.values.0, record { written = third; values = line.values.1; limits = line.values.2 })

-- words of a line with a term say nothing else
no_plain : (run term : List ℕ) → plain_words (codes "give" ∷ run ∷ term ∷ []) ≡ None
no_plain run term = refl

no_some : {X : Type 0} (o : Option X) (x : X) → o ≡ None → o ≡ Some x → ⊥
no_some o x p q = absurd (let never = sym p ∙ q in cc)

-- the words of a line without a term are read
plain_reads : (sent : List Tree) (text : List ℕ) (l : WrittenLine) → Plain l → IsLine sent text l → plain_words (words_of text) ≡ Some (said sent l)
plain_reads sent text l p line = ap plain_words (of_text text l p.loud line.written) ∙ plain_is sent l p.plain line.values

-- no text with the words of a line with a term is another line
not_plain : (sent : List Tree) (text run term : List ℕ) (l : WrittenLine) → IsGiveWords (words_of text) run term → Plain l → IsLine sent text l → ⊥
not_plain sent text run term l words p line = no_some (plain_words (words_of text)) (said sent l) (ap plain_words words ∙ no_plain run term) (plain_reads sent text l p line)

-- a text that says nothing is no other line
quiet_is : (sent : List Tree) (text : List ℕ) (l : WrittenLine) → is_silent text ≡ false → l ≡ silent → IsLine sent text l → ⊥
quiet_is sent text l loud same line =
    let quiet : IsLine sent text silent = subst (IsLine sent text) same line in
    not_both (is_silent text) quiet.written loud

-- where the run or the term is not read, no line is
pub no_given : (sent : List Tree) (text run term : List ℕ) → is_silent text ≡ false → IsGiveWords (words_of text) run term
    → ((n : ℕ) → number_in (2 ^ 32) run ≡ Some n → (w : Written) → IsReading sent term w → ⊥) → (l : WrittenLine) → IsLine sent text l → ⊥
no_given sent text run term loud words never l line =
    elim (sort l) [
      | inl q ↦ quiet_is sent text l loud q line
      | inr some ↦ elim some [
        | inl p ↦ not_plain sent text run term l words p line
        | inr g ↦
            let parts = line_gives sent text run term g.0 g.1 words (subst (IsLine sent text) g.2 line) in
            never g.0 parts.0 g.1 parts.1
      ]
    ]

-- where other words are not read, no line is
pub no_line : (sent : List Tree) (text : List ℕ) → is_silent text ≡ false → ((run term : List ℕ) → IsGiveWords (words_of text) run term → ⊥) → plain_words (words_of text) ≡ None
    → (l : WrittenLine) → IsLine sent text l → ⊥
no_line sent text loud other none l line =
    elim (sort l) [
      | inl q ↦ quiet_is sent text l loud q line
      | inr some ↦ elim some [
        | inl p ↦ no_some (plain_words (words_of text)) (said sent l) none (plain_reads sent text l p line)
        | inr g ↦
            let given : IsLine sent text (give g.0 g.1) = subst (IsLine sent text) g.2 line in
            other (decimal g.0) (notation g.1) given.written
      ]
    ]

-- ---- what a text says is determined

abbrev Agree : List Tree → WrittenLine → WrittenLine → Type 0
Agree sent v w = (said sent v ≡ said sent w) × (is_line_named sent v ≡ is_line_named sent w)

given_alike : (sent : List Tree) (text : List ℕ) (n m : ℕ) (v w : Written) → IsLine sent text (give n v) → IsLine sent text (give m w) → Agree sent (give n v) (give m w)
given_alike sent text n m v w p q =
    let first = line_gives sent text (decimal m) (notation w) n v q.written p in
    let second = line_gives sent text (decimal m) (notation w) m w q.written q in
    let run : n ≡ m = some_is n m (sym first.0 ∙ second.0) in
    let term = one_reading_is sent (notation w) v w first.1 second.1 in
    (ap (λ (k : ℕ). line.Give k (replaced sent v)) run ∙ ap (line.Give m) term.0, term.1)

plain_alike : (sent : List Tree) (text : List ℕ) (v w : WrittenLine) → Plain v → Plain w → IsLine sent text v → IsLine sent text w → Agree sent v w
plain_alike sent text v w p q first second =
    (some_is (said sent v) (said sent w) (sym (plain_reads sent text v p first) ∙ plain_reads sent text w q second), p.named sent ∙ sym (q.named sent))

loud_alike : (sent : List Tree) (text : List ℕ) (v w : WrittenLine) → Plain v ⊎ GiveOf v → Plain w ⊎ GiveOf w → IsLine sent text v → IsLine sent text w → Agree sent v w
loud_alike sent text v w (inl p) (inl q) first second = plain_alike sent text v w p q first second
loud_alike sent text v w (inl p) (inr h) first second =
    let given : IsLine sent text (give h.0 h.1) = subst (IsLine sent text) h.2 second in
    absurd (not_plain sent text (decimal h.0) (notation h.1) v given.written p first)
loud_alike sent text v w (inr g) (inl q) first second =
    let given : IsLine sent text (give g.0 g.1) = subst (IsLine sent text) g.2 first in
    absurd (not_plain sent text (decimal g.0) (notation g.1) w given.written q second)
loud_alike sent text v w (inr g) (inr h) first second =
    rw (g.2, h.2) (given_alike sent text g.0 h.0 g.1 h.1 (subst (IsLine sent text) g.2 first) (subst (IsLine sent text) h.2 second))

-- a line with words is in no text that says nothing
loud_not_silent : (sent : List Tree) (text : List ℕ) (v w : WrittenLine) → v ≡ silent → Plain w ⊎ GiveOf w → IsLine sent text v → IsLine sent text w → ⊥
loud_not_silent sent text v w quiet (inl q) first second =
    let nothing : IsLine sent text silent = subst (IsLine sent text) quiet first in
    no_silent text w q.loud (of_text text w q.loud second.written) nothing.written
loud_not_silent sent text v w quiet (inr h) first second =
    let nothing : IsLine sent text silent = subst (IsLine sent text) quiet first in
    let given : IsLine sent text (give h.0 h.1) = subst (IsLine sent text) h.2 second in
    no_silent text (give h.0 h.1) refl given.written nothing.written

pub one_line_is : (sent : List Tree) (text : List ℕ) (v w : WrittenLine) → IsLine sent text v → IsLine sent text w → Agree sent v w
one_line_is sent text v w first second =
    elim (sort v) [
      | inl p ↦ elim (sort w) [
        | inl q ↦ rw (p, q) (refl, refl)
        | inr h ↦ absurd (loud_not_silent sent text v w p h first second)
      ]
      | inr g ↦ elim (sort w) [
        | inl q ↦ absurd (loud_not_silent sent text w v q g second first)
        | inr h ↦ loud_alike sent text v w g h first second
      ]
    ]

-- ---- the exits of a reading

-- a run and a term that were read
abbrev pub IsGiven : List Tree → List ℕ → List ℕ → Line → Type 0
IsGiven sent run term l = (n : ℕ) × (w : Written) × (number_in (2 ^ 32) run ≡ Some n) × IsReading sent term w × IsTrue (is_named sent w) × (l ≡ line.Give n (replaced sent w))

pub given_said : (sent : List Tree) (text run term : List ℕ) (r : Result Line BadLine) → IsGiveWords (words_of text) run term → IfOk r (IsGiven sent run term) → IfOk r (IsSaid sent text)
given_said sent text run term (Ok l) words g = (give g.0 g.1, given_line sent text run term g.0 g.1 words g.2 g.3, g.4, g.5)
given_said sent text run term (Err e) words g = g

-- what was read but for its first fault is none where that is one of grammar
pub fails_plain : (e : ReadFault) (words : List (List ℕ)) → Gives {X = Line} (λ l. l) (Err e) (plain_words words) → bad_of e ≡ bad.Grammar → plain_words words ≡ None
fails_plain fault.Malformed words h is = h
fails_plain fault.Memory words h is = absurd cc

-- three words, each by its place
pub three_of : {X : Type 0} (f : X → List ℕ) (ws : List X) (d : X) → length ws ≡ 3 → map f ws ≡ f (slice_index_or ws 0 d) ∷ f (slice_index_or ws 1 d) ∷ f (slice_index_or ws 2 d) ∷ []
three_of f [] d len = absurd (omega (arith, len))
three_of f (x ∷ []) d len = absurd (omega (arith, len))
three_of f (x ∷ y ∷ []) d len = absurd (omega (arith, len))
three_of f (x ∷ y ∷ z ∷ []) d len = refl
three_of f (x ∷ y ∷ z ∷ w ∷ ws) d len = absurd (omega (arith, len))
