-- A text is a line, a line that names nothing, or no line.
use Rattle.std.proofs.Common.{◌≡◌, ◌⊎◌, inl, inr, ℕ, ◌^◌, ◌≤◌, ◌<◌, Bool, true, false, List, [], ◌∷◌, length, Option, Some, None, nat_le, ltb, eqb, refl, ap, arith}
use Rattle.std.specs.Prelude.{codes}
use Rattle.std.specs.Str.{bytes_eq}
use Rattle.std.proofs.lemmas.Bool.{leb-true, leb-false, eqb-true, eqb-false, ltb-true, ltb-false}
use Rattle.term_values.specs.Trees.{Tree, Trees, name, stamp, nonce, part, text, tag, blob, tuple, seal, check, none, item, count_of, depth_of}
use Rattle.term_values.specs.declared.small.Key.{Key}
use Rattle.term_values.specs.declared.small.Key.TheVariants.{One, Two}
use Rattle.term_values.specs.declared.small.Stamp.{Stamp}
use Rattle.term_values.specs.declared.small.Stamp.TheVariants.{Time, Seq}
use Rattle.term_values.specs.Limits.{AllFit, Fits, IsKey, IsStamp}
use Rattle.tagged_codec.specs.Grammar.{IsInLimits, spelling}
use Rattle.script_text.specs.LineReading.{IsGiveWords, number_in, plain_words}
use Rattle.script_text.specs.Lines.{give, is_silent, said, silent, words_of}
use Rattle.script_text.specs.declared.line.Line.{Line}
use Rattle.script_text.specs.Notation.{IsReading, Written, is_named}
use Rattle.script_text.specs.Reading.{State, limits, term_at}
use Rattle.script_text.proofs.Again.{at}
use Rattle.script_text.proofs.LineTexts.{given_line, no_given, no_line, plain_said}
use Rattle.script_text.proofs.Readings.{found_reading, no_reading, not_small, not_whole, start}
use Rattle.script_text.proofs.Spelled.{same_text}
use Rattle.transcript_replay.specs.Said.{IsNoLine, NamesNothing, Says}

-- it is so, or not
abbrev pub OrNot : Type 0 → Type 0
OrNot X = X ⊎ (X → ⊥)

both_or_not : {X Y : Type 0} → OrNot X → OrNot Y → OrNot (X × Y)
both_or_not (inl x) (inl y) = inl (x, y)
both_or_not (inl x) (inr y) = inr (λ z. y z.1)
both_or_not (inr x) y = inr (λ z. x z.0)

le_or_not : (a b : ℕ) → OrNot (a ≤ b)
le_or_not a b = go (nat_le a b) refl
  where
    go : (c : Bool) → nat_le a b ≡ c → OrNot (a ≤ b)
    go true e = inl (leb-true a b e)
    go false e = inr (λ x. let y = leb-false a b e in omega (arith, x, y))

lt_or_not : (a b : ℕ) → OrNot (a < b)
lt_or_not a b = go (ltb a b) refl
  where
    go : (c : Bool) → ltb a b ≡ c → OrNot (a < b)
    go true e = inl (ltb-true a b e)
    go false e = inr (λ x. let y = ltb-false a b e in omega (arith, x, y))

eq_or_not : (a b : ℕ) → OrNot (a ≡ b)
eq_or_not a b = go (eqb a b) refl
  where
    go : (c : Bool) → eqb a b ≡ c → OrNot (a ≡ b)
    go true e = inl (eqb-true a b e)
    go false e = inr (eqb-false a b e)

-- ---- limits

stamp_or_not : (s : Stamp) → OrNot (IsStamp s)
stamp_or_not (Time ms) = lt_or_not ms (2 ^ 64)
stamp_or_not (Seq n) = lt_or_not n (2 ^ 64)

key_or_not : (k : Key) → OrNot (IsKey k)
key_or_not (One p) = eq_or_not (length p) 32
key_or_not (Two p q) = both_or_not (eq_or_not (length p) 32) (eq_or_not (length q) 32)

mutual
  fits_or_not : (t : Tree) → OrNot (Fits t)
  fits_or_not (name n) = both_or_not (lt_or_not 0 n) (lt_or_not n (2 ^ 32))
  fits_or_not (stamp s) = stamp_or_not s
  fits_or_not (nonce b) = eq_or_not (length b) 16
  fits_or_not (part b) = eq_or_not (length b) 32
  fits_or_not (text b) = le_or_not (length b) 1024
  fits_or_not (tag b) = eq_or_not (length b) 4
  fits_or_not (blob b) = le_or_not (length b) 4096
  fits_or_not (tuple ts) = both_or_not (le_or_not (count_of ts) 32) (all_or_not ts)
  fits_or_not (seal k t) = both_or_not (key_or_not k) (fits_or_not t)
  fits_or_not (check k t) = both_or_not (key_or_not k) (fits_or_not t)

  all_or_not : (ts : Trees) → OrNot (AllFit ts)
  all_or_not none = inl tt
  all_or_not (item t ts) = both_or_not (fits_or_not t) (all_or_not ts)

limits_or_not : (t : Tree) → OrNot (IsInLimits t)
limits_or_not t = go (fits_or_not t) (le_or_not (depth_of t) 8) (le_or_not (length (spelling t)) 8192)
  where
    go : OrNot (Fits t) → OrNot (depth_of t ≤ 8) → OrNot (length (spelling t) ≤ 8192) → OrNot (IsInLimits t)
    go (inl x) (inl y) (inl z) = inl (record { fits = x; levels = y; length = z })
    go (inl x) (inl y) (inr z) = inr (λ l. z l.length)
    go (inl x) (inr y) z = inr (λ l. y l.levels)
    go (inr x) y z = inr (λ l. x l.fits)

-- ---- terms

nil_or_not : (xs : List ℕ) → OrNot (xs ≡ [])
nil_or_not [] = inl refl
nil_or_not (x ∷ xs) = inr (λ e. cc)

-- the text has a reading, or none
reading_or_not : (sent : List Tree) (bytes : List ℕ) → ((w : Written) × IsReading sent bytes w) ⊎ ((w : Written) → IsReading sent bytes w → ⊥)
reading_or_not sent bytes = go (term_at limits sent 8 (at bytes start)) refl
  where
    small : (t : Tree) (s : State) → term_at limits sent 8 (at bytes start) ≡ Some (t, s) → s.rest ≡ [] → OrNot (IsInLimits t) → ((w : Written) × IsReading sent bytes w) ⊎ ((w : Written) → IsReading sent bytes w → ⊥)
    small t s e whole (inl x) = let f = found_reading sent bytes t s e whole x in inl (f.it, f.reading)
    small t s e whole (inr x) = inr (not_small sent bytes t s e x)

    rest : (t : Tree) (s : State) → term_at limits sent 8 (at bytes start) ≡ Some (t, s) → OrNot (s.rest ≡ []) → ((w : Written) × IsReading sent bytes w) ⊎ ((w : Written) → IsReading sent bytes w → ⊥)
    rest t s e (inl whole) = small t s e whole (limits_or_not t)
    rest t s e (inr more) = inr (not_whole sent bytes t s e more)

    go : (read : Option (Tree × State)) → term_at limits sent 8 (at bytes start) ≡ read → ((w : Written) × IsReading sent bytes w) ⊎ ((w : Written) → IsReading sent bytes w → ⊥)
    go None e = inr (no_reading sent bytes e)
    go (Some x) e = rest x.0 x.1 e (nil_or_not x.1.rest)

-- ---- lines

-- the text says something, names nothing, or is no line
abbrev pub OneOfThree : List Tree → List ℕ → Type 0
OneOfThree sent words = ((l : Line) × Says sent words l) ⊎ (NamesNothing sent words ⊎ IsNoLine sent words)

-- words that give a term are known
give_or_not : (words : List (List ℕ)) → ((run : List ℕ) × (term : List ℕ) × IsGiveWords words run term) ⊎ ((run term : List ℕ) → IsGiveWords words run term → ⊥)
give_or_not [] = inr (λ run term e. cc)
give_or_not (v ∷ []) = inr (λ run term e. cc)
give_or_not (v ∷ x ∷ []) = inr (λ run term e. cc)
give_or_not (v ∷ x ∷ y ∷ z ∷ more) = inr (λ run term e. cc)
give_or_not (v ∷ x ∷ y ∷ []) = go (bytes_eq v (codes "give")) refl
  where
    go : (b : Bool) → bytes_eq v (codes "give") ≡ b → ((run : List ℕ) × (term : List ℕ) × IsGiveWords (v ∷ x ∷ y ∷ []) run term) ⊎ ((run term : List ℕ) → IsGiveWords (v ∷ x ∷ y ∷ []) run term → ⊥)
    go true e = inl (x, y, ap (λ (w : List ℕ). w ∷ x ∷ y ∷ []) (same_text v (codes "give") e))
    go false e = inr (λ run term same. cc)

module _ (sent : List Tree) (chars : List ℕ) where
  quiet : is_silent chars ≡ true → OneOfThree sent chars
  quiet e = inl (said sent silent, (silent, record { written = e; values = tt }, refl, refl))

  -- a line that gives a term: its `@`s name something, or not
  named : (run term : List ℕ) (n : ℕ) (w : Written) → IsGiveWords (words_of chars) run term → number_in (2 ^ 32) run ≡ Some n → IsReading sent term w → (b : Bool) → is_named sent w ≡ b → OneOfThree sent chars
  named run term n w words number reading true e = inl (said sent (give n w), (give n w, given_line sent chars run term n w words number reading, e, refl))
  named run term n w words number reading false e = inr (inl (give n w, given_line sent chars run term n w words number reading, e))

  given : is_silent chars ≡ false → (run term : List ℕ) → IsGiveWords (words_of chars) run term → OneOfThree sent chars
  given loud run term words = go (number_in (2 ^ 32) run) refl (reading_or_not sent term)
    where
      go : (n : Option ℕ) → number_in (2 ^ 32) run ≡ n → ((w : Written) × IsReading sent term w) ⊎ ((w : Written) → IsReading sent term w → ⊥) → OneOfThree sent chars
      go None e r = inr (inr (no_given sent chars run term loud words (λ n f w x. cc)))
      go (Some n) e (inl r) = named run term n r.0 words e r.1 (is_named sent r.0) refl
      go (Some n) e (inr r) = inr (inr (no_given sent chars run term loud words (λ m f w x. r w x)))

  plain : is_silent chars ≡ false → ((run term : List ℕ) → IsGiveWords (words_of chars) run term → ⊥) → OneOfThree sent chars
  plain loud other = go (plain_words (words_of chars)) refl
    where
      go : (l : Option Line) → plain_words (words_of chars) ≡ l → OneOfThree sent chars
      go None e = inr (inr (no_line sent chars loud other e))
      go (Some l) e = inl (l, plain_said sent chars (words_of chars) l refl e)

  pub line_decided : OneOfThree sent chars
  line_decided = go (is_silent chars) refl
    where
      loudly : is_silent chars ≡ false → ((run : List ℕ) × (term : List ℕ) × IsGiveWords (words_of chars) run term) ⊎ ((run term : List ℕ) → IsGiveWords (words_of chars) run term → ⊥) → OneOfThree sent chars
      loudly loud (inl g) = given loud g.0 g.1 g.2
      loudly loud (inr other) = plain loud other

      go : (b : Bool) → is_silent chars ≡ b → OneOfThree sent chars
      go true e = quiet e
      go false e = loudly e (give_or_not (words_of chars))
