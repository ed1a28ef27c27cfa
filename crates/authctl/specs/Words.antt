-- The words of the command line.
use Rattle.std.specs.Prelude.{◌≡◌, ◌≢◌, ℕ, ◌^◌, ◌<◌, true, List, [], ◌∷◌, length, get_or, map, codes}
use Rattle.std.specs.Fmt.{decimal}
use Rattle.std.specs.Global.{Vec}
use Rattle.hex.specs.Hex.{IsBytes, encode_lower}
use Rattle.script_text.specs.Lines.{is_offered, mech_name}
use Rattle.authctl.specs.declared.words.Walk.{Walk}

-- the words that ask for this walk: names in decimal, the part in hexadecimal digits in lower case
abbrev pub walk_words : Walk → List (List ℕ)
walk_words w = codes "walk" ∷ mech_name w.mech ∷ decimal w.a ∷ decimal w.b ∷ encode_lower w.part ∷ []

-- a party's name
pub record IsName (n : ℕ) : Type 0 where
  pub positive : 0 < n
  pub fits : n < 2 ^ 32

-- a long-term part that a command may have: 32 bytes that begin like no counted draw
pub record IsGivenPart (part : List ℕ) : Type 0 where
  pub count : length part ≡ 32
  pub bytes : IsBytes part
  pub no_nonce : get_or part 0 0 ≢ 0xd0
  pub no_part : get_or part 0 0 ≢ 0xd1

-- the walk is of a mechanism that scripts may name, has two names that differ and a part of its own
pub record IsPlan (w : Walk) : Type 0 where
  pub offered : is_offered w.mech ≡ true
  pub a : IsName w.a
  pub b : IsName w.b
  pub differ : w.a ≢ w.b
  pub part : IsGivenPart w.part

-- the words are a walk's
pub record IsWalk (words : List (List ℕ)) (w : Walk) : Type 0 where
  pub plan : IsPlan w
  pub spelled : words ≡ walk_words w

-- words as lists of bytes
abbrev pub word_lists : List (Vec ℕ) → List (List ℕ)
word_lists = map (λ w. w.items)
