-- The lines of a script: the words of each, the limits of their values, and what each says.
use Rattle.std.specs.Prelude.{◌≡◌, ◌<◌, ◌≤◌, ◌^◌, ◌==◌, ℕ, Bool, true, false, ◌&&◌, ◌||◌, IsTrue, List, [], ◌∷◌, ◌++◌, length, map, codes, None}
use Rattle.std.specs.List.{list_any, slice_split}
use Rattle.std.specs.Fmt.{decimal}
use Rattle.hex.specs.Hex.{IsBytes, encode_lower}
use Rattle.term_values.specs.Trees.{Tree}
use Rattle.term_values.specs.declared.small.StampKind.TheVariants.{Time, Seq}
use Rattle.tagged_codec.specs.Grammar.{IsInLimits}
use Rattle.mech_rows.specs.declared.kinds.Mech.{Mech}
use Rattle.mech_rows.specs.declared.kinds.Mech.TheVariants.{E1, E2, E3, E4, E5, E6, C1, C2, C3, C4, K3, K4, K5, K6, K8, K9}
use Rattle.mech_rows.specs.declared.kinds.Role.{Role}
use Rattle.mech_rows.specs.declared.kinds.Role.TheVariants.{A, B, P}
use Rattle.mech_rows.specs.declared.kinds.Slot.{Slot}
use Rattle.mech_rows.specs.Facts.{same_role}
use Rattle.mech_rows.specs.Found.{Once}
use Rattle.mech_rows.specs.Rounds.{stands}
use Rattle.mech_rows.specs.Rows.{kind_of, row_of}
use Rattle.mech_rows.specs.declared.kinds.Kind.{Kind}
use Rattle.mech_rows.specs.declared.kinds.Kind.TheVariants.{Text as a_text}
use Rattle.mech_rows.specs.Runs.{sent_slots}
use Rattle.script_text.specs.declared.line.Line.{Line}
use Rattle.script_text.specs.declared.line.Line.TheVariants as line
use Rattle.script_text.specs.Notation.{AreBytes, IsWellFormed, Written, is_named, notation, replaced}
use Rattle.script_text.specs.Refusals.{slot_name}

-- texts with their slots
abbrev pub SlotTexts : Type 0
SlotTexts = List (Slot × List ℕ)

-- a line as it is written: a message that was sent may stand in its term by its number
pub data WrittenLine : Type 0 where
  silent : WrittenLine
  time_party : ℕ → ℕ → WrittenLine
  seq_party : ℕ → WrittenLine
  secret_pair : ℕ → ℕ → List ℕ → WrittenLine
  revealed_pair : ℕ → ℕ → List ℕ → WrittenLine
  own : List ℕ → WrittenLine
  allow : Mech → Slot → ℕ → List ℕ → WrittenLine
  clock : ℕ → ℕ → WrittenLine
  opening : Mech → Role → ℕ → ℕ → SlotTexts → WrittenLine
  give : ℕ → Written → WrittenLine
  drop : ℕ → WrittenLine

-- the name of a mechanism
abbrev pub mech_name : Mech → List ℕ
mech_name E1 = codes "E1"
mech_name E2 = codes "E2"
mech_name E3 = codes "E3"
mech_name E4 = codes "E4"
mech_name E5 = codes "E5"
mech_name E6 = codes "E6"
mech_name C1 = codes "C1"
mech_name C2 = codes "C2"
mech_name C3 = codes "C3"
mech_name C4 = codes "C4"
mech_name K3 = codes "K3"
mech_name K4 = codes "K4"
mech_name K5 = codes "K5"
mech_name K6 = codes "K6"
mech_name K8 = codes "K8"
mech_name K9 = codes "K9"

-- the name of a role
abbrev pub role_name : Role → List ℕ
role_name A = codes "A"
role_name B = codes "B"
role_name P = codes "P"

-- a beginning as `allow` writes it
abbrev pub prefix_word : List ℕ → List ℕ
prefix_word [] = codes "-"
prefix_word (b ∷ bs) = encode_lower (b ∷ bs)

-- a text with its slot as `open` writes it
abbrev pub text_word : Slot × List ℕ → List ℕ
text_word t = slot_name t.0 ++ (codes "=" ++ encode_lower t.1)

-- the words of each line: one case a line
abbrev pub line_words : WrittenLine → List (List ℕ)
line_words silent = []
line_words (time_party name window) = codes "party" ∷ decimal name ∷ codes "time" ∷ decimal window ∷ []
line_words (seq_party name) = codes "party" ∷ decimal name ∷ codes "seq" ∷ []
line_words (secret_pair a b part) = codes "pair" ∷ decimal a ∷ decimal b ∷ encode_lower part ∷ []
line_words (revealed_pair a b part) = codes "pair" ∷ decimal a ∷ decimal b ∷ encode_lower part ∷ codes "revealed" ∷ []
line_words (own part) = codes "own" ∷ encode_lower part ∷ []
line_words (allow mech slot longest start) = codes "allow" ∷ mech_name mech ∷ slot_name slot ∷ decimal longest ∷ prefix_word start ∷ []
line_words (clock name ms) = codes "clock" ∷ decimal name ∷ decimal ms ∷ []
line_words (opening mech role a b texts) = codes "open" ∷ mech_name mech ∷ role_name role ∷ decimal a ∷ decimal b ∷ map text_word texts
line_words (give run term) = codes "give" ∷ decimal run ∷ notation term ∷ []
line_words (drop run) = codes "drop" ∷ decimal run ∷ []

-- the mechanisms that lines may name
abbrev pub is_offered : Mech → Bool
is_offered E1 = true
is_offered E2 = true
is_offered E3 = true
is_offered E4 = true
is_offered C1 = true
is_offered C2 = true
is_offered C3 = true
is_offered C4 = true
is_offered _ = false

-- a number that a name may have
abbrev pub IsNameNumber : ℕ → Type 0
IsNameNumber n = (0 < n) × (n < 2 ^ 32)

-- bytes that a text may have
abbrev pub IsTextBytes : List ℕ → Type 0
IsTextBytes b = (length b ≤ 1024) × IsBytes b

-- the kind is a text
abbrev pub is_text_kind : Kind → Bool
is_text_kind a_text = true
is_text_kind _ = false

-- a slot is a text's: X1 to X9
abbrev pub is_text : Slot → Bool
is_text s = is_text_kind (kind_of s)

-- the role sends this text slot in the mechanism
abbrev pub sends_text : Mech → Role → Slot → Bool
sends_text m r s = is_text s && list_any (λ p. same_role p.from r && stands s (sent_slots p)) (row_of m)

-- each text is one of a slot that the role sends
abbrev pub AreSentTexts : Mech → Role → SlotTexts → Type 0
AreSentTexts m r [] = Unit {0}
AreSentTexts m r (t ∷ ts) = (sends_text m r t.0 ≡ true) × IsTextBytes t.1 × AreSentTexts m r ts

-- a role in mechanisms without a third party
abbrev pub is_end : Role → Bool
is_end P = false
is_end _ = true

-- the limits of the values: one case a line
abbrev pub AreLineValues : List Tree → WrittenLine → Type 0
AreLineValues sent silent = Unit {0}
AreLineValues sent (time_party name window) = IsNameNumber name × (window ≤ 600000)
AreLineValues sent (seq_party name) = IsNameNumber name
AreLineValues sent (secret_pair a b part) = IsNameNumber a × IsNameNumber b × AreBytes 32 part
AreLineValues sent (revealed_pair a b part) = IsNameNumber a × IsNameNumber b × AreBytes 32 part
AreLineValues sent (own part) = AreBytes 32 part
AreLineValues sent (allow mech slot longest start) = (is_offered mech ≡ true) × (is_text slot ≡ true) × (longest ≤ 1024) × IsTextBytes start
AreLineValues sent (clock name ms) = IsNameNumber name × (ms < 2 ^ 64)
AreLineValues sent (opening mech role a b texts) = (is_offered mech ≡ true) × (is_end role ≡ true) × IsNameNumber a × IsNameNumber b × AreSentTexts mech role texts × Once texts
AreLineValues sent (give run term) = (run < 2 ^ 32) × IsWellFormed term × IsInLimits (replaced sent term)
AreLineValues sent (drop run) = run < 2 ^ 32

-- a blank is a space or a tab
abbrev pub is_blank : ℕ → Bool
is_blank c = c == 32 || c == 9

-- the words of a text, with one blank between two of them
abbrev pub words_of : List ℕ → List (List ℕ)
words_of text = slice_split is_blank text

-- a line that says nothing: it is empty, or begins with #
abbrev pub is_silent : List ℕ → Bool
is_silent [] = true
is_silent (c ∷ cs) = c == 35

-- the text is written so
abbrev pub IsWrittenSo : List ℕ → WrittenLine → Type 0
IsWrittenSo text silent = is_silent text ≡ true
IsWrittenSo text l = words_of text ≡ line_words l

-- the text is this line, and each value is within its limits once each `@` is replaced
pub record IsLine (sent : List Tree) (text : List ℕ) (l : WrittenLine) : Type 0 where
  pub written : IsWrittenSo text l
  pub values : AreLineValues sent l

-- each `@` of the line names a message that was sent, or an item that is there
abbrev pub is_line_named : List Tree → WrittenLine → Bool
is_line_named sent (give run term) = is_named sent term
is_line_named sent _ = true

-- what the line says once each `@` is replaced; the window of a party of sequence numbers is not used
abbrev pub said : List Tree → WrittenLine → Line
said sent silent = line.Empty
said sent (time_party name window) = line.Party name Time window
said sent (seq_party name) = line.Party name Seq 5000
said sent (secret_pair a b part) = line.Pair a b part false
said sent (revealed_pair a b part) = line.Pair a b part true
said sent (own part) = line.Own part
said sent (allow mech slot longest start) = line.Allow (record { mech = mech; slot = slot; longest = longest; «prefix» = start })
said sent (clock name ms) = line.Clock name ms
said sent (opening mech role a b texts) = line.Open (record { mech = mech; role = role; a = a; b = b; p = None }) texts
said sent (give run term) = line.Give run (replaced sent term)
said sent (drop run) = line.Drop run

-- the text says this, and each `@` of it names what is there
abbrev pub Says : List Tree → List ℕ → Line → Type 0
Says sent text l = (w : WrittenLine) × IsLine sent text w × IsTrue (is_line_named sent w) × (l ≡ said sent w)

-- the text is a line, of which an `@` names nothing
abbrev pub IsLineUnnamed : List Tree → List ℕ → Type 0
IsLineUnnamed sent text = (w : WrittenLine) × IsLine sent text w × (is_line_named sent w ≡ false)

-- two written lines say the same, and name what is there alike
abbrev pub SaidAlike : List Tree → WrittenLine → WrittenLine → Type 0
SaidAlike sent v w = (said sent v ≡ said sent w) × (is_line_named sent v ≡ is_line_named sent w)
