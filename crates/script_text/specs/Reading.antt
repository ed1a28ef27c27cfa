-- Reading from left to right: a value and the characters after it, or none. Private calls alone cite this; what a text says
-- stands in Notation.
use Rattle.std.specs.Prelude.{◌≡◌, ℕ, zero, suc, ◌-◌, ◌^◌, ◌==◌, Bool, true, false, ◌&&◌, ◌||◌, nat_le, nat_lt, List, [], ◌∷◌, take, drop, Option, Some, None, is_some, Result, Ok, Err, if◌then◌else◌}
use Rattle.std.specs.List.{prefix_len}
use Rattle.std.specs.Char.{is_ascii_digit}
use Rattle.hex.specs.Hex.{decode_of}
use Rattle.hex.specs.declared.error.FromHexError.{FromHexError}
use Rattle.term_values.specs.declared.Key.{Key}
use Rattle.term_values.specs.declared.Key.TheVariants.{One, Two}
use Rattle.term_values.specs.declared.Stamp.TheVariants.{Time, Seq}
use Rattle.term_values.specs.Trees.{Tree, name, stamp, nonce, part, text, tag, blob, tuple, seal, check, trees, depth_of}
use Rattle.term_values.specs.Lengths.{length_of}
use Rattle.script_text.specs.Notation.{is_numeral, value_of, message_named, item_named, or_empty}
use Rattle.script_text.specs.declared.reading.Malformed.{Malformed}
use Rattle.script_text.specs.declared.reading.ReadFault.{ReadFault}
use Rattle.script_text.specs.declared.reading.ReadFault.TheVariants as fault
use Rattle.script_text.specs.declared.reading.Marks.{Marks}

-- a value and the characters after it
abbrev pub Read : Type 0 → Type 0
Read X = Option (X × List ℕ)

-- what a reader of terms has before it, and what it noted of each `@`
pub record State : Type 0 where
  pub rest : List ℕ
  pub marks : Marks

-- such a state
abbrev pub state : List ℕ → Marks → State
state rest marks = record { rest = rest; marks = marks }

infixl 10 ◌>>=◌
-- what follows is read only where something was
abbrev pub ◌>>=◌ : {A B : Type 0} → Option A → (A → Option B) → Option B
(Some x) >>= f = f x
None >>= f = None

-- What a reader returned, seen by view, and what it left, are what reading gives, unless memory ran out.
abbrev pub Reads : {X Y S : Type 0} → (X → Y) → Result X ReadFault → S → Option (Y × S) → Type 0
Reads view (Ok x) rest read = read ≡ Some (view x, rest)
Reads view (Err fault.Malformed) rest read = read ≡ None
Reads view (Err fault.Memory) rest read = Unit {0}

-- What a reader that takes no memory returned, seen by view, and what it left, are what reading gives.
abbrev pub ReadsExactly : {X Y S : Type 0} → (X → Y) → Result X Malformed → S → Option (Y × S) → Type 0
ReadsExactly view (Ok x) rest read = read ≡ Some (view x, rest)
ReadsExactly view (Err e) rest read = read ≡ None

-- a reader of terms that meets no `@`
abbrev pub keeping : {X : Type 0} → Marks → Read X → Option (X × State)
keeping marks (Some x) = Some (x.0, record { rest = x.1; marks = marks })
keeping marks None = None

-- the first byte
unfoldable pub byte_at : List ℕ → Read ℕ
byte_at [] = None
byte_at (b ∷ bytes) = Some (b, bytes)

-- the character that has to come
unfoldable pub mark_at : ℕ → List ℕ → Read (Unit {0})
mark_at c [] = None
mark_at c (b ∷ bytes) = if b == c then Some (tt, bytes) else None

-- whether a character comes, and what is after it
unfoldable pub skip_at : ℕ → List ℕ → Bool × List ℕ
skip_at c [] = (false, [])
skip_at c (b ∷ bytes) = if b == c then (true, bytes) else (false, b ∷ bytes)

-- a digit of hexadecimal, in lower case
abbrev pub is_lower_digit : ℕ → Bool
is_lower_digit c = (nat_le 48 c && nat_le c 57) || (nat_le 97 c && nat_le c 102)

-- the digits in front
abbrev pub digits_of : List ℕ → ℕ
digits_of bytes = prefix_len is_lower_digit bytes

-- the bytes that digits write, where they write any
abbrev pub decoded : Result (List ℕ) FromHexError → Option (List ℕ)
decoded (Ok b) = Some b
decoded (Err e) = None

-- bytes whose digits are in front, where there are as many digits as is wanted
unfoldable pub bytes_at : (ℕ → Bool) → List ℕ → Read (List ℕ)
bytes_at wanted bytes =
    if wanted (digits_of bytes) then (decoded (decode_of (take (digits_of bytes) bytes)) >>= λ b. Some (b, drop (digits_of bytes) bytes))
    else None

-- so many digits
abbrev pub just : ℕ → ℕ → Bool
just n count = count == n

-- at most so many digits
abbrev pub upto : ℕ → ℕ → Bool
upto n count = nat_le count n

-- the digits of a number
unfoldable pub numeral_at : List ℕ → Read (List ℕ)
numeral_at bytes =
    let n = prefix_len is_ascii_digit bytes in
    if is_numeral (take n bytes) then Some (take n bytes, drop n bytes) else None

-- a number below a limit
unfoldable pub number_at : ℕ → List ℕ → Read ℕ
number_at limit bytes = numeral_at bytes >>= λ ds. if nat_lt (value_of ds.0) limit then Some (value_of ds.0, ds.1) else None

-- a second part where there is one
unfoldable pub second_at : List ℕ → List ℕ → Read Key
second_at p bytes =
    let plus = skip_at 43 bytes in
    if plus.0 then (bytes_at (just 64) plus.1 >>= λ q. Some (Two p q.0, q.1)) else Some (One p, plus.1)

-- a key: K, a colon, the digits of its first part, and perhaps a second one
unfoldable pub key_at : List ℕ → Read Key
key_at bytes =
    mark_at 75 bytes >>= λ k. mark_at 58 k.1 >>= λ colon. bytes_at (just 64) colon.1 >>= λ p. second_at p.0 p.1

-- a name is a number other than 0
unfoldable pub name_at : List ℕ → Read Tree
name_at bytes = number_at (2 ^ 32) bytes >>= λ n. if n.0 == 0 then None else Some (name n.0, n.1)

-- what follows a letter and a colon; a blob has at most so many digits
unfoldable pub atom_at : ℕ → ℕ → List ℕ → Read Tree
atom_at most letter bytes =
    if letter == 78 then name_at bytes
    else if letter == 84 then (number_at (2 ^ 64) bytes >>= λ n. Some (stamp (Time n.0), n.1))
    else if letter == 81 then (number_at (2 ^ 64) bytes >>= λ n. Some (stamp (Seq n.0), n.1))
    else if letter == 82 then (bytes_at (just 32) bytes >>= λ b. Some (nonce b.0, b.1))
    else if letter == 70 then (bytes_at (just 64) bytes >>= λ b. Some (part b.0, b.1))
    else if letter == 88 then (bytes_at (upto 2048) bytes >>= λ b. Some (text b.0, b.1))
    else if letter == 71 then (bytes_at (just 8) bytes >>= λ b. Some (tag b.0, b.1))
    else if letter == 66 then (bytes_at (upto most) bytes >>= λ b. Some (blob b.0, b.1))
    else None

-- how many items a tuple and how many digits a blob may have
pub record Bounds : Type 0 where
  pub items : ℕ
  pub digits : ℕ

-- those of a term that has a spelling
abbrev pub limits : Bounds
limits = record { items = 32; digits = 8192 }

-- a term from elsewhere, of at most so many levels and no more bytes than are left
unfoldable pub lent_at : ℕ → Tree → Marks → Option (Tree × Marks)
lent_at levels t marks =
    if nat_lt levels (depth_of t) then None
    else if nat_lt marks.left (length_of t) then None
    else Some (t, record marks { left = marks.left - length_of t })

-- what an `@` named
unfoldable pub found_at : ℕ → Option Tree → Marks → Option (Tree × Marks)
found_at levels found marks = lent_at levels (or_empty found) (record marks { named = marks.named && is_some found })

-- a term, and the characters after it
abbrev pub before_rest : List ℕ → Option (Tree × Marks) → Option (Tree × State)
before_rest rest (Some x) = Some (x.0, record { rest = rest; marks = x.1 })
before_rest rest None = None

-- what follows an `@`
unfoldable pub sent_at : List Tree → ℕ → State → Option (Tree × State)
sent_at sent levels s =
    numeral_at s.rest >>= λ m.
    (let dot = skip_at 46 m.1 in
    if dot.0 then (numeral_at dot.1 >>= λ i. before_rest i.1 (found_at levels (item_named sent m.0 i.0) s.marks))
    else before_rest dot.1 (found_at levels (message_named sent m.0) s.marks))

-- items up to the closing parenthesis, at most so many
unfoldable pub items_at : (State → Option (Tree × State)) → ℕ → State → Option (List Tree × State)
items_at one zero s = None
items_at one (suc n) s =
    one s >>= λ first. byte_at first.1.rest >>= λ mark.
    if mark.0 == 41 then Some (first.0 ∷ [], record { rest = mark.1; marks = first.1.marks })
    else if mark.0 == 44 then (items_at one n (record { rest = mark.1; marks = first.1.marks }) >>= λ others. Some (first.0 ∷ others.0, others.1))
    else None

-- the items of a tuple behind its opening bracket
unfoldable pub tuple_at : (State → Option (Tree × State)) → ℕ → State → Option (List Tree × State)
tuple_at one n s =
    let close = skip_at 41 s.rest in
    if close.0 then Some ([], record { rest = close.1; marks = s.marks }) else items_at one n (record { rest = close.1; marks = s.marks })

-- the key and the body of a seal or check behind its letter
unfoldable pub sealed_at : (State → Option (Tree × State)) → State → Option ((Key × Tree) × State)
sealed_at one s =
    mark_at 91 s.rest >>= λ open_mark. key_at open_mark.1 >>= λ key. mark_at 124 key.1 >>= λ bar.
    one (record { rest = bar.1; marks = s.marks }) >>= λ body. mark_at 93 body.1.rest >>= λ close.
    Some ((key.0, body.0), record { rest = close.1; marks = body.1.marks })

-- what follows the first character
unfoldable pub tree_under : Bounds → List Tree → ℕ → (State → Option (Tree × State)) → ℕ → State → Option (Tree × State)
tree_under bounds sent levels one letter s =
    if letter == 40 then (tuple_at one bounds.items s >>= λ ts. Some (tuple (trees ts.0), ts.1))
    else if letter == 83 then (sealed_at one s >>= λ b. Some (seal b.0.0 b.0.1, b.1))
    else if letter == 67 then (sealed_at one s >>= λ b. Some (check b.0.0 b.0.1, b.1))
    else if letter == 64 then sent_at sent levels s
    else (mark_at 58 s.rest >>= λ colon. keeping s.marks (atom_at bounds.digits letter colon.1))

-- a term of so many levels
unfoldable pub term_at : Bounds → List Tree → ℕ → State → Option (Tree × State)
term_at bounds sent zero s = None
term_at bounds sent (suc below) s =
    byte_at s.rest >>= λ letter. tree_under bounds sent (suc below) (term_at bounds sent below) letter.0 (record { rest = letter.1; marks = s.marks })

-- a term of a script, of so many levels
abbrev pub term_in : List Tree → ℕ → State → Option (Tree × State)
term_in sent levels s = term_at limits sent levels s

-- what follows the first character of such a term, with so many levels below it
abbrev pub term_under : List Tree → ℕ → ℕ → State → Option (Tree × State)
term_under sent below letter s = tree_under limits sent (suc below) (term_at limits sent below) letter s
