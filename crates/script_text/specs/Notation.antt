-- The notation of terms, and what a written text stands for once each `@` is replaced.
use Rattle.std.specs.Prelude.{◌≡◌, ℕ, zero, suc, ◌+◌, ◌-◌, ◌*◌, ◌^◌, ◌<◌, ◌≤◌, ◌==◌, Bool, true, false, not, ◌&&◌, IsTrue, List, [], ◌∷◌, ◌++◌, length, slice_get, codes, Option, Some, None, is_some}
use Rattle.std.specs.Char.{is_ascii_digit}
use Rattle.std.specs.List.{list_all}
use Rattle.std.specs.Fmt.{decimal}
use Rattle.hex.specs.Hex.{IsBytes, encode_lower}
use Rattle.term_values.specs.declared.Key.{Key}
use Rattle.term_values.specs.declared.Key.TheVariants.{One, Two}
use Rattle.term_values.specs.declared.Stamp.{Stamp}
use Rattle.term_values.specs.declared.Stamp.TheVariants.{Time, Seq}
use Rattle.term_values.specs.Trees.{Tree, Trees, item_of}
use Rattle.term_values.specs.Trees as tree
use Rattle.tagged_codec.specs.Grammar.{IsInLimits}

mutual
  -- a term as it is written, in which a message that was sent, or an item of it, may stand by its number
  pub data Written : Type 0 where
    name : ℕ → Written
    stamp : Stamp → Written
    nonce : List ℕ → Written
    part : List ℕ → Written
    text : List ℕ → Written
    tag : List ℕ → Written
    blob : List ℕ → Written
    tuple : Writtens → Written
    seal : Key → Written → Written
    check : Key → Written → Written
    message : List ℕ → Written
    message_item : List ℕ → List ℕ → Written

  -- the items of a tuple as they are written
  pub data Writtens : Type 0 where
    none : Writtens
    item : Written → Writtens → Writtens

-- a key as it is written
abbrev pub key_notation : Key → List ℕ
key_notation (One p) = codes "K:" ++ encode_lower p
key_notation (Two p q) = codes "K:" ++ (encode_lower p ++ (codes "+" ++ encode_lower q))

-- a stamp as it is written
abbrev pub stamp_notation : Stamp → List ℕ
stamp_notation (Time ms) = codes "T:" ++ decimal ms
stamp_notation (Seq n) = codes "Q:" ++ decimal n

abbrev mutual
  -- the characters of a written term
  pub notation : Written → List ℕ
  notation (name n) = codes "N:" ++ decimal n
  notation (stamp s) = stamp_notation s
  notation (nonce b) = codes "R:" ++ encode_lower b
  notation (part b) = codes "F:" ++ encode_lower b
  notation (text b) = codes "X:" ++ encode_lower b
  notation (tag b) = codes "G:" ++ encode_lower b
  notation (blob b) = codes "B:" ++ encode_lower b
  notation (tuple ws) = codes "(" ++ (list_notation ws ++ codes ")")
  notation (seal k w) = codes "S[" ++ (key_notation k ++ (codes "|" ++ (notation w ++ codes "]")))
  notation (check k w) = codes "C[" ++ (key_notation k ++ (codes "|" ++ (notation w ++ codes "]")))
  notation (message m) = codes "@" ++ m
  notation (message_item m i) = codes "@" ++ (m ++ (codes "." ++ i))

  -- items with a comma between them
  pub list_notation : Writtens → List ℕ
  list_notation none = []
  list_notation (item w ws) = notation w ++ more_notation ws

  -- the items after the first
  pub more_notation : Writtens → List ℕ
  more_notation none = []
  more_notation (item w ws) = codes "," ++ (notation w ++ more_notation ws)

-- the digits of a number: no leading zero, and at least one digit
abbrev pub is_numeral : List ℕ → Bool
is_numeral [] = false
is_numeral (d ∷ []) = is_ascii_digit d
is_numeral (d ∷ e ∷ ds) = not (d == 48) && list_all is_ascii_digit (d ∷ e ∷ ds)

-- the number that digits continue
abbrev pub value_after : ℕ → List ℕ → ℕ
value_after n [] = n
value_after n (d ∷ ds) = value_after (10 * n + (d - 48)) ds

-- the number of some digits
abbrev pub value_of : List ℕ → ℕ
value_of ds = value_after 0 ds

-- a list's bytes, of which there are so many
abbrev pub AreBytes : ℕ → List ℕ → Type 0
AreBytes n b = (length b ≡ n) × IsBytes b

-- a key's parts are parts
abbrev pub IsKeyOfParts : Key → Type 0
IsKeyOfParts (One p) = AreBytes 32 p
IsKeyOfParts (Two p q) = AreBytes 32 p × AreBytes 32 q

-- a stamp's number has 64 bits
abbrev pub IsStampOf64 : Stamp → Type 0
IsStampOf64 (Time ms) = ms < 2 ^ 64
IsStampOf64 (Seq n) = n < 2 ^ 64

abbrev mutual
  -- each value is one of its type: a name is not 0 and has 32 bits, a nonce has 16 bytes, and so on
  pub IsWellFormed : Written → Type 0
  IsWellFormed (name n) = (0 < n) × (n < 2 ^ 32)
  IsWellFormed (stamp s) = IsStampOf64 s
  IsWellFormed (nonce b) = AreBytes 16 b
  IsWellFormed (part b) = AreBytes 32 b
  IsWellFormed (text b) = (length b ≤ 1024) × IsBytes b
  IsWellFormed (tag b) = AreBytes 4 b
  IsWellFormed (blob b) = IsBytes b
  IsWellFormed (tuple ws) = AreWellFormed ws
  IsWellFormed (seal k w) = IsKeyOfParts k × IsWellFormed w
  IsWellFormed (check k w) = IsKeyOfParts k × IsWellFormed w
  IsWellFormed (message m) = is_numeral m ≡ true
  IsWellFormed (message_item m i) = (is_numeral m ≡ true) × (is_numeral i ≡ true)

  pub AreWellFormed : Writtens → Type 0
  AreWellFormed none = Unit {0}
  AreWellFormed (item w ws) = IsWellFormed w × AreWellFormed ws

abbrev mutual
  -- a term is written without any `@`
  pub plain : Tree → Written
  plain (tree.name n) = name n
  plain (tree.stamp s) = stamp s
  plain (tree.nonce b) = nonce b
  plain (tree.part b) = part b
  plain (tree.text b) = text b
  plain (tree.tag b) = tag b
  plain (tree.blob b) = blob b
  plain (tree.tuple ts) = tuple (all_plain ts)
  plain (tree.seal k t) = seal k (plain t)
  plain (tree.check k t) = check k (plain t)

  pub all_plain : Trees → Writtens
  all_plain tree.none = none
  all_plain (tree.item t ts) = item (plain t) (all_plain ts)

-- message number n of those sent, the first of which has number 1
abbrev pub numbered : List Tree → ℕ → Option Tree
numbered sent zero = None
numbered sent (suc n) = slice_get sent n

-- an item of a message, from 0
abbrev pub item_numbered : Option Tree → ℕ → Option Tree
item_numbered (Some t) i = item_of t i
item_numbered None i = None

-- the message with these digits
abbrev pub message_named : List Tree → List ℕ → Option Tree
message_named sent m = numbered sent (value_of m)

-- the item with these digits of the message with those
abbrev pub item_named : List Tree → List ℕ → List ℕ → Option Tree
item_named sent m i = item_numbered (message_named sent m) (value_of i)

-- what is found, or the empty tuple
abbrev pub or_empty : Option Tree → Tree
or_empty (Some t) = t
or_empty None = tree.tuple tree.none

abbrev mutual
  -- the term with each `@` replaced, one that names nothing by the empty tuple
  pub replaced : List Tree → Written → Tree
  replaced sent (name n) = tree.name n
  replaced sent (stamp s) = tree.stamp s
  replaced sent (nonce b) = tree.nonce b
  replaced sent (part b) = tree.part b
  replaced sent (text b) = tree.text b
  replaced sent (tag b) = tree.tag b
  replaced sent (blob b) = tree.blob b
  replaced sent (tuple ws) = tree.tuple (all_replaced sent ws)
  replaced sent (seal k w) = tree.seal k (replaced sent w)
  replaced sent (check k w) = tree.check k (replaced sent w)
  replaced sent (message m) = or_empty (message_named sent m)
  replaced sent (message_item m i) = or_empty (item_named sent m i)

  pub all_replaced : List Tree → Writtens → Trees
  all_replaced sent none = tree.none
  all_replaced sent (item w ws) = tree.item (replaced sent w) (all_replaced sent ws)

abbrev mutual
  -- each `@` names a message that was sent, or an item that is there
  pub is_named : List Tree → Written → Bool
  is_named sent (tuple ws) = are_named sent ws
  is_named sent (seal k w) = is_named sent w
  is_named sent (check k w) = is_named sent w
  is_named sent (message m) = is_some (message_named sent m)
  is_named sent (message_item m i) = is_some (item_named sent m i)
  is_named sent _ = true

  pub are_named : List Tree → Writtens → Bool
  are_named sent none = true
  are_named sent (item w ws) = is_named sent w && are_named sent ws

-- the text is this written term, and the term is within the limits of spellings once each `@` is replaced
pub record IsReading (sent : List Tree) (bytes : List ℕ) (w : Written) : Type 0 where
  pub written : bytes ≡ notation w
  pub values : IsWellFormed w
  pub limits : IsInLimits (replaced sent w)

-- the text writes this term, and each `@` of it names what is there
abbrev pub IsReadAs : List Tree → List ℕ → Tree → Type 0
IsReadAs sent bytes t = (w : Written) × IsReading sent bytes w × IsTrue (is_named sent w) × (t ≡ replaced sent w)

-- the text writes a term, of which an `@` names nothing
abbrev pub IsReadUnnamed : List Tree → List ℕ → Type 0
IsReadUnnamed sent bytes = (w : Written) × IsReading sent bytes w × (is_named sent w ≡ false)

-- two written terms stand for one term, and name what is there alike
abbrev pub ReadAlike : List Tree → Written → Written → Type 0
ReadAlike sent v w = (replaced sent v ≡ replaced sent w) × (is_named sent v ≡ is_named sent w)
