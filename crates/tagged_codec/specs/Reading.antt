-- Reading from left to right: a value and the bytes after it, or where reading stops. The private methods of the
-- reader are compared with these functions; what they mean by the grammar is said and proved apart from them.
use Rattle.std.specs.Prelude.{◌≡◌, ℕ, zero, suc, ◌+◌, ◌*◌, List, [], ◌∷◌, ◌++◌, length, take, drop, Result, Ok, Err, nat_lt, ◌==◌, if◌then◌else◌}
use Rattle.std.specs.Int.{Width, w32, w64, byte_len, from_be_bytes}
use Rattle.term_values.specs.declared.Key.{Key}
use Rattle.term_values.specs.declared.Key.TheVariants.{One, Two}
use Rattle.term_values.specs.declared.Stamp.TheVariants.{Time, Seq}
use Rattle.term_values.specs.declared.Why.{Why}
use Rattle.term_values.specs.declared.Why.TheVariants as why
use Rattle.term_values.specs.Trees.{Tree, name, stamp, nonce, part, text, tag, blob, tuple, seal, check, trees}
use Rattle.tagged_codec.specs.declared.reading.ReadFault.{ReadFault}
use Rattle.tagged_codec.specs.declared.reading.ReadFault.TheVariants.{Memory, Malformed}

-- why reading stops, and the bytes from there on
abbrev pub Stop : Type 0
Stop = Why × List ℕ

-- a value and the bytes after it, or a stop
abbrev pub Read : Type 0 → Type 0
Read X = Result (X × List ℕ) Stop

infixl 10 ◌>>=◌
-- reading goes on behind a value
abbrev pub ◌>>=◌ : {A B : Type 0} → Result A Stop → (A → Result B Stop) → Result B Stop
(Ok x) >>= f = f x
(Err e) >>= f = Err e

-- What a reader returned, seen by view, and what it left, are what reading gives, unless memory ran out.
abbrev pub Reads : {X Y : Type 0} → (X → Y) → Result X ReadFault → List ℕ → Read Y → Type 0
Reads view (Ok x) rest read = read ≡ Ok (view x, rest)
Reads view (Err (Malformed reason)) rest read = read ≡ Err (reason, rest)
Reads view (Err Memory) rest read = Unit {0}

-- so many bytes
unfoldable pub bytes_at : ℕ → List ℕ → Read (List ℕ)
bytes_at n bytes = if nat_lt (length bytes) n then Err (why.Short, []) else Ok (take n bytes, drop n bytes)

-- one byte
unfoldable pub byte_at : List ℕ → Read ℕ
byte_at [] = Err (why.Short, [])
byte_at (b ∷ bytes) = Ok (b, bytes)

-- a number, the greater byte first
unfoldable pub number_at : Width → List ℕ → Read ℕ
number_at w bytes = do
  front ← bytes_at (byte_len w) bytes
  Ok (from_be_bytes w front.0, front.1)

-- two bytes of length, at most so many, and the bytes
unfoldable pub sized_at : ℕ → Why → List ℕ → Read (List ℕ)
sized_at most reason bytes = do
  high ← byte_at bytes
  if nat_lt most (high.0 * 256) then Err (reason, bytes) else (byte_at high.1 >>= λ low.
      if nat_lt most (high.0 * 256 + low.0) then Err (reason, high.1) else bytes_at (high.0 * 256 + low.0) low.1)

-- what follows the kind of a key, which stands at start
unfoldable pub key_under : List ℕ → ℕ → List ℕ → Read Key
key_under start kind bytes =
    if kind == 0x0b then (bytes_at 32 bytes >>= λ p. Ok (One p.0, p.1))
    else (if kind == 0x0c then (bytes_at 32 bytes >>= λ p. bytes_at 32 p.1 >>= λ q. Ok (Two p.0 q.0, q.1)) else Err (why.Kind, start))

-- a key
unfoldable pub key_at : List ℕ → Read Key
key_at bytes = byte_at bytes >>= λ kind. key_under bytes kind.0 kind.1

-- items, one after the other
unfoldable pub items_at : (List ℕ → Read Tree) → ℕ → List ℕ → Read (List Tree)
items_at one zero bytes = Ok ([], bytes)
items_at one (suc n) bytes = one bytes >>= λ first. items_at one n first.1 >>= λ others. Ok (first.0 ∷ others.0, others.1)

-- a name
unfoldable pub name_at : List ℕ → Read Tree
name_at bytes = bytes_at 3 bytes >>= λ high. byte_at high.1 >>= λ low.
    if from_be_bytes w32 (high.0 ++ low.0 ∷ []) == 0 then Err (why.ZeroName, high.1) else Ok (name (from_be_bytes w32 (high.0 ++ low.0 ∷ [])), low.1)

-- the items of a tuple, with so many levels below it
unfoldable pub tuple_at : (List ℕ → Read Tree) → ℕ → List ℕ → Read (List Tree)
tuple_at one below bytes = byte_at bytes >>= λ n.
    if nat_lt 32 n.0 then Err (why.ManyItems, bytes)
    else if n.0 == 0 then Ok ([], n.1)
    else if below == 0 then Err (why.Deep, bytes)
    else items_at one n.0 n.1

-- the key and the body of a seal or check whose kind stands at start
unfoldable pub sealed_at : (List ℕ → Read Tree) → ℕ → List ℕ → List ℕ → Read (Key × Tree)
sealed_at one below start bytes =
    if below == 0 then Err (why.Deep, start)
    else (key_at bytes >>= λ key. one key.1 >>= λ body. Ok ((key.0, body.0), body.1))

-- what follows a kind, which stands at start
unfoldable pub tree_under : (List ℕ → Read Tree) → ℕ → List ℕ → ℕ → List ℕ → Read Tree
tree_under one below start kind bytes =
    if kind == 0x01 then name_at bytes
    else if kind == 0x02 then (number_at w64 bytes >>= λ n. Ok (stamp (Time n.0), n.1))
    else if kind == 0x03 then (number_at w64 bytes >>= λ n. Ok (stamp (Seq n.0), n.1))
    else if kind == 0x04 then (bytes_at 16 bytes >>= λ b. Ok (nonce b.0, b.1))
    else if kind == 0x05 then (bytes_at 32 bytes >>= λ p. Ok (part p.0, p.1))
    else if kind == 0x06 then (sized_at 1024 why.LongText bytes >>= λ b. Ok (text b.0, b.1))
    else if kind == 0x07 then (bytes_at 4 bytes >>= λ b. Ok (tag b.0, b.1))
    else if kind == 0x08 then (tuple_at one below bytes >>= λ b. Ok (tuple (trees b.0), b.1))
    else if kind == 0x09 then (sealed_at one below start bytes >>= λ b. Ok (seal b.0.0 b.0.1, b.1))
    else if kind == 0x0a then (sealed_at one below start bytes >>= λ b. Ok (check b.0.0 b.0.1, b.1))
    else if kind == 0x0d then (sized_at 4096 why.LongBlob bytes >>= λ b. Ok (blob b.0, b.1))
    else Err (why.Kind, start)

-- a term that may take so many levels. It is asked for none at no level, since sealed_at and tuple_at stop before
unfoldable pub term_at : ℕ → List ℕ → Read Tree
term_at zero bytes = Err (why.Deep, bytes)
term_at (suc below) bytes = byte_at bytes >>= λ kind. tree_under (term_at below) below bytes kind.0 kind.1
