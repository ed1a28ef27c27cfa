-- Frames of a stream: messages with their lengths before them.
use Rattle.std.specs.Prelude.{◌≡◌, ℕ, ◌<◌, ◌≤◌, List, [], ◌∷◌, ◌++◌, length, Option, Some, None}
use Rattle.std.specs.Int.{w16, from_be_bytes, to_be_bytes}

-- two bytes of length, the greater first, and the message
abbrev pub frame_of : List ℕ → List ℕ
frame_of message = to_be_bytes w16 (length message) ++ message

-- the frames of some messages, one after the other
abbrev pub frames_of : List (List ℕ) → List ℕ
frames_of [] = []
frames_of (message ∷ messages) = frame_of message ++ frames_of messages

-- each message can be framed
abbrev pub AreShort : List (List ℕ) → Type 0
AreShort [] = Unit {0}
AreShort (message ∷ messages) = (length message ≤ 8192) × AreShort messages

-- the length that the first two bytes announce
abbrev pub announced : List ℕ → Option ℕ
announced (high ∷ low ∷ rest) = Some (from_be_bytes w16 (high ∷ low ∷ []))
announced _ = None

-- the length that the bytes announce first is above 8,192
abbrev pub IsTooLong : List ℕ → ℕ → Type 0
IsTooLong bytes n = (announced bytes ≡ Some n) × (8192 < n)

-- the bytes begin with no whole frame
abbrev pub BeginsNoFrame : List ℕ → Type 0
BeginsNoFrame bytes = (message rest : List ℕ) → length message ≤ 8192 → bytes ≡ frame_of message ++ rest → ⊥

-- the bytes begin with no whole frame, and announce no length above 8,192
pub record HoldsNoFrame (bytes : List ℕ) : Type 0 where
  pub none : BeginsNoFrame bytes
  pub short : (n : ℕ) → IsTooLong bytes n → ⊥

-- the message is the first that the bytes hold, and left is what comes after its frame
pub record TakesFirst (bytes message left : List ℕ) : Type 0 where
  pub short : length message ≤ 8192
  pub parts : bytes ≡ frame_of message ++ left

-- What the calls of one deframer did, in any order: all bytes that were fed, the messages that were taken, and the
-- bytes that are kept.
pub data Ran : List ℕ → List (List ℕ) → List ℕ → Type 0 where
  began : Ran [] [] []
  fed : (all : List ℕ) (taken : List (List ℕ)) (kept piece : List ℕ) → Ran all taken kept → Ran (all ++ piece) taken (kept ++ piece)
  took : (all : List ℕ) (taken : List (List ℕ)) (kept message left : List ℕ) → Ran all taken kept → TakesFirst kept message left → Ran all (taken ++ message ∷ []) left
