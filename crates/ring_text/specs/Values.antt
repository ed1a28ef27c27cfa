-- What the values in a key ring say: one definition a kind of value.
use Rattle.std.specs.Prelude.{ℕ, ◌==◌, ◌&&◌, ◌||◌, Bool, true, false, List, length, nat_le, nat_lt, codes, Option, Some, None, Result, Ok, Err, option_and_then, if◌then◌else◌}
use Rattle.std.specs.List.{list_all}
use Rattle.std.specs.Str.{bytes_eq}
use Rattle.hex.specs.Hex.{decode_of}
use Rattle.hex.specs.declared.error.FromHexError.{FromHexError}
use Rattle.serde_json.specs.Data.{Data}
use Rattle.serde_json.specs.Find.{as_number, as_str, as_u64}
use Rattle.term_values.specs.declared.small.StampKind.{StampKind}
use Rattle.term_values.specs.declared.small.StampKind.TheVariants.{Time, Seq}
use Rattle.mech_rows.specs.declared.kinds.Mech.{Mech}
use Rattle.mech_rows.specs.declared.kinds.Mech.TheVariants.{E1, E2, E3, E4, E5, E6, C1, C2, C3, C4, K3, K4, K5, K6, K8, K9}
use Rattle.mech_rows.specs.declared.kinds.Slot.{Slot}
use Rattle.mech_rows.specs.declared.kinds.Slot.TheVariants.{X1, X2, X3, X4, X5, X6, X7, X8, X9}

-- a JSON whole number from least to most
abbrev pub number_in : ℕ → ℕ → Data → Option ℕ
number_in least most d =
    option_and_then (λ n. if nat_le least n && nat_le n most then Some n else None)
    (option_and_then as_u64 (as_number d))

-- a name is a whole number from 1 to 4,294,967,295
abbrev pub name_in : Data → Option ℕ
name_in d = number_in 1 4294967295 d

-- a window is 0 to 600,000 milliseconds
abbrev pub window_in : Data → Option ℕ
window_in d = number_in 0 600000 d

-- the most bytes of a text are 0 to 1,024
abbrev pub length_in : Data → Option ℕ
length_in d = number_in 0 1024 d

-- "server" is a third party, "party" is none
abbrev pub server_word : List ℕ → Option Bool
server_word word =
    if bytes_eq word (codes "party") then Some false
    else if bytes_eq word (codes "server") then Some true
    else None

-- whether a kind of party is that of third parties
abbrev pub server_in : Data → Option Bool
server_in d = option_and_then server_word (as_str d)

-- "time" or "seq"
abbrev pub stamps_word : List ℕ → Option StampKind
stamps_word word =
    if bytes_eq word (codes "time") then Some Time
    else if bytes_eq word (codes "seq") then Some Seq
    else None

-- a kind of stamps
abbrev pub stamps_in : Data → Option StampKind
stamps_in d = option_and_then stamps_word (as_str d)

-- the name of one of the sixteen mechanisms
abbrev pub mech_word : List ℕ → Option Mech
mech_word word =
    if bytes_eq word (codes "E1") then Some E1
    else if bytes_eq word (codes "E2") then Some E2
    else if bytes_eq word (codes "E3") then Some E3
    else if bytes_eq word (codes "E4") then Some E4
    else if bytes_eq word (codes "E5") then Some E5
    else if bytes_eq word (codes "E6") then Some E6
    else if bytes_eq word (codes "C1") then Some C1
    else if bytes_eq word (codes "C2") then Some C2
    else if bytes_eq word (codes "C3") then Some C3
    else if bytes_eq word (codes "C4") then Some C4
    else if bytes_eq word (codes "K3") then Some K3
    else if bytes_eq word (codes "K4") then Some K4
    else if bytes_eq word (codes "K5") then Some K5
    else if bytes_eq word (codes "K6") then Some K6
    else if bytes_eq word (codes "K8") then Some K8
    else if bytes_eq word (codes "K9") then Some K9
    else None

-- a mechanism
abbrev pub mech_in : Data → Option Mech
mech_in d = option_and_then mech_word (as_str d)

-- the name of a text's slot, X1 to X9
abbrev pub slot_word : List ℕ → Option Slot
slot_word word =
    if bytes_eq word (codes "X1") then Some X1
    else if bytes_eq word (codes "X2") then Some X2
    else if bytes_eq word (codes "X3") then Some X3
    else if bytes_eq word (codes "X4") then Some X4
    else if bytes_eq word (codes "X5") then Some X5
    else if bytes_eq word (codes "X6") then Some X6
    else if bytes_eq word (codes "X7") then Some X7
    else if bytes_eq word (codes "X8") then Some X8
    else if bytes_eq word (codes "X9") then Some X9
    else None

-- a slot of a text
abbrev pub slot_in : Data → Option Slot
slot_in d = option_and_then slot_word (as_str d)

-- a digit of hexadecimal, in lower case
abbrev pub is_lower_digit : ℕ → Bool
is_lower_digit c = (nat_le 48 c && nat_le c 57) || (nat_le 97 c && nat_le c 102)

-- the bytes that digits write, where they write any
abbrev pub decoded : Result (List ℕ) FromHexError → Option (List ℕ)
decoded (Ok b) = Some b
decoded (Err e) = None

-- the bytes that digits in lower case write, two a byte
unfoldable pub bytes_word : List ℕ → Option (List ℕ)
bytes_word word = if list_all is_lower_digit word then decoded (decode_of word) else None

-- a key is 64 digits
unfoldable pub part_word : List ℕ → Option (List ℕ)
part_word word = if length word == 64 then bytes_word word else None

-- a key
abbrev pub part_in : Data → Option (List ℕ)
part_in d = option_and_then part_word (as_str d)

-- a text is digits of at most 1,024 bytes, perhaps none
unfoldable pub text_word : List ℕ → Option (List ℕ)
text_word word = option_and_then (λ b. if nat_le (length b) 1024 then Some b else None) (bytes_word word)

-- a text
abbrev pub text_in : Data → Option (List ℕ)
text_in d = option_and_then text_word (as_str d)
