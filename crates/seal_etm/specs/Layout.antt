-- Encrypt-then-MAC: the keys, the seal and the check of a body.
use Rattle.std.specs.Prelude.{ℕ, suc, ◌-◌, ◌/◌, ◌%◌, Bool, false, List, [], ◌∷◌, ◌++◌, length, take, drop, Option, Some, None, Ok, bit_xor, nat_lt, slice_index, if◌then◌else◌}
use Rattle.std.specs.Int.{w32, to_be_bytes}
use Rattle.sha2.specs.Sha256.{sha256}
use Rattle.term_values.specs.declared.small.Key.{Key}
use Rattle.term_values.specs.Trees.{Tree, blob}
use Rattle.term_values.specs.SameBytes.{same_bytes}
use Rattle.tagged_codec.specs.Grammar.{key_spelling, spelling}
use Rattle.tagged_codec.specs.Reading.{Read, term_at}
use Rattle.seal_etm.specs.Hmac.{hmac}

-- the digest of a byte and the key's spelling: 1 encrypts, 2 makes the check value of a seal, 3 checks, 4 prints
abbrev pub derived : ℕ → Key → List ℕ
derived label key = sha256 (label ∷ key_spelling key)

-- block i of the stream that the iv and a derived key give
unfoldable pub stream_block : List ℕ → List ℕ → ℕ → List ℕ
stream_block key iv i = hmac key (iv ++ to_be_bytes w32 i)

-- byte k of the stream
abbrev pub stream_byte : List ℕ → List ℕ → ℕ → ℕ
stream_byte key iv k = slice_index (stream_block key iv (k / 32)) (k % 32)

-- bytes combined with the stream from its byte k on, by exclusive or
abbrev pub combined_from : List ℕ → List ℕ → ℕ → List ℕ → List ℕ
combined_from key iv k [] = []
combined_from key iv k (b ∷ bytes) = bit_xor b (stream_byte key iv k) ∷ combined_from key iv (suc k) bytes

-- a body's bytes made a ciphertext, and back
abbrev pub ciphered : Key → List ℕ → List ℕ → List ℕ
ciphered key iv bytes = combined_from (derived 1 key) iv 0 bytes

-- the check value of a seal, over the iv and the ciphertext
abbrev pub check_value : Key → List ℕ → List ℕ
check_value key iv_and_ciphertext = hmac (derived 2 key) iv_and_ciphertext

-- the one term of which the bytes are a whole spelling, where they are one
abbrev pub only_whole : Read Tree → Option Tree
only_whole (Ok (t, [])) = Some t
only_whole _ = None

-- the term that the bytes spell whole: a spelling has at most 8,192 bytes
abbrev pub spelled : List ℕ → Option Tree
spelled bytes = if nat_lt 8192 (length bytes) then None else only_whole (term_at 8 bytes)

-- all of a seal but its check value
abbrev pub front_of : List ℕ → List ℕ
front_of bytes = take (length bytes - 32) bytes

-- the last 32 bytes are the check value of what stands before them
abbrev pub has_check_value : Key → List ℕ → Bool
has_check_value key bytes = same_bytes (drop (length bytes - 32) bytes) (check_value key (front_of bytes))

-- the body that the ciphertext of a seal spells
abbrev pub deciphered : Key → List ℕ → Option Tree
deciphered key bytes = spelled (ciphered key (take 16 bytes) (drop 16 (front_of bytes)))

-- the body of a blob of at least 48 bytes with its check value
abbrev pub opened : Key → Tree → Option Tree
opened key (blob bytes) =
    if nat_lt (length bytes) 48 then None
    else if has_check_value key bytes then deciphered key bytes else None
opened key _ = None

-- the bytes of a check
abbrev pub check_bytes : Key → Tree → List ℕ
check_bytes key body = hmac (derived 3 key) (spelling body)

-- the item is the blob that checks the body
abbrev pub checked : Key → Tree → Tree → Bool
checked key body (blob bytes) = same_bytes bytes (check_bytes key body)
checked key body _ = false

-- the iv and the ciphertext of a body
abbrev pub hidden : Key → Tree → List ℕ → List ℕ
hidden key body iv = iv ++ ciphered key iv (spelling body)

-- the bytes of a seal: the iv, the ciphertext and the check value
abbrev pub seal_bytes : Key → Tree → List ℕ → List ℕ
seal_bytes key body iv = hidden key body iv ++ check_value key (hidden key body iv)

-- the first 16 bytes of a blob that has so many
abbrev pub iv_of : Tree → Option (List ℕ)
iv_of (blob bytes) = if nat_lt (length bytes) 16 then None else Some (take 16 bytes)
iv_of _ = None

-- the first eight bytes by which a key is told from others
abbrev pub print_of : Key → List ℕ
print_of key = take 8 (derived 4 key)
