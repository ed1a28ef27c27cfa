-- HMAC over SHA-256, as RFC 2104 and FIPS 198-1 define it.
use Rattle.std.specs.Prelude.{ℕ, ◌-◌, List, ◌++◌, length, map, replicate, bit_xor, nat_lt, if◌then◌else◌}
use Rattle.sha2.specs.Sha256.{sha256}

-- a key of more than 64 bytes stands for its digest
abbrev pub short_key : List ℕ → List ℕ
short_key key = if nat_lt 64 (length key) then sha256 key else key

-- the key, filled with zeros to a block of 64 bytes
abbrev pub key_block : List ℕ → List ℕ
key_block key = short_key key ++ replicate (64 - length (short_key key)) 0

-- each byte of the block combined with the same byte by exclusive or
abbrev pub padded : ℕ → List ℕ → List ℕ
padded pad block = map (λ b. bit_xor b pad) block

-- the digest of the outer block and of the digest of the inner block and the input
unfoldable pub hmac : List ℕ → List ℕ → List ℕ
hmac key input = sha256 (padded 0x5c (key_block key) ++ sha256 (padded 0x36 (key_block key) ++ input))
