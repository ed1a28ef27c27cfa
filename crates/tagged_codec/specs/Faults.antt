-- Where bytes stop being the beginning of a spelling, and why.
use Rattle.std.specs.Prelude.{◌≡◌, ◌⊎◌, ℕ, suc, ◌+◌, ◌*◌, ◌<◌, ◌≤◌, List, [], ◌∷◌, ◌++◌, length, take, nat_lt, slice_index, if◌then◌else◌}
use Rattle.term_values.specs.declared.Key.{Key}
use Rattle.term_values.specs.declared.Why.{Why}
use Rattle.term_values.specs.declared.Why.TheVariants.{Kind, Short, ZeroName, LongText, LongBlob, ManyItems, Deep, LongMessage, Extra}
use Rattle.term_values.specs.Trees.{Tree}
use Rattle.term_values.specs.Limits.{IsKey}
use Rattle.tagged_codec.specs.Grammar.{IsSpelling, key_spelling}
use Rattle.tagged_codec.specs.Relation.{Spells}

-- each is a byte
abbrev pub IsBytes : List ℕ → Type 0
IsBytes bytes = (i : ℕ) → slice_index bytes i < 256

-- The bytes begin some spelling under the rules on kinds, names, lengths, counts and levels. The limit of 8,192 bytes
-- is no part of this.
abbrev pub Begins : List ℕ → Type 0
Begins bytes = (t : Tree) × (rest : List ℕ) × Spells 1 t (bytes ++ rest)

-- the byte is the kind of a term
abbrev pub IsKind : ℕ → Type 0
IsKind byte = ((0x01 ≤ byte) × (byte ≤ 0x0a)) ⊎ (byte ≡ 0x0d)

-- the byte is the kind of a seal or a check
abbrev pub IsSealKind : ℕ → Type 0
IsSealKind byte = (byte ≡ 0x09) ⊎ (byte ≡ 0x0a)

-- The table of reasons. Refused level front byte why: a term that stands at the level begins with front, and the byte
-- may not come next, because of why. RefusedIn says the same of so many items that stand at the level.
mutual
  pub data Refused : ℕ → List ℕ → ℕ → Why → Type 0 where
    no_kind : (level byte : ℕ) → (IsKind byte → ⊥) → Refused level [] byte Kind
    no_key_kind : (level kind byte : ℕ) → level < 8 → IsSealKind kind → (byte ≡ 0x0b → ⊥) → (byte ≡ 0x0c → ⊥) → Refused level (kind ∷ []) byte Kind
    zero_name : (level : ℕ) → Refused level (0x01 ∷ 0 ∷ 0 ∷ 0 ∷ []) 0 ZeroName
    text_high : (level high : ℕ) → 1024 < high * 256 → Refused level (0x06 ∷ []) high LongText
    text_low : (level high low : ℕ) → high * 256 ≤ 1024 → 1024 < high * 256 + low → Refused level (0x06 ∷ high ∷ []) low LongText
    blob_high : (level high : ℕ) → 4096 < high * 256 → Refused level (0x0d ∷ []) high LongBlob
    blob_low : (level high low : ℕ) → high * 256 ≤ 4096 → 4096 < high * 256 + low → Refused level (0x0d ∷ high ∷ []) low LongBlob
    many_items : (level count : ℕ) → 32 < count → Refused level (0x08 ∷ []) count ManyItems
    deep_seal : (level byte : ℕ) → level ≡ 8 → IsSealKind byte → Refused level [] byte Deep
    deep_items : (level count : ℕ) → level ≡ 8 → 0 < count → count ≤ 32 → Refused level (0x08 ∷ []) count Deep
    in_items : (level count : ℕ) (front : List ℕ) (byte : ℕ) (why : Why) → level < 8 → count ≤ 32 → RefusedIn (suc level) count front byte why → Refused level (0x08 ∷ count ∷ front) byte why
    in_body : (level kind : ℕ) (key : Key) (front : List ℕ) (byte : ℕ) (why : Why) → level < 8 → IsSealKind kind → IsKey key → Refused (suc level) front byte why → Refused level (kind ∷ key_spelling key ++ front) byte why

  pub data RefusedIn : ℕ → ℕ → List ℕ → ℕ → Why → Type 0 where
    in_first : (level count : ℕ) (front : List ℕ) (byte : ℕ) (why : Why) → Refused level front byte why → RefusedIn level (suc count) front byte why
    in_later : (level count : ℕ) (t : Tree) (text front : List ℕ) (byte : ℕ) (why : Why) → Spells level t text → RefusedIn level count front byte why → RefusedIn level (suc count) (text ++ front) byte why

-- what decode looks at
abbrev pub looked_at : List ℕ → List ℕ
looked_at bytes = take 8192 bytes

-- the byte at the place is looked at and refused
abbrev pub IsRefused : List ℕ → ℕ → Why → Type 0
IsRefused bytes place why = (byte : ℕ) × (rest : List ℕ) × (looked_at bytes ≡ take place bytes ++ byte ∷ rest) × Refused 1 (take place bytes) byte why

-- the reason at a place
abbrev pub IsWhy : List ℕ → ℕ → Why → Type 0
IsWhy bytes place Short = (place ≡ length bytes) × (length bytes ≤ 8192)
IsWhy bytes place LongMessage = (place ≡ 8192) × (8192 < length bytes)
IsWhy bytes place Extra = ⊥
IsWhy bytes place why = IsRefused bytes place why

-- No front of the bytes is a spelling. The bytes before the place begin one; with the byte at the place they begin
-- none, or what is looked at ends there.
pub record IsFault (bytes : List ℕ) (place : ℕ) (why : Why) : Type 0 where
  pub none : (t : Tree) (n : ℕ) → IsSpelling t (take n bytes) → ⊥
  pub begins : Begins (take place bytes)
  pub end : (place ≡ length (looked_at bytes)) ⊎ ((place < length (looked_at bytes)) × (Begins (take (suc place) bytes) → ⊥))
  pub reason : IsWhy bytes place why

-- the same of bytes that are to be one whole spelling: it may also end too early
abbrev pub IsWholeFault : List ℕ → ℕ → Why → Type 0
IsWholeFault bytes place Extra = (place < length bytes) × (t : Tree) × IsSpelling t (take place bytes)
IsWholeFault bytes place why = IsFault bytes place why

-- the reason for the whole input of this length, where reading its first 8,192 bytes stopped for this one
abbrev pub reason_of : Why → ℕ → Why
reason_of Short length = if nat_lt 8192 length then LongMessage else Short
reason_of why length = why
