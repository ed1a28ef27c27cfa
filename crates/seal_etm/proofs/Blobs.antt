-- Blobs alone open and check.
use Rattle.std.proofs.Common.{◌≡◌, ◌↔◌, ℕ, true, ltb, List, length, refl, ap, ◌∙◌, inl, inr}
use Rattle.std.specs.Prelude.{Some, None}
use Rattle.std.proofs.lemmas.Bool.{cases_lt, lt-ltb}
use Rattle.term_values.specs.declared.small.Key.{Key}
use Rattle.term_values.specs.Trees.{Tree, name, stamp, nonce, part, text, tag, blob, tuple, seal, check}
use Rattle.term_values.proofs.SameBytes.{same_bytes_refl, same_start}
use Rattle.seal_etm.specs.Blobs.{IsLongBlob}
use Rattle.seal_etm.specs.Layout.{check_bytes, checked, opened}

short_opens_not : (key : Key) (bytes : List ℕ) → ltb (length bytes) 48 ≡ true → opened key (blob bytes) ≡ None
short_opens_not key bytes short = rw short refl

pub blob_opens : (key : Key) (item body : Tree) → opened key item ≡ Some body → IsLongBlob item
blob_opens key (blob bytes) body e =
    elim (cases_lt (length bytes) 48) [
      | inl lt ↦ absurd (let none = short_opens_not key bytes (lt-ltb _ _ lt) in cc)
      | inr le ↦ le
    ]
blob_opens key (name n) body e = absurd cc
blob_opens key (stamp s) body e = absurd cc
blob_opens key (nonce b) body e = absurd cc
blob_opens key (part b) body e = absurd cc
blob_opens key (text b) body e = absurd cc
blob_opens key (tag b) body e = absurd cc
blob_opens key (tuple ts) body e = absurd cc
blob_opens key (seal k t) body e = absurd cc
blob_opens key (check k t) body e = absurd cc

is_check : (key : Key) (body item : Tree) → checked key body item ≡ true → item ≡ blob (check_bytes key body)
is_check key body (blob bytes) e = ap blob (same_start bytes (check_bytes key body) e)
is_check key body (name n) e = absurd cc
is_check key body (stamp s) e = absurd cc
is_check key body (nonce b) e = absurd cc
is_check key body (part b) e = absurd cc
is_check key body (text b) e = absurd cc
is_check key body (tag b) e = absurd cc
is_check key body (tuple ts) e = absurd cc
is_check key body (seal k t) e = absurd cc
is_check key body (check k t) e = absurd cc

pub checked_is : (key : Key) (body item : Tree) → (checked key body item ≡ true) ↔ (item ≡ blob (check_bytes key body))
checked_is key body item = (is_check key body item, λ is. ap (checked key body) is ∙ same_bytes_refl (check_bytes key body))
