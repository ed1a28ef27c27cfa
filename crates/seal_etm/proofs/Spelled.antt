-- What a whole spelling reads as, and that a short body has one.
use Rattle.std.proofs.Common.{◌≡◌, ℕ, ◌<◌, ◌≤◌, true, false, ltb, List, [], ◌∷◌, length, take, Ok, Err, refl, sym, ap, subst, ◌∙◌, arith, inl, inr}
use Rattle.std.specs.Prelude.{Some, None}
use Rattle.std.proofs.lemmas.Bool.{cases_lt, le-ltb, lt-ltb}
use Rattle.std.proofs.lemmas.List.{append-nil, take_all}
use Rattle.term_values.specs.Trees.{Tree}
use Rattle.tagged_codec.specs.Grammar.{IsInLimits, IsSpelling, spelling}
use Rattle.tagged_codec.specs.Reading.{Read, term_at}
use Rattle.tagged_codec.proofs.Fields.{IsBytes}
use Rattle.tagged_codec.proofs.Grammar.{length_of_spelling}
use Rattle.tagged_codec.proofs.Terms.{is_found, term_again}
use Rattle.seal_trait.specs.Items.{IsShort}
use Rattle.seal_etm.specs.Layout.{only_whole, spelled}

pub in_limits : (t : Tree) → IsShort t → IsInLimits t
in_limits t h = record { fits = h.fits; levels = h.levels; length = omega (arith, h.length, length_of_spelling t h.fits) }

pub whole_is : (t : Tree) (bytes : List ℕ) → IsSpelling t bytes → spelled bytes ≡ Some t
whole_is t bytes h =
    let short : ltb 8192 (length bytes) ≡ false = le-ltb _ _ (omega (arith, h.limits.length, ap length h.spelled)) in
    let read : term_at 8 bytes ≡ Ok (t, []) = ap (term_at 8) (h.spelled ∙ sym (append-nil (spelling t))) ∙ term_again 8 t [] h.limits.fits h.limits.levels in
    rw (short, read) refl

pub spelling_is : (t : Tree) → IsInLimits t → spelled (spelling t) ≡ Some t
spelling_is t h = whole_is t (spelling t) (record { limits = h; spelled = refl })

-- what was read, where nothing is left of so many bytes, is spelled by all of them
whole_found : (bytes : List ℕ) (t : Tree) → IsBytes bytes → length bytes ≤ 8192 → term_at 8 bytes ≡ Ok (t, []) → IsSpelling t bytes
whole_found bytes t fits short e =
    let all : take 8192 bytes ≡ bytes = take_all 8192 bytes short in
    let found = is_found bytes bytes (t, []) (length bytes) fits (sym all) e (omega arith) in
    subst (IsSpelling t) (take_all (length bytes) bytes (omega arith)) found.1

only_none : (bytes : List ℕ) (r : Read Tree) → IsBytes bytes → length bytes ≤ 8192 → term_at 8 bytes ≡ r → ((t : Tree) → IsSpelling t bytes → ⊥) → only_whole r ≡ None
only_none bytes (Ok (t, [])) fits short e none = absurd (none t (whole_found bytes t fits short e))
only_none bytes (Ok (t, b ∷ rest)) fits short e none = refl
only_none bytes (Err s) fits short e none = refl

pub none_is : (bytes : List ℕ) → IsBytes bytes → ((t : Tree) → IsSpelling t bytes → ⊥) → spelled bytes ≡ None
none_is bytes fits none =
    elim (cases_lt 8192 (length bytes)) [
      | inl lt ↦ let long = lt-ltb _ _ lt in rw long refl
      | inr le ↦ let short = le-ltb _ _ le in rw (short, only_none bytes (term_at 8 bytes) fits le refl none) refl
    ]

pub long_is : (bytes : List ℕ) → 8192 < length bytes → spelled bytes ≡ None
long_is bytes lt = let long : ltb 8192 (length bytes) ≡ true = lt-ltb _ _ lt in rw long refl
