-- The fault of bytes that are to be one whole spelling.
use Rattle.std.proofs.Common.{◌≡◌, ◌⊎◌, ℕ, ◌<◌, ◌≤◌, List, [], ◌++◌, length, take, drop, refl, sym, ap, subst, ◌∙◌, arith, inl, inr, length-append}
use Rattle.std.proofs.lemmas.Bool.{cases_lt}
use Rattle.std.proofs.lemmas.List.{append-nil, length-take, length-drop, take-append-drop, take_all}
use Rattle.term_values.specs.declared.Why.{Why}
use Rattle.term_values.specs.declared.Why.TheVariants as why
use Rattle.term_values.specs.Trees.{Tree}
use Rattle.tagged_codec.specs.Faults.{IsBytes, IsFault, IsWholeFault}
use Rattle.tagged_codec.specs.Grammar.{IsSpelling}
use Rattle.tagged_codec.proofs.Places.{again_absent, again_found, one_fault_is, some_fault_is, whole_fault}
use Rattle.tagged_codec.proofs.Terms.{one_form_is}

-- only a front of the bytes is a spelling
record Longer (bytes : List ℕ) (place : ℕ) (reason : Why) : Type 0 where
  extra : reason ≡ why.Extra
  more : place < length bytes
  t : Tree
  front : IsSpelling t (take place bytes)

-- a whole fault is what is left over after a spelling, or a fault
two_ways : (bytes : List ℕ) (place : ℕ) (reason : Why) → IsWholeFault bytes place reason → Longer bytes place reason ⊎ IsFault bytes place reason
two_ways bytes place why.Extra f = inl (record { extra = refl; more = f.0; t = f.1; front = f.2 })
two_ways bytes place reason f = inr f

pub no_whole_fault : (bytes : List ℕ) (t : Tree) (place : ℕ) (reason : Why) → IsSpelling t bytes → IsWholeFault bytes place reason → ⊥
no_whole_fault bytes t place reason sp f =
    elim (two_ways bytes place reason f) [
      | inl x ↦
          let lt = x.more in
          let one = again_found bytes t bytes [] x.t place sp (sym (append-nil bytes)) (omega (arith, lt)) x.front in
          let e = one.1 in omega (arith, lt, e)
      | inr g ↦ again_absent bytes t bytes [] place reason sp (sym (append-nil bytes)) g
    ]

longer_once : (bytes : List ℕ) (p q : ℕ) (w v : Why) → Longer bytes p w → Longer bytes q v → p ≡ q
longer_once bytes p q w v x y =
    let one = one_form_is x.t y.t (take p bytes) (take q bytes) (drop p bytes) (drop q bytes) x.front y.front (take-append-drop p bytes ∙ sym (take-append-drop q bytes)) in
    let lengths : length (take p bytes) ≡ length (take q bytes) = ap length one.1 in
    let a = x.more in
    let b = y.more in
    omega (arith, lengths, length-take p bytes, length-take q bytes, a, b)

pub one_whole_fault_is : (bytes : List ℕ) (p q : ℕ) (w v : Why) → IsBytes bytes → IsWholeFault bytes p w → IsWholeFault bytes q v → (p ≡ q) × (w ≡ v)
one_whole_fault_is bytes p q w v fits f g =
    elim (two_ways bytes p w f) [
      | inl x ↦ elim (two_ways bytes q v g) [
        | inl y ↦ (longer_once bytes p q w v x y, x.extra ∙ sym y.extra)
        | inr y ↦ absurd (y.none x.t p x.front)
      ]
      | inr x ↦ elim (two_ways bytes q v g) [
        | inl y ↦ absurd (x.none y.t q y.front)
        | inr y ↦ one_fault_is bytes p q w v fits x y
      ]
    ]

front_or_whole : (bytes : List ℕ) (t : Tree) (n : ℕ) → IsSpelling t (take n bytes) → ((u : Tree) × IsSpelling u bytes) ⊎ ((place : ℕ) × (reason : Why) × IsWholeFault bytes place reason)
front_or_whole bytes t n sp =
    elim (cases_lt n (length bytes)) [
      | inl lt ↦ inr (n, why.Extra, (lt, t, sp))
      | inr le ↦ inl (t, subst (IsSpelling t) (take_all n bytes le) sp)
    ]

pub some_whole_fault_is : (bytes : List ℕ) → IsBytes bytes → ((t : Tree) × IsSpelling t bytes) ⊎ ((place : ℕ) × (reason : Why) × IsWholeFault bytes place reason)
some_whole_fault_is bytes fits =
    elim (some_fault_is bytes fits) [
      | inl x ↦ front_or_whole bytes x.0 x.1 x.2
      | inr x ↦ inr (x.0, x.1, whole_fault bytes x.0 x.1 x.2)
    ]
