-- Parts in hexadecimal: two parts with the same digits are one.
use Rattle.std.proofs.Common.{◌≡◌, ℕ, List, [], get_or, sym, ap, ◌∙◌, arith}
use Rattle.std.proofs.lemmas.Fmt.{decimal_injective}
use Rattle.script_text.specs.LineReading.{mech_in}
use Rattle.script_text.proofs.LineAgain.{mech_in_is}
use Rattle.script_text.proofs.Words.{some_is}
use Rattle.authctl.specs.declared.words.Walk.{Walk}
use Rattle.authctl.specs.Words.{IsWalk}
use Rattle.hex.specs.Hex.{IsBytes, decode_of, encode_lower}
use Rattle.hex.proofs.HexLemmas.{decode_of-encode_lower}

pub encode_injective : (p q : List ℕ) → IsBytes p → IsBytes q → encode_lower p ≡ encode_lower q → p ≡ q
encode_injective p q p-fits q-fits e =
    let same = sym (decode_of-encode_lower p p-fits) ∙ ap decode_of e ∙ decode_of-encode_lower q q-fits in
    cc

pub one_walk : (words : List (List ℕ)) (v w : Walk) → IsWalk words v → IsWalk words w → v ≡ w
one_walk words v w p q =
    let same = sym p.spelled ∙ q.spelled in
    let a : v.a ≡ w.a = decimal_injective v.a w.a (omega (arith, p.plan.a.fits)) (omega (arith, q.plan.a.fits)) (ap (λ (l : List (List ℕ)). get_or l 2 []) same) in
    let b : v.b ≡ w.b = decimal_injective v.b w.b (omega (arith, p.plan.b.fits)) (omega (arith, q.plan.b.fits)) (ap (λ (l : List (List ℕ)). get_or l 3 []) same) in
    let mech : v.mech ≡ w.mech = some_is v.mech w.mech (sym (mech_in_is v.mech p.plan.offered) ∙ ap (λ (l : List (List ℕ)). mech_in (get_or l 1 [])) same ∙ mech_in_is w.mech q.plan.offered) in
    let part : v.part ≡ w.part = encode_injective v.part w.part p.plan.part.bytes q.plan.part.bytes (ap (λ (l : List (List ℕ)). get_or l 4 []) same) in
    λ i. record { mech = mech i; a = a i; b = b i; part = part i }
