-- The test on run numbers tells whether they are equal.
use Rattle.std.proofs.Common.{◌≡◌, ℕ, true, ◌==◌, ap, ap₂, eqb-true, eq-eqb}
use Rattle.agreement_laws.specs.Traces.{RunId, same_id}
use Rattle.term_values.proofs.Lists.{and_left, and_right, and_both}

id_of : ℕ → ℕ → RunId
id_of n m = record { party = n; number = m }

pub same_id_is : (i j : RunId) → same_id i j ≡ true → i ≡ j
unfolding id_of
same_id_is i j h =
    let e : i.party ≡ j.party = eqb-true i.party j.party (and_left (i.party == j.party) (i.number == j.number) h) in
    let f : i.number ≡ j.number = eqb-true i.number j.number (and_right (i.party == j.party) (i.number == j.number) h) in
    ap₂ id_of e f

pub same_id_refl : (i j : RunId) → i ≡ j → same_id i j ≡ true
same_id_refl i j e = and_both (i.party == j.party) (i.number == j.number) (eq-eqb i.party j.party (ap (λ (x : RunId). x.party) e)) (eq-eqb i.number j.number (ap (λ (x : RunId). x.number) e))
