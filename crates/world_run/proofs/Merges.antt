-- The events of all parties, merged in their order.
use Rattle.std.proofs.Common.{◌≡◌, ℕ, ◌==◌, Bool, true, false, List, [], ◌∷◌, ◌++◌, map, refl, sym, ap, ◌∙◌, eqb-true, eq-eqb}
use Rattle.node_desk.specs.declared.event.Event.{Event}
use Rattle.world_run.specs.Views.{Act, acts_of}
use Rattle.world_run.specs.Parties.{first_act, later, logs_after, merged}

party_in : Act → ℕ
party_in a = a.party

own_first : (a : Act) (more : List Act) → acts_of a.party (a ∷ more) ≡ a.event ∷ acts_of a.party more
own_first a more = rw (eq-eqb a.party a.party refl) refl

skipped : (n : ℕ) (a : Act) (more : List Act) → (n == a.party) ≡ false → acts_of n (a ∷ more) ≡ acts_of n more
skipped n a more f = go (a.party == n) refl
  where
    go : (d : Bool) → (a.party == n) ≡ d → acts_of n (a ∷ more) ≡ acts_of n more
    go true g = let h : (n == a.party) ≡ true = eq-eqb n a.party (sym (eqb-true a.party n g)) in absurd (cc)
    go false g = rw g refl

rest_is : (logs : ℕ → List Event) (a : Act) (more : List Act) → ((n : ℕ) → logs n ≡ acts_of n (a ∷ more)) → (n : ℕ) → logs_after a.party logs n ≡ acts_of n more
rest_is logs a more own n = go (n == a.party) refl
  where
    go : (b : Bool) → (n == a.party) ≡ b → logs_after a.party logs n ≡ acts_of n more
    go true f =
        let s : n ≡ a.party = eqb-true n a.party f in
        rw f (ap later (own n) ∙ ap later (ap (λ m. acts_of m (a ∷ more)) s ∙ own_first a more) ∙ ap (λ m. acts_of m more) (sym s))
    go false f = rw f (own n ∙ skipped n a more f)

-- acts whose parties stand in that order, and whose events are those of the logs, are what the merge gives
pub merged_is : (logs : ℕ → List Event) (order : List ℕ) (acts : List Act) → map (λ (a : Act). a.party) acts ≡ order → ((n : ℕ) → logs n ≡ acts_of n acts) → merged logs order ≡ acts
merged_is logs order [] e own = ap (merged logs) (sym e)
merged_is logs order (a ∷ more) e own =
    ap (merged logs) (sym e)
    ∙ ap (λ (l : List Event). first_act a.party l ++ merged (logs_after a.party logs) (map (λ (x : Act). x.party) more)) (own a.party ∙ own_first a more)
    ∙ ap (λ (m : List Act). a ∷ m) (merged_is (logs_after a.party logs) (map (λ (x : Act). x.party) more) more refl (rest_is logs a more own))
