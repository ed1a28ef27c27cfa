use Rattle.std.proofs.Common.{◌≡◌, sym, ◌∙◌, ap, get_or, List, ℕ, [], arith, rules}
use Rattle.std.proofs.lemmas.Fmt.{decimal_injective}
use Rattle.script_text.specs.LineReading.{mech_in}
use Rattle.script_text.proofs.LineAgain.{mech_in_is}
use Rattle.script_text.proofs.Spelled.{mech_in_some}
use Rattle.authctl.proofs.words.read_five.Goals as goal

-- the word is the name of no mechanism that walks may have
pub returns-in_err-mech-clause-none : goal.returns-in_err-mech-clause-none
returns-in_err-mech-clause-none c = λ _ w plan e.
    let named = ap (λ (l : List (List ℕ)). mech_in (get_or l 1 [])) e in
    let found = mech_in_is w.mech plan.offered in
    let none = c.read_mech.ensures in
    let was = c.in_err-mech.was in
    absurd cc

pub returns-then-eq-clause-none : goal.returns-then-eq-clause-none
returns-then-eq-clause-none c = λ _ w plan e.
    let x = c.in_ok-a.a in
    let y = c.in_ok-b.b in
    let x-is = decimal_injective x w.a (omega (arith, c.in_ok-a.ensures.name.fits)) (omega (arith, plan.a.fits)) (sym c.in_ok-a.ensures.some ∙ ap (λ (l : List (List ℕ)). get_or l 2 []) e) in
    let y-is = decimal_injective y w.b (omega (arith, c.in_ok-b.ensures.name.fits)) (omega (arith, plan.b.fits)) (sym c.in_ok-b.ensures.some ∙ ap (λ (l : List (List ℕ)). get_or l 3 []) e) in
    let same : x ≡ y = search rules in
    plan.differ (sym x-is ∙ same ∙ y-is)
