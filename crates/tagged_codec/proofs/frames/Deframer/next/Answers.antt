use Rattle.std.proofs.Common.{◌≡◌, ◌-◌, ℕ, List, length, drop, take, sym, ap, subst, ◌∙◌, arith}
use Rattle.std.proofs.lemmas.List.{length-drop, take_all}
use Rattle.tagged_codec.specs.Frames.{IsTooLong}
use Rattle.tagged_codec.proofs.frames.Deframer.next.Goals as goal

pub returns-in-Err-clause-long : goal.returns-in-Err-clause-long
returns-in-Err-clause-long c = λ n.
    let h = c.in-Err.ensures.long n in
    let start : ℕ = c.self.inside.start in
    let all : List ℕ = c.deref.result.now in
    let kept : c.args.self.now ≡ take (length all - start) (drop start all) =
    sym c.self.view_is ∙ ap (drop start) (sym c.deref.ensures.value) ∙ sym (take_all (length all - start) (drop start all) (omega (arith, length-drop start all))) in
    (λ e. subst (λ (q : List ℕ). IsTooLong q n) (sym kept) (h.0 (let same : c.in-Err.length ≡ n = cc in cc)), λ t. let same = h.1 (subst (λ (q : List ℕ). IsTooLong q n) kept t) in cc)
