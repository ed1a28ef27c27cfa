use Rattle.std.proofs.Common.{◌≡◌, ℕ, List, ap, map, subst, sym, ◌∙◌}
use Rattle.term_values.specs.Trees.{Among}
use Rattle.agreement_laws.specs.Configs.{names_in}
use Rattle.world_run.specs.Parties.{seat_name}
use Rattle.world_run.proofs.Seats.{has_is, is_has}
use Rattle.world_run.proofs.parties.Parties.has.Goals as goal

pub returns : goal.returns
returns c =
    let names : map seat_name c.deref.result.now ≡ names_in c.args.self.now.config = rw (c.deref.ensures.value, ← c.self.view_is) c.self.invariant.named in (
      λ e. subst (λ (ns : List ℕ). Among c.args.name ns) names (has_is c.deref.result.now c.args.name (sym c.has_name.ensures ∙ e)),
      λ i. c.has_name.ensures ∙ is_has c.deref.result.now c.args.name (subst (λ (ns : List ℕ). Among c.args.name ns) (sym names) i),
    )
