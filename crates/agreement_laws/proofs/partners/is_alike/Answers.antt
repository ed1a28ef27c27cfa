use Rattle.std.proofs.Common.{sym, ap, ◌∙◌}
use Rattle.std.specs.Option.{option_copied}
use Rattle.agreement_laws.proofs.Filled.{noted_same}
use Rattle.agreement_laws.proofs.partners.is_alike.Goals as goal

pub returns-in-Some-find : goal.returns-in-Some-find
returns-in-Some-find c = record {
  test =
      noted_same c.args.notes.now c.args.other.now c.args.slot c.in-Some.value.now c.in-Some-find.found.now c.is_same.result
      (sym (ap option_copied c.in-Some.is) ∙ c.find.ensures.value)
      (sym (ap option_copied c.in-Some-find.is) ∙ c.find-in-Some.ensures.value)
      c.is_same.ensures.same;
}
