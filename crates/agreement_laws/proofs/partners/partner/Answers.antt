use Rattle.std.proofs.Common.{rules, ap, ◌∙◌}
use Rattle.mech_rows.specs.Facts.{peer_of}
use Rattle.agreement_laws.specs.Histories.{HistoryOf}
use Rattle.agreement_laws.specs.Partners.{agrees_filled, first_where, partner_of}
use Rattle.agreement_laws.proofs.Filled.{partner_some}
use Rattle.agreement_laws.proofs.partners.partner.Goals as goal

pub returns-in-Some : goal.returns-in-Some
returns-in-Some c = record {
  first =
      c.first_agreeing.ensures.first
      ∙ (ap (first_where (λ r. agrees_filled (peer_of c.args.done.now.head.role) c.in-Some.slots r c.args.done.now)) c.as_slice.ensures.value
      ∙ (partner_some c.history.inside.happened.items c.args.done.now c.in-Some.slots (search rules)
      ∙ ap (λ (v : HistoryOf). partner_of v.happened c.args.done.now) c.history.view_is));
}
