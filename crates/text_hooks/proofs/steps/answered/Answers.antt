use Rattle.std.proofs.Common.{sym}
use Rattle.mech_rows.specs.Rings.{keys_in}
use Rattle.text_hooks.proofs.Stepped.{answered_is}
use Rattle.text_hooks.proofs.steps.answered.Goals as goal

pub invariant_of-result : goal.invariant_of-result
invariant_of-result g c = record {
  opens = g.S.Sealer.opens;
  checks = g.S.Sealer.checks;
  keys = keys_in c.args.ring.now;
  is_step = answered_is g.S.Sealer.opens g.S.Sealer.checks (keys_in c.args.ring.now) c.args.prepared _ _ _ _ _ _ (sym c.prepared.view_is) c.outcome_in-outcome.ensures.outcome c.requires.fitted c.requires.sends c.requires.says;
}

pub returns-clause-step : goal.returns-clause-step
returns-clause-step g c = answered_is g.S.Sealer.opens g.S.Sealer.checks (keys_in c.args.ring.now) c.args.prepared _ _ _ _ _ _ (sym c.prepared.view_is) c.outcome_in-outcome.ensures.outcome c.requires.fitted c.requires.sends c.requires.says
