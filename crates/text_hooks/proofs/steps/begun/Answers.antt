use Rattle.mech_rows.specs.Rings.{keys_in}
use Rattle.text_hooks.proofs.Stepped.{begun_is}
use Rattle.text_hooks.proofs.steps.begun.Goals as goal

pub invariant_of-result : goal.invariant_of-result
invariant_of-result g c = record {
  opens = g.S.Sealer.opens;
  checks = g.S.Sealer.checks;
  keys = keys_in c.args.ring.now;
  is_step = begun_is g.S.Sealer.opens g.S.Sealer.checks (keys_in c.args.ring.now) _ _ _ _ _ _ _ _ c.new.ensures.items c.new-2.ensures.items c.outcome_in-outcome.ensures.outcome c.requires.first c.requires.says;
}

pub returns-clause-step : goal.returns-clause-step
returns-clause-step g c = begun_is g.S.Sealer.opens g.S.Sealer.checks (keys_in c.args.ring.now) _ _ _ _ _ _ _ _ c.new.ensures.items c.new-2.ensures.items c.outcome_in-outcome.ensures.outcome c.requires.first c.requires.says
