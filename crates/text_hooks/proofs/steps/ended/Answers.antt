use Rattle.std.proofs.Common.{sym}
use Rattle.mech_rows.specs.Rings.{keys_in}
use Rattle.text_hooks.proofs.Stepped.{ended_is}
use Rattle.text_hooks.proofs.steps.ended.Goals as goal

pub invariant_of-result : goal.invariant_of-result
invariant_of-result g c = record {
  opens = g.S.Sealer.opens;
  checks = g.S.Sealer.checks;
  keys = keys_in c.args.ring.now;
  is_step = ended_is g.S.Sealer.opens g.S.Sealer.checks (keys_in c.args.ring.now) c.args.prepared _ _ _ (sym c.prepared.view_is) c.new.ensures.items c.outcome_in-outcome.ensures.outcome c.requires.fitted c.requires.silent;
}

pub returns-clause-step : goal.returns-clause-step
returns-clause-step g c = ended_is g.S.Sealer.opens g.S.Sealer.checks (keys_in c.args.ring.now) c.args.prepared _ _ _ (sym c.prepared.view_is) c.new.ensures.items c.outcome_in-outcome.ensures.outcome c.requires.fitted c.requires.silent
