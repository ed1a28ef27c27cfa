use Rattle.mech_rows.specs.Rings.{keys_in}
use Rattle.mech_rows.proofs.Stepping.{taken_fits}
use Rattle.text_hooks.specs.Rules.{allowed}
use Rattle.text_hooks.proofs.steps.packed.Goals as goal

pub invariant_of-result : goal.invariant_of-result
invariant_of-result g c = record {
  opens = g.S.Sealer.opens;
  checks = g.S.Sealer.checks;
  keys = keys_in c.args.ring.now;
  fitted = taken_fits g.S.Sealer.opens g.S.Sealer.checks (allowed c.args.hook.now.rules.items) (keys_in c.args.ring.now) _ c.requires.receives c.requires.acted c.requires.fit c.requires.same_head c.requires.moves;
}

pub returns-clause-fitted : goal.returns-clause-fitted
returns-clause-fitted g c = taken_fits g.S.Sealer.opens g.S.Sealer.checks (allowed c.args.hook.now.rules.items) (keys_in c.args.ring.now) _ c.requires.receives c.requires.acted c.requires.fit c.requires.same_head c.requires.moves
