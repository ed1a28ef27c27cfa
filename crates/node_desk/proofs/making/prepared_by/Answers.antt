use Rattle.std.proofs.Common.{sym}
use Rattle.mech_rows.specs.Rings.{keys_in}
use Rattle.text_hooks.specs.Rules.{allowed}
use Rattle.node_desk.proofs.Delivering.{err-then, unawaited-unfit, received-unfit}
use Rattle.node_desk.proofs.making.prepared_by.Goals as goal

pub returns-then-not-receives-clause-refused : goal.returns-then-not-receives-clause-refused
returns-then-not-receives-clause-refused g c other =
    unawaited-unfit g.S.Sealer.opens g.S.Sealer.checks (allowed c.args.hook.now.rules.items) (keys_in c.args.ring.now) (g.P.Stated.state_of c.args.state) c.args.bytes.now _
    (sym c.if-not-receives.ensures.receives) (c.unawaited.ensures other)

pub returns-clause-refused : goal.returns-clause-refused
returns-clause-refused g c =
    err-then c.prepare.result c.prepare.ensures.refused (λ e h other. received-unfit g.S.Sealer.opens g.S.Sealer.checks (allowed c.args.hook.now.rules.items) (keys_in c.args.ring.now) (g.P.Stated.state_of c.args.state) c.args.bytes.now e
    (sym c.if-not-receives.ensures.receives) (h other))
