use Rattle.std.proofs.Common.{reverse}
use Rattle.mech_rows.specs.Lawful.{tested_by}
use Rattle.node_desk.specs.Desks.{any_sealing}
use Rattle.node_desk.proofs.Sealings.{legal-over}
use Rattle.node_desk.proofs.desk.Desk.log.Goals as goal

pub returns-clause-legal : goal.returns-clause-legal
returns-clause-legal g c =
    rw (← c.self.view_is) (λ opens checks steps. legal-over any_sealing (tested_by opens checks) c.self.inside.ring c.self.inside.first (reverse c.self.inside.log.events) c.self.invariant.whole steps)

pub returns-clause-whole : goal.returns-clause-whole
returns-clause-whole g c = rw (← c.self.view_is) c.self.invariant.whole

pub returns-clause-made : goal.returns-clause-made
returns-clause-made g c = rw (← c.self.view_is) c.self.invariant.made
