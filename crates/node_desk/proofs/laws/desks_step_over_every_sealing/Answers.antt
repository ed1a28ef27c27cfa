use Rattle.std.proofs.Common.{reverse}
use Rattle.mech_rows.specs.Lawful.{tested_by}
use Rattle.mech_rows.specs.Moves.{step_of}
use Rattle.node_desk.specs.Desks.{any_sealing}
use Rattle.node_desk.proofs.Sealings.{legal-over, node-over, step-keyed}
use Rattle.node_desk.proofs.laws.desks_step_over_every_sealing.Goals as goal

pub returns-clause-legal : goal.returns-clause-legal
returns-clause-legal g c ring first log whole steps = legal-over any_sealing g.S.Sealing.opens ring first (reverse log) whole steps

pub returns-clause-steps : goal.returns-clause-steps
returns-clause-steps g c opens checks old new event h is = node-over (tested_by opens checks) g.S.Sealing.opens old new event h is

pub returns-clause-made : goal.returns-clause-made
returns-clause-made g c keys other step made is = step-keyed (tested_by made.opens made.checks) g.S.Sealing.opens keys other (step_of step) made.is_step is
