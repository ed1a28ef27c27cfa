use Rattle.std.proofs.Common.{length, sym, ◌∙◌}
use Rattle.node_desk.proofs.Mays.{opening-other}
use Rattle.node_desk.proofs.Needed.{opening-is}
use Rattle.node_desk.proofs.desk.Desk.opening_refusal.Goals as goal

pub returns-clause-refusal : goal.returns-clause-refusal
returns-clause-refusal g c =
    rw (← c.self.view_is) ((rw c.as_slice.ensures.value at c.opening_refusal.ensures) ∙ opening-is c.self.inside.ring c.self.inside.first c.self.inside.log.events c.self.inside.run_slots.items c.self.inside.running c.args.head.now c.self.invariant.held c.self.invariant.open_is)

pub returns-clause-memory : goal.returns-clause-memory
returns-clause-memory g c is =
    opening-other c.self.inside.ring c.self.inside.running (length c.as_slice.result.now) c.args.head.now (sym c.opening_refusal.ensures ∙ is)
