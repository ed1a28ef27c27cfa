use Rattle.std.proofs.Common.{◌≡◌, ◌∙◌, Some, true, subst}
use Rattle.node_desk.specs.Helds.{table_at}
use Rattle.node_desk.specs.Lives.{live_state}
use Rattle.node_desk.specs.Desks.{HavePart}
use Rattle.node_desk.proofs.desk.Desk.look.Goals as goal

pub returns-clause-parts : goal.returns-clause-parts
returns-clause-parts g c =
    let log : c.list.result.now ≡ c.self.inside.log.events = c.list.ensures.value in
    let run_slots : c.deref.result.now ≡ c.self.inside.run_slots.items = c.deref.ensures.value in
    let found : table_at c.self.inside.log.events c.self.inside.run_slots.items c.args.run ≡ Some (record { state = live_state c.in_ok-state.state; is_open = true }) = rw (log, run_slots) at c.in_ok-state.ensures.state in
    rw (← c.self.view_is) (subst (HavePart c.self.inside.ring) (c.self.invariant.held.each c.args.run ∙ found) (c.self.invariant.parts c.args.run))
