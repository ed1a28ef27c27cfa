use Rattle.std.proofs.Common.{rules}
use Rattle.node_desk.specs.Helds.{table_at}
use Rattle.node_desk.specs.Lives.{live_state}
use Rattle.node_desk.proofs.Running.{first-unrefused, first-wrong}
use Rattle.node_desk.proofs.table.check_first.Goals as goal

-- src/table.rt:89:9
pub returns-then-not-sends_first-clause-refused : goal.returns-then-not-sends_first-clause-refused
returns-then-not-sends_first-clause-refused c = first-wrong (table_at c.args.log.now c.args.run_slots.now c.args.run) (live_state c.in_ok-state.state.now) c.in_ok-state.ensures.state (search rules)

-- src/table.rt:82:1
pub returns-clause-fit : goal.returns-clause-fit
returns-clause-fit c = first-unrefused (table_at c.args.log.now c.args.run_slots.now c.args.run) (live_state c.in_ok-state.state.now) c.in_ok-state.ensures.state (search rules)
