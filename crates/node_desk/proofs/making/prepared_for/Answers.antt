use Rattle.std.proofs.Common.{inr}
use Rattle.node_desk.specs.Lives.{live_state}
use Rattle.node_desk.proofs.Delivering.{err-then}
use Rattle.node_desk.proofs.Running.{open-unrefused}
use Rattle.node_desk.proofs.Causes.{err-all}
use Rattle.node_desk.specs.Desks.{run_at}
use Rattle.node_desk.proofs.making.prepared_for.Goals as goal

pub returns-clause-refused : goal.returns-clause-refused
returns-clause-refused g c =
    err-then c.prepared_by.result c.prepared_by.ensures.refused (λ e h other. inr (live_state c.in_ok-state.state, c.in_ok-state.ensures.state, rw c.ring.ensures.ring at (h other)))

pub returns-clause-running : goal.returns-clause-running
returns-clause-running g c =
    err-all _ c.prepared_by.result (λ e is. open-unrefused (run_at c.args.desk.now c.args.run) (live_state c.in_ok-state.state) c.in_ok-state.ensures.state)
