use Rattle.std.proofs.Common.{sym, subst}
use Rattle.std.proofs.lemmas.Result.{err_from_is_err_and}
use Rattle.node_desk.specs.Deliveries.{IsDue}
use Rattle.node_desk.specs.Desks.{run_at}
use Rattle.node_desk.specs.Lives.{live_state}
use Rattle.node_desk.proofs.Causes.{err-all, fault-other, late-fault}
use Rattle.node_desk.proofs.Delivering.{first-for}
use Rattle.node_desk.proofs.Dues.{due-first}
use Rattle.node_desk.proofs.Running.{first-early, first-open, first-refused, first-unrefused, open-unrefused}
use Rattle.node_desk.proofs.making.make_first.Goals as goal

pub returns-clause-ok : goal.returns-clause-ok
returns-clause-ok g c =
    let state = c.in_ok-state.ensures in
    let issued = c.in-Ok.ensures in
    let step = c.in_ok-step.ensures in
    first-for g.S.Sealer.opens g.S.Sealer.checks c.args.desk.now c.args.run c.args.clock (live_state c.in_ok-state.state) _ _ _ _ c.stamp_for.new.desk c.ring.result.now c.in-Ok.stamp c.in_ok-step.step
    state.current state.first c.ring.ensures.ring issued.issued issued.unused issued.given issued.fit step.before step.taken step.issued step.says step.step step.limits step.drawn

pub returns-in_err-step-clause-issue_due : goal.returns-in_err-step-clause-issue_due
returns-in_err-step-clause-issue_due g c =
    let p = err_from_is_err_and c.from_residual-in_err-step.result c.from_residual-in_err-step.ensures.1 in
    let state = c.in_ok-state.ensures in
    let issued = c.in-Ok.ensures in
    rw p.1 (due-first c.args.desk.now c.stamp_for.new.desk c.args.run c.args.clock (live_state c.in_ok-state.state) c.in-Ok.stamp state.current state.first issued.given issued.issued issued.due)

pub returns-clause-due : goal.returns-clause-due
returns-clause-due g c = subst (IsDue c.args.desk.now c.args.clock) (sym c.in_ok-step.ensures.issued) c.in-Ok.ensures.due

pub returns-in_err-state-clause-refused : goal.returns-in_err-state-clause-refused
returns-in_err-state-clause-refused g c =
    let p = err_from_is_err_and c.from_residual.result c.from_residual.ensures.1 in
    rw (p.1, p.2) (λ other. first-refused c.args.desk.now c.args.run _ _ (c.in_err-state.ensures.refused other))

pub returns-in_err-state-clause-faulted : goal.returns-in_err-state-clause-faulted
returns-in_err-state-clause-faulted g c =
    let p = err_from_is_err_and c.from_residual.result c.from_residual.ensures.1 in
    rw (p.1, p.2) (λ is. absurd (late-fault _ (first-early (run_at c.args.desk.now c.args.run) _ (c.in_err-state.ensures.refused (fault-other _ is))) is))

pub returns-in_err-state-clause-running : goal.returns-in_err-state-clause-running
returns-in_err-state-clause-running g c =
    let p = err_from_is_err_and c.from_residual.result c.from_residual.ensures.1 in
    rw (p.1, p.2) (λ is. first-open (run_at c.args.desk.now c.args.run) (c.in_err-state.ensures.memory is))

pub returns-in-Err-clause-running : goal.returns-in-Err-clause-running
returns-in-Err-clause-running g c is =
    open-unrefused (run_at c.args.desk.now c.args.run) (live_state c.in_ok-state.state) c.in_ok-state.ensures.current

pub returns-in-Err-clause-first : goal.returns-in-Err-clause-first
returns-in-Err-clause-first g c is =
    first-unrefused (run_at c.args.desk.now c.args.run) (live_state c.in_ok-state.state) c.in_ok-state.ensures.current c.in_ok-state.ensures.first

pub returns-in_err-step-clause-running : goal.returns-in_err-step-clause-running
returns-in_err-step-clause-running g c =
    err-all _ c.from_residual-in_err-step.result (λ e is. open-unrefused (run_at c.args.desk.now c.args.run) (live_state c.in_ok-state.state) c.in_ok-state.ensures.current)

pub returns-in_err-step-clause-first : goal.returns-in_err-step-clause-first
returns-in_err-step-clause-first g c =
    err-all _ c.from_residual-in_err-step.result (λ e is. first-unrefused (run_at c.args.desk.now c.args.run) (live_state c.in_ok-state.state) c.in_ok-state.ensures.current c.in_ok-state.ensures.first)
