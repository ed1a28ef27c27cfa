use Rattle.std.proofs.Common.{sym, subst, ◌∙◌, inl, inr}
use Rattle.std.proofs.lemmas.Result.{err_from_is_err_and}
use Rattle.text_hooks.specs.Rules.{allowed}
use Rattle.node_desk.specs.Deliveries.{IsDue}
use Rattle.node_desk.proofs.Causes.{err-all, fault-other, late-fault, early, spent-early}
use Rattle.node_desk.proofs.Delivering.{issued-ring, unmade-late, made-for}
use Rattle.node_desk.proofs.Dues.{due-late}
use Rattle.node_desk.proofs.Running.{open-unrefused}
use Rattle.node_desk.specs.Desks.{run_at}
use Rattle.node_desk.proofs.making.make_step.Goals as goal

pub returns-in_err-prepared-clause-refused : goal.returns-in_err-prepared-clause-refused
returns-in_err-prepared-clause-refused g c =
    let p = err_from_is_err_and c.from_residual.result c.from_residual.ensures.1 in
    rw (p.1, p.2) (λ other. inl (c.in_err-prepared.ensures.refused other))

pub returns-in_err-prepared-clause-faulted : goal.returns-in_err-prepared-clause-faulted
returns-in_err-prepared-clause-faulted g c =
    let p = err_from_is_err_and c.from_residual.result c.from_residual.ensures.1 in
    rw (p.1, p.2) (λ is. absurd (late-fault _ (early g.S.Sealer.opens g.S.Sealer.checks (allowed c.args.hook.now.rules.items) c.args.desk.now c.args.run c.args.bytes.now _ (c.in_err-prepared.ensures.refused (fault-other _ is))) is))

pub returns-in-Err-clause-faulted : goal.returns-in-Err-clause-faulted
returns-in-Err-clause-faulted g c is =
    let fault = sym c.given_up.ensures ∙ is in
    absurd (late-fault _ (spent-early c.args.desk.now c.in_ok-prepared.prepared.after _ (c.in-Err.ensures.refused (fault-other _ fault))) fault)

pub compose-requires-clause-fitted : goal.compose-requires-clause-fitted
compose-requires-clause-fitted g c =
    rw (c.ring.ensures.ring, issued-ring _ _ _ _ c.in-Ok.ensures.issued) c.in_ok-prepared.ensures.fitted

pub returns-in_err-step-clause-refused : goal.returns-in_err-step-clause-refused
returns-in_err-step-clause-refused g c =
    let p = err_from_is_err_and c.from_residual-in_err-step.result c.from_residual-in_err-step.ensures.1 in
    let prepared = c.in_ok-prepared.ensures in
    rw (p.1, p.2) (λ other. unmade-late g.S.Sealer.opens g.S.Sealer.checks (allowed c.args.hook.now.rules.items) c.args.desk.now c.args.run c.args.clock c.args.bytes.now c.in_ok-prepared.prepared prepared.read prepared.current prepared.fit prepared.fitted _ _
    (let fault = c.in_err-step.ensures.refused other in inr (c.in-Ok.ensures.fit, fault.0, fault.1)))

pub returns-clause-ok : goal.returns-clause-ok
returns-clause-ok g c =
    let prepared = c.in_ok-prepared.ensures in
    let issued = c.in-Ok.ensures in
    let step = c.in_ok-step.ensures in
    made-for g.S.Sealer.opens g.S.Sealer.checks (allowed c.args.hook.now.rules.items) c.args.desk.now c.args.run c.args.clock c.args.bytes.now c.in_ok-prepared.prepared prepared.read prepared.current prepared.fit prepared.fitted
    _ _ _ _ c.stamp_after.new.desk c.ring.result.now c.in-Ok.stamp c.in_ok-step.step
    c.ring.ensures.ring issued.issued issued.unused issued.given issued.fit step.before step.taken step.opened step.got step.issued step.step step.limits step.drawn step.silent

pub returns-in_err-step-clause-issue_due : goal.returns-in_err-step-clause-issue_due
returns-in_err-step-clause-issue_due g c =
    let p = err_from_is_err_and c.from_residual-in_err-step.result c.from_residual-in_err-step.ensures.1 in
    let prepared = c.in_ok-prepared.ensures in
    let issued = c.in-Ok.ensures in
    rw p.1 (due-late g.S.Sealer.opens g.S.Sealer.checks (allowed c.args.hook.now.rules.items) c.args.desk.now c.stamp_after.new.desk c.args.run c.args.clock c.args.bytes.now c.in_ok-prepared.prepared c.in-Ok.stamp
    prepared.read prepared.current prepared.fit prepared.fitted issued.given issued.issued issued.due)

pub returns-clause-due : goal.returns-clause-due
returns-clause-due g c = subst (IsDue c.args.desk.now c.args.clock) (sym c.in_ok-step.ensures.issued) c.in-Ok.ensures.due

pub returns-in-Err-clause-running : goal.returns-in-Err-clause-running
returns-in-Err-clause-running g c is =
    open-unrefused (run_at c.args.desk.now c.args.run) c.in_ok-prepared.prepared.before c.in_ok-prepared.ensures.current

pub returns-in_err-step-clause-running : goal.returns-in_err-step-clause-running
returns-in_err-step-clause-running g c =
    err-all _ c.from_residual-in_err-step.result (λ e is. open-unrefused (run_at c.args.desk.now c.args.run) c.in_ok-prepared.prepared.before c.in_ok-prepared.ensures.current)
