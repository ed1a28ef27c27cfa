use Rattle.std.proofs.Common.{ℕ, sym, subst, ◌∙◌}
use Rattle.std.proofs.lemmas.Result.{err_from_is_err_and}
use Rattle.node_desk.specs.declared.event.Event.TheVariants.{Commit}
use Rattle.node_desk.specs.Desks.{run_at, Entered}
use Rattle.node_desk.proofs.Delivering.{issued-same, issued-node}
use Rattle.node_desk.proofs.Dues.{due-first-made}
use Rattle.node_desk.proofs.Running.{first-unrefused, open-unrefused}
use Rattle.node_desk.proofs.Causes.{err-all}
use Rattle.node_desk.proofs.delivery.start.Goals as goal

pub returns-in_err-message-clause-err : goal.returns-in_err-message-clause-err
returns-in_err-message-clause-err g c =
    let p = err_from_is_err_and c.from_residual-in_err-message.result c.from_residual-in_err-message.ensures.1 in
    rw p.1 (c.in_ok-step.step.issued, issued-same _ _ _ _ _ c.in_ok-step.ensures.ok.issued c.in_err-message.ensures.err)

pub returns-in_err-message-clause-issue_due : goal.returns-in_err-message-clause-issue_due
returns-in_err-message-clause-issue_due g c =
    let p = err_from_is_err_and c.from_residual-in_err-message.result c.from_residual-in_err-message.ensures.1 in
    rw p.1 (due-first-made g.S.Sealer.opens g.S.Sealer.checks _ _ _ _ c.args.desk.now c.make_first.new.desk c.enter.new.desk c.args.run c.args.clock c.in_ok-step.step c.in_ok-step.ensures.ok c.in_ok-step.ensures.due c.in_err-message.ensures.err)

pub returns-clause-ok : goal.returns-clause-ok
returns-clause-ok g c =
    let made = c.in_ok-step.ensures.ok in
    let entered = c.in_ok-message.ensures in
    record {
      step = c.in_ok-step.step;
      mid = c.make_first.new.desk;
      made = made;
      entered = subst (λ (n : ℕ). Entered c.make_first.new.desk c.enter.new.desk (Commit c.args.run n c.in_ok-step.step)) (issued-node _ _ _ _ made.issued).1 entered.ok;
      said = sym entered.reply ∙ c.in-Some.is;
    }

pub returns-in_err-message-clause-running : goal.returns-in_err-message-clause-running
returns-in_err-message-clause-running g c =
    err-all _ c.from_residual-in_err-message.result (λ e is. open-unrefused (run_at c.args.desk.now c.args.run) c.in_ok-step.step.before c.in_ok-step.ensures.ok.current)

pub returns-in_err-message-clause-first : goal.returns-in_err-message-clause-first
returns-in_err-message-clause-first g c =
    err-all _ c.from_residual-in_err-message.result (λ e is. first-unrefused (run_at c.args.desk.now c.args.run) c.in_ok-step.step.before c.in_ok-step.ensures.ok.current c.in_ok-step.ensures.ok.first)
