use Rattle.std.proofs.Common.{sym, ◌∙◌, inl}
use Rattle.std.proofs.lemmas.Result.{err_from_is_err_and}
use Rattle.text_hooks.specs.Rules.{allowed}
use Rattle.node_desk.proofs.Causes.{err-all, stamp-other, unmade-stamp}
use Rattle.node_desk.proofs.Delivering.{err-then, errs-then, ok-then, on-err-then, issued-same, made-late, made-refused, made-judged, delivered}
use Rattle.node_desk.proofs.Dues.{due-made}
use Rattle.node_desk.proofs.Running.{open-unrefused}
use Rattle.node_desk.specs.Desks.{run_at}
use Rattle.node_desk.proofs.delivery.deliver.Goals as goal

pub returns-in_err-step-clause-refused : goal.returns-in_err-step-clause-refused
returns-in_err-step-clause-refused g c =
    let p = err_from_is_err_and c.from_residual.result c.from_residual.ensures.1 in
    rw (p.1, p.2) (λ other. inl (c.in_err-step.ensures.refused other))

pub returns-in_err-step-clause-judged : goal.returns-in_err-step-clause-judged
returns-in_err-step-clause-judged g c =
    let p = err_from_is_err_and c.from_residual.result c.from_residual.ensures.1 in
    rw (p.1, p.2) (λ is. absurd (unmade-stamp g.S.Sealer.opens g.S.Sealer.checks (allowed c.args.hook.now.rules.items) c.args.desk.now c.args.run c.args.bytes.now _ _ (c.in_err-step.ensures.refused (stamp-other _ is)) is))

pub returns-in_err-step-clause-unfailed : goal.returns-in_err-step-clause-unfailed
returns-in_err-step-clause-unfailed g c =
    let p = err_from_is_err_and c.from_residual.result c.from_residual.ensures.1 in
    rw (p.1, p.2) (λ is. absurd (unmade-stamp g.S.Sealer.opens g.S.Sealer.checks (allowed c.args.hook.now.rules.items) c.args.desk.now c.args.run c.args.bytes.now _ _ (c.in_err-step.ensures.refused (stamp-other _ is)) is))

pub returns-clause-ok : goal.returns-clause-ok
returns-clause-ok g c =
    ok-then c.enter.result c.enter.ensures.reply c.enter.ensures.ok c.enter.ensures.fit
    (λ reply same entered fit. delivered g.S.Sealer.opens g.S.Sealer.checks (allowed c.args.hook.now.rules.items) _ _ _ _ c.args.desk.now c.make_step.new.desk c.args.run c.args.bytes.now c.args.clock c.in_ok-step.step c.in_ok-step.ensures.ok c.enter.new.desk reply entered fit same)

pub returns-clause-refused : goal.returns-clause-refused
returns-clause-refused g c =
    err-then c.enter.result c.enter.ensures.refused (λ e h other. made-refused g.S.Sealer.opens g.S.Sealer.checks (allowed c.args.hook.now.rules.items) _ _ _ _ c.args.desk.now c.make_step.new.desk c.args.run c.args.bytes.now c.args.clock c.in_ok-step.step c.in_ok-step.ensures.ok _ e (h other))

pub returns-clause-err : goal.returns-clause-err
returns-clause-err g c = on-err-then c.enter.result c.enter.ensures.err (λ same. (c.in_ok-step.step.issued, issued-same _ _ _ _ _ c.in_ok-step.ensures.ok.issued same))

pub returns-clause-stays : goal.returns-clause-stays
returns-clause-stays g c =
    err-then c.enter.result c.enter.ensures.refused (λ e h other draws not. let late = made-late g.S.Sealer.opens g.S.Sealer.checks (allowed c.args.hook.now.rules.items) _ _ _ _ c.args.desk.now c.make_step.new.desk c.args.run c.args.bytes.now c.args.clock c.in_ok-step.step c.in_ok-step.ensures.ok e (h other) in absurd (let bad = sym late ∙ not in cc))

pub returns-clause-undrawn : goal.returns-clause-undrawn
returns-clause-undrawn g c =
    err-then c.enter.result c.enter.ensures.refused (λ e h other draws not. let late = made-late g.S.Sealer.opens g.S.Sealer.checks (allowed c.args.hook.now.rules.items) _ _ _ _ c.args.desk.now c.make_step.new.desk c.args.run c.args.bytes.now c.args.clock c.in_ok-step.step c.in_ok-step.ensures.ok e (h other) in absurd (let bad = sym late ∙ not in cc))

pub returns-clause-judged : goal.returns-clause-judged
returns-clause-judged g c =
    errs-then c.enter.result c.enter.ensures.refused c.enter.ensures.err (λ e h same is. made-judged g.S.Sealer.opens g.S.Sealer.checks (allowed c.args.hook.now.rules.items) _ _ _ _ c.args.desk.now c.make_step.new.desk c.args.run c.args.bytes.now c.args.clock c.in_ok-step.step c.in_ok-step.ensures.ok c.enter.new.desk e same (h (stamp-other e is)))

pub returns-clause-issue_due : goal.returns-clause-issue_due
returns-clause-issue_due g c =
    on-err-then c.enter.result c.enter.ensures.err (λ same. due-made g.S.Sealer.opens g.S.Sealer.checks (allowed c.args.hook.now.rules.items) _ _ _ _ c.args.desk.now c.make_step.new.desk c.enter.new.desk c.args.run c.args.bytes.now c.args.clock c.in_ok-step.step c.in_ok-step.ensures.ok c.in_ok-step.ensures.due same)

pub returns-clause-running : goal.returns-clause-running
returns-clause-running g c =
    err-all _ c.enter.result (λ e is. open-unrefused (run_at c.args.desk.now c.args.run) c.in_ok-step.step.before c.in_ok-step.ensures.ok.current)
