use Rattle.std.proofs.Common.{◌≡◌}
use Rattle.std.proofs.lemmas.Result.{err_from_is_err_and}
use Rattle.node_desk.proofs.Answered.{answer-is, fit-is, never-memory}
use Rattle.node_desk.proofs.desk.Desk.judge.Goals as goal

pub returns-in_err-check_commit-clause-refused : goal.returns-in_err-check_commit-clause-refused
returns-in_err-check_commit-clause-refused g c =
    let p = err_from_is_err_and c.from_residual.result c.from_residual.ensures.1 in
    let node = c.self.invariant.node in
    let kind : c.kind_of-kind.result ≡ c.self.inside.ring.kind = c.kind_of-kind.ensures in
    let log : c.list-log.result.now ≡ c.self.inside.log.events = c.list-log.ensures.value in
    let run_slots : c.deref.result.now ≡ c.self.inside.run_slots.items = c.deref.ensures.value in
    rw (p.1, p.2, ← c.self.view_is)
    (answer-is _ _ _ _ _ _ _ _ _ _ c.self.invariant c.args.run c.args.clock c.args.step.now _ (rw (log, run_slots, kind) at (c.in_err-check_commit.ensures.refused node.accepted node.stands)))

pub returns-in_err-check_commit-clause-memory : goal.returns-in_err-check_commit-clause-memory
returns-in_err-check_commit-clause-memory g c =
    let p = err_from_is_err_and c.from_residual.result c.from_residual.ensures.1 in
    let node = c.self.invariant.node in
    rw (p.1, p.2) (never-memory _ c.args.step.now _ _ node.accepted _ _ (c.in_err-check_commit.ensures.refused node.accepted node.stands))

pub returns-clause-fit : goal.returns-clause-fit
returns-clause-fit g c =
    let node = c.self.invariant.node in
    let kind : c.kind_of-kind.result ≡ c.self.inside.ring.kind = c.kind_of-kind.ensures in
    let log : c.list-log.result.now ≡ c.self.inside.log.events = c.list-log.ensures.value in
    let run_slots : c.deref.result.now ≡ c.self.inside.run_slots.items = c.deref.ensures.value in
    rw (← c.self.view_is)
    (fit-is _ _ _ _ _ _ _ _ _ _ c.self.invariant c.args.run c.args.clock c.args.step.now (rw (log, run_slots) at c.in_ok-check_commit.ensures.current) (rw kind at (c.in_ok-check_commit.ensures.fit node.accepted node.stands)))
