use Rattle.std.proofs.Common.{◌≡◌, Option, None, Some, sym, ◌∙◌}
use Rattle.mech_rows.specs.declared.refusal.Refusal.{Refusal}
use Rattle.node_desk.specs.Desks.{run_at}
use Rattle.node_desk.specs.Lives.{live_state}
use Rattle.node_desk.proofs.Causes.{err-all}
use Rattle.node_desk.proofs.Delivering.{err-then}
use Rattle.node_desk.proofs.Running.{first-open, first-sends, ok-all}
use Rattle.node_desk.proofs.making.starting.Goals as goal

pub returns-clause-first : goal.returns-clause-first
returns-clause-first g c =
    ok-all c.look.result c.look.ensures.state (λ state is. first-sends (run_at c.args.desk.now c.args.run) (live_state state) is c.in_ok-check_first.ensures.fit)

pub returns-clause-refused : goal.returns-clause-refused
returns-clause-refused g c =
    err-then c.look.result c.look.ensures.refused (λ e h other. absurd (let bad : ◌≡◌ {A = Option Refusal} None (Some e) = sym (first-open (run_at c.args.desk.now c.args.run) c.in_ok-check_first.ensures.fit) ∙ h other in cc))

pub returns-clause-memory : goal.returns-clause-memory
returns-clause-memory g c = err-all _ c.look.result (λ e is. c.in_ok-check_first.ensures.fit)
