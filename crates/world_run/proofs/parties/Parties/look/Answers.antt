use Rattle.std.proofs.Common.{◌≡◌, ◌≢◌, IfErr, IfOk, Option, Some, subst, ap, sym, ◌∙◌}
use Rattle.mech_rows.specs.declared.refusal.Refusal.TheVariants.{Memory}
use Rattle.node_desk.specs.Deliveries.{open_in}
use Rattle.node_desk.specs.Desks.{run_at}
use Rattle.node_desk.specs.Helds.{Held}
use Rattle.node_desk.specs.Lives.{live_state}
use Rattle.node_desk.specs.Refusals.{run_refusal}
use Rattle.world_run.specs.Parties.{PartiesView}
use Rattle.world_run.specs.Views.{held_in}
use Rattle.world_run.proofs.Turned.{held_now}
use Rattle.world_run.proofs.parties.Parties.look.Goals as goal

-- the run at the desk is the run among the acts
held_is : (c : goal.After-look) → run_at c.index.result.now.desk c.args.run ≡ held_in c.args.self.now.acts (record { party = c.args.name; number = c.args.run })
held_is c = held_now c.self.inside.config c.self.inside.seats.items c.self.inside.order.items c.self.invariant c.deref.result.now c.deref.ensures.value c.place_of-place.result c.args.name c.index.result.now c.place_of-place.ensures.within c.place_of-place.ensures.named c.index.ensures c.args.run ∙ ap (λ (p : PartiesView). held_in p.acts (record { party = c.args.name; number = c.args.run })) c.self.view_is

pub returns-clause-state : goal.returns-clause-state
returns-clause-state c = subst (λ (h : Option Held). IfOk c.look.result (λ s. h ≡ open_in (live_state s))) (held_is c) c.look.ensures.state

pub returns-clause-refused : goal.returns-clause-refused
returns-clause-refused c = subst (λ (h : Option Held). IfErr c.look.result (λ e. e ≢ Memory → run_refusal h ≡ Some e)) (held_is c) c.look.ensures.refused
