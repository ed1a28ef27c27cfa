use Rattle.std.proofs.Common.{◌≡◌, Option, ap, subst, ◌∙◌}
use Rattle.mech_rows.specs.Heads.{me}
use Rattle.agreement_laws.specs.Nodes.{Node}
use Rattle.node_desk.specs.Openings.{opening_refusal}
use Rattle.node_desk.specs.Desks.{node_at}
use Rattle.world_run.specs.Parties.{PartiesView, as_world}
use Rattle.world_run.specs.Turns.{desk_in}
use Rattle.world_run.proofs.Turned.{node_now}
use Rattle.world_run.proofs.parties.Parties.opening_refusal.Goals as goal

pub returns-clause-refusal : goal.returns-clause-refusal
returns-clause-refusal c =
    subst (λ (v : PartiesView). c.opening_refusal.result ≡ opening_refusal (node_at (desk_in (as_world v 0) (me c.args.head.now))) c.args.head.now) c.self.view_is
    (c.opening_refusal.ensures.refusal ∙ ap (λ (x : Node). opening_refusal x c.args.head.now) (node_now c.self.inside.config c.self.inside.seats.items c.self.inside.order.items c.self.invariant c.deref.result.now c.deref.ensures.value c.place_of-place.result (me c.args.head.now) c.index.result.now c.place_of-place.ensures.within (λ d. c.place_of-place.ensures.named d ∙ c.me-name.ensures.name) c.index.ensures 0))
