use Rattle.std.proofs.Common.{List, [], ◌∷◌, ◌++◌, sym, ap, subst, ◌∙◌, Some, arith}
use Rattle.agreement_laws.specs.Nodes.{Log}
use Rattle.node_desk.specs.declared.event.Event.{Event}
use Rattle.node_desk.specs.declared.event.Event.TheVariants.{Issue}
use Rattle.node_desk.specs.Events.{log_of}
use Rattle.node_desk.specs.Desks.{IsUnused}
use Rattle.node_desk.proofs.Logs.{log_of-snoc}
use Rattle.node_desk.proofs.Used.{fresh-unused}
use Rattle.node_desk.proofs.Needed.{steps-issue, issued-at}
use Rattle.node_desk.proofs.Rooms.{room-more, room-issue}
use Rattle.node_desk.proofs.Kept.{kept-issue}
use Rattle.node_desk.proofs.Dues.{due-is}
use Rattle.node_desk.proofs.desk.Desk.issue.Goals as goal

pub invariant_of-self-2 : goal.invariant_of-self-2
invariant_of-self-2 g c =
    let issued = c.in-Ok.ensures in
    let log = c.push.ensures.added ∙ ap (λ (l : List Event). l ++ Issue c.tick-now.result c.in-Ok.stamp ∷ []) c.reserve.ensures.kept in
    kept-issue _ _ _ _ _ _ _ _ _ _ _ _ _ _ _ _ c.args.clock _ _ c.self.invariant log
    c.tick-now.ensures.answer issued.stamp issued.rises issued.last (c.tick-now.ensures.moved ∙ sym c.tick-now.ensures.answer) c.tick-now.ensures.window c.tick-now.ensures.stays
    (let room = c.in_ok-reserve.ensures.room in let after = c.push.ensures.room in omega (arith, room, after))

pub returns-clause-unused : goal.returns-clause-unused
returns-clause-unused g c =
    let issued = c.in-Ok.ensures in
    let log = c.push.ensures.added ∙ ap (λ (l : List Event). l ++ Issue c.tick-now.result c.in-Ok.stamp ∷ []) c.reserve.ensures.kept in
    subst (λ (l : Log). IsUnused (Some c.in-Ok.stamp) l) (sym (ap log_of log ∙ log_of-snoc c.self.inside.log.events (Issue c.tick-now.result c.in-Ok.stamp)))
    (fresh-unused (log_of c.self.inside.log.events) c.self.inside.issuer.last c.tick-now.result c.in-Ok.stamp issued.rises c.self.invariant.stamps)

pub returns-clause-stamp : goal.returns-clause-stamp
returns-clause-stamp g c =
    rw (← c.self.view_is) (due-is c.self.inside.ring c.self.inside.first c.self.inside.log.events _ _ _ c.args.clock _ _ _ c.self.invariant.node c.tick-now.ensures.answer c.in-Ok.ensures.stamp)

pub returns-clause-steps : goal.returns-clause-steps
returns-clause-steps g c =
    let log = c.push.ensures.added ∙ ap (λ (l : List Event). l ++ Issue c.tick-now.result c.in-Ok.stamp ∷ []) c.reserve.ensures.kept in
    rw (← c.self.view_is) (steps-issue c.self.inside.ring c.self.inside.first c.self.inside.log.events _ _ _ _ c.args.clock _ _ _ c.self.invariant.node log c.tick-now.ensures.answer c.in-Ok.ensures.stamp)

pub returns-clause-moment : goal.returns-clause-moment
returns-clause-moment g c =
    let log = c.push.ensures.added ∙ ap (λ (l : List Event). l ++ Issue c.tick-now.result c.in-Ok.stamp ∷ []) c.reserve.ensures.kept in
    rw (← c.self.view_is) (issued-at c.self.inside.ring c.self.inside.first c.self.inside.log.events _ _ _ _ c.args.clock _ _ _ c.self.invariant.node log c.tick-now.ensures.answer)

pub returns-in_err-reserve-clause-spare : goal.returns-in_err-reserve-clause-spare
returns-in_err-reserve-clause-spare g c = rw (← c.self.view_is) (room-more _ _ _ c.self.inside.running c.reserve.ensures.grows)

pub returns-clause-spare : goal.returns-clause-spare
returns-clause-spare g c = rw (← c.self.view_is) (room-issue _ _ _ _ _ c.self.inside.running c.tick-now.ensures.room c.reserve.ensures.grows c.push.ensures.room)
