use Rattle.std.proofs.Common.{◌≡◌, ◌<◌, length, refl, sym, ◌∙◌, arith}
use Rattle.node_desk.specs.Helds.{table_at}
use Rattle.node_desk.specs.Refusals.{IsCurrent}
use Rattle.node_desk.proofs.Answered.{answer-is, fit-is, never-memory}
use Rattle.node_desk.proofs.Found.{read-slot, open-current, some-open, counted-commit, no-more}
use Rattle.node_desk.proofs.Needed.{steps-commit, committed-at}
use Rattle.node_desk.proofs.Rooms.{room-commit}
use Rattle.node_desk.proofs.Kept.{kept-commit}
use Rattle.node_desk.proofs.desk.Desk.commit.Goals as goal

pub returns-in-Err-clause-refused : goal.returns-in-Err-clause-refused
returns-in-Err-clause-refused g c =
    let node = c.self.invariant.node in
    let kind : c.kind_of-kind.result ≡ c.self.inside.ring.kind = c.kind_of-kind.ensures in
    let log : c.list-log.result.now ≡ c.self.inside.log.events = c.list-log.ensures.value in
    let run_slots : c.deref.result.now ≡ c.self.inside.run_slots.items = c.deref.ensures.value in
    rw (c.given_up.ensures, ← c.self.view_is)
    (answer-is _ _ _ _ _ _ _ _ _ _ c.self.invariant c.args.run c.args.clock c.args.step _ (rw (log, run_slots, kind) at (c.in-Err.ensures.refused node.accepted node.stands)))

pub returns-in-Err-clause-memory : goal.returns-in-Err-clause-memory
returns-in-Err-clause-memory g c =
    let node = c.self.invariant.node in
    rw c.given_up.ensures (never-memory _ c.args.step _ _ node.accepted _ _ (c.in-Err.ensures.refused node.accepted node.stands))

pub running_after-self-inside-requires : goal.running_after-self-inside-requires
running_after-self-inside-requires g c =
    let log : c.list-log.result.now ≡ c.self.inside.log.events = c.list-log.ensures.value in
    let run_slots : c.deref.result.now ≡ c.self.inside.run_slots.items = c.deref.ensures.value in
    let inside : c.in-Ok.place < length c.self.inside.run_slots.items = rw run_slots at c.in-Ok.ensures.within in
    let current : IsCurrent (table_at c.self.inside.log.events c.self.inside.run_slots.items c.args.run) c.args.step = rw (log, run_slots) at c.in-Ok.ensures.current in
    let there = read-slot c.self.inside.run_slots.items c.in-Ok.place c.index_mut.result.now inside c.index_mut.ensures.value in
    rw c.self.invariant.open_is (some-open c.self.inside.run_slots.items c.in-Ok.place c.index_mut.result.now inside there (open-current c.self.inside.log.events c.self.inside.run_slots.items c.args.run c.in-Ok.place c.index_mut.result.now c.args.step c.in-Ok.ensures.place there current))

pub invariant_of-self : goal.invariant_of-self
invariant_of-self g c =
    let kind : c.kind_of-kind.result ≡ c.self.inside.ring.kind = c.kind_of-kind.ensures in
    let log : c.list-log.result.now ≡ c.self.inside.log.events = c.list-log.ensures.value in
    let run_slots : c.deref.result.now ≡ c.self.inside.run_slots.items = c.deref.ensures.value in
    let inside : c.in-Ok.place < length c.self.inside.run_slots.items = rw run_slots at c.in-Ok.ensures.within in
    let current : IsCurrent (table_at c.self.inside.log.events c.self.inside.run_slots.items c.args.run) c.args.step = rw (log, run_slots) at c.in-Ok.ensures.current in
    let there = read-slot c.self.inside.run_slots.items c.in-Ok.place c.index_mut.result.now inside c.index_mut.ensures.value in
    let running = open-current c.self.inside.log.events c.self.inside.run_slots.items c.args.run c.in-Ok.place c.index_mut.result.now c.args.step c.in-Ok.ensures.place there current in
    kept-commit _ _ _ _ _ _ _ _ _ _ _ c.self.inside.run_slots.items _ _ _ _ _ c.args.run c.args.clock c.tick-now.result c.in-Ok.place c.index_mut.result.now c.args.step c.self.invariant
    c.push.ensures.added
    (rw (← c.self.view_is) at c.requires.made)
    (rw (← c.self.view_is) at c.requires.issued)
    current
    c.in-Ok.ensures.place
    inside
    there
    (λ a h. rw kind at (c.in-Ok.ensures.fit a h))
    c.tick-now.ensures.answer
    (c.record_step.ensures.moment ∙ (c.tick-now.ensures.moved ∙ sym c.tick-now.ensures.answer))
    (c.record_step.ensures.window ∙ c.tick-now.ensures.window)
    (λ a h. c.record_step.ensures.added a (c.tick-now.ensures.stays a h))
    (rw (c.advance.ensures, c.is_going-going.ensures, log) refl)
    (rw c.advance.ensures (counted-commit c.self.inside.run_slots.items c.in-Ok.place c.index_mut.result.now _ _ c.is_going-going.result c.self.inside.running _ inside there running c.self.invariant.open_is c.running_after-self-inside.ensures))
    (let spare = rw (← c.self.view_is) at c.requires.room in
    let fewer = no-more c.is_going-going.result c.self.inside.running c.running_after-self-inside.result c.running_after-self-inside.ensures in
    let room = c.push.ensures.room in
    omega (arith, spare, fewer, room))

pub returns-clause-fit : goal.returns-clause-fit
returns-clause-fit g c =
    let node = c.self.invariant.node in
    let kind : c.kind_of-kind.result ≡ c.self.inside.ring.kind = c.kind_of-kind.ensures in
    let log : c.list-log.result.now ≡ c.self.inside.log.events = c.list-log.ensures.value in
    let run_slots : c.deref.result.now ≡ c.self.inside.run_slots.items = c.deref.ensures.value in
    rw (← c.self.view_is)
    (fit-is _ _ _ _ _ _ _ _ _ _ c.self.invariant c.args.run c.args.clock c.args.step (rw (log, run_slots) at c.in-Ok.ensures.current) (rw kind at (c.in-Ok.ensures.fit node.accepted node.stands)))

pub returns-clause-steps : goal.returns-clause-steps
returns-clause-steps g c =
    let kind : c.kind_of-kind.result ≡ c.self.inside.ring.kind = c.kind_of-kind.ensures in
    let log : c.list-log.result.now ≡ c.self.inside.log.events = c.list-log.ensures.value in
    let run_slots : c.deref.result.now ≡ c.self.inside.run_slots.items = c.deref.ensures.value in
    rw (← c.self.view_is) (steps-commit c.self.inside.ring c.self.inside.first c.self.inside.log.events _ _ _ _ _ c.self.inside.run_slots.items c.args.run c.args.clock _ c.args.step c.self.invariant.node c.self.invariant.held c.push.ensures.added
    (rw (← c.self.view_is) at c.requires.issued)
    (rw (log, run_slots) at c.in-Ok.ensures.current)
    (λ a h. rw kind at (c.in-Ok.ensures.fit a h))
    c.tick-now.ensures.answer)

pub returns-clause-moment : goal.returns-clause-moment
returns-clause-moment g c = rw (← c.self.view_is) (committed-at c.self.inside.ring c.self.inside.first c.self.inside.log.events _ _ _ _ _ c.args.run c.args.clock _ c.args.step c.self.invariant.node c.push.ensures.added c.tick-now.ensures.answer)

pub returns-clause-spare : goal.returns-clause-spare
returns-clause-spare g c =
    let fewer = no-more c.is_going-going.result c.self.inside.running c.running_after-self-inside.result c.running_after-self-inside.ensures in
    rw (← c.self.view_is) (room-commit _ _ _ _ _ c.self.inside.running _ c.tick-now.ensures.room c.record_step.ensures.room c.push.ensures.room fewer)
