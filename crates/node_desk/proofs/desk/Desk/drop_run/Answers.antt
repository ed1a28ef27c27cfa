use Rattle.std.proofs.Common.{◌≡◌, ◌<◌, length, refl, None, arith}
use Rattle.std.specs.Prelude.{count_by}
use Rattle.node_desk.specs.Helds.{is_open_slot, table_at}
use Rattle.node_desk.specs.Refusals.{run_refusal}
use Rattle.node_desk.proofs.Found.{read-slot, open-found, some-open}
use Rattle.node_desk.proofs.Needed.{steps-drop}
use Rattle.node_desk.proofs.Rooms.{room-drop}
use Rattle.node_desk.proofs.Kept.{kept-drop}
use Rattle.node_desk.proofs.desk.Desk.drop_run.Goals as goal

pub running_after-self-inside-requires : goal.running_after-self-inside-requires
running_after-self-inside-requires g c =
    let log : c.list.result.now ≡ c.self.inside.log.events = c.list.ensures.value in
    let run_slots : c.deref.result.now ≡ c.self.inside.run_slots.items = c.deref.ensures.value in
    let inside : c.in-Ok.place < length c.self.inside.run_slots.items = rw run_slots at c.in-Ok.ensures.within in
    let none : run_refusal (table_at c.self.inside.log.events c.self.inside.run_slots.items c.args.run) ≡ None = rw (log, run_slots) at c.in-Ok.ensures.running in
    let there = read-slot c.self.inside.run_slots.items c.in-Ok.place c.index_mut.result.now inside c.index_mut.ensures.value in
    rw c.self.invariant.open_is (some-open c.self.inside.run_slots.items c.in-Ok.place c.index_mut.result.now inside there (open-found c.self.inside.log.events c.self.inside.run_slots.items c.args.run c.in-Ok.place c.index_mut.result.now c.in-Ok.ensures.place there none))

pub push-requires : goal.push-requires
push-requires g c =
    let log : c.list.result.now ≡ c.self.inside.log.events = c.list.ensures.value in
    let run_slots : c.deref.result.now ≡ c.self.inside.run_slots.items = c.deref.ensures.value in
    let inside : c.in-Ok.place < length c.self.inside.run_slots.items = rw run_slots at c.in-Ok.ensures.within in
    let none : run_refusal (table_at c.self.inside.log.events c.self.inside.run_slots.items c.args.run) ≡ None = rw (log, run_slots) at c.in-Ok.ensures.running in
    let there = read-slot c.self.inside.run_slots.items c.in-Ok.place c.index_mut.result.now inside c.index_mut.ensures.value in
    let some : 0 < count_by is_open_slot c.self.inside.run_slots.items = some-open c.self.inside.run_slots.items c.in-Ok.place c.index_mut.result.now inside there (open-found c.self.inside.log.events c.self.inside.run_slots.items c.args.run c.in-Ok.place c.index_mut.result.now c.in-Ok.ensures.place there none) in
    let is = c.self.invariant.open_is in
    let room = c.self.invariant.room_is in
    omega (arith, some, is, room)

pub invariant_of-self : goal.invariant_of-self
invariant_of-self g c =
    let log : c.list.result.now ≡ c.self.inside.log.events = c.list.ensures.value in
    let run_slots : c.deref.result.now ≡ c.self.inside.run_slots.items = c.deref.ensures.value in
    let inside : c.in-Ok.place < length c.self.inside.run_slots.items = rw run_slots at c.in-Ok.ensures.within in
    let none : run_refusal (table_at c.self.inside.log.events c.self.inside.run_slots.items c.args.run) ≡ None = rw (log, run_slots) at c.in-Ok.ensures.running in
    let there = read-slot c.self.inside.run_slots.items c.in-Ok.place c.index_mut.result.now inside c.index_mut.ensures.value in
    let running = open-found c.self.inside.log.events c.self.inside.run_slots.items c.args.run c.in-Ok.place c.index_mut.result.now c.in-Ok.ensures.place there none in
    let some : 0 < count_by is_open_slot c.self.inside.run_slots.items = some-open c.self.inside.run_slots.items c.in-Ok.place c.index_mut.result.now inside there running in
    let is = c.self.invariant.open_is in
    let after = c.running_after-self-inside.ensures in
    kept-drop _ _ _ _ _ _ _ _ c.self.inside.run_slots.items _ _ _ _ _ c.args.run c.in-Ok.place c.index_mut.result.now c.self.invariant c.push.ensures.added c.in-Ok.ensures.place inside there running refl
    (omega (arith, some, is, after))
    c.push.ensures.room

pub returns-clause-steps : goal.returns-clause-steps
returns-clause-steps g c =
    let log : c.list.result.now ≡ c.self.inside.log.events = c.list.ensures.value in
    let run_slots : c.deref.result.now ≡ c.self.inside.run_slots.items = c.deref.ensures.value in
    let inside : c.in-Ok.place < length c.self.inside.run_slots.items = rw run_slots at c.in-Ok.ensures.within in
    let none : run_refusal (table_at c.self.inside.log.events c.self.inside.run_slots.items c.args.run) ≡ None = rw (log, run_slots) at c.in-Ok.ensures.running in
    let there = read-slot c.self.inside.run_slots.items c.in-Ok.place c.index_mut.result.now inside c.index_mut.ensures.value in
    let running = open-found c.self.inside.log.events c.self.inside.run_slots.items c.args.run c.in-Ok.place c.index_mut.result.now c.in-Ok.ensures.place there none in
    rw (← c.self.view_is) (steps-drop c.self.inside.ring c.self.inside.first c.self.inside.log.events _ c.self.inside.run_slots.items c.args.run c.in-Ok.place c.index_mut.result.now c.self.invariant.held c.push.ensures.added c.in-Ok.ensures.place there running)

pub returns-clause-spare : goal.returns-clause-spare
returns-clause-spare g c =
    let log : c.list.result.now ≡ c.self.inside.log.events = c.list.ensures.value in
    let run_slots : c.deref.result.now ≡ c.self.inside.run_slots.items = c.deref.ensures.value in
    let inside : c.in-Ok.place < length c.self.inside.run_slots.items = rw run_slots at c.in-Ok.ensures.within in
    let none : run_refusal (table_at c.self.inside.log.events c.self.inside.run_slots.items c.args.run) ≡ None = rw (log, run_slots) at c.in-Ok.ensures.running in
    let there = read-slot c.self.inside.run_slots.items c.in-Ok.place c.index_mut.result.now inside c.index_mut.ensures.value in
    let some : 0 < count_by is_open_slot c.self.inside.run_slots.items = some-open c.self.inside.run_slots.items c.in-Ok.place c.index_mut.result.now inside there (open-found c.self.inside.log.events c.self.inside.run_slots.items c.args.run c.in-Ok.place c.index_mut.result.now c.in-Ok.ensures.place there none) in
    let is = c.self.invariant.open_is in
    rw (← c.self.view_is) (room-drop _ _ _ c.self.inside.running _ (omega (arith, some, is)) c.push.ensures.room c.running_after-self-inside.ensures)
