use Rattle.std.proofs.Common.{◌≡◌, ◌≢◌, ◌<◌, Option, None, subst, ap, sym, ◌∙◌, arith, ◌+◌, ◌-◌, vec_len, vec_capacity}
use Rattle.node_desk.specs.declared.event.Event.TheVariants.{Drop}
use Rattle.node_desk.specs.Desks.{run_at}
use Rattle.node_desk.specs.Helds.{Held}
use Rattle.node_desk.specs.Refusals.{run_refusal}
use Rattle.world_run.specs.Parties.{HasActed, PartiesView}
use Rattle.world_run.specs.Views.{held_in}
use Rattle.world_run.proofs.Turned.{held_now, more_acted, more_parties}
use Rattle.world_run.proofs.parties.Parties.drop_run.Goals as goal

pub returns-then-not-drop_run-clause-over : goal.returns-then-not-drop_run-clause-over
returns-then-not-drop_run-clause-over c =
    rw (← c.self.view_is) (subst (λ (h : Option Held). run_refusal h ≢ None) (held_now c.self.inside.config c.self.inside.seats.items c.self.inside.order.items c.self.invariant c.deref.result.now c.deref.ensures.value c.place_of-place.result c.args.name c.index_mut-seat.result.now c.place_of-place.ensures.within c.place_of-place.ensures.named c.index_mut-seat.ensures.value c.args.run) (c.if-not-drop_run.ensures.over))

-- the run is open
running : (c : goal.After-push_reserved-arg-1) → run_refusal (held_in c.args.self.now.acts (record { party = c.args.name; number = c.args.run })) ≡ None
running c =
    subst (λ (p : PartiesView). run_refusal (held_in p.acts (record { party = c.args.name; number = c.args.run })) ≡ None) c.self.view_is
    (subst (λ (h : Option Held). run_refusal h ≡ None) (held_now c.self.inside.config c.self.inside.seats.items c.self.inside.order.items c.self.invariant c.deref.result.now c.deref.ensures.value c.place_of-place.result c.args.name c.index_mut-seat.result.now c.place_of-place.ensures.within c.place_of-place.ensures.named c.index_mut-seat.ensures.value c.args.run) (c.if-not-drop_run.ensures.running))

pub push_reserved-requires : goal.push_reserved-requires
push_reserved-requires c = let room = c.requires.room (running c) in let view = ap (λ (p : PartiesView). p.room) c.self.view_is in omega (arith, room, view)

room_is : (c : goal.After-push_reserved) → vec_capacity c.self.inside.order - vec_len c.self.inside.order ≡ (vec_capacity c.push_reserved.new.self - vec_len c.push_reserved.new.self) + 1
room_is c = let len = c.push_reserved.ensures.len in let cap = c.push_reserved.ensures.capacity in let room = push_reserved-requires c.before in omega (arith, len, cap, room)

pub invariant_of-self-2 : goal.invariant_of-self-2
invariant_of-self-2 c =
    more_parties c.self.inside.config c.self.inside.seats.items c.self.inside.order.items c.self.invariant c.deref.result.now c.deref.ensures.value c.place_of-place.result c.args.name c.index_mut-seat.result.now c.place_of-place.ensures.within c.place_of-place.ensures.named c.index_mut-seat.ensures.value c.drop_run.new.self (Drop c.args.run) c.if-not-drop_run.ensures.dropped c.push_reserved.new.self.items c.push_reserved.ensures.items tt

pub returns-clause-dropped : goal.returns-clause-dropped
returns-clause-dropped c =
    rw (← c.self.view_is) (more_acted c.self.inside.config c.self.inside.seats.items c.self.inside.order.items c.self.invariant c.deref.result.now c.deref.ensures.value c.place_of-place.result c.args.name c.index_mut-seat.result.now c.place_of-place.ensures.within c.place_of-place.ensures.named c.index_mut-seat.ensures.value c.drop_run.new.self (Drop c.args.run) c.if-not-drop_run.ensures.dropped c.push_reserved.new.self.items c.push_reserved.ensures.items _ _ (room_is c))

pub returns-clause-running : goal.returns-clause-running
returns-clause-running c =
    rw (← c.self.view_is) (subst (λ (h : Option Held). run_refusal h ≡ None) (held_now c.self.inside.config c.self.inside.seats.items c.self.inside.order.items c.self.invariant c.deref.result.now c.deref.ensures.value c.place_of-place.result c.args.name c.index_mut-seat.result.now c.place_of-place.ensures.within c.place_of-place.ensures.named c.index_mut-seat.ensures.value c.args.run) (c.if-not-drop_run.ensures.running))
