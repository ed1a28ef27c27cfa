use Rattle.std.proofs.Common.{refl, sym, ◌-◌, vec_len, vec_capacity}
use Rattle.world_run.proofs.Seats.{wrote_same, acts_stay, clocks_raised, clock_now}
use Rattle.world_run.proofs.parties.Parties.raise.Goals as goal

pub invariant_of-self : goal.invariant_of-self
invariant_of-self c =
    wrote_same c.self.inside.config c.self.inside.seats.items c.self.inside.order.items c.self.invariant c.deref.result.now c.deref.ensures.value c.place_of-place.result c.args.name c.index_mut-seat.result.now c.place_of-place.ensures.within c.place_of-place.ensures.named c.index_mut-seat.ensures.value
    (record { desk = c.index_mut-seat.result.now.desk; clock = c.max-seat.result }) refl refl c.self.inside.order.items refl refl

pub returns-clause-raised : goal.returns-clause-raised
returns-clause-raised c =
    rw (← c.self.view_is) (λ i. record {
      config = c.self.inside.config;
      acts = acts_stay c.self.inside.config c.self.inside.seats.items c.self.inside.order.items c.self.invariant c.deref.result.now c.deref.ensures.value c.place_of-place.result c.args.name c.index_mut-seat.result.now c.place_of-place.ensures.within c.place_of-place.ensures.named c.index_mut-seat.ensures.value
          (record { desk = c.index_mut-seat.result.now.desk; clock = c.max-seat.result }) refl refl c.self.inside.order.items refl refl i;
      clocks = clocks_raised c.self.inside.config c.self.inside.seats.items c.self.inside.order.items c.self.invariant c.deref.result.now c.deref.ensures.value c.place_of-place.result c.args.name c.index_mut-seat.result.now c.place_of-place.ensures.within c.place_of-place.ensures.named c.index_mut-seat.ensures.value
          (record { desk = c.index_mut-seat.result.now.desk; clock = c.max-seat.result }) refl refl c.args.ms c.max-seat.ensures i;
      room = vec_capacity c.self.inside.order - vec_len c.self.inside.order;
    })

pub returns-clause-clock : goal.returns-clause-clock
returns-clause-clock c =
    rw (← c.self.view_is) (sym (clock_now c.self.inside.config c.self.inside.seats.items c.self.inside.order.items c.self.invariant c.deref.result.now c.deref.ensures.value c.place_of-place.result c.args.name c.index_mut-seat.result.now c.place_of-place.ensures.within c.place_of-place.ensures.named c.index_mut-seat.ensures.value
    (record { desk = c.index_mut-seat.result.now.desk; clock = c.max-seat.result }) refl refl))
