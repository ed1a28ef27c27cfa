use Rattle.std.proofs.Common.{◌≡◌, ◌≢◌, ◌<◌, ◌≤◌, ◌+◌, ◌-◌, ◌++◌, ◌∷◌, [], if◌then◌else◌, nat_lt, length, IfErr, IfOk, subst, ap, sym, ◌∙◌, arith, vec_len, vec_capacity}
use Rattle.outside.specs.Causes.{Rose}
use Rattle.fresh_values.specs.Counts.{Counts, failed_draws}
use Rattle.mech_rows.specs.declared.refusal.Refusal.TheVariants.{Memory}
use Rattle.node_desk.specs.Deliveries.{MayHaveIssued}
use Rattle.node_desk.specs.Desks.{Untouched}
use Rattle.world_run.specs.Makings.{IsFirst, IsNotFirst, SaysFirst}
use Rattle.world_run.specs.Parties.{PartiesView, as_world}
use Rattle.world_run.specs.Views.{WorldView}
use Rattle.world_run.proofs.Made.{any_issued, broken_from, first_broken, first_is, first_made, first_moved, first_refused, first_stays, if_err, if_err_both, if_ok, len_more, len_same, made_from, made_parties, on_err, stays_from}
use Rattle.world_run.proofs.Saying.{unrisen}
use Rattle.world_run.proofs.parties.Parties.make_first.Goals as goal

-- the order after the party's events were noted
noted : (c : goal.After-note) → c.note.new.order.items ≡ (if nat_lt (length c.index_mut-seat.result.now.desk.log) (length c.make_first-step.new.desk.log) then c.self.inside.order.items ++ c.args.name ∷ [] else c.self.inside.order.items)
noted c = c.note.ensures.items ∙ (λ i. if nat_lt (c.events_of-before.ensures i) (c.events_of.ensures i) then c.self.inside.order.items ++ c.args.name ∷ [] else c.self.inside.order.items)

-- what the desk issued
issued : (c : goal.After-note) → MayHaveIssued c.index_mut-seat.result.now.desk c.make_first-step.new.desk c.index_mut-seat.result.now.clock
issued c = any_issued c.index_mut-seat.result.now.desk c.make_first-step.new.desk c.index_mut-seat.result.now.clock c.make_first-step.result c.make_first-step.ensures.ok (λ step f. f.issued) c.make_first-step.ensures.err

-- where the draws are
moved : (c : goal.After-note) → (c.args.draws.now.place ≤ c.make_first-step.new.draws.place) × (c.make_first-step.new.draws.place ≤ c.args.draws.now.place + 15)
moved c = first_moved c.self.inside.config c.self.inside.seats.items c.self.inside.order.items c.self.invariant c.deref.result.now c.deref.ensures.value c.place_of-place.result c.args.name c.index_mut-seat.result.now c.place_of-place.ensures.within c.place_of-place.ensures.named c.index_mut-seat.ensures.value c.make_first-step.new.desk c.see_legal.ensures c.note.new.order.items (noted c) c.args.draws.now.place c.make_first-step.new.draws.place c.args.run c.make_first-step.ensures.moved

-- no draw has failed
unfailed : (c : goal.After-note) → Rose (failed_draws c.args.draws.now) (failed_draws c.make_first-step.new.draws) → ⊥
unfailed c = let m = (moved c).1 in let few = c.requires.few in unrisen c.args.draws.now c.make_first-step.new.draws (omega (arith, m, few))

room_is : (c : goal.After-note) → (vec_capacity c.self.inside.order - vec_len c.self.inside.order) ≤ (vec_capacity c.note.new.order - vec_len c.note.new.order) + 1
room_is c = let cap = c.note.ensures.capacity in let len = len_more _ (vec_len c.self.inside.order) (vec_len c.note.new.order) c.note.ensures.len in omega (arith, cap, len)

room_same : (c : goal.After-note) → Untouched c.index_mut-seat.result.now.desk c.make_first-step.new.desk → (vec_capacity c.self.inside.order - vec_len c.self.inside.order) ≡ (vec_capacity c.note.new.order - vec_len c.note.new.order)
room_same c u =
    let cap = c.note.ensures.capacity in
    let len = len_same c.index_mut-seat.result.now.desk c.make_first-step.new.desk (vec_len c.self.inside.order) (vec_len c.note.new.order) u
    (c.note.ensures.len ∙ (λ i. if nat_lt (c.events_of-before.ensures i) (c.events_of.ensures i) then vec_len c.self.inside.order + 1 else vec_len c.self.inside.order)) in
    omega (arith, cap, len)

pub invariant_of-self : goal.invariant_of-self
invariant_of-self c = made_parties c.self.inside.config c.self.inside.seats.items c.self.inside.order.items c.self.invariant c.deref.result.now c.deref.ensures.value c.place_of-place.result c.args.name c.index_mut-seat.result.now c.place_of-place.ensures.within c.place_of-place.ensures.named c.index_mut-seat.ensures.value c.make_first-step.new.desk c.see_legal.ensures c.note.new.order.items (noted c) (issued c)

pub returns-clause-ok : goal.returns-clause-ok
returns-clause-ok c =
    subst (λ (v : PartiesView). IfOk c.make_first-step.result (λ step. IsFirst (as_world v c.args.draws.now.place) (record { party = c.args.name; number = c.args.run }) step)) c.self.view_is
    (if_ok c.make_first-step.result c.make_first-step.ensures.ok (λ step f. first_is c.self.inside.config c.self.inside.seats.items c.self.inside.order.items c.self.invariant c.deref.result.now c.deref.ensures.value c.place_of-place.result c.args.name c.index_mut-seat.result.now c.place_of-place.ensures.within c.place_of-place.ensures.named c.index_mut-seat.ensures.value c.make_first-step.new.desk c.see_legal.ensures c.note.new.order.items (noted c) c.args.draws.now.place c.make_first-step.new.draws.place c.args.run step f))

pub returns-clause-made : goal.returns-clause-made
returns-clause-made c =
    made_from _ c.args.self.now _ c.args.draws.now.place c.make_first-step.new.draws.place (record { party = c.args.name; number = c.args.run }) c.make_first-step.result c.self.view_is
    (if_ok c.make_first-step.result c.make_first-step.ensures.ok (λ step f. first_made c.self.inside.config c.self.inside.seats.items c.self.inside.order.items c.self.invariant c.deref.result.now c.deref.ensures.value c.place_of-place.result c.args.name c.index_mut-seat.result.now c.place_of-place.ensures.within c.place_of-place.ensures.named c.index_mut-seat.ensures.value c.make_first-step.new.desk c.see_legal.ensures c.note.new.order.items (noted c) c.args.draws.now.place c.make_first-step.new.draws.place (vec_capacity c.self.inside.order - vec_len c.self.inside.order) (vec_capacity c.note.new.order - vec_len c.note.new.order) c.args.run step (room_is c) f))

pub returns-clause-refused : goal.returns-clause-refused
returns-clause-refused c =
    subst (λ (v : PartiesView). IfErr c.make_first-step.result (λ e. e ≢ Memory → IsNotFirst (as_world v c.args.draws.now.place) (record { party = c.args.name; number = c.args.run }) e)) c.self.view_is
    (if_err c.make_first-step.result c.make_first-step.ensures.refused (λ e f other. first_refused c.self.inside.config c.self.inside.seats.items c.self.inside.order.items c.self.invariant c.deref.result.now c.deref.ensures.value c.place_of-place.result c.args.name c.index_mut-seat.result.now c.place_of-place.ensures.within c.place_of-place.ensures.named c.index_mut-seat.ensures.value c.make_first-step.new.desk c.see_legal.ensures c.note.new.order.items (noted c) c.args.draws.now.place c.args.run _ (unfailed c) e (f other)))

pub returns-clause-stays : goal.returns-clause-stays
returns-clause-stays c =
    stays_from _ c.args.self.now _ c.args.draws.now.place c.make_first-step.new.draws.place c.make_first-step.result c.self.view_is
    (if_err_both c.make_first-step.result c.make_first-step.ensures.refused c.make_first-step.ensures.stays c.make_first-step.ensures.undrawn
    (λ e refused stays undrawn. first_stays c.self.inside.config c.self.inside.seats.items c.self.inside.order.items c.self.invariant c.deref.result.now c.deref.ensures.value c.place_of-place.result c.args.name c.index_mut-seat.result.now c.place_of-place.ensures.within c.place_of-place.ensures.named c.index_mut-seat.ensures.value c.make_first-step.new.desk c.see_legal.ensures c.note.new.order.items (noted c) c.args.draws.now.place c.make_first-step.new.draws.place (vec_capacity c.self.inside.order - vec_len c.self.inside.order) (vec_capacity c.note.new.order - vec_len c.note.new.order) c.args.run _ (unfailed c) (room_same c) e refused stays (λ other draws. ap (λ (x : Counts). x.place) (undrawn other draws))))

pub returns-clause-left : goal.returns-clause-left
returns-clause-left c =
    broken_from (λ (v : WorldView). SaysFirst v (record { party = c.args.name; number = c.args.run })) _ c.args.self.now _ c.args.draws.now.place c.make_first-step.new.draws.place c.args.name c.make_first-step.result c.self.view_is
    (on_err c.make_first-step.result c.make_first-step.ensures.issue_due (λ is. first_broken c.self.inside.config c.self.inside.seats.items c.self.inside.order.items c.self.invariant c.deref.result.now c.deref.ensures.value c.place_of-place.result c.args.name c.index_mut-seat.result.now c.place_of-place.ensures.within c.place_of-place.ensures.named c.index_mut-seat.ensures.value c.make_first-step.new.desk c.see_legal.ensures c.note.new.order.items (noted c) c.args.draws.now.place c.make_first-step.new.draws.place (vec_capacity c.self.inside.order - vec_len c.self.inside.order) (vec_capacity c.note.new.order - vec_len c.note.new.order) c.args.run (room_is c) is c.make_first-step.ensures.moved))
