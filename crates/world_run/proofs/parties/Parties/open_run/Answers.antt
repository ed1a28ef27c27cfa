use Rattle.std.proofs.Common.{◌≡◌, ◌<◌, ℕ, [], ◌∷◌, ◌++◌, None, Some, subst, ap, sym, ◌∙◌, arith, ◌-◌, ◌+◌, vec_len, vec_capacity}
use Rattle.std.proofs.lemmas.Result.{err_from_is_err_and}
use Rattle.mech_rows.specs.Heads.{me}
use Rattle.agreement_laws.specs.Nodes.{Node}
use Rattle.node_desk.specs.declared.event.Event.TheVariants.{Open}
use Rattle.node_desk.specs.Openings.{opening_refusal}
use Rattle.node_desk.specs.Desks.{node_at}
use Rattle.world_run.specs.Parties.{PartiesView, as_world}
use Rattle.world_run.specs.Turns.{desk_in}
use Rattle.world_run.proofs.Turned.{more_acted, more_parties, node_now, run_opened, stay_parties, stay_view}
use Rattle.world_run.proofs.parties.Parties.open_run.Goals as goal

pub invariant_of-self : goal.invariant_of-self
invariant_of-self c = stay_parties c.self.inside.config c.self.inside.seats.items c.self.inside.order.items c.self.invariant c.deref.result.now c.deref.ensures.value c.place_of-place.result (me c.args.head.now) c.index_mut-seat.result.now c.place_of-place.ensures.within (λ d. c.place_of-place.ensures.named d ∙ c.me-name.ensures.name) c.index_mut-seat.ensures.value c.open_run.new.self c.in_err-run.ensures.err

pub returns-in_err-run-clause-refused : goal.returns-in_err-run-clause-refused
returns-in_err-run-clause-refused c =
    let p = err_from_is_err_and c.from_residual.result c.from_residual.ensures.1 in
    rw (p.1, p.2) (λ other. subst (λ (v : PartiesView). opening_refusal (node_at (desk_in (as_world v 0) (me c.args.head.now))) c.args.head.now ≡ Some c.in_err-run.field-0.0) c.self.view_is (subst (λ (x : Node). opening_refusal x c.args.head.now ≡ Some c.in_err-run.field-0.0) (node_now c.self.inside.config c.self.inside.seats.items c.self.inside.order.items c.self.invariant c.deref.result.now c.deref.ensures.value c.place_of-place.result (me c.args.head.now) c.index_mut-seat.result.now c.place_of-place.ensures.within (λ d. c.place_of-place.ensures.named d ∙ c.me-name.ensures.name) c.index_mut-seat.ensures.value 0) (c.in_err-run.ensures.refused other)))

pub returns-in_err-run-clause-err : goal.returns-in_err-run-clause-err
returns-in_err-run-clause-err c =
    let p = err_from_is_err_and c.from_residual.result c.from_residual.ensures.1 in
    rw p.1 (stay_view c.self.inside.config c.self.inside.seats.items c.self.inside.order.items c.self.invariant c.deref.result.now c.deref.ensures.value c.place_of-place.result (me c.args.head.now) c.index_mut-seat.result.now c.place_of-place.ensures.within (λ d. c.place_of-place.ensures.named d ∙ c.me-name.ensures.name) c.index_mut-seat.ensures.value c.open_run.new.self c.in_err-run.ensures.err (vec_capacity c.self.inside.order - vec_len c.self.inside.order) ∙ c.self.view_is)

pub invariant_of-self-2 : goal.invariant_of-self-2
invariant_of-self-2 c =
    more_parties c.self.inside.config c.self.inside.seats.items c.self.inside.order.items c.self.invariant c.deref.result.now c.deref.ensures.value c.place_of-place.result (me c.args.head.now) c.index_mut-seat.result.now c.place_of-place.ensures.within (λ d. c.place_of-place.ensures.named d ∙ c.me-name.ensures.name) c.index_mut-seat.ensures.value c.open_run.new.self (Open c.in_ok-run.run' c.args.head.now c.args.texts.now) c.in_ok-run.ensures.ok c.push_reserved.new.self.items (c.push_reserved.ensures.items ∙ ap (λ (m : ℕ). c.self.inside.order.items ++ m ∷ []) c.me-name.ensures.name) tt

room_is : (c : goal.After-push_reserved) → vec_capacity c.self.inside.order - vec_len c.self.inside.order ≡ (vec_capacity c.push_reserved.new.self - vec_len c.push_reserved.new.self) + 1
room_is c =
    let len = c.push_reserved.ensures.len in
    let cap = c.push_reserved.ensures.capacity in
    let room = c.requires.room in
    let view = ap (λ (v : PartiesView). v.room) c.self.view_is in
    omega (arith, len, cap, room, view)

pub returns-clause-ok : goal.returns-clause-ok
returns-clause-ok c =
    rw (← c.self.view_is) (more_acted c.self.inside.config c.self.inside.seats.items c.self.inside.order.items c.self.invariant c.deref.result.now c.deref.ensures.value c.place_of-place.result (me c.args.head.now) c.index_mut-seat.result.now c.place_of-place.ensures.within (λ d. c.place_of-place.ensures.named d ∙ c.me-name.ensures.name) c.index_mut-seat.ensures.value c.open_run.new.self (Open c.in_ok-run.run' c.args.head.now c.args.texts.now) c.in_ok-run.ensures.ok c.push_reserved.new.self.items (c.push_reserved.ensures.items ∙ ap (λ (m : ℕ). c.self.inside.order.items ++ m ∷ []) c.me-name.ensures.name) _ _ (room_is c))

pub returns-clause-number : goal.returns-clause-number
returns-clause-number c =
    rw (← c.self.view_is) (run_opened c.self.inside.config c.self.inside.seats.items c.self.inside.order.items c.self.invariant c.deref.result.now c.deref.ensures.value c.place_of-place.result (me c.args.head.now) c.index_mut-seat.result.now c.place_of-place.ensures.within (λ d. c.place_of-place.ensures.named d ∙ c.me-name.ensures.name) c.index_mut-seat.ensures.value c.open_run.new.self 0 c.in_ok-run.run' c.args.head.now c.args.texts.now c.in_ok-run.ensures.ok c.see_legal.ensures)

pub returns-clause-fit : goal.returns-clause-fit
returns-clause-fit c =
    subst (λ (v : PartiesView). opening_refusal (node_at (desk_in (as_world v 0) (me c.args.head.now))) c.args.head.now ≡ None) c.self.view_is (subst (λ (x : Node). opening_refusal x c.args.head.now ≡ None) (node_now c.self.inside.config c.self.inside.seats.items c.self.inside.order.items c.self.invariant c.deref.result.now c.deref.ensures.value c.place_of-place.result (me c.args.head.now) c.index_mut-seat.result.now c.place_of-place.ensures.within (λ d. c.place_of-place.ensures.named d ∙ c.me-name.ensures.name) c.index_mut-seat.ensures.value 0) c.in_ok-run.ensures.fit)
