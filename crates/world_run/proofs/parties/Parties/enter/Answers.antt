use Rattle.std.proofs.Common.{◌≡◌, ◌<◌, ℕ, Option, None, Some, subst, ap, sym, ◌∙◌, arith, ◌-◌, ◌+◌, vec_len, vec_capacity}
use Rattle.std.proofs.lemmas.Result.{err_from_is_err_and}
use Rattle.mech_rows.specs.Rings.{keys_in}
use Rattle.mech_rows.specs.Verdict.{State}
use Rattle.agreement_laws.specs.Worlds.{ring_of}
use Rattle.node_desk.specs.Deliveries.{open_in}
use Rattle.node_desk.specs.Desks.{Entered, IsMadeWith, IsUnused, Untouched}
use Rattle.node_desk.specs.Events.{log_of}
use Rattle.node_desk.specs.declared.event.Event.{Event}
use Rattle.node_desk.specs.declared.event.Event.TheVariants.{Commit}
use Rattle.mech_rows.specs.Lawful.{tested_by}
use Rattle.mech_rows.specs.Moves.{step_of}
use Rattle.mech_rows.specs.Steps.{IsStep}
use Rattle.seal_symbolic.specs.Symbolic.{body_of, is_check}
use Rattle.node_desk.specs.Desks.{node_at}
use Rattle.node_desk.specs.Refusals.{got_refusal}
use Rattle.world_run.specs.Clocks.{clock_in}
use Rattle.world_run.specs.Parties.{PartiesView, as_world}
use Rattle.world_run.specs.Turns.{desk_in, moment}
use Rattle.world_run.specs.Views.{acts_of, held_in}
use Rattle.world_run.proofs.Turned.{acted_from, may_answers, may_made, may_unused, moment_stays, more_acted, more_parties, stay_parties, stay_view, then_entered, then_same}
use Rattle.world_run.proofs.parties.Parties.enter.Goals as goal

pub invariant_of-self : goal.invariant_of-self
invariant_of-self c = stay_parties c.self.inside.config c.self.inside.seats.items c.self.inside.order.items c.self.invariant c.deref.result.now c.deref.ensures.value c.place_of-place.result c.args.name c.index_mut-seat.result.now c.place_of-place.ensures.within c.place_of-place.ensures.named c.index_mut-seat.ensures.value c.ready.new.self c.ready.ensures.kept

pub returns-in_default-clause-err : goal.returns-in_default-clause-err
returns-in_default-clause-err c =
    stay_view c.self.inside.config c.self.inside.seats.items c.self.inside.order.items c.self.invariant c.deref.result.now c.deref.ensures.value c.place_of-place.result c.args.name c.index_mut-seat.result.now c.place_of-place.ensures.within c.place_of-place.ensures.named c.index_mut-seat.ensures.value c.ready.new.self c.ready.ensures.kept (vec_capacity c.self.inside.order - vec_len c.self.inside.order) ∙ c.self.view_is

pub commit-requires-clause-made : goal.commit-requires-clause-made
commit-requires-clause-made c =
    may_made c.self.inside.config c.self.inside.seats.items c.self.inside.order.items c.self.invariant c.deref.result.now c.deref.ensures.value c.place_of-place.result c.args.name c.index_mut-seat.result.now c.place_of-place.ensures.within c.place_of-place.ensures.named c.index_mut-seat.ensures.value c.ready.new.self c.ready.ensures.kept c.args.step (subst (λ (p : PartiesView). IsMadeWith (keys_in (ring_of p.config c.args.name)) c.args.step) (sym c.self.view_is) c.requires.may.made)

pub commit-requires-clause-issued : goal.commit-requires-clause-issued
commit-requires-clause-issued c =
    may_unused c.self.inside.config c.self.inside.seats.items c.self.inside.order.items c.self.invariant c.deref.result.now c.deref.ensures.value c.place_of-place.result c.args.name c.index_mut-seat.result.now c.place_of-place.ensures.within c.place_of-place.ensures.named c.index_mut-seat.ensures.value c.ready.new.self c.ready.ensures.kept c.args.step (subst (λ (p : PartiesView). IsUnused c.args.step.issued (log_of (acts_of c.args.name p.acts))) (sym c.self.view_is) c.requires.may.unused)

-- a commit that was refused has left the desk as it was
untouched : (c : goal.After-from_residual) → Untouched c.index_mut-seat.result.now.desk c.commit.new.self
untouched c = then_same c.index_mut-seat.result.now.desk c.ready.new.self c.commit.new.self c.ready.ensures.kept c.in_err-commit.ensures.err

pub invariant_of-self-in_err-commit : goal.invariant_of-self-in_err-commit
invariant_of-self-in_err-commit c = stay_parties c.self.inside.config c.self.inside.seats.items c.self.inside.order.items c.self.invariant c.deref.result.now c.deref.ensures.value c.place_of-place.result c.args.name c.index_mut-seat.result.now c.place_of-place.ensures.within c.place_of-place.ensures.named c.index_mut-seat.ensures.value c.commit.new.self (untouched c)

pub returns-in_err-commit-clause-refused : goal.returns-in_err-commit-clause-refused
returns-in_err-commit-clause-refused c =
    let p = err_from_is_err_and c.from_residual.result c.from_residual.ensures.1 in
    let current = subst (λ (v : PartiesView). held_in v.acts (record { party = c.args.name; number = c.args.run }) ≡ open_in c.args.step.before) (sym c.self.view_is) c.requires.may.current in
    rw (p.1, p.2) (λ other. subst (λ (v : PartiesView). got_refusal (node_at (desk_in (as_world v 0) c.args.name)) (clock_in (as_world v 0) c.args.name) c.args.step.got ≡ Some c.in_err-commit.field-0.0) c.self.view_is (sym (may_answers c.self.inside.config c.self.inside.seats.items c.self.inside.order.items c.self.invariant c.deref.result.now c.deref.ensures.value c.place_of-place.result c.args.name c.index_mut-seat.result.now c.place_of-place.ensures.within c.place_of-place.ensures.named c.index_mut-seat.ensures.value c.ready.new.self c.ready.ensures.kept 0 c.args.run c.args.step (Some c.in_err-commit.field-0.0) current c.in_err-commit.ensures.refused)))

pub returns-in_err-commit-clause-err : goal.returns-in_err-commit-clause-err
returns-in_err-commit-clause-err c =
    let p = err_from_is_err_and c.from_residual.result c.from_residual.ensures.1 in
    rw p.1 (stay_view c.self.inside.config c.self.inside.seats.items c.self.inside.order.items c.self.invariant c.deref.result.now c.deref.ensures.value c.place_of-place.result c.args.name c.index_mut-seat.result.now c.place_of-place.ensures.within c.place_of-place.ensures.named c.index_mut-seat.ensures.value c.commit.new.self (untouched c) (vec_capacity c.self.inside.order - vec_len c.self.inside.order) ∙ c.self.view_is)

-- the event that the desk had
entered : (c : goal.After-push_reserved) → Entered c.index_mut-seat.result.now.desk c.commit.new.self (Commit c.args.run (moment (as_world c.args.self.now 0) c.args.name) c.args.step)
entered c =
    let now = moment_stays c.self.inside.config c.self.inside.seats.items c.self.inside.order.items c.self.invariant c.deref.result.now c.deref.ensures.value c.place_of-place.result c.args.name c.index_mut-seat.result.now c.place_of-place.ensures.within c.place_of-place.ensures.named c.index_mut-seat.ensures.value c.ready.new.self c.ready.ensures.kept 0 ∙ ap (λ (v : PartiesView). moment (as_world v 0) c.args.name) c.self.view_is in
    then_entered c.index_mut-seat.result.now.desk c.ready.new.self c.commit.new.self _ (Commit c.args.run (moment (as_world c.args.self.now 0) c.args.name) c.args.step) c.ready.ensures.kept c.in_ok-commit.ensures.ok (ap (λ (m : ℕ). Commit c.args.run m c.args.step) now)

pub invariant_of-self-2 : goal.invariant_of-self-2
invariant_of-self-2 c =
    more_parties c.self.inside.config c.self.inside.seats.items c.self.inside.order.items c.self.invariant c.deref.result.now c.deref.ensures.value c.place_of-place.result c.args.name c.index_mut-seat.result.now c.place_of-place.ensures.within c.place_of-place.ensures.named c.index_mut-seat.ensures.value c.commit.new.self (Commit c.args.run (moment (as_world c.args.self.now 0) c.args.name) c.args.step) (entered c) c.push_reserved.new.self.items c.push_reserved.ensures.items (subst (λ (v : PartiesView). IsStep (tested_by body_of is_check) (keys_in (ring_of v.config c.args.name)) (step_of c.args.step)) (sym c.self.view_is) c.requires.symbolic)

room_is : (c : goal.After-push_reserved) → vec_capacity c.self.inside.order - vec_len c.self.inside.order ≡ (vec_capacity c.push_reserved.new.self - vec_len c.push_reserved.new.self) + 1
room_is c =
    let len = c.push_reserved.ensures.len in
    let cap = c.push_reserved.ensures.capacity in
    let room = c.requires.room in
    let view = ap (λ (v : PartiesView). v.room) c.self.view_is in
    omega (arith, len, cap, room, view)

pub returns-clause-ok : goal.returns-clause-ok
returns-clause-ok c =
    acted_from _ c.args.self.now _ c.args.name (Commit c.args.run (moment (as_world c.args.self.now 0) c.args.name) c.args.step) c.self.view_is (more_acted c.self.inside.config c.self.inside.seats.items c.self.inside.order.items c.self.invariant c.deref.result.now c.deref.ensures.value c.place_of-place.result c.args.name c.index_mut-seat.result.now c.place_of-place.ensures.within c.place_of-place.ensures.named c.index_mut-seat.ensures.value c.commit.new.self (Commit c.args.run (moment (as_world c.args.self.now 0) c.args.name) c.args.step) (entered c) c.push_reserved.new.self.items c.push_reserved.ensures.items _ _ (room_is c))

pub returns-clause-fit : goal.returns-clause-fit
returns-clause-fit c =
    let current = subst (λ (v : PartiesView). held_in v.acts (record { party = c.args.name; number = c.args.run }) ≡ open_in c.args.step.before) (sym c.self.view_is) c.requires.may.current in
    subst (λ (v : PartiesView). got_refusal (node_at (desk_in (as_world v 0) c.args.name)) (clock_in (as_world v 0) c.args.name) c.args.step.got ≡ None) c.self.view_is (sym (may_answers c.self.inside.config c.self.inside.seats.items c.self.inside.order.items c.self.invariant c.deref.result.now c.deref.ensures.value c.place_of-place.result c.args.name c.index_mut-seat.result.now c.place_of-place.ensures.within c.place_of-place.ensures.named c.index_mut-seat.ensures.value c.ready.new.self c.ready.ensures.kept 0 c.args.run c.args.step None current c.in_ok-commit.ensures.fit))
