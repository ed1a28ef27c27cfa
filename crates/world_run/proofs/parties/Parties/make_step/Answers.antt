use Rattle.std.proofs.Common.{◌≡◌, ◌≢◌, ◌<◌, ◌≤◌, ◌+◌, ◌-◌, ◌++◌, ◌∷◌, [], if◌then◌else◌, nat_lt, length, IfErr, IfOk, subst, ap, sym, ◌∙◌, arith, vec_len, vec_capacity}
use Rattle.outside.specs.Causes.{Rose}
use Rattle.fresh_values.specs.Counts.{Counts, failed_draws}
use Rattle.mech_rows.specs.declared.refusal.Refusal.TheVariants.{Memory}
use Rattle.node_desk.specs.Deliveries.{MayHaveIssued}
use Rattle.node_desk.specs.Desks.{Untouched}
use Rattle.world_run.specs.Gives.{HasTaken}
use Rattle.world_run.specs.Makings.{IsUnanswered}
use Rattle.world_run.specs.Parties.{PartiesView, as_world}
use Rattle.world_run.specs.Views.{WorldView}
use Rattle.world_run.proofs.Made.{answered_from, any_issued, broken_from, if_err, if_err_all, if_ok, len_more, len_same, made_parties, on_err, stays_from, step_answered, step_broken, step_moved, step_refused, step_stays}
use Rattle.world_run.proofs.Saying.{unrisen}
use Rattle.text_hooks.specs.Rules.{allowed}
use Rattle.tagged_codec.specs.Grammar.{IsSpelling}
use Rattle.world_run.proofs.parties.Parties.make_step.Given.{Over}
use Rattle.world_run.proofs.parties.Parties.make_step.Goals as goal

-- the order after the party's events were noted
noted : (c : Over) (c' : goal.After-drop-bytes c) → c'.note.new.order.items ≡ (if nat_lt (length c'.index_mut-seat.result.now.desk.log) (length c'.make_step-step.new.desk.log) then c'.self.inside.order.items ++ c'.args.name ∷ [] else c'.self.inside.order.items)
noted c c' = c'.note.ensures.items ∙ (λ i. if nat_lt (c'.events_of-before.ensures i) (c'.events_of.ensures i) then c'.self.inside.order.items ++ c'.args.name ∷ [] else c'.self.inside.order.items)

-- the bytes are the spelling of the term
spells : (c : Over) (c' : goal.After-drop-bytes c) → IsSpelling c'.args.term.now c'.as_slice-bytes.result.now
spells c c' = subst (IsSpelling c'.args.term.now) (sym c'.as_slice-bytes.ensures.value) c'.in_ok-bytes.ensures

-- what the desk issued
issued : (c : Over) (c' : goal.After-drop-bytes c) → MayHaveIssued c'.index_mut-seat.result.now.desk c'.make_step-step.new.desk c'.index_mut-seat.result.now.clock
issued c c' = any_issued c'.index_mut-seat.result.now.desk c'.make_step-step.new.desk c'.index_mut-seat.result.now.clock c'.make_step-step.result c'.make_step-step.ensures.ok (λ step f. f.issued) c'.make_step-step.ensures.err

-- where the draws are
moved : (c : Over) (c' : goal.After-drop-bytes c) → (c'.args.draws.now.place ≤ c'.make_step-step.new.draws.place) × (c'.make_step-step.new.draws.place ≤ c'.args.draws.now.place + 15)
moved c c' = step_moved c'.self.inside.config c'.self.inside.seats.items c'.self.inside.order.items c'.self.invariant c'.deref.result.now c'.deref.ensures.value c'.place_of-place.result c'.args.name c'.index_mut-seat.result.now c'.place_of-place.ensures.within c'.place_of-place.ensures.named c'.index_mut-seat.ensures.value c'.make_step-step.new.desk c'.see_legal.ensures c'.note.new.order.items (noted c c') (allowed c'.args.hook.now.rules.items) c'.args.term.now c'.as_slice-bytes.result.now (spells c c') c'.args.draws.now.place c'.make_step-step.new.draws.place c'.args.run c'.make_step-step.ensures.moved

-- no draw has failed
unfailed : (c : Over) (c' : goal.After-drop-bytes c) → Rose (failed_draws c'.args.draws.now) (failed_draws c'.make_step-step.new.draws) → ⊥
unfailed c c' = let m = (moved c c').1 in let few = c'.requires.few in unrisen c'.args.draws.now c'.make_step-step.new.draws (omega (arith, m, few))

room_is : (c : Over) (c' : goal.After-drop-bytes c) → (vec_capacity c'.self.inside.order - vec_len c'.self.inside.order) ≤ (vec_capacity c'.note.new.order - vec_len c'.note.new.order) + 1
room_is c c' = let cap = c'.note.ensures.capacity in let len = len_more _ (vec_len c'.self.inside.order) (vec_len c'.note.new.order) c'.note.ensures.len in omega (arith, cap, len)

room_same : (c : Over) (c' : goal.After-drop-bytes c) → Untouched c'.index_mut-seat.result.now.desk c'.make_step-step.new.desk → (vec_capacity c'.self.inside.order - vec_len c'.self.inside.order) ≡ (vec_capacity c'.note.new.order - vec_len c'.note.new.order)
room_same c c' u =
    let cap = c'.note.ensures.capacity in
    let len = len_same c'.index_mut-seat.result.now.desk c'.make_step-step.new.desk (vec_len c'.self.inside.order) (vec_len c'.note.new.order) u
    (c'.note.ensures.len ∙ (λ i. if nat_lt (c'.events_of-before.ensures i) (c'.events_of.ensures i) then vec_len c'.self.inside.order + 1 else vec_len c'.self.inside.order)) in
    omega (arith, cap, len)

pub invariant_of-self : goal.invariant_of-self
invariant_of-self c c' = made_parties c'.self.inside.config c'.self.inside.seats.items c'.self.inside.order.items c'.self.invariant c'.deref.result.now c'.deref.ensures.value c'.place_of-place.result c'.args.name c'.index_mut-seat.result.now c'.place_of-place.ensures.within c'.place_of-place.ensures.named c'.index_mut-seat.ensures.value c'.make_step-step.new.desk c'.see_legal.ensures c'.note.new.order.items (noted c c') (issued c c')

pub returns-clause-ok : goal.returns-clause-ok
returns-clause-ok c c' =
    answered_from (allowed c'.args.hook.now.rules.items) _ c'.args.self.now _ c'.args.draws.now.place c'.make_step-step.new.draws.place (record { party = c'.args.name; number = c'.args.run }) c'.args.term.now c'.make_step-step.result c'.self.view_is
    (if_ok c'.make_step-step.result c'.make_step-step.ensures.ok (λ step f. step_answered c'.self.inside.config c'.self.inside.seats.items c'.self.inside.order.items c'.self.invariant c'.deref.result.now c'.deref.ensures.value c'.place_of-place.result c'.args.name c'.index_mut-seat.result.now c'.place_of-place.ensures.within c'.place_of-place.ensures.named c'.index_mut-seat.ensures.value c'.make_step-step.new.desk c'.see_legal.ensures c'.note.new.order.items (noted c c') (allowed c'.args.hook.now.rules.items) c'.args.term.now c'.as_slice-bytes.result.now (spells c c') c'.args.draws.now.place c'.make_step-step.new.draws.place (vec_capacity c'.self.inside.order - vec_len c'.self.inside.order) (vec_capacity c'.note.new.order - vec_len c'.note.new.order) c'.args.run step (room_is c c') f))

pub returns-clause-refused : goal.returns-clause-refused
returns-clause-refused c c' =
    subst (λ (v : PartiesView). IfErr c'.make_step-step.result (λ e. e ≢ Memory → IsUnanswered (allowed c'.args.hook.now.rules.items) (as_world v c'.args.draws.now.place) (record { party = c'.args.name; number = c'.args.run }) c'.args.term.now e)) c'.self.view_is
    (if_err c'.make_step-step.result c'.make_step-step.ensures.refused (λ e f other. step_refused c'.self.inside.config c'.self.inside.seats.items c'.self.inside.order.items c'.self.invariant c'.deref.result.now c'.deref.ensures.value c'.place_of-place.result c'.args.name c'.index_mut-seat.result.now c'.place_of-place.ensures.within c'.place_of-place.ensures.named c'.index_mut-seat.ensures.value c'.make_step-step.new.desk c'.see_legal.ensures c'.note.new.order.items (noted c c') (allowed c'.args.hook.now.rules.items) c'.args.term.now c'.as_slice-bytes.result.now (spells c c') c'.args.draws.now.place c'.args.run _ (unfailed c c') e (f other)))

pub returns-clause-stays : goal.returns-clause-stays
returns-clause-stays c c' =
    stays_from _ c'.args.self.now _ c'.args.draws.now.place c'.make_step-step.new.draws.place c'.make_step-step.result c'.self.view_is
    (if_err_all c'.make_step-step.result c'.make_step-step.ensures.refused c'.make_step-step.ensures.faulted c'.make_step-step.ensures.stays c'.make_step-step.ensures.undrawn
    (λ e refused faulted stays undrawn. step_stays c'.self.inside.config c'.self.inside.seats.items c'.self.inside.order.items c'.self.invariant c'.deref.result.now c'.deref.ensures.value c'.place_of-place.result c'.args.name c'.index_mut-seat.result.now c'.place_of-place.ensures.within c'.place_of-place.ensures.named c'.index_mut-seat.ensures.value c'.make_step-step.new.desk c'.see_legal.ensures c'.note.new.order.items (noted c c') (allowed c'.args.hook.now.rules.items) c'.args.term.now c'.as_slice-bytes.result.now (spells c c') c'.args.draws.now.place c'.make_step-step.new.draws.place (vec_capacity c'.self.inside.order - vec_len c'.self.inside.order) (vec_capacity c'.note.new.order - vec_len c'.note.new.order) c'.args.run _ (unfailed c c') (room_same c c') e refused faulted stays (λ other draws. ap (λ (x : Counts). x.place) (undrawn other draws))))

pub returns-clause-left : goal.returns-clause-left
returns-clause-left c c' =
    broken_from (λ (v : WorldView). HasTaken (allowed c'.args.hook.now.rules.items) v (record { party = c'.args.name; number = c'.args.run }) c'.args.term.now) _ c'.args.self.now _ c'.args.draws.now.place c'.make_step-step.new.draws.place c'.args.name c'.make_step-step.result c'.self.view_is
    (on_err c'.make_step-step.result c'.make_step-step.ensures.issue_due (λ is. step_broken c'.self.inside.config c'.self.inside.seats.items c'.self.inside.order.items c'.self.invariant c'.deref.result.now c'.deref.ensures.value c'.place_of-place.result c'.args.name c'.index_mut-seat.result.now c'.place_of-place.ensures.within c'.place_of-place.ensures.named c'.index_mut-seat.ensures.value c'.make_step-step.new.desk c'.see_legal.ensures c'.note.new.order.items (noted c c') (allowed c'.args.hook.now.rules.items) c'.args.term.now c'.as_slice-bytes.result.now (spells c c') c'.args.draws.now.place c'.make_step-step.new.draws.place (vec_capacity c'.self.inside.order - vec_len c'.self.inside.order) (vec_capacity c'.note.new.order - vec_len c'.note.new.order) c'.args.run (room_is c c') is c'.make_step-step.ensures.moved))
