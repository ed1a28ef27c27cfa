use Rattle.std.proofs.Common.{◌≡◌, ◌≢◌, ◌<◌, ◌-◌, ℕ, zero, suc, List, Some, Err, length, slice_get, refl, sym, ap, subst, ◌∙◌, arith}
use Rattle.std.proofs.lemmas.Result.{err_from_is_err_and}
use Rattle.term_values.specs.Trees.{Tree}
use Rattle.attacker_model.specs.Derivation.{Derivable}
use Rattle.mech_rows.specs.Verdict.{State}
use Rattle.text_hooks.specs.Rules.{allowed}
use Rattle.agreement_laws.specs.Traces.{RunId}
use Rattle.node_desk.specs.Deliveries.{after_message}
use Rattle.world_run.specs.declared.scene.Scene.{Scene}
use Rattle.world_run.specs.Gives.{HasTaken, MayBeGiven}
use Rattle.world_run.specs.Born.{HasUnborn}
use Rattle.world_run.specs.Kept.{IsKept, view_of}
use Rattle.world_run.specs.Makings.{IsBrokenOff, IsMadeOf, IsUnanswered}
use Rattle.world_run.specs.Turns.{made_by, moment, stamp_due}
use Rattle.world_run.specs.Views.{known_in, run_in, sent_in, WorldView}
use Rattle.world_run.proofs.Entering.{run_among, run_place}
use Rattle.world_run.proofs.Handing.{few_passes, gave_grows, gave_left, gave_ok, gave_refused, grown_left, left_same, left_unmade, not_deliverable, unanswered, unknown, view_reserved}
use Rattle.world_run.proofs.Unmoved.{kept_same, sent_with}
use Rattle.world_run.proofs.giving.give_in.Goals as goal

few_sent : (w v : WorldView) (n : ℕ) (s : State) → v ≡ made_by w n s → length (sent_in w.acts) < 4_294_967_295 → length (sent_in v.acts) < 4_294_967_295
few_sent w v n s e few = let f = ap (λ (x : WorldView). length (sent_in x.acts)) e ∙ ap length (sent_with w.acts n (moment w n) (stamp_due w n s)) in omega (arith, f, few)

placed : (w v : WorldView) (n : ℕ) (s : State) → v ≡ made_by w n s → (run : ℕ) (id : RunId) → run_in w.runs run ≡ Some id → slice_get v.runs (run - 1) ≡ Some id
placed w v n s e run id is = subst (λ (ids : List RunId). slice_get ids (run - 1) ≡ Some id) (sym (ap (λ (x : WorldView). x.runs) e)) (run_place w.runs run id is)

may_be : (w : WorldView) (run : ℕ) (m : Tree) (given : List Tree) → given ≡ known_in w → Derivable given m → (HasUnborn w.draws m → ⊥) → (id : RunId) → run_in w.runs run ≡ Some id → MayBeGiven w run m
may_be w run m given known derivable born id is =
    record { derivable = subst (λ (ts : List Tree). Derivable ts m) known derivable; is_born = born; id = id; is_run = is }

pub returns-in_err-check_term-clause-refused : goal.returns-in_err-check_term-clause-refused
returns-in_err-check_term-clause-refused g c =
    let p = err_from_is_err_and c.from_residual.result c.from_residual.ensures.1 in
    rw (p.1, p.2) (λ other. not_deliverable (allowed c.args.hook.now.rules.items) (view_of c.args.scene.now) c.args.run c.args.term.now c.args.scene.now.knowledge.given c.requires.kept.learnt c.in_err-check_term.field-0.0 c.in_err-check_term.ensures.refused)

pub returns-in_err-check_term-clause-left : goal.returns-in_err-check_term-clause-left
returns-in_err-check_term-clause-left g c = λ _. left_same (allowed c.args.hook.now.rules.items) (view_of c.args.scene.now) c.args.run c.args.term.now (view_of c.args.scene.now) refl

pub returns-in_err-check_term-clause-grows : goal.returns-in_err-check_term-clause-grows
returns-in_err-check_term-clause-grows g c = grown_left (allowed c.args.hook.now.rules.items) (view_of c.args.scene.now) c.args.run c.args.term.now (view_of c.args.scene.now) (left_same (allowed c.args.hook.now.rules.items) (view_of c.args.scene.now) c.args.run c.args.term.now (view_of c.args.scene.now) refl)

pub returns-in_default-clause-refused : goal.returns-in_default-clause-refused
returns-in_default-clause-refused g c =
    let known = subst (λ (ts : List Tree). Derivable ts c.args.term.now) c.requires.kept.learnt c.in_ok-check_term.ensures.derivable in
    λ other. unknown (allowed c.args.hook.now.rules.items) (view_of c.args.scene.now) c.args.run c.args.term.now known c.in_ok-check_term.ensures.is_born (ap (λ (ids : List RunId). run_in ids c.args.run) (sym c.deref.ensures.value) ∙ (sym c.numbered.ensures ∙ c.in_default.is))

pub returns-in_default-clause-left : goal.returns-in_default-clause-left
returns-in_default-clause-left g c = λ _. left_same (allowed c.args.hook.now.rules.items) (view_of c.args.scene.now) c.args.run c.args.term.now (view_of c.args.scene.now) refl

pub returns-in_default-clause-grows : goal.returns-in_default-clause-grows
returns-in_default-clause-grows g c = grown_left (allowed c.args.hook.now.rules.items) (view_of c.args.scene.now) c.args.run c.args.term.now (view_of c.args.scene.now) (left_same (allowed c.args.hook.now.rules.items) (view_of c.args.scene.now) c.args.run c.args.term.now (view_of c.args.scene.now) refl)

pub returns-in_err-reserve-clause-kept : goal.returns-in_err-reserve-clause-kept
returns-in_err-reserve-clause-kept g c = kept_same c.args.scene.now c.requires.kept c.reserve.new.self c.reserve.ensures.same.config c.reserve.ensures.same.acts c.reserve.ensures.same.clocks c.reserve.ensures.grows

pub returns-in_err-reserve-clause-left : goal.returns-in_err-reserve-clause-left
returns-in_err-reserve-clause-left g c = λ _. left_same (allowed c.args.hook.now.rules.items) (view_of c.args.scene.now) c.args.run c.args.term.now _ (view_reserved c.args.scene.now c.reserve.new.self c.reserve.ensures.same)

pub returns-in_err-reserve-clause-grows : goal.returns-in_err-reserve-clause-grows
returns-in_err-reserve-clause-grows g c = grown_left (allowed c.args.hook.now.rules.items) (view_of c.args.scene.now) c.args.run c.args.term.now _ (left_same (allowed c.args.hook.now.rules.items) (view_of c.args.scene.now) c.args.run c.args.term.now _ (view_reserved c.args.scene.now c.reserve.new.self c.reserve.ensures.same))

pub answer-requires-clause-kept : goal.answer-requires-clause-kept
answer-requires-clause-kept g c = kept_same c.args.scene.now c.requires.kept c.reserve.new.self c.reserve.ensures.same.config c.reserve.ensures.same.acts c.reserve.ensures.same.clocks c.reserve.ensures.grows

pub answer-requires-clause-numbered : goal.answer-requires-clause-numbered
answer-requires-clause-numbered g c =
    let is_run = ap (λ (ids : List RunId). run_in ids c.args.run) (sym c.deref.ensures.value) ∙ sym c.in-Some.ensures in
    run_among c.args.scene.now.runs.items c.args.run c.in-Some.id is_run

pub answer-requires-clause-room : goal.answer-requires-clause-room
answer-requires-clause-room g c = omega (arith, c.in_ok-reserve.ensures.room, c.len.ensures, c.args.scene.now.runs.ok.0)

pub returns-in_err-step-clause-refused : goal.returns-in_err-step-clause-refused
returns-in_err-step-clause-refused g c =
    let p = err_from_is_err_and c.from_residual-in_err-step.result c.from_residual-in_err-step.ensures.1 in
    let is_run = ap (λ (ids : List RunId). run_in ids c.args.run) (sym c.deref.ensures.value) ∙ sym c.in-Some.ensures in
    let known = subst (λ (ts : List Tree). Derivable ts c.args.term.now) c.requires.kept.learnt c.in_ok-check_term.ensures.derivable in
    let same = view_reserved c.args.scene.now c.reserve.new.self c.reserve.ensures.same in
    rw (p.1, p.2) (λ other. unanswered (allowed c.args.hook.now.rules.items) (view_of c.args.scene.now) c.args.run c.args.term.now known c.in_ok-check_term.ensures.is_born c.in-Some.id is_run c.in_err-step.field-0.0 (view_of c.answer.new.scene) (c.in_err-step.ensures.stays other ∙ same) (subst (λ (x : WorldView). IsUnanswered (allowed c.args.hook.now.rules.items) x c.in-Some.id c.args.term.now c.in_err-step.field-0.0) same (c.in_err-step.ensures.refused other)))

pub returns-in_err-step-clause-left : goal.returns-in_err-step-clause-left
returns-in_err-step-clause-left g c =
    let known = subst (λ (ts : List Tree). Derivable ts c.args.term.now) c.requires.kept.learnt c.in_ok-check_term.ensures.derivable in
    let is_run = ap (λ (ids : List RunId). run_in ids c.args.run) (sym c.deref.ensures.value) ∙ sym c.in-Some.ensures in
    let same = view_reserved c.args.scene.now c.reserve.new.self c.reserve.ensures.same in
    λ _. left_unmade (allowed c.args.hook.now.rules.items) (view_of c.args.scene.now) c.args.run c.args.term.now known c.in_ok-check_term.ensures.is_born c.in-Some.id is_run (view_of c.answer.new.scene) (subst (λ (x : WorldView). IsBrokenOff (HasTaken (allowed c.args.hook.now.rules.items) x c.in-Some.id c.args.term.now) x (view_of c.answer.new.scene) c.in-Some.id.party) same c.in_err-step.ensures.left)

pub returns-in_err-step-clause-grows : goal.returns-in_err-step-clause-grows
returns-in_err-step-clause-grows g c =
    let known = subst (λ (ts : List Tree). Derivable ts c.args.term.now) c.requires.kept.learnt c.in_ok-check_term.ensures.derivable in
    let is_run = ap (λ (ids : List RunId). run_in ids c.args.run) (sym c.deref.ensures.value) ∙ sym c.in-Some.ensures in
    let same = view_reserved c.args.scene.now c.reserve.new.self c.reserve.ensures.same in
    grown_left (allowed c.args.hook.now.rules.items) (view_of c.args.scene.now) c.args.run c.args.term.now (view_of c.answer.new.scene) (left_unmade (allowed c.args.hook.now.rules.items) (view_of c.args.scene.now) c.args.run c.args.term.now known c.in_ok-check_term.ensures.is_born c.in-Some.id is_run (view_of c.answer.new.scene) (subst (λ (x : WorldView). IsBrokenOff (HasTaken (allowed c.args.hook.now.rules.items) x c.in-Some.id c.args.term.now) x (view_of c.answer.new.scene) c.in-Some.id.party) same c.in_err-step.ensures.left))

some_run : (ids : List RunId) (run : ℕ) (id : RunId) → run_in ids run ≡ Some id → 0 < run
some_run ids zero id is = absurd (cc)
some_run ids (suc k) id is = omega arith

pub overflow_sub-run : goal.overflow_sub-run
overflow_sub-run g c =
    let is_run = ap (λ (ids : List RunId). run_in ids c.args.run) (sym c.deref.ensures.value) ∙ sym c.in-Some.ensures in
    let some = some_run c.args.scene.now.runs.items c.args.run c.in-Some.id is_run in
    omega (arith, some)

pub enter_step-requires-clause-numbered : goal.enter_step-requires-clause-numbered
enter_step-requires-clause-numbered g c =
    let is_run = ap (λ (ids : List RunId). run_in ids c.args.run) (sym c.deref.ensures.value) ∙ sym c.in-Some.ensures in
    placed (view_of (record c.args.scene.now { parties = c.reserve.new.self })) (view_of c.answer.new.scene) c.in-Some.id.party (after_message c.in_ok-step.step.before c.in_ok-step.ensures.ok.taken) c.in_ok-step.ensures.ok.leaves c.args.run c.in-Some.id is_run

pub enter_step-requires-clause-may : goal.enter_step-requires-clause-may
enter_step-requires-clause-may g c = c.in_ok-step.ensures.ok.may

pub enter_step-requires-clause-ready : goal.enter_step-requires-clause-ready
enter_step-requires-clause-ready g c = c.in_ok-step.ensures.ok.ready

pub enter_step-requires-clause-few : goal.enter_step-requires-clause-few
enter_step-requires-clause-few g c =
    let same = view_reserved c.args.scene.now c.reserve.new.self c.reserve.ensures.same in
    few_sent (view_of (record c.args.scene.now { parties = c.reserve.new.self })) (view_of c.answer.new.scene) c.in-Some.id.party (after_message c.in_ok-step.step.before c.in_ok-step.ensures.ok.taken) c.in_ok-step.ensures.ok.leaves (subst (λ (x : WorldView). length (sent_in x.acts) < 4_294_967_295) (sym same) c.requires.numbers.messages)

pub enter_step-requires-clause-passes : goal.enter_step-requires-clause-passes
enter_step-requires-clause-passes g c = few_passes (view_of c.answer.new.scene) c.in-Some.id.party c.in_ok-step.step c.in_ok-step.ensures.ok.ready

pub returns-clause-ok : goal.returns-clause-ok
returns-clause-ok g c =
    let is_run = ap (λ (ids : List RunId). run_in ids c.args.run) (sym c.deref.ensures.value) ∙ sym c.in-Some.ensures in
    let known = subst (λ (ts : List Tree). Derivable ts c.args.term.now) c.requires.kept.learnt c.in_ok-check_term.ensures.derivable in
    let same = view_reserved c.args.scene.now c.reserve.new.self c.reserve.ensures.same in
    let made = subst (λ (x : WorldView). IsMadeOf (allowed c.args.hook.now.rules.items) x (view_of c.answer.new.scene) c.in-Some.id c.args.term.now c.in_ok-step.step) same c.in_ok-step.ensures.ok in
    gave_ok (allowed c.args.hook.now.rules.items) (view_of c.args.scene.now) c.args.run c.args.term.now known c.in_ok-check_term.ensures.is_born c.in-Some.id is_run (view_of c.answer.new.scene) c.in_ok-step.step made (view_of c.enter_step.new.scene) c.enter_step.result c.enter_step.ensures.ok

pub returns-clause-refused : goal.returns-clause-refused
returns-clause-refused g c =
    let is_run = ap (λ (ids : List RunId). run_in ids c.args.run) (sym c.deref.ensures.value) ∙ sym c.in-Some.ensures in
    let known = subst (λ (ts : List Tree). Derivable ts c.args.term.now) c.requires.kept.learnt c.in_ok-check_term.ensures.derivable in
    let same = view_reserved c.args.scene.now c.reserve.new.self c.reserve.ensures.same in
    let made = subst (λ (x : WorldView). IsMadeOf (allowed c.args.hook.now.rules.items) x (view_of c.answer.new.scene) c.in-Some.id c.args.term.now c.in_ok-step.step) same c.in_ok-step.ensures.ok in
    gave_refused (allowed c.args.hook.now.rules.items) (view_of c.args.scene.now) c.args.run c.args.term.now known c.in_ok-check_term.ensures.is_born c.in-Some.id is_run (view_of c.answer.new.scene) c.in_ok-step.step made (view_of c.enter_step.new.scene) c.enter_step.result c.enter_step.ensures.refused c.enter_step.ensures.err

pub returns-clause-left : goal.returns-clause-left
returns-clause-left g c =
    let is_run = ap (λ (ids : List RunId). run_in ids c.args.run) (sym c.deref.ensures.value) ∙ sym c.in-Some.ensures in
    let known = subst (λ (ts : List Tree). Derivable ts c.args.term.now) c.requires.kept.learnt c.in_ok-check_term.ensures.derivable in
    let same = view_reserved c.args.scene.now c.reserve.new.self c.reserve.ensures.same in
    let made = subst (λ (x : WorldView). IsMadeOf (allowed c.args.hook.now.rules.items) x (view_of c.answer.new.scene) c.in-Some.id c.args.term.now c.in_ok-step.step) same c.in_ok-step.ensures.ok in
    gave_left (allowed c.args.hook.now.rules.items) (view_of c.args.scene.now) c.args.run c.args.term.now known c.in_ok-check_term.ensures.is_born c.in-Some.id is_run (view_of c.answer.new.scene) c.in_ok-step.step made (view_of c.enter_step.new.scene) c.enter_step.result c.enter_step.ensures.err

pub returns-clause-grows : goal.returns-clause-grows
returns-clause-grows g c =
    let is_run = ap (λ (ids : List RunId). run_in ids c.args.run) (sym c.deref.ensures.value) ∙ sym c.in-Some.ensures in
    let known = subst (λ (ts : List Tree). Derivable ts c.args.term.now) c.requires.kept.learnt c.in_ok-check_term.ensures.derivable in
    let same = view_reserved c.args.scene.now c.reserve.new.self c.reserve.ensures.same in
    let made = subst (λ (x : WorldView). IsMadeOf (allowed c.args.hook.now.rules.items) x (view_of c.answer.new.scene) c.in-Some.id c.args.term.now c.in_ok-step.step) same c.in_ok-step.ensures.ok in
    gave_grows (allowed c.args.hook.now.rules.items) (view_of c.args.scene.now) c.args.run c.args.term.now known c.in_ok-check_term.ensures.is_born c.in-Some.id is_run (view_of c.answer.new.scene) c.in_ok-step.step made (view_of c.enter_step.new.scene) c.enter_step.result c.enter_step.ensures.ok c.enter_step.ensures.err

pub returns-in_err-reserve-clause-memory : goal.returns-in_err-reserve-clause-memory
returns-in_err-reserve-clause-memory g c =
    let is_run = ap (λ (ids : List RunId). run_in ids c.args.run) (sym c.deref.ensures.value) ∙ sym c.in-Some.ensures in
    λ _. may_be (view_of c.args.scene.now) c.args.run c.args.term.now c.args.scene.now.knowledge.given c.requires.kept.learnt c.in_ok-check_term.ensures.derivable c.in_ok-check_term.ensures.is_born c.in-Some.id is_run

pub returns-in_err-step-clause-memory : goal.returns-in_err-step-clause-memory
returns-in_err-step-clause-memory g c =
    let is_run = ap (λ (ids : List RunId). run_in ids c.args.run) (sym c.deref.ensures.value) ∙ sym c.in-Some.ensures in
    λ _. may_be (view_of c.args.scene.now) c.args.run c.args.term.now c.args.scene.now.knowledge.given c.requires.kept.learnt c.in_ok-check_term.ensures.derivable c.in_ok-check_term.ensures.is_born c.in-Some.id is_run

pub returns-clause-memory : goal.returns-clause-memory
returns-clause-memory g c =
    let is_run = ap (λ (ids : List RunId). run_in ids c.args.run) (sym c.deref.ensures.value) ∙ sym c.in-Some.ensures in
    λ _. may_be (view_of c.args.scene.now) c.args.run c.args.term.now c.args.scene.now.knowledge.given c.requires.kept.learnt c.in_ok-check_term.ensures.derivable c.in_ok-check_term.ensures.is_born c.in-Some.id is_run
