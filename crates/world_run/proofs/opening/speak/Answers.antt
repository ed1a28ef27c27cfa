use Rattle.std.proofs.Common.{◌≡◌, ◌≢◌, ◌<◌, ◌≤◌, ◌-◌, ◌+◌, ℕ, Some, length, slice_get, refl, sym, ap, subst, ◌∙◌, arith}
use Rattle.std.proofs.lemmas.Result.{err_from_is_err_and}
use Rattle.agreement_laws.specs.Traces.{RunId}
use Rattle.node_desk.specs.Deliveries.{MayCommit}
use Rattle.world_run.specs.declared.opened.Opened.{Opened}
use Rattle.world_run.specs.Kept.{IsEntered, IsReady, view_of}
use Rattle.world_run.specs.Makings.{IsBrokenOff, IsNotFirst, SaysFirst}
use Rattle.world_run.specs.Starts.{HasSpoken}
use Rattle.world_run.specs.Turns.{desk_in, moment, stamp_due}
use Rattle.world_run.specs.Views.{sent_in, WorldView}
use Rattle.world_run.proofs.Handing.{few_passes}
use Rattle.world_run.proofs.Quiet.{issue_sent}
use Rattle.world_run.proofs.Starting.{first_fits, first_got, has_spoken, kept_left, kept_made, last_among, left_made, left_of, made_view, ready_first, says_in}
use Rattle.world_run.proofs.opening.speak.Goals as goal

spoken_by : (w : WorldView) (x y : RunId) (o : Opened) (v : WorldView) → x ≡ y → HasSpoken w x o v → HasSpoken w y o v
spoken_by w x y o v e s = subst (λ (z : RunId). HasSpoken w z o v) e s

pub make_first-requires-clause-declared : goal.make_first-requires-clause-declared
make_first-requires-clause-declared c = c.requires.kept.genuine.runs.declared (record { party = c.id.inside.party; number = c.id.inside.run }) (last_among c.args.scene.now.runs.items (length c.args.scene.now.runs.items - 1) (record { party = c.id.inside.party; number = c.id.inside.run }) (subst (λ (x : RunId). slice_get c.args.scene.now.runs.items (length c.args.scene.now.runs.items - 1) ≡ Some x) (sym c.id.view_is) c.requires.last))

pub make_first-requires-clause-room : goal.make_first-requires-clause-room
make_first-requires-clause-room c = omega (arith, c.requires.room)

pub returns-in_err-step-clause-kept : goal.returns-in_err-step-clause-kept
returns-in_err-step-clause-kept c =
    let left = c.in_err-step.ensures.left in
    kept_left (SaysFirst (view_of c.args.scene.now) (record { party = c.id.inside.party; number = c.id.inside.run })) c.args.scene.now (record c.args.scene.now { parties = c.make_first.new.self; draws = c.make_first.new.draws }) c.id.inside.party c.requires.kept (c.requires.kept.genuine.runs.declared (record { party = c.id.inside.party; number = c.id.inside.run }) (last_among c.args.scene.now.runs.items (length c.args.scene.now.runs.items - 1) (record { party = c.id.inside.party; number = c.id.inside.run }) (subst (λ (x : RunId). slice_get c.args.scene.now.runs.items (length c.args.scene.now.runs.items - 1) ≡ Some x) (sym c.id.view_is) c.requires.last))) (left_of c.args.scene.now (record c.args.scene.now { parties = c.make_first.new.self; draws = c.make_first.new.draws }) (record { party = c.id.inside.party; number = c.id.inside.run }) left refl) refl refl (let r = left.room in omega (arith, r, c.requires.room))

pub returns-in_err-step-clause-refused : goal.returns-in_err-step-clause-refused
returns-in_err-step-clause-refused c =
    let p = err_from_is_err_and c.from_residual.result c.from_residual.ensures.1 in
    rw (p.1, p.2) (λ other. subst (λ (x : RunId). IsNotFirst (view_of c.args.scene.now) x c.in_err-step.field-0.0) c.id.view_is (c.in_err-step.ensures.refused other))

pub returns-in_err-step-clause-stays : goal.returns-in_err-step-clause-stays
returns-in_err-step-clause-stays c =
    let p = err_from_is_err_and c.from_residual.result c.from_residual.ensures.1 in
    rw (p.1, p.2) (λ other. let q = c.in_err-step.ensures.stays other in λ i. record { config = (q.0 i).config; acts = (q.0 i).acts; clocks = (q.0 i).clocks; draws = q.1 i; runs = c.args.scene.now.runs.items })

pub returns-in_err-step-clause-left : goal.returns-in_err-step-clause-left
returns-in_err-step-clause-left c =
    let p = err_from_is_err_and c.from_residual.result c.from_residual.ensures.1 in
    rw p.1 (subst (λ (x : RunId). IsBrokenOff (SaysFirst (view_of c.args.scene.now) x) (view_of c.args.scene.now) (view_of (record c.args.scene.now { parties = c.make_first.new.self; draws = c.make_first.new.draws })) x.party) c.id.view_is (left_of c.args.scene.now (record c.args.scene.now { parties = c.make_first.new.self; draws = c.make_first.new.draws }) (record { party = c.id.inside.party; number = c.id.inside.run }) c.in_err-step.ensures.left refl))

pub returns-in_err-step-clause-room : goal.returns-in_err-step-clause-room
returns-in_err-step-clause-room c =
    let p = err_from_is_err_and c.from_residual.result c.from_residual.ensures.1 in
    rw p.1 c.in_err-step.ensures.left.room

pub enter_step-requires-clause-kept : goal.enter_step-requires-clause-kept
enter_step-requires-clause-kept c =
    let view = made_view c.args.scene.now (record c.args.scene.now { parties = c.make_first.new.self; draws = c.make_first.new.draws }) (record { party = c.id.inside.party; number = c.id.inside.run }) c.in_ok-step.step.before c.in_ok-step.step c.in_ok-step.ensures.made refl in
    kept_made c.args.scene.now (record c.args.scene.now { parties = c.make_first.new.self; draws = c.make_first.new.draws }) (record { party = c.id.inside.party; number = c.id.inside.run }) c.in_ok-step.step.before c.requires.kept (last_among c.args.scene.now.runs.items (length c.args.scene.now.runs.items - 1) (record { party = c.id.inside.party; number = c.id.inside.run }) (subst (λ (x : RunId). slice_get c.args.scene.now.runs.items (length c.args.scene.now.runs.items - 1) ≡ Some x) (sym c.id.view_is) c.requires.last)) view refl refl (let r = c.in_ok-step.ensures.made.room in omega (arith, r, c.requires.room))

pub enter_step-requires-clause-numbered : goal.enter_step-requires-clause-numbered
enter_step-requires-clause-numbered c = subst (λ (n : ℕ). slice_get c.args.scene.now.runs.items (n - 1) ≡ Some c.args.id) (sym (c.len-place.ensures ∙ c.args.scene.now.runs.ok.0)) c.requires.last

pub enter_step-requires-clause-may : goal.enter_step-requires-clause-may
enter_step-requires-clause-may c = subst (λ (x : RunId). MayCommit (desk_in (view_of (record c.args.scene.now { parties = c.make_first.new.self; draws = c.make_first.new.draws })) x.party) x.number c.in_ok-step.step) c.id.view_is c.in_ok-step.ensures.made.may

pub enter_step-requires-clause-ready : goal.enter_step-requires-clause-ready
enter_step-requires-clause-ready c =
    let view = made_view c.args.scene.now (record c.args.scene.now { parties = c.make_first.new.self; draws = c.make_first.new.draws }) (record { party = c.id.inside.party; number = c.id.inside.run }) c.in_ok-step.step.before c.in_ok-step.step c.in_ok-step.ensures.made refl in
    subst (λ (x : RunId). IsReady (view_of (record c.args.scene.now { parties = c.make_first.new.self; draws = c.make_first.new.draws })) x.party c.in_ok-step.step) c.id.view_is (subst (λ (v : WorldView). IsReady v c.id.inside.party c.in_ok-step.step) (sym view) (ready_first (view_of c.args.scene.now) c.requires.kept.genuine (record { party = c.id.inside.party; number = c.id.inside.run }) c.in_ok-step.step c.in_ok-step.ensures.ok.takes (says_in c.args.scene.now.parties c.args.scene.now.draws.place c.id.inside.party c.args.scene.now.runs.items c.in_ok-step.step.before c.in_ok-step.step c.in_ok-step.ensures.ok.says) c.requires.draws))

pub enter_step-requires-clause-few : goal.enter_step-requires-clause-few
enter_step-requires-clause-few c =
    let view = made_view c.args.scene.now (record c.args.scene.now { parties = c.make_first.new.self; draws = c.make_first.new.draws }) (record { party = c.id.inside.party; number = c.id.inside.run }) c.in_ok-step.step.before c.in_ok-step.step c.in_ok-step.ensures.made refl in
    let sent = ap (λ (v : WorldView). length (sent_in v.acts)) view ∙ ap length (issue_sent c.args.scene.now.parties.acts c.id.inside.party (moment (view_of c.args.scene.now) c.id.inside.party) (stamp_due (view_of c.args.scene.now) c.id.inside.party c.in_ok-step.step.before)) in
    omega (arith, sent, c.requires.messages)

pub enter_step-requires-clause-passes : goal.enter_step-requires-clause-passes
enter_step-requires-clause-passes c =
    let view = made_view c.args.scene.now (record c.args.scene.now { parties = c.make_first.new.self; draws = c.make_first.new.draws }) (record { party = c.id.inside.party; number = c.id.inside.run }) c.in_ok-step.step.before c.in_ok-step.step c.in_ok-step.ensures.made refl in
    few_passes (view_of (record c.args.scene.now { parties = c.make_first.new.self; draws = c.make_first.new.draws })) c.id.inside.party c.in_ok-step.step (subst (λ (v : WorldView). IsReady v c.id.inside.party c.in_ok-step.step) (sym view) (ready_first (view_of c.args.scene.now) c.requires.kept.genuine (record { party = c.id.inside.party; number = c.id.inside.run }) c.in_ok-step.step c.in_ok-step.ensures.ok.takes (says_in c.args.scene.now.parties c.args.scene.now.draws.place c.id.inside.party c.args.scene.now.runs.items c.in_ok-step.step.before c.in_ok-step.step c.in_ok-step.ensures.ok.says) c.requires.draws))

pub enter_step-requires-clause-room : goal.enter_step-requires-clause-room
enter_step-requires-clause-room c = let r = c.in_ok-step.ensures.made.room in omega (arith, r, c.requires.room)

pub returns-in_err-given-clause-refused : goal.returns-in_err-given-clause-refused
returns-in_err-given-clause-refused c =
    let p = err_from_is_err_and c.from_residual-in_err-given.result c.from_residual-in_err-given.ensures.1 in
    let none = first_got _ c.in_ok-step.step c.in_ok-step.ensures.ok.takes (says_in c.args.scene.now.parties c.args.scene.now.draws.place c.id.inside.party c.args.scene.now.runs.items c.in_ok-step.step.before c.in_ok-step.step c.in_ok-step.ensures.ok.says).is_step in
    rw (p.1, p.2) (λ other. absurd (first_fits (view_of (record c.args.scene.now { parties = c.make_first.new.self; draws = c.make_first.new.draws })) c.args.id c.in_ok-step.step c.in_err-given.field-0.0 none (c.in_err-given.ensures.refused other)))

pub returns-in_err-given-clause-stays : goal.returns-in_err-given-clause-stays
returns-in_err-given-clause-stays c =
    let p = err_from_is_err_and c.from_residual-in_err-given.result c.from_residual-in_err-given.ensures.1 in
    let none = first_got _ c.in_ok-step.step c.in_ok-step.ensures.ok.takes (says_in c.args.scene.now.parties c.args.scene.now.draws.place c.id.inside.party c.args.scene.now.runs.items c.in_ok-step.step.before c.in_ok-step.step c.in_ok-step.ensures.ok.says).is_step in
    rw (p.1, p.2) (λ other. absurd (first_fits (view_of (record c.args.scene.now { parties = c.make_first.new.self; draws = c.make_first.new.draws })) c.args.id c.in_ok-step.step c.in_err-given.field-0.0 none (c.in_err-given.ensures.refused other)))

pub returns-in_err-given-clause-left : goal.returns-in_err-given-clause-left
returns-in_err-given-clause-left c =
    let p = err_from_is_err_and c.from_residual-in_err-given.result c.from_residual-in_err-given.ensures.1 in
    let view = made_view c.args.scene.now (record c.args.scene.now { parties = c.make_first.new.self; draws = c.make_first.new.draws }) (record { party = c.id.inside.party; number = c.id.inside.run }) c.in_ok-step.step.before c.in_ok-step.step c.in_ok-step.ensures.made refl in
    rw p.1 (subst (λ (x : RunId). IsBrokenOff (SaysFirst (view_of c.args.scene.now) x) (view_of c.args.scene.now) (view_of c.enter_step.new.scene) x.party) c.id.view_is (left_made (view_of c.args.scene.now) (view_of c.enter_step.new.scene) (record { party = c.id.inside.party; number = c.id.inside.run }) c.in_ok-step.step.before c.in_ok-step.ensures.ok.current c.in_ok-step.ensures.ok.first (c.in_err-given.ensures.err ∙ view)))

pub returns-in_err-given-clause-room : goal.returns-in_err-given-clause-room
returns-in_err-given-clause-room c =
    let p = err_from_is_err_and c.from_residual-in_err-given.result c.from_residual-in_err-given.ensures.1 in
    rw p.1 (let r = c.in_ok-step.ensures.made.room in let e = c.in_err-given.ensures.room in omega (arith, r, e))

pub returns-clause-ok : goal.returns-clause-ok
returns-clause-ok c =
    let view = made_view c.args.scene.now (record c.args.scene.now { parties = c.make_first.new.self; draws = c.make_first.new.draws }) (record { party = c.id.inside.party; number = c.id.inside.run }) c.in_ok-step.step.before c.in_ok-step.step c.in_ok-step.ensures.made refl in
    let entered = subst (λ (w : WorldView). IsEntered w (record { party = c.id.inside.party; number = c.id.inside.run }) c.in_ok-step.step c.in_ok-given.given (view_of c.enter_step.new.scene)) view (subst (λ (x : RunId). IsEntered (view_of (record c.args.scene.now { parties = c.make_first.new.self; draws = c.make_first.new.draws })) x c.in_ok-step.step c.in_ok-given.given (view_of c.enter_step.new.scene)) (sym c.id.view_is) c.in_ok-given.ensures.ok) in
    spoken_by (view_of c.args.scene.now) _ _ _ (view_of c.enter_step.new.scene) c.id.view_is (has_spoken c.args.scene.now (record { party = c.id.inside.party; number = c.id.inside.run }) c.in_ok-step.step c.in_ok-given.given _ (view_of c.enter_step.new.scene) c.in_ok-step.ensures.ok entered (omega (arith, c.len-place.ensures, c.args.scene.now.runs.ok.0, c.requires.some)) refl refl)
