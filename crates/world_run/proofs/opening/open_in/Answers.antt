use Rattle.std.proofs.Common.{◌≡◌, ◌≢◌, ◌<◌, ◌≤◌, ◌+◌, ◌++◌, ◌∷◌, ℕ, Bool, true, false, List, Option, None, Some, length, refl, sym, ap, subst, ◌∙◌, inl, inr, arith}
use Rattle.std.specs.Bool.{OnTrue, OnFalse}
use Rattle.std.proofs.lemmas.List.{append-nil}
use Rattle.std.proofs.lemmas.Result.{err_from_is_err_and}
use Rattle.term_values.specs.Trees.{Among}
use Rattle.mech_rows.specs.Heads.{me}
use Rattle.mech_rows.specs.declared.refusal.Refusal.TheVariants.{Memory}
use Rattle.agreement_laws.specs.Configs.{Config, names_in}
use Rattle.agreement_laws.specs.Traces.{RunId}
use Rattle.node_desk.specs.declared.event.Event.TheVariants.{Open, Drop}
use Rattle.node_desk.specs.Desks.{node_at}
use Rattle.node_desk.specs.Helds.{Held}
use Rattle.node_desk.specs.Openings.{opening_refusal}
use Rattle.node_desk.specs.Refusals.{run_refusal}
use Rattle.world_run.specs.Kept.{IsKept, view_of}
use Rattle.world_run.specs.Makings.{IsBrokenOff, SaysFirst}
use Rattle.world_run.specs.Opens.{next_run, open_refusal, opened_by}
use Rattle.world_run.specs.Parties.{HasActed, PartiesView}
use Rattle.world_run.specs.Starts.{IsUnbegun}
use Rattle.world_run.specs.Turns.{desk_in}
use Rattle.world_run.specs.Views.{held_in, sent_in, WorldView}
use Rattle.world_run.proofs.Acts.{sent_snoc}
use Rattle.world_run.proofs.Handing.{view_reserved}
use Rattle.world_run.proofs.Openings.{grown_begun, grown_left, id_is, kept_dropped, kept_opened, left_given_up, left_same, opened_begun, opened_view, refused_so, refused_unbegun, refused_unknown, unlisted_now}
use Rattle.world_run.proofs.Quiet.{kept_same}
use Rattle.world_run.proofs.Starting.{left_held}
use Rattle.world_run.proofs.opening.open_in.Goals as goal

named_so : (m n run : ℕ) → n ≡ m → ◌≡◌ {A = RunId} (record { party = n; number = run }) (record { party = m; number = run })
named_so m n run e = λ i. record { party = e i; number = run }

was_dropped : (r : Bool) (P : Type 0) (held : Option Held) → OnTrue r P → OnFalse r (run_refusal held ≢ None) → run_refusal held ≡ None → P
was_dropped true P held p over open_ = p
was_dropped false P held p over open_ = absurd (over open_)

pub returns-then-not-has-clause-refused : goal.returns-then-not-has-clause-refused
returns-then-not-has-clause-refused c = λ other. inl (refused_unknown (view_of c.args.scene.now) c.args.head.now (λ a. let t = c.has.ensures.1 (subst (λ (n : ℕ). Among n (names_in c.args.scene.now.parties.config)) (sym c.me-party.ensures.name) a) in let f = c.if-not-has.true in absurd (cc)), refl)

pub returns-then-not-has-clause-left : goal.returns-then-not-has-clause-left
returns-then-not-has-clause-left c = λ _. left_same (view_of c.args.scene.now) c.args.head.now c.args.texts.now (view_of c.args.scene.now) refl

pub returns-then-not-has-clause-grows : goal.returns-then-not-has-clause-grows
returns-then-not-has-clause-grows c = grown_left (view_of c.args.scene.now) c.args.head.now c.args.texts.now (view_of c.args.scene.now) (left_same (view_of c.args.scene.now) c.args.head.now c.args.texts.now (view_of c.args.scene.now) refl)

pub opening_refusal-requires : goal.opening_refusal-requires
opening_refusal-requires c = record { declared = subst (λ (n : ℕ). Among n (names_in c.args.scene.now.parties.config)) c.me-party.ensures.name (c.has.ensures.0 c.if-not-has.false) }

pub returns-in-Some-clause-refused : goal.returns-in-Some-clause-refused
returns-in-Some-clause-refused c = λ other. inl (refused_so (view_of c.args.scene.now) c.args.head.now (Some c.in-Some.refusal) (subst (λ (n : ℕ). Among n (names_in c.args.scene.now.parties.config)) c.me-party.ensures.name (c.has.ensures.0 c.if-not-has.false)) (sym c.in-Some.ensures.refusal), refl)

pub returns-in-Some-clause-left : goal.returns-in-Some-clause-left
returns-in-Some-clause-left c = λ _. left_same (view_of c.args.scene.now) c.args.head.now c.args.texts.now (view_of c.args.scene.now) refl

pub returns-in-Some-clause-memory : goal.returns-in-Some-clause-memory
returns-in-Some-clause-memory c = λ is. absurd (c.in-Some.ensures.memory (let want : c.in-Some.refusal ≡ Memory = cc in ap Some want))

pub returns-in-Some-clause-grows : goal.returns-in-Some-clause-grows
returns-in-Some-clause-grows c = grown_left (view_of c.args.scene.now) c.args.head.now c.args.texts.now (view_of c.args.scene.now) (left_same (view_of c.args.scene.now) c.args.head.now c.args.texts.now (view_of c.args.scene.now) refl)

pub returns-in_err-reserve-clause-memory : goal.returns-in_err-reserve-clause-memory
returns-in_err-reserve-clause-memory c = λ _. refused_so (view_of c.args.scene.now) c.args.head.now None (subst (λ (n : ℕ). Among n (names_in c.args.scene.now.parties.config)) c.me-party.ensures.name (c.has.ensures.0 c.if-not-has.false)) (sym c.in_default.ensures.refusal)

pub returns-in_err-run-clause-memory : goal.returns-in_err-run-clause-memory
returns-in_err-run-clause-memory c = λ _. refused_so (view_of c.args.scene.now) c.args.head.now None (subst (λ (n : ℕ). Among n (names_in c.args.scene.now.parties.config)) c.me-party.ensures.name (c.has.ensures.0 c.if-not-has.false)) (sym c.in_default.ensures.refusal)

pub returns-in-Err-clause-memory : goal.returns-in-Err-clause-memory
returns-in-Err-clause-memory c = λ _. refused_so (view_of c.args.scene.now) c.args.head.now None (subst (λ (n : ℕ). Among n (names_in c.args.scene.now.parties.config)) c.me-party.ensures.name (c.has.ensures.0 c.if-not-has.false)) (sym c.in_default.ensures.refusal)

pub returns-in_err-reserve-clause-kept : goal.returns-in_err-reserve-clause-kept
returns-in_err-reserve-clause-kept c = (kept_same c.args.scene.now (record c.args.scene.now { parties = c.reserve.new.self }) c.requires.kept (view_reserved c.args.scene.now c.reserve.new.self c.reserve.ensures.same) refl refl c.reserve.ensures.grows)

pub returns-in_err-reserve-clause-left : goal.returns-in_err-reserve-clause-left
returns-in_err-reserve-clause-left c = λ _. left_same (view_of c.args.scene.now) c.args.head.now c.args.texts.now (view_of (record c.args.scene.now { parties = c.reserve.new.self })) (view_reserved c.args.scene.now c.reserve.new.self c.reserve.ensures.same)

pub returns-in_err-reserve-clause-grows : goal.returns-in_err-reserve-clause-grows
returns-in_err-reserve-clause-grows c = grown_left (view_of c.args.scene.now) c.args.head.now c.args.texts.now (view_of (record c.args.scene.now { parties = c.reserve.new.self })) (left_same (view_of c.args.scene.now) c.args.head.now c.args.texts.now (view_of (record c.args.scene.now { parties = c.reserve.new.self })) (view_reserved c.args.scene.now c.reserve.new.self c.reserve.ensures.same))

pub open_run-requires-clause-declared : goal.open_run-requires-clause-declared
open_run-requires-clause-declared c = subst (λ (k : Config). Among (me c.args.head.now) (names_in k)) (sym c.reserve.ensures.same.config) (subst (λ (n : ℕ). Among n (names_in c.args.scene.now.parties.config)) c.me-party.ensures.name (c.has.ensures.0 c.if-not-has.false))

pub open_run-requires-clause-room : goal.open_run-requires-clause-room
open_run-requires-clause-room c = omega (arith, c.in_ok-reserve.ensures.room, c.len.ensures)

pub returns-in_err-run-clause-kept : goal.returns-in_err-run-clause-kept
returns-in_err-run-clause-kept c =
    let r = ap (λ (p : PartiesView). p.room) c.in_err-run.ensures.err in
    kept_same c.args.scene.now (record c.args.scene.now { parties = c.open_run.new.self }) c.requires.kept (ap (λ (p : PartiesView). view_of (record c.args.scene.now { parties = p })) c.in_err-run.ensures.err ∙ view_reserved c.args.scene.now c.reserve.new.self c.reserve.ensures.same) refl refl (omega (arith, r, c.reserve.ensures.grows))

pub returns-in_err-run-clause-refused : goal.returns-in_err-run-clause-refused
returns-in_err-run-clause-refused c =
    let p = err_from_is_err_and c.from_residual-in_err-run.result c.from_residual-in_err-run.ensures.1 in
    rw (p.1, p.2) (λ other. inl (refused_so (view_of c.args.scene.now) c.args.head.now (Some c.in_err-run.field-0.0) (subst (λ (n : ℕ). Among n (names_in c.args.scene.now.parties.config)) c.me-party.ensures.name (c.has.ensures.0 c.if-not-has.false)) (subst (λ (v : WorldView). opening_refusal (node_at (desk_in v (me c.args.head.now))) c.args.head.now ≡ Some c.in_err-run.field-0.0) (view_reserved c.args.scene.now c.reserve.new.self c.reserve.ensures.same) (c.in_err-run.ensures.refused other)), (ap (λ (p : PartiesView). view_of (record c.args.scene.now { parties = p })) c.in_err-run.ensures.err ∙ view_reserved c.args.scene.now c.reserve.new.self c.reserve.ensures.same)))

pub returns-in_err-run-clause-left : goal.returns-in_err-run-clause-left
returns-in_err-run-clause-left c = λ _. left_same (view_of c.args.scene.now) c.args.head.now c.args.texts.now (view_of (record c.args.scene.now { parties = c.open_run.new.self })) (ap (λ (p : PartiesView). view_of (record c.args.scene.now { parties = p })) c.in_err-run.ensures.err ∙ view_reserved c.args.scene.now c.reserve.new.self c.reserve.ensures.same)

pub returns-in_err-run-clause-grows : goal.returns-in_err-run-clause-grows
returns-in_err-run-clause-grows c = grown_left (view_of c.args.scene.now) c.args.head.now c.args.texts.now (view_of (record c.args.scene.now { parties = c.open_run.new.self })) (left_same (view_of c.args.scene.now) c.args.head.now c.args.texts.now (view_of (record c.args.scene.now { parties = c.open_run.new.self })) (ap (λ (p : PartiesView). view_of (record c.args.scene.now { parties = p })) c.in_err-run.ensures.err ∙ view_reserved c.args.scene.now c.reserve.new.self c.reserve.ensures.same))

pub begin-requires-clause-kept : goal.begin-requires-clause-kept
begin-requires-clause-kept c =
    let r = c.in_ok-run.ensures.ok.room in
    kept_opened (record c.args.scene.now { parties = c.reserve.new.self }) (record c.args.scene.now { parties = c.open_run.new.self }) c.args.head.now c.args.texts.now (kept_same c.args.scene.now (record c.args.scene.now { parties = c.reserve.new.self }) c.requires.kept (view_reserved c.args.scene.now c.reserve.new.self c.reserve.ensures.same) refl refl c.reserve.ensures.grows) c.see_head.ensures (refused_so (view_of (record c.args.scene.now { parties = c.reserve.new.self })) c.args.head.now None (subst (λ (k : Config). Among (me c.args.head.now) (names_in k)) (sym c.reserve.ensures.same.config) (subst (λ (n : ℕ). Among n (names_in c.args.scene.now.parties.config)) c.me-party.ensures.name (c.has.ensures.0 c.if-not-has.false))) c.in_ok-run.ensures.fit) (opened_view (record c.args.scene.now { parties = c.reserve.new.self }) (record c.args.scene.now { parties = c.open_run.new.self }) c.args.head.now c.args.texts.now c.in_ok-run.run' c.in_ok-run.ensures.ok c.in_ok-run.ensures.number refl refl) refl refl (omega (arith, r, c.in_ok-reserve.ensures.room, c.len.ensures, c.args.scene.now.runs.ok.0))

pub begin-requires-clause-unlisted : goal.begin-requires-clause-unlisted
begin-requires-clause-unlisted c = unlisted_now (view_of c.args.scene.now) (view_of (record c.args.scene.now { parties = c.open_run.new.self })) c.requires.kept.genuine c.args.head.now c.args.texts.now (record { party = me c.args.head.now; number = c.in_ok-run.run' }) c.see_head.ensures (subst (λ (v : WorldView). open_refusal v c.args.head.now ≡ None) (view_reserved c.args.scene.now c.reserve.new.self c.reserve.ensures.same) (refused_so (view_of (record c.args.scene.now { parties = c.reserve.new.self })) c.args.head.now None (subst (λ (k : Config). Among (me c.args.head.now) (names_in k)) (sym c.reserve.ensures.same.config) (subst (λ (n : ℕ). Among n (names_in c.args.scene.now.parties.config)) c.me-party.ensures.name (c.has.ensures.0 c.if-not-has.false))) c.in_ok-run.ensures.fit)) ((opened_view (record c.args.scene.now { parties = c.reserve.new.self }) (record c.args.scene.now { parties = c.open_run.new.self }) c.args.head.now c.args.texts.now c.in_ok-run.run' c.in_ok-run.ensures.ok c.in_ok-run.ensures.number refl refl) ∙ ap (λ (v : WorldView). opened_by v c.args.head.now c.args.texts.now) (view_reserved c.args.scene.now c.reserve.new.self c.reserve.ensures.same)) (id_is (view_of c.args.scene.now) c.args.head.now c.in_ok-run.run' (c.in_ok-run.ensures.number ∙ ap (λ (v : WorldView). next_run v (me c.args.head.now)) (view_reserved c.args.scene.now c.reserve.new.self c.reserve.ensures.same)))

pub begin-requires-clause-numbers : goal.begin-requires-clause-numbers
begin-requires-clause-numbers c =
    let sent = ap (λ (v : WorldView). length (sent_in v.acts)) ((opened_view (record c.args.scene.now { parties = c.reserve.new.self }) (record c.args.scene.now { parties = c.open_run.new.self }) c.args.head.now c.args.texts.now c.in_ok-run.run' c.in_ok-run.ensures.ok c.in_ok-run.ensures.number refl refl) ∙ ap (λ (v : WorldView). opened_by v c.args.head.now c.args.texts.now) (view_reserved c.args.scene.now c.reserve.new.self c.reserve.ensures.same)) ∙ ap length (sent_snoc c.args.scene.now.parties.acts (me c.args.head.now) (Open (next_run (view_of c.args.scene.now) (me c.args.head.now)) c.args.head.now c.args.texts.now) ∙ append-nil (sent_in c.args.scene.now.parties.acts)) in
    record { runs = c.requires.numbers.runs; messages = omega (arith, sent, c.requires.numbers.messages); draws = c.requires.numbers.draws }

pub begin-requires-clause-room : goal.begin-requires-clause-room
begin-requires-clause-room c = let r = c.in_ok-run.ensures.ok.room in omega (arith, r, c.in_ok-reserve.ensures.room, c.len.ensures, c.args.scene.now.runs.ok.0)

pub returns-in-Ok-clause-ok : goal.returns-in-Ok-clause-ok
returns-in-Ok-clause-ok c = opened_begun (view_of c.args.scene.now) c.args.head.now c.args.texts.now c.in-Ok.opened (view_of c.begin.new.scene) (view_of (record c.args.scene.now { parties = c.open_run.new.self })) (record { party = me c.args.head.now; number = c.in_ok-run.run' }) (subst (λ (v : WorldView). open_refusal v c.args.head.now ≡ None) (view_reserved c.args.scene.now c.reserve.new.self c.reserve.ensures.same) (refused_so (view_of (record c.args.scene.now { parties = c.reserve.new.self })) c.args.head.now None (subst (λ (k : Config). Among (me c.args.head.now) (names_in k)) (sym c.reserve.ensures.same.config) (subst (λ (n : ℕ). Among n (names_in c.args.scene.now.parties.config)) c.me-party.ensures.name (c.has.ensures.0 c.if-not-has.false))) c.in_ok-run.ensures.fit)) ((opened_view (record c.args.scene.now { parties = c.reserve.new.self }) (record c.args.scene.now { parties = c.open_run.new.self }) c.args.head.now c.args.texts.now c.in_ok-run.run' c.in_ok-run.ensures.ok c.in_ok-run.ensures.number refl refl) ∙ ap (λ (v : WorldView). opened_by v c.args.head.now c.args.texts.now) (view_reserved c.args.scene.now c.reserve.new.self c.reserve.ensures.same)) (id_is (view_of c.args.scene.now) c.args.head.now c.in_ok-run.run' (c.in_ok-run.ensures.number ∙ ap (λ (v : WorldView). next_run v (me c.args.head.now)) (view_reserved c.args.scene.now c.reserve.new.self c.reserve.ensures.same))) c.in-Ok.ensures.ok

pub returns-in-Ok-clause-grows : goal.returns-in-Ok-clause-grows
returns-in-Ok-clause-grows c = grown_begun (view_of c.args.scene.now) c.args.head.now c.args.texts.now c.in-Ok.opened (view_of c.begin.new.scene) (opened_begun (view_of c.args.scene.now) c.args.head.now c.args.texts.now c.in-Ok.opened (view_of c.begin.new.scene) (view_of (record c.args.scene.now { parties = c.open_run.new.self })) (record { party = me c.args.head.now; number = c.in_ok-run.run' }) (subst (λ (v : WorldView). open_refusal v c.args.head.now ≡ None) (view_reserved c.args.scene.now c.reserve.new.self c.reserve.ensures.same) (refused_so (view_of (record c.args.scene.now { parties = c.reserve.new.self })) c.args.head.now None (subst (λ (k : Config). Among (me c.args.head.now) (names_in k)) (sym c.reserve.ensures.same.config) (subst (λ (n : ℕ). Among n (names_in c.args.scene.now.parties.config)) c.me-party.ensures.name (c.has.ensures.0 c.if-not-has.false))) c.in_ok-run.ensures.fit)) ((opened_view (record c.args.scene.now { parties = c.reserve.new.self }) (record c.args.scene.now { parties = c.open_run.new.self }) c.args.head.now c.args.texts.now c.in_ok-run.run' c.in_ok-run.ensures.ok c.in_ok-run.ensures.number refl refl) ∙ ap (λ (v : WorldView). opened_by v c.args.head.now c.args.texts.now) (view_reserved c.args.scene.now c.reserve.new.self c.reserve.ensures.same)) (id_is (view_of c.args.scene.now) c.args.head.now c.in_ok-run.run' (c.in_ok-run.ensures.number ∙ ap (λ (v : WorldView). next_run v (me c.args.head.now)) (view_reserved c.args.scene.now c.reserve.new.self c.reserve.ensures.same))) c.in-Ok.ensures.ok)

pub drop_run-requires-clause-declared : goal.drop_run-requires-clause-declared
drop_run-requires-clause-declared c = subst (λ (k : Config). Among c.me-party.result (names_in k)) (sym (c.in-Err.ensures.left.config ∙ (c.in_ok-run.ensures.ok.config ∙ c.reserve.ensures.same.config))) (c.has.ensures.0 c.if-not-has.false)

pub drop_run-requires-clause-room : goal.drop_run-requires-clause-room
drop_run-requires-clause-room c = λ _. omega (arith, c.in-Err.ensures.room)

pub returns-in-Err-clause-kept : goal.returns-in-Err-clause-kept
returns-in-Err-clause-kept c =
    let u = unlisted_now (view_of c.args.scene.now) (view_of (record c.args.scene.now { parties = c.open_run.new.self })) c.requires.kept.genuine c.args.head.now c.args.texts.now (record { party = me c.args.head.now; number = c.in_ok-run.run' }) c.see_head.ensures (subst (λ (v : WorldView). open_refusal v c.args.head.now ≡ None) (view_reserved c.args.scene.now c.reserve.new.self c.reserve.ensures.same) (refused_so (view_of (record c.args.scene.now { parties = c.reserve.new.self })) c.args.head.now None (subst (λ (k : Config). Among (me c.args.head.now) (names_in k)) (sym c.reserve.ensures.same.config) (subst (λ (n : ℕ). Among n (names_in c.args.scene.now.parties.config)) c.me-party.ensures.name (c.has.ensures.0 c.if-not-has.false))) c.in_ok-run.ensures.fit)) ((opened_view (record c.args.scene.now { parties = c.reserve.new.self }) (record c.args.scene.now { parties = c.open_run.new.self }) c.args.head.now c.args.texts.now c.in_ok-run.run' c.in_ok-run.ensures.ok c.in_ok-run.ensures.number refl refl) ∙ ap (λ (v : WorldView). opened_by v c.args.head.now c.args.texts.now) (view_reserved c.args.scene.now c.reserve.new.self c.reserve.ensures.same)) (id_is (view_of c.args.scene.now) c.args.head.now c.in_ok-run.run' (c.in_ok-run.ensures.number ∙ ap (λ (v : WorldView). next_run v (me c.args.head.now)) (view_reserved c.args.scene.now c.reserve.new.self c.reserve.ensures.same))) in
    let dropped = was_dropped c.drop_run.result (HasActed c.begin.new.scene.parties c.drop_run.new.self c.me-party.result (Drop c.in_ok-run.run')) (held_in c.begin.new.scene.parties.acts (record { party = c.me-party.result; number = c.in_ok-run.run' })) c.drop_run.ensures.dropped c.drop_run.ensures.over (ap run_refusal (left_held (SaysFirst (view_of (record c.args.scene.now { parties = c.open_run.new.self })) (record { party = me c.args.head.now; number = c.in_ok-run.run' })) (view_of (record c.args.scene.now { parties = c.open_run.new.self })) (view_of c.begin.new.scene) (me c.args.head.now) (record { party = c.me-party.result; number = c.in_ok-run.run' }) c.in-Err.ensures.left ∙ (ap (held_in (record c.args.scene.now { parties = c.open_run.new.self }).parties.acts) (named_so (me c.args.head.now) c.me-party.result c.in_ok-run.run' c.me-party.ensures.name) ∙ u.current))) in
    let room = dropped.room in
    let runs = ap length c.in-Err.ensures.left.runs in
    kept_dropped c.begin.new.scene (record c.begin.new.scene { parties = c.drop_run.new.self }) (record { party = c.me-party.result; number = c.in_ok-run.run' }) u.state c.begin.ensures.kept (subst (λ (k : Config). Among c.me-party.result (names_in k)) (sym (c.in-Err.ensures.left.config ∙ (c.in_ok-run.ensures.ok.config ∙ c.reserve.ensures.same.config))) (c.has.ensures.0 c.if-not-has.false)) (left_held (SaysFirst (view_of (record c.args.scene.now { parties = c.open_run.new.self })) (record { party = me c.args.head.now; number = c.in_ok-run.run' })) (view_of (record c.args.scene.now { parties = c.open_run.new.self })) (view_of c.begin.new.scene) (me c.args.head.now) (record { party = c.me-party.result; number = c.in_ok-run.run' }) c.in-Err.ensures.left ∙ (ap (held_in (record c.args.scene.now { parties = c.open_run.new.self }).parties.acts) (named_so (me c.args.head.now) c.me-party.result c.in_ok-run.run' c.me-party.ensures.name) ∙ u.current)) (λ a. u.unlisted (subst (λ (ids : List RunId). Among (record { party = me c.args.head.now; number = c.in_ok-run.run' }) ids) c.in-Err.ensures.left.runs (subst (λ (x : RunId). Among x c.begin.new.scene.runs.items) (named_so (me c.args.head.now) c.me-party.result c.in_ok-run.run' c.me-party.ensures.name) a))) (λ i. record { config = dropped.config i; acts = dropped.acts i; clocks = dropped.clocks i; draws = c.begin.new.scene.draws.place; runs = c.begin.new.scene.runs.items }) refl refl (omega (arith, room, runs, c.in-Err.ensures.room))

pub returns-in-Err-clause-refused : goal.returns-in-Err-clause-refused
returns-in-Err-clause-refused c =
    let u = unlisted_now (view_of c.args.scene.now) (view_of (record c.args.scene.now { parties = c.open_run.new.self })) c.requires.kept.genuine c.args.head.now c.args.texts.now (record { party = me c.args.head.now; number = c.in_ok-run.run' }) c.see_head.ensures (subst (λ (v : WorldView). open_refusal v c.args.head.now ≡ None) (view_reserved c.args.scene.now c.reserve.new.self c.reserve.ensures.same) (refused_so (view_of (record c.args.scene.now { parties = c.reserve.new.self })) c.args.head.now None (subst (λ (k : Config). Among (me c.args.head.now) (names_in k)) (sym c.reserve.ensures.same.config) (subst (λ (n : ℕ). Among n (names_in c.args.scene.now.parties.config)) c.me-party.ensures.name (c.has.ensures.0 c.if-not-has.false))) c.in_ok-run.ensures.fit)) ((opened_view (record c.args.scene.now { parties = c.reserve.new.self }) (record c.args.scene.now { parties = c.open_run.new.self }) c.args.head.now c.args.texts.now c.in_ok-run.run' c.in_ok-run.ensures.ok c.in_ok-run.ensures.number refl refl) ∙ ap (λ (v : WorldView). opened_by v c.args.head.now c.args.texts.now) (view_reserved c.args.scene.now c.reserve.new.self c.reserve.ensures.same)) (id_is (view_of c.args.scene.now) c.args.head.now c.in_ok-run.run' (c.in_ok-run.ensures.number ∙ ap (λ (v : WorldView). next_run v (me c.args.head.now)) (view_reserved c.args.scene.now c.reserve.new.self c.reserve.ensures.same))) in
    let dropped = was_dropped c.drop_run.result (HasActed c.begin.new.scene.parties c.drop_run.new.self c.me-party.result (Drop c.in_ok-run.run')) (held_in c.begin.new.scene.parties.acts (record { party = c.me-party.result; number = c.in_ok-run.run' })) c.drop_run.ensures.dropped c.drop_run.ensures.over (ap run_refusal (left_held (SaysFirst (view_of (record c.args.scene.now { parties = c.open_run.new.self })) (record { party = me c.args.head.now; number = c.in_ok-run.run' })) (view_of (record c.args.scene.now { parties = c.open_run.new.self })) (view_of c.begin.new.scene) (me c.args.head.now) (record { party = c.me-party.result; number = c.in_ok-run.run' }) c.in-Err.ensures.left ∙ (ap (held_in (record c.args.scene.now { parties = c.open_run.new.self }).parties.acts) (named_so (me c.args.head.now) c.me-party.result c.in_ok-run.run' c.me-party.ensures.name) ∙ u.current))) in
    λ other. refused_unbegun (view_of c.args.scene.now) c.args.head.now c.args.texts.now c.in-Err.refusal (view_of (record c.args.scene.now { parties = c.open_run.new.self })) (view_of c.begin.new.scene) (view_of (record c.begin.new.scene { parties = c.drop_run.new.self })) (record { party = c.me-party.result; number = c.in_ok-run.run' }) (subst (λ (v : WorldView). open_refusal v c.args.head.now ≡ None) (view_reserved c.args.scene.now c.reserve.new.self c.reserve.ensures.same) (refused_so (view_of (record c.args.scene.now { parties = c.reserve.new.self })) c.args.head.now None (subst (λ (k : Config). Among (me c.args.head.now) (names_in k)) (sym c.reserve.ensures.same.config) (subst (λ (n : ℕ). Among n (names_in c.args.scene.now.parties.config)) c.me-party.ensures.name (c.has.ensures.0 c.if-not-has.false))) c.in_ok-run.ensures.fit)) ((opened_view (record c.args.scene.now { parties = c.reserve.new.self }) (record c.args.scene.now { parties = c.open_run.new.self }) c.args.head.now c.args.texts.now c.in_ok-run.run' c.in_ok-run.ensures.ok c.in_ok-run.ensures.number refl refl) ∙ ap (λ (v : WorldView). opened_by v c.args.head.now c.args.texts.now) (view_reserved c.args.scene.now c.reserve.new.self c.reserve.ensures.same)) ((named_so (me c.args.head.now) c.me-party.result c.in_ok-run.run' c.me-party.ensures.name) ∙ (id_is (view_of c.args.scene.now) c.args.head.now c.in_ok-run.run' (c.in_ok-run.ensures.number ∙ ap (λ (v : WorldView). next_run v (me c.args.head.now)) (view_reserved c.args.scene.now c.reserve.new.self c.reserve.ensures.same)))) (subst (λ (x : RunId). IsUnbegun (view_of (record c.args.scene.now { parties = c.open_run.new.self })) x c.in-Err.refusal) (sym (named_so (me c.args.head.now) c.me-party.result c.in_ok-run.run' c.me-party.ensures.name)) (c.in-Err.ensures.refused other)) (c.in-Err.ensures.stays other) (λ i. record { config = dropped.config i; acts = dropped.acts i; clocks = dropped.clocks i; draws = c.begin.new.scene.draws.place; runs = c.begin.new.scene.runs.items })

pub returns-in-Err-clause-left : goal.returns-in-Err-clause-left
returns-in-Err-clause-left c =
    let u = unlisted_now (view_of c.args.scene.now) (view_of (record c.args.scene.now { parties = c.open_run.new.self })) c.requires.kept.genuine c.args.head.now c.args.texts.now (record { party = me c.args.head.now; number = c.in_ok-run.run' }) c.see_head.ensures (subst (λ (v : WorldView). open_refusal v c.args.head.now ≡ None) (view_reserved c.args.scene.now c.reserve.new.self c.reserve.ensures.same) (refused_so (view_of (record c.args.scene.now { parties = c.reserve.new.self })) c.args.head.now None (subst (λ (k : Config). Among (me c.args.head.now) (names_in k)) (sym c.reserve.ensures.same.config) (subst (λ (n : ℕ). Among n (names_in c.args.scene.now.parties.config)) c.me-party.ensures.name (c.has.ensures.0 c.if-not-has.false))) c.in_ok-run.ensures.fit)) ((opened_view (record c.args.scene.now { parties = c.reserve.new.self }) (record c.args.scene.now { parties = c.open_run.new.self }) c.args.head.now c.args.texts.now c.in_ok-run.run' c.in_ok-run.ensures.ok c.in_ok-run.ensures.number refl refl) ∙ ap (λ (v : WorldView). opened_by v c.args.head.now c.args.texts.now) (view_reserved c.args.scene.now c.reserve.new.self c.reserve.ensures.same)) (id_is (view_of c.args.scene.now) c.args.head.now c.in_ok-run.run' (c.in_ok-run.ensures.number ∙ ap (λ (v : WorldView). next_run v (me c.args.head.now)) (view_reserved c.args.scene.now c.reserve.new.self c.reserve.ensures.same))) in
    let dropped = was_dropped c.drop_run.result (HasActed c.begin.new.scene.parties c.drop_run.new.self c.me-party.result (Drop c.in_ok-run.run')) (held_in c.begin.new.scene.parties.acts (record { party = c.me-party.result; number = c.in_ok-run.run' })) c.drop_run.ensures.dropped c.drop_run.ensures.over (ap run_refusal (left_held (SaysFirst (view_of (record c.args.scene.now { parties = c.open_run.new.self })) (record { party = me c.args.head.now; number = c.in_ok-run.run' })) (view_of (record c.args.scene.now { parties = c.open_run.new.self })) (view_of c.begin.new.scene) (me c.args.head.now) (record { party = c.me-party.result; number = c.in_ok-run.run' }) c.in-Err.ensures.left ∙ (ap (held_in (record c.args.scene.now { parties = c.open_run.new.self }).parties.acts) (named_so (me c.args.head.now) c.me-party.result c.in_ok-run.run' c.me-party.ensures.name) ∙ u.current))) in
    λ _. left_given_up (view_of c.args.scene.now) c.args.head.now c.args.texts.now (view_of (record c.args.scene.now { parties = c.open_run.new.self })) (view_of c.begin.new.scene) (view_of (record c.begin.new.scene { parties = c.drop_run.new.self })) (record { party = c.me-party.result; number = c.in_ok-run.run' }) (subst (λ (v : WorldView). open_refusal v c.args.head.now ≡ None) (view_reserved c.args.scene.now c.reserve.new.self c.reserve.ensures.same) (refused_so (view_of (record c.args.scene.now { parties = c.reserve.new.self })) c.args.head.now None (subst (λ (k : Config). Among (me c.args.head.now) (names_in k)) (sym c.reserve.ensures.same.config) (subst (λ (n : ℕ). Among n (names_in c.args.scene.now.parties.config)) c.me-party.ensures.name (c.has.ensures.0 c.if-not-has.false))) c.in_ok-run.ensures.fit)) ((opened_view (record c.args.scene.now { parties = c.reserve.new.self }) (record c.args.scene.now { parties = c.open_run.new.self }) c.args.head.now c.args.texts.now c.in_ok-run.run' c.in_ok-run.ensures.ok c.in_ok-run.ensures.number refl refl) ∙ ap (λ (v : WorldView). opened_by v c.args.head.now c.args.texts.now) (view_reserved c.args.scene.now c.reserve.new.self c.reserve.ensures.same)) ((named_so (me c.args.head.now) c.me-party.result c.in_ok-run.run' c.me-party.ensures.name) ∙ (id_is (view_of c.args.scene.now) c.args.head.now c.in_ok-run.run' (c.in_ok-run.ensures.number ∙ ap (λ (v : WorldView). next_run v (me c.args.head.now)) (view_reserved c.args.scene.now c.reserve.new.self c.reserve.ensures.same)))) (subst (λ (n : ℕ). IsBrokenOff (SaysFirst (view_of (record c.args.scene.now { parties = c.open_run.new.self })) (record { party = n; number = c.in_ok-run.run' })) (view_of (record c.args.scene.now { parties = c.open_run.new.self })) (view_of c.begin.new.scene) n) (sym c.me-party.ensures.name) c.in-Err.ensures.left) (λ i. record { config = dropped.config i; acts = dropped.acts i; clocks = dropped.clocks i; draws = c.begin.new.scene.draws.place; runs = c.begin.new.scene.runs.items })

pub returns-in-Err-clause-grows : goal.returns-in-Err-clause-grows
returns-in-Err-clause-grows c =
    let u = unlisted_now (view_of c.args.scene.now) (view_of (record c.args.scene.now { parties = c.open_run.new.self })) c.requires.kept.genuine c.args.head.now c.args.texts.now (record { party = me c.args.head.now; number = c.in_ok-run.run' }) c.see_head.ensures (subst (λ (v : WorldView). open_refusal v c.args.head.now ≡ None) (view_reserved c.args.scene.now c.reserve.new.self c.reserve.ensures.same) (refused_so (view_of (record c.args.scene.now { parties = c.reserve.new.self })) c.args.head.now None (subst (λ (k : Config). Among (me c.args.head.now) (names_in k)) (sym c.reserve.ensures.same.config) (subst (λ (n : ℕ). Among n (names_in c.args.scene.now.parties.config)) c.me-party.ensures.name (c.has.ensures.0 c.if-not-has.false))) c.in_ok-run.ensures.fit)) ((opened_view (record c.args.scene.now { parties = c.reserve.new.self }) (record c.args.scene.now { parties = c.open_run.new.self }) c.args.head.now c.args.texts.now c.in_ok-run.run' c.in_ok-run.ensures.ok c.in_ok-run.ensures.number refl refl) ∙ ap (λ (v : WorldView). opened_by v c.args.head.now c.args.texts.now) (view_reserved c.args.scene.now c.reserve.new.self c.reserve.ensures.same)) (id_is (view_of c.args.scene.now) c.args.head.now c.in_ok-run.run' (c.in_ok-run.ensures.number ∙ ap (λ (v : WorldView). next_run v (me c.args.head.now)) (view_reserved c.args.scene.now c.reserve.new.self c.reserve.ensures.same))) in
    let dropped = was_dropped c.drop_run.result (HasActed c.begin.new.scene.parties c.drop_run.new.self c.me-party.result (Drop c.in_ok-run.run')) (held_in c.begin.new.scene.parties.acts (record { party = c.me-party.result; number = c.in_ok-run.run' })) c.drop_run.ensures.dropped c.drop_run.ensures.over (ap run_refusal (left_held (SaysFirst (view_of (record c.args.scene.now { parties = c.open_run.new.self })) (record { party = me c.args.head.now; number = c.in_ok-run.run' })) (view_of (record c.args.scene.now { parties = c.open_run.new.self })) (view_of c.begin.new.scene) (me c.args.head.now) (record { party = c.me-party.result; number = c.in_ok-run.run' }) c.in-Err.ensures.left ∙ (ap (held_in (record c.args.scene.now { parties = c.open_run.new.self }).parties.acts) (named_so (me c.args.head.now) c.me-party.result c.in_ok-run.run' c.me-party.ensures.name) ∙ u.current))) in
    grown_left (view_of c.args.scene.now) c.args.head.now c.args.texts.now (view_of (record c.begin.new.scene { parties = c.drop_run.new.self })) (left_given_up (view_of c.args.scene.now) c.args.head.now c.args.texts.now (view_of (record c.args.scene.now { parties = c.open_run.new.self })) (view_of c.begin.new.scene) (view_of (record c.begin.new.scene { parties = c.drop_run.new.self })) (record { party = c.me-party.result; number = c.in_ok-run.run' }) (subst (λ (v : WorldView). open_refusal v c.args.head.now ≡ None) (view_reserved c.args.scene.now c.reserve.new.self c.reserve.ensures.same) (refused_so (view_of (record c.args.scene.now { parties = c.reserve.new.self })) c.args.head.now None (subst (λ (k : Config). Among (me c.args.head.now) (names_in k)) (sym c.reserve.ensures.same.config) (subst (λ (n : ℕ). Among n (names_in c.args.scene.now.parties.config)) c.me-party.ensures.name (c.has.ensures.0 c.if-not-has.false))) c.in_ok-run.ensures.fit)) ((opened_view (record c.args.scene.now { parties = c.reserve.new.self }) (record c.args.scene.now { parties = c.open_run.new.self }) c.args.head.now c.args.texts.now c.in_ok-run.run' c.in_ok-run.ensures.ok c.in_ok-run.ensures.number refl refl) ∙ ap (λ (v : WorldView). opened_by v c.args.head.now c.args.texts.now) (view_reserved c.args.scene.now c.reserve.new.self c.reserve.ensures.same)) ((named_so (me c.args.head.now) c.me-party.result c.in_ok-run.run' c.me-party.ensures.name) ∙ (id_is (view_of c.args.scene.now) c.args.head.now c.in_ok-run.run' (c.in_ok-run.ensures.number ∙ ap (λ (v : WorldView). next_run v (me c.args.head.now)) (view_reserved c.args.scene.now c.reserve.new.self c.reserve.ensures.same)))) (subst (λ (n : ℕ). IsBrokenOff (SaysFirst (view_of (record c.args.scene.now { parties = c.open_run.new.self })) (record { party = n; number = c.in_ok-run.run' })) (view_of (record c.args.scene.now { parties = c.open_run.new.self })) (view_of c.begin.new.scene) n) (sym c.me-party.ensures.name) c.in-Err.ensures.left) (λ i. record { config = dropped.config i; acts = dropped.acts i; clocks = dropped.clocks i; draws = c.begin.new.scene.draws.place; runs = c.begin.new.scene.runs.items }))
