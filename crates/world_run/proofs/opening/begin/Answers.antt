use Rattle.std.proofs.Common.{◌≡◌, ◌≢◌, ◌<◌, ◌≤◌, ◌-◌, ◌+◌, ℕ, [], ◌∷◌, ◌++◌, Some, length, slice_get, take, refl, sym, ap, subst, ◌∙◌, inl, inr, arith}
use Rattle.std.proofs.lemmas.List.{length-append}
use Rattle.std.proofs.lemmas.Result.{err_from_is_err_and}
use Rattle.term_values.specs.Trees.{Among}
use Rattle.mech_rows.specs.Heads.{me}
use Rattle.mech_rows.specs.Verdict.{State}
use Rattle.agreement_laws.specs.Traces.{RunId}
use Rattle.world_run.specs.declared.opened.Opened.{Opened}
use Rattle.world_run.specs.Kept.{HasStepped, view_of}
use Rattle.world_run.specs.Makings.{IsBrokenOff, IsNotFirst, SaysFirst}
use Rattle.world_run.specs.Starts.{HasSpoken, listed}
use Rattle.world_run.specs.Views.{sent_in, WorldView}
use Rattle.world_run.proofs.Starting.{has_waited, is_unbegun, last_is, left_stepped, rest_is, unlisted_left}
use Rattle.world_run.proofs.opening.begin.Goals as goal

named_so : (m n run : ℕ) → n ≡ m → ◌≡◌ {A = RunId} (record { party = n; number = run }) (record { party = m; number = run })
named_so m n run e = λ i. record { party = e i; number = run }

some_same : (x y : RunId) → Some x ≡ Some y → x ≡ y
some_same x y e = cc

-- nothing has changed
same_left : (Due : State → Type 0) (w v : WorldView) (n : ℕ) → v ≡ w → IsBrokenOff Due w v n
same_left Due w v n e = record {
  part = inl (ap (λ (x : WorldView). x.acts) e, ap (λ (x : WorldView). x.draws) e);
  config = λ i. (e i).config;
  clocks = λ i. (e i).clocks;
  runs = λ i. (e i).runs;
}

pub returns-in_err-enlist-clause-refused : goal.returns-in_err-enlist-clause-refused
returns-in_err-enlist-clause-refused c =
    let p = err_from_is_err_and c.from_residual.result c.from_residual.ensures.1 in
    rw (p.1, p.2) (λ other. absurd (other c.in_err-enlist.ensures.memory))

pub returns-in_err-enlist-clause-stays : goal.returns-in_err-enlist-clause-stays
returns-in_err-enlist-clause-stays c =
    let p = err_from_is_err_and c.from_residual.result c.from_residual.ensures.1 in
    rw (p.1, p.2) (λ other. absurd (other c.in_err-enlist.ensures.memory))

pub returns-in_err-enlist-clause-left : goal.returns-in_err-enlist-clause-left
returns-in_err-enlist-clause-left c =
    let p = err_from_is_err_and c.from_residual.result c.from_residual.ensures.1 in
    rw p.1 (same_left (SaysFirst (view_of c.args.scene.now) (record { party = me c.args.head.now; number = c.args.run })) (view_of c.args.scene.now) (view_of c.enlist.new.scene) (me c.args.head.now) c.in_err-enlist.ensures.err)

pub returns-in_err-enlist-clause-room : goal.returns-in_err-enlist-clause-room
returns-in_err-enlist-clause-room c =
    let p = err_from_is_err_and c.from_residual.result c.from_residual.ensures.1 in
    rw p.1 (omega (arith, c.enlist.ensures.room, c.requires.room))

pub returns-then-not-branch-clause-ok : goal.returns-then-not-branch-clause-ok
returns-then-not-branch-clause-ok c = inl (has_waited (view_of c.args.scene.now) (view_of c.enlist.new.scene) (record { party = me c.args.head.now; number = c.args.run }) c.in_ok-enlist.field-0 _ c.in_ok-enlist.ensures.ok c.if-not-branch.true (c.len.ensures ∙ c.enlist.new.scene.runs.ok.0) refl refl)

pub speak-requires-clause-some : goal.speak-requires-clause-some
speak-requires-clause-some c =
    let e = ap length (ap (λ (v : WorldView). v.runs) c.in_ok-enlist.ensures.ok.leaves) ∙ length-append c.args.scene.now.runs.items ((record { party = me c.args.head.now; number = c.args.run }) ∷ []) in
    omega (arith, e)

pub speak-requires-clause-last : goal.speak-requires-clause-last
speak-requires-clause-last c = last_is c.enlist.new.scene.runs.items c.args.scene.now.runs.items (record { party = c.me-party.result; number = c.args.run }) (ap (λ (v : WorldView). v.runs) c.in_ok-enlist.ensures.ok.leaves ∙ ap (λ (x : RunId). c.args.scene.now.runs.items ++ x ∷ []) (sym (named_so (me c.args.head.now) c.me-party.result c.args.run c.me-party.ensures.name)))

pub speak-requires-clause-runs : goal.speak-requires-clause-runs
speak-requires-clause-runs c =
    let e = ap length (ap (λ (v : WorldView). v.runs) c.in_ok-enlist.ensures.ok.leaves) ∙ length-append c.args.scene.now.runs.items ((record { party = me c.args.head.now; number = c.args.run }) ∷ []) in
    omega (arith, e, c.requires.numbers.runs)

pub speak-requires-clause-messages : goal.speak-requires-clause-messages
speak-requires-clause-messages c = let e = ap (λ (v : WorldView). length (sent_in v.acts)) c.in_ok-enlist.ensures.ok.leaves in omega (arith, e, c.requires.numbers.messages)

pub speak-requires-clause-draws : goal.speak-requires-clause-draws
speak-requires-clause-draws c = let e = ap (λ (v : WorldView). v.draws) c.in_ok-enlist.ensures.ok.leaves in omega (arith, e, c.requires.numbers.draws)

pub speak-requires-clause-room : goal.speak-requires-clause-room
speak-requires-clause-room c =
    let e = ap length (ap (λ (v : WorldView). v.runs) c.in_ok-enlist.ensures.ok.leaves) ∙ length-append c.args.scene.now.runs.items ((record { party = me c.args.head.now; number = c.args.run }) ∷ []) in
    omega (arith, e, c.enlist.ensures.room, c.requires.room)

pub returns-in-Ok-clause-ok : goal.returns-in-Ok-clause-ok
returns-in-Ok-clause-ok c = inr (subst (λ (x : RunId). HasSpoken (listed (view_of c.args.scene.now) (record { party = me c.args.head.now; number = c.args.run })) x c.in-Ok.opened (view_of c.speak.new.scene)) (named_so (me c.args.head.now) c.me-party.result c.args.run c.me-party.ensures.name) (subst (λ (v : WorldView). HasSpoken v (record { party = c.me-party.result; number = c.args.run }) c.in-Ok.opened (view_of c.speak.new.scene)) c.in_ok-enlist.ensures.ok.leaves c.in-Ok.ensures.ok))

pub unlist-requires-clause-some : goal.unlist-requires-clause-some
unlist-requires-clause-some c =
    let e = ap length (c.in-Err.ensures.left.runs ∙ (ap (λ (v : WorldView). v.runs) c.in_ok-enlist.ensures.ok.leaves ∙ ap (λ (x : RunId). c.args.scene.now.runs.items ++ x ∷ []) (sym (named_so (me c.args.head.now) c.me-party.result c.args.run c.me-party.ensures.name)))) ∙ length-append c.args.scene.now.runs.items ((record { party = c.me-party.result; number = c.args.run }) ∷ []) in
    omega (arith, e)

pub unlist-requires-clause-still : goal.unlist-requires-clause-still
unlist-requires-clause-still c = λ x at stepped.
    let last = last_is c.speak.new.scene.runs.items c.args.scene.now.runs.items (record { party = c.me-party.result; number = c.args.run }) (c.in-Err.ensures.left.runs ∙ (ap (λ (v : WorldView). v.runs) c.in_ok-enlist.ensures.ok.leaves ∙ ap (λ (x : RunId). c.args.scene.now.runs.items ++ x ∷ []) (sym (named_so (me c.args.head.now) c.me-party.result c.args.run c.me-party.ensures.name)))) in
    let same = some_same _ _ (sym at ∙ last) ∙ (named_so (me c.args.head.now) c.me-party.result c.args.run c.me-party.ensures.name) in
    let early = subst (λ (v : WorldView). HasStepped v.acts x) c.in_ok-enlist.ensures.ok.leaves (left_stepped (SaysFirst (view_of c.enlist.new.scene) (record { party = c.me-party.result; number = c.args.run })) (view_of c.enlist.new.scene) (view_of c.speak.new.scene) c.me-party.result x c.in-Err.ensures.left stepped) in
    c.requires.unlisted.unlisted (subst (λ (y : RunId). Among y c.args.scene.now.runs.items) same (c.requires.kept.genuine.runs.stepped x early))

pub unlist-requires-clause-room : goal.unlist-requires-clause-room
unlist-requires-clause-room c =
    let e = ap length (c.in-Err.ensures.left.runs ∙ (ap (λ (v : WorldView). v.runs) c.in_ok-enlist.ensures.ok.leaves ∙ ap (λ (x : RunId). c.args.scene.now.runs.items ++ x ∷ []) (sym (named_so (me c.args.head.now) c.me-party.result c.args.run c.me-party.ensures.name)))) ∙ length-append c.args.scene.now.runs.items ((record { party = c.me-party.result; number = c.args.run }) ∷ []) in
    omega (arith, e, c.enlist.ensures.room, c.in-Err.ensures.room, c.requires.room)

pub returns-in-Err-clause-refused : goal.returns-in-Err-clause-refused
returns-in-Err-clause-refused c = λ other.
    is_unbegun (view_of c.args.scene.now) (record { party = me c.args.head.now; number = c.args.run }) c.in_ok-enlist.ensures.ok.state c.in-Err.refusal c.in_ok-enlist.ensures.ok.current (sym c.in_ok-enlist.ensures.ok.first_is ∙ c.if-not-branch.false)
    (subst (λ (x : RunId). IsNotFirst (listed (view_of c.args.scene.now) (record { party = me c.args.head.now; number = c.args.run })) x c.in-Err.refusal) (named_so (me c.args.head.now) c.me-party.result c.args.run c.me-party.ensures.name) (subst (λ (v : WorldView). IsNotFirst v (record { party = c.me-party.result; number = c.args.run }) c.in-Err.refusal) c.in_ok-enlist.ensures.ok.leaves (c.in-Err.ensures.refused other)))

pub returns-in-Err-clause-stays : goal.returns-in-Err-clause-stays
returns-in-Err-clause-stays c = λ other.
    let same = c.in-Err.ensures.stays other ∙ c.in_ok-enlist.ensures.ok.leaves in
    let rest = rest_is c.speak.new.scene.runs.items c.args.scene.now.runs.items (record { party = c.me-party.result; number = c.args.run }) (c.in-Err.ensures.left.runs ∙ (ap (λ (v : WorldView). v.runs) c.in_ok-enlist.ensures.ok.leaves ∙ ap (λ (x : RunId). c.args.scene.now.runs.items ++ x ∷ []) (sym (named_so (me c.args.head.now) c.me-party.result c.args.run c.me-party.ensures.name)))) in
    c.unlist.ensures.leaves ∙ (λ i. record (same i) { runs = rest i })

pub returns-in-Err-clause-left : goal.returns-in-Err-clause-left
returns-in-Err-clause-left c =
    let rest = rest_is c.speak.new.scene.runs.items c.args.scene.now.runs.items (record { party = c.me-party.result; number = c.args.run }) (c.in-Err.ensures.left.runs ∙ (ap (λ (v : WorldView). v.runs) c.in_ok-enlist.ensures.ok.leaves ∙ ap (λ (x : RunId). c.args.scene.now.runs.items ++ x ∷ []) (sym (named_so (me c.args.head.now) c.me-party.result c.args.run c.me-party.ensures.name)))) in
    let left = subst (λ (v : WorldView). IsBrokenOff (SaysFirst v (record { party = me c.args.head.now; number = c.args.run })) v (view_of c.speak.new.scene) (me c.args.head.now)) c.in_ok-enlist.ensures.ok.leaves (subst (λ (n : ℕ). IsBrokenOff (SaysFirst (view_of c.enlist.new.scene) (record { party = n; number = c.args.run })) (view_of c.enlist.new.scene) (view_of c.speak.new.scene) n) c.me-party.ensures.name c.in-Err.ensures.left) in
    unlisted_left (view_of c.args.scene.now) (view_of c.speak.new.scene) (view_of c.unlist.new.scene) (record { party = me c.args.head.now; number = c.args.run }) left (c.unlist.ensures.leaves ∙ (λ i. record (view_of c.speak.new.scene) { runs = rest i }))

pub returns-in-Err-clause-room : goal.returns-in-Err-clause-room
returns-in-Err-clause-room c = omega (arith, c.enlist.ensures.room, c.in-Err.ensures.room, c.unlist.ensures.room, c.requires.room)
