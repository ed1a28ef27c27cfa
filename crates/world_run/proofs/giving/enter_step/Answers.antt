use Rattle.std.proofs.Common.{◌≡◌, ◌≢◌, ◌<◌, ◌+◌, ◌++◌, List, Option, Some, get_or, length, set, slice_get, option_map, refl, sym, ap, subst, ◌∙◌, arith, vec_len}
use Rattle.std.specs.Option.{option_to_list}
use Rattle.term_values.specs.Trees.{Tree}
use Rattle.attacker_model.specs.Knowledge.{Learnt}
use Rattle.mech_rows.specs.declared.refusal.Refusal.TheVariants.{Memory}
use Rattle.mech_rows.specs.Moves.{Move}
use Rattle.agreement_laws.specs.declared.history.Happened.{Happened}
use Rattle.agreement_laws.specs.Histories.{HistoryOf}
use Rattle.agreement_laws.specs.Traces.{RunId}
use Rattle.node_desk.specs.Deliveries.{MayCommit}
use Rattle.node_desk.specs.Desks.{node_at}
use Rattle.node_desk.specs.Refusals.{got_refusal}
use Rattle.world_run.specs.declared.given.Given.{Given}
use Rattle.world_run.specs.declared.scene.Scene.{Scene}
use Rattle.world_run.specs.Clocks.{clock_in}
use Rattle.world_run.specs.Kept.{IsEntered, IsKept, IsReady, view_of}
use Rattle.world_run.specs.Parties.{PartiesView}
use Rattle.world_run.specs.Turns.{desk_in}
use Rattle.world_run.specs.Views.{WorldView}
use Rattle.world_run.proofs.Entering.{declared_here, got_within, happened_length, is_entered, kept_entered, renoted, sent_is}
use Rattle.world_run.proofs.Quiet.{kept_same}
use Rattle.world_run.proofs.Sealings.{tested_step}
use Rattle.world_run.proofs.giving.enter_step.Goals as goal

-- a step that was not entered has left the world as it was
same_view : (s : Scene) → (p : PartiesView) (l : Learnt) (h : HistoryOf) → p ≡ s.parties → view_of (record s { parties = p; knowledge = l; history = h }) ≡ view_of s
same_view s p l h e = λ i. record { config = (e i).config; acts = (e i).acts; clocks = (e i).clocks; draws = s.draws.place; runs = s.runs.items }

kept_refused : (s : Scene) → IsKept s → (p : PartiesView) (l : Learnt) (h : HistoryOf) → p ≡ s.parties → l.given ≡ s.knowledge.given → h ≡ s.history → IsKept (record s { parties = p; knowledge = l; history = h })
kept_refused s k p l h e given history = kept_same s (record s { parties = p; knowledge = l; history = h }) k (same_view s p l h e) given history (let r = ap (λ (q : PartiesView). q.room) e in omega (arith, r))

entered_by : (w : WorldView) (x y : RunId) (step : Move) (g : Given) (v : WorldView) → x ≡ y → IsEntered w x step g v → IsEntered w y step g v
entered_by w x y step g v e p = subst (λ (z : RunId). IsEntered w z step g v) e p

pub returns-in_default-clause-kept : goal.returns-in_default-clause-kept
returns-in_default-clause-kept c = kept_refused c.args.scene.now c.requires.kept c.args.scene.now.parties c.made_ready.new.knowledge _ refl c.made_ready.ensures.given ((λ i. record { revealed = c.history.inside.revealed.items; happened = c.history.inside.happened.items; sent = c.made_ready.ensures.sent i; given = c.history.inside.given.items }) ∙ c.history.view_is)

pub returns-in_default-clause-refused : goal.returns-in_default-clause-refused
returns-in_default-clause-refused c = λ other. absurd (other c.given_up.ensures)

pub returns-in_default-clause-err : goal.returns-in_default-clause-err
returns-in_default-clause-err c = refl

pub returns-in_default-clause-room : goal.returns-in_default-clause-room
returns-in_default-clause-room c = refl

pub enter-requires-clause-declared : goal.enter-requires-clause-declared
enter-requires-clause-declared c =
    let at = subst (λ (x : RunId). slice_get c.args.scene.now.runs.items c.args.place ≡ Some x) (sym c.id.view_is) c.requires.numbered in
    let may = subst (λ (x : RunId). MayCommit (desk_in (view_of c.args.scene.now) x.party) x.number c.args.step) (sym c.id.view_is) c.requires.may in
    let ready = subst (λ (x : RunId). IsReady (view_of c.args.scene.now) x.party c.args.step) (sym c.id.view_is) c.requires.ready in
    declared_here c.args.scene.now c.requires.kept c.args.place (record { party = c.id.inside.party; number = c.id.inside.run }) at c.args.step may ready

pub enter-requires-clause-room : goal.enter-requires-clause-room
enter-requires-clause-room c = omega (arith, c.requires.room)

pub enter-requires-clause-may : goal.enter-requires-clause-may
enter-requires-clause-may c = subst (λ (x : RunId). MayCommit (desk_in (view_of c.args.scene.now) x.party) x.number c.args.step) (sym c.id.view_is) c.requires.may

pub enter-requires-clause-symbolic : goal.enter-requires-clause-symbolic
enter-requires-clause-symbolic c =
    let ready = subst (λ (x : RunId). IsReady (view_of c.args.scene.now) x.party c.args.step) (sym c.id.view_is) c.requires.ready in
    tested_step _ _ ready.is_step

pub returns-in-Err-clause-kept : goal.returns-in-Err-clause-kept
returns-in-Err-clause-kept c = kept_refused c.args.scene.now c.requires.kept c.enter.new.self c.made_ready.new.knowledge _ c.in-Err.ensures.err c.made_ready.ensures.given ((λ i. record { revealed = c.history.inside.revealed.items; happened = c.history.inside.happened.items; sent = c.made_ready.ensures.sent i; given = c.history.inside.given.items }) ∙ c.history.view_is)

pub returns-in-Err-clause-refused : goal.returns-in-Err-clause-refused
returns-in-Err-clause-refused c =
    rw c.given_up-in-Err.ensures (subst (λ (x : RunId). c.in-Err.refusal ≢ Memory → got_refusal (node_at (desk_in (view_of c.args.scene.now) x.party)) (clock_in (view_of c.args.scene.now) x.party) c.args.step.got ≡ Some c.in-Err.refusal) c.id.view_is c.in-Err.ensures.refused)

pub returns-in-Err-clause-err : goal.returns-in-Err-clause-err
returns-in-Err-clause-err c = same_view c.args.scene.now c.enter.new.self c.made_ready.new.knowledge c.args.scene.now.history c.in-Err.ensures.err

pub returns-in-Err-clause-room : goal.returns-in-Err-clause-room
returns-in-Err-clause-room c = ap (λ (p : PartiesView). p.room) c.in-Err.ensures.err

pub hear-sent-requires-clause-few : goal.hear-sent-requires-clause-few
hear-sent-requires-clause-few c =
    let sent = ap length ((c.made_ready.ensures.sent ∙ (λ j. (c.history.view_is j).sent)) ∙ sent_is c.args.scene.now c.requires.kept) in
    omega (arith, c.requires.few, sent, c.made_ready.new.sent.ok.0)

pub retell-requires : goal.retell-requires
retell-requires c =
    let long = ap length (λ i. (c.history.view_is i).happened) ∙ happened_length c.args.scene.now c.requires.kept in
    let within = got_within c.args.scene.now.runs.items c.args.place c.args.id c.requires.numbered in
    record { within = omega (arith, long, within, c.history.inside.happened.ok.0) }

pub returns-clause-kept : goal.returns-clause-kept
returns-clause-kept c =
    let at = subst (λ (x : RunId). slice_get c.args.scene.now.runs.items c.args.place ≡ Some x) (sym c.id.view_is) c.requires.numbered in
    let may = subst (λ (x : RunId). MayCommit (desk_in (view_of c.args.scene.now) x.party) x.number c.args.step) (sym c.id.view_is) c.requires.may in
    let ready = subst (λ (x : RunId). IsReady (view_of c.args.scene.now) x.party c.args.step) (sym c.id.view_is) c.requires.ready in
    kept_entered c.args.scene.now c.requires.kept c.args.place (record { party = c.id.inside.party; number = c.id.inside.run }) at c.args.step may ready c.enter.new.self c.hear-sent.new.knowledge _ c.in-Ok.turn.notes c.in-Ok.turn.done c.in_default-enter.ensures.ok c.in_default-enter.ensures.fit
    (c.hear-sent.ensures.given ∙ (λ i. c.made_ready.ensures.given i ++ option_to_list (c.in-Ok.ensures.reply i)))
    (λ i. (c.history.view_is i).revealed)
    (λ d. subst (λ (hs : List Happened). c.retell.new.happened.items ≡ set hs c.args.place (renoted (get_or hs c.args.place d) c.in-Ok.turn.notes c.in-Ok.turn.done)) (λ i. (c.history.view_is i).happened) (c.retell.ensures.kept d))
    (c.hear-sent.ensures.sent ∙ (λ i. (c.made_ready.ensures.sent ∙ (λ j. (c.history.view_is j).sent)) i ++ option_to_list (c.in-Ok.ensures.reply i)))
    (λ i. (c.history.view_is i).given)
    c.in-Ok.ensures.notes c.in-Ok.ensures.done c.requires.room

pub returns-clause-ok : goal.returns-clause-ok
returns-clause-ok c =
    let at = subst (λ (x : RunId). slice_get c.args.scene.now.runs.items c.args.place ≡ Some x) (sym c.id.view_is) c.requires.numbered in
    let may = subst (λ (x : RunId). MayCommit (desk_in (view_of c.args.scene.now) x.party) x.number c.args.step) (sym c.id.view_is) c.requires.may in
    let ready = subst (λ (x : RunId). IsReady (view_of c.args.scene.now) x.party c.args.step) (sym c.id.view_is) c.requires.ready in
    let next = ap (λ (m : Move). m.before.next) c.step.view_is in
    entered_by (view_of c.args.scene.now) _ _ c.args.step _ _ c.id.view_is (is_entered c.args.scene.now c.requires.kept c.args.place (record { party = c.id.inside.party; number = c.id.inside.run }) at c.args.step may ready c.enter.new.self c.hear-sent.new.knowledge c.args.scene.now.history _ c.in_default-enter.ensures.ok c.in_default-enter.ensures.fit
    (omega (arith, c.next-pass.ensures.next, next))
    (vec_len c.made_ready.new.sent) (c.made_ready.new.sent.ok.0 ∙ ap length (c.made_ready.ensures.sent ∙ (λ j. (c.history.view_is j).sent)))
    (c.hear-sent.ensures.number ∙ ap (λ (t : Option Tree). option_map (λ _. vec_len c.made_ready.new.sent + 1) t) c.in-Ok.ensures.reply)
    c.in-Ok.ensures.done)
