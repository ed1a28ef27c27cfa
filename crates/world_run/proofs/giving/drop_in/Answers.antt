use Rattle.std.proofs.Common.{◌≡◌, Some, List, ap, sym, ◌∙◌}
use Rattle.agreement_laws.specs.Traces.{RunId}
use Rattle.world_run.specs.Views.{run_in}
use Rattle.world_run.proofs.Dropping.{declared_there, ended_there, kept_dropped, room_there}
use Rattle.world_run.proofs.giving.drop_in.Goals as goal

pub drop_run-requires-clause-declared : goal.drop_run-requires-clause-declared
drop_run-requires-clause-declared c =
    let at : run_in c.args.scene.now.runs.items c.args.run ≡ Some (record { party = c.id.inside.party; number = c.id.inside.run }) = ap (λ (ids : List RunId). run_in ids c.args.run) (sym c.deref.ensures.value) ∙ (sym c.in-Some.ensures ∙ ap Some (sym c.id.view_is)) in
    declared_there c.args.scene.now c.requires.kept c.args.run (record { party = c.id.inside.party; number = c.id.inside.run }) at

pub drop_run-requires-clause-room : goal.drop_run-requires-clause-room
drop_run-requires-clause-room c =
    let at : run_in c.args.scene.now.runs.items c.args.run ≡ Some (record { party = c.id.inside.party; number = c.id.inside.run }) = ap (λ (ids : List RunId). run_in ids c.args.run) (sym c.deref.ensures.value) ∙ (sym c.in-Some.ensures ∙ ap Some (sym c.id.view_is)) in
    room_there c.args.scene.now c.requires.kept c.args.run (record { party = c.id.inside.party; number = c.id.inside.run }) at

pub returns-then-not-drop_run-clause-drops : goal.returns-then-not-drop_run-clause-drops
returns-then-not-drop_run-clause-drops c =
    let at : run_in c.args.scene.now.runs.items c.args.run ≡ Some (record { party = c.id.inside.party; number = c.id.inside.run }) = ap (λ (ids : List RunId). run_in ids c.args.run) (sym c.deref.ensures.value) ∙ (sym c.in-Some.ensures ∙ ap Some (sym c.id.view_is)) in (
      ended_there c.args.scene.now c.requires.kept c.args.run (record { party = c.id.inside.party; number = c.id.inside.run }) at c.if-not-drop_run.ensures.over,
      λ i. record { config = (c.if-not-drop_run.ensures.kept i).config; acts = (c.if-not-drop_run.ensures.kept i).acts; clocks = (c.if-not-drop_run.ensures.kept i).clocks; draws = c.args.scene.now.draws.place; runs = c.args.scene.now.runs.items },
    )

pub returns-clause-kept : goal.returns-clause-kept
returns-clause-kept c =
    let at : run_in c.args.scene.now.runs.items c.args.run ≡ Some (record { party = c.id.inside.party; number = c.id.inside.run }) = ap (λ (ids : List RunId). run_in ids c.args.run) (sym c.deref.ensures.value) ∙ (sym c.in-Some.ensures ∙ ap Some (sym c.id.view_is)) in
    kept_dropped c.args.scene.now c.requires.kept c.args.run (record { party = c.id.inside.party; number = c.id.inside.run }) at c.drop_run.new.self c.if-not-drop_run.ensures.dropped c.if-not-drop_run.ensures.running
