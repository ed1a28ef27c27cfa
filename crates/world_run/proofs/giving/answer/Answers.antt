use Rattle.std.proofs.Common.{◌≢◌, IfErr, IfOk, OnErr, subst, sym}
use Rattle.term_values.specs.Trees.{Among}
use Rattle.mech_rows.specs.declared.refusal.Refusal.TheVariants.{Memory}
use Rattle.text_hooks.specs.Rules.{allowed}
use Rattle.agreement_laws.specs.Traces.{RunId}
use Rattle.world_run.specs.Gives.{HasTaken}
use Rattle.world_run.specs.Kept.{view_of}
use Rattle.world_run.specs.Makings.{IsBrokenOff, IsMadeOf, IsUnanswered}
use Rattle.world_run.proofs.Handing.{turned_kept, turned_left, turned_ok, turned_room, turned_stays}
use Rattle.world_run.proofs.giving.answer.Goals as goal

pub make_step-requires-clause-declared : goal.make_step-requires-clause-declared
make_step-requires-clause-declared g c = c.requires.kept.genuine.runs.declared (record { party = c.id.inside.party; number = c.id.inside.run }) (subst (λ (x : RunId). Among x c.args.scene.now.runs.items) (sym c.id.view_is) c.requires.numbered)

pub returns-clause-kept : goal.returns-clause-kept
returns-clause-kept g c =
    let numbered = (subst (λ (x : RunId). Among x c.args.scene.now.runs.items) (sym c.id.view_is) c.requires.numbered) in
    turned_kept c.args.scene.now c.requires.kept (record { party = c.id.inside.party; number = c.id.inside.run }) numbered (allowed c.args.hook.now.rules.items) c.args.term.now c.make_step.new.self c.make_step.new.draws c.make_step.result c.make_step.ensures.ok c.make_step.ensures.left c.requires.room

pub returns-clause-ok : goal.returns-clause-ok
returns-clause-ok g c =
    let numbered = (subst (λ (x : RunId). Among x c.args.scene.now.runs.items) (sym c.id.view_is) c.requires.numbered) in
    subst (λ (x : RunId). IfOk c.make_step.result (λ step. IsMadeOf (allowed c.args.hook.now.rules.items) (view_of c.args.scene.now) (view_of (record c.args.scene.now { parties = c.make_step.new.self; draws = c.make_step.new.draws })) x c.args.term.now step)) c.id.view_is (turned_ok c.args.scene.now c.requires.kept (record { party = c.id.inside.party; number = c.id.inside.run }) numbered (allowed c.args.hook.now.rules.items) c.args.term.now c.make_step.new.self c.make_step.new.draws c.make_step.result c.make_step.ensures.ok c.requires.derivable c.requires.is_born c.requires.few)

pub returns-clause-refused : goal.returns-clause-refused
returns-clause-refused g c = subst (λ (x : RunId). IfErr c.make_step.result (λ e. e ≢ Memory → IsUnanswered (allowed c.args.hook.now.rules.items) (view_of c.args.scene.now) x c.args.term.now e)) c.id.view_is c.make_step.ensures.refused

pub returns-clause-stays : goal.returns-clause-stays
returns-clause-stays g c =
    let numbered = (subst (λ (x : RunId). Among x c.args.scene.now.runs.items) (sym c.id.view_is) c.requires.numbered) in
    turned_stays c.args.scene.now c.requires.kept (record { party = c.id.inside.party; number = c.id.inside.run }) numbered (allowed c.args.hook.now.rules.items) c.args.term.now c.make_step.new.self c.make_step.new.draws c.make_step.result c.make_step.ensures.stays

pub returns-clause-left : goal.returns-clause-left
returns-clause-left g c =
    let numbered = (subst (λ (x : RunId). Among x c.args.scene.now.runs.items) (sym c.id.view_is) c.requires.numbered) in
    subst (λ (x : RunId). OnErr c.make_step.result (IsBrokenOff (HasTaken (allowed c.args.hook.now.rules.items) (view_of c.args.scene.now) x c.args.term.now) (view_of c.args.scene.now) (view_of (record c.args.scene.now { parties = c.make_step.new.self; draws = c.make_step.new.draws })) x.party)) c.id.view_is (turned_left c.args.scene.now c.requires.kept (record { party = c.id.inside.party; number = c.id.inside.run }) numbered (allowed c.args.hook.now.rules.items) c.args.term.now c.make_step.new.self c.make_step.new.draws c.make_step.result c.make_step.ensures.left)

pub returns-clause-room : goal.returns-clause-room
returns-clause-room g c =
    let numbered = (subst (λ (x : RunId). Among x c.args.scene.now.runs.items) (sym c.id.view_is) c.requires.numbered) in
    turned_room c.args.scene.now c.requires.kept (record { party = c.id.inside.party; number = c.id.inside.run }) numbered (allowed c.args.hook.now.rules.items) c.args.term.now c.make_step.new.self c.make_step.new.draws c.make_step.result c.make_step.ensures.ok c.requires.room
