use Rattle.std.proofs.Common.{◌≡◌, ◌<◌, ◌≤◌, ◌-◌, ◌∙◌, ◌++◌, Option, Some, IsSome, length, slice_get, refl, sym, ap, subst, arith}
use Rattle.std.specs.Option.{option_to_list}
use Rattle.std.proofs.lemmas.List.{length-append}
use Rattle.agreement_laws.specs.Traces.{RunId}
use Rattle.world_run.specs.declared.scene.Scene.{Scene}
use Rattle.world_run.specs.Kept.{HasStepped, IsKept}
use Rattle.world_run.proofs.Starting.{kept_unlisted, last_is, popped}
use Rattle.world_run.proofs.opening.unlist.Goals as goal

pub returns-clause-kept : goal.returns-clause-kept
returns-clause-kept c =
    let k = subst IsKept (sym c.scene.view_is) c.requires.kept in
    let some = subst (λ (s : Scene). 0 < length s.runs.items) (sym c.scene.view_is) c.requires.some in
    let room = subst (λ (s : Scene). length s.runs.items ≤ s.parties.room) (sym c.scene.view_is) c.requires.room in
    let still = subst (λ (s : Scene). (id : RunId) → slice_get s.runs.items (length s.runs.items - 1) ≡ Some id → HasStepped s.parties.acts id → ⊥) (sym c.scene.view_is) c.requires.still in
    let runs = ap length c.pop-run.ensures.items ∙ length-append c.pop-run.new.self.items (option_to_list c.pop-run.result) in
    let told = ap length c.pop-happened.ensures.items ∙ length-append c.pop-happened.new.self.items (option_to_list c.pop-happened.result) in
    let last = popped _ c.pop-run.new.self.items c.pop-run.result c.pop-run.ensures.items some (λ lt. c.pop-run.ensures.variant.1 (omega (arith, lt, runs, c.pop-run.new.self.ok.0, c.pop-run.ensures.len))) in
    kept_unlisted _ _ c.pop-run.new.self.items last.0 c.pop-happened.new.self.items c.pop-happened.result k last.1 (still last.0 (last_is _ _ last.0 last.1)) refl refl refl c.pop-happened.ensures.items
    (λ lt. c.pop-happened.ensures.variant.1 (omega (arith, lt, told, c.pop-happened.new.self.ok.0, c.pop-happened.ensures.len)))
    (omega (arith, runs, room))
