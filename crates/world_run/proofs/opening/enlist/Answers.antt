use Rattle.std.proofs.Common.{◌≡◌, ◌<◌, ◌∙◌, ℕ, [], ◌∷◌, ◌++◌, length, refl, sym, ap, subst, arith}
use Rattle.mech_rows.specs.Heads.{me}
use Rattle.node_desk.specs.Deliveries.{open_in}
use Rattle.node_desk.specs.Lives.{live_state}
use Rattle.world_run.specs.declared.scene.Scene.{Scene}
use Rattle.world_run.specs.Kept.{IsKept, view_of}
use Rattle.world_run.specs.Starts.{IsUnlisted}
use Rattle.world_run.specs.Views.{held_in}
use Rattle.world_run.proofs.Starting.{kept_listed}
use Rattle.world_run.proofs.opening.enlist.Goals as goal

pub returns-clause-kept : goal.returns-clause-kept
returns-clause-kept c =
    let k = subst IsKept (sym c.scene.view_is) c.requires.kept in
    let u = subst (λ (s : Scene). IsUnlisted (view_of s) c.args.head.now (record { party = me c.args.head.now; number = c.args.run })) (sym c.scene.view_is) c.requires.unlisted in
    let current = subst (λ (m : ℕ). held_in c.scene.inside.0.0.acts (record { party = m; number = c.args.run }) ≡ open_in (live_state c.in_ok-state.state)) c.me-party.ensures.name c.in_ok-state.ensures.state in
    let room = subst (λ (s : Scene). length s.runs.items < s.parties.room) (sym c.scene.view_is) c.requires.room in
    let long = ap length c.reserve.ensures.items in
    kept_listed _ _ c.args.head.now (record { party = me c.args.head.now; number = c.args.run }) (live_state c.in_ok-state.state) c.in_ok-happened.happened k u current
    (record { run = omega (arith, c.in_ok-happened.ensures.run, c.len.ensures, c.reserve.new.self.ok.0, c.reserve.ensures.len, long); head = c.in_ok-happened.ensures.head; notes = c.in_ok-happened.ensures.notes; done = c.in_ok-happened.ensures.done; exposed = c.in_ok-happened.ensures.exposed })
    (λ i. record {
      config = c.scene.inside.0.0.config;
      acts = c.scene.inside.0.0.acts;
      clocks = c.scene.inside.0.0.clocks;
      draws = c.scene.inside.0.1.0.place;
      runs = (c.push_reserved.ensures.items ∙ (λ j. c.reserve.ensures.items j ++ record { party = c.me-party.ensures.name j; number = c.args.run } ∷ [])) i;
    })
    refl
    (λ i. record {
      revealed = c.scene.inside.0.1.1.1.0.revealed.items;
      happened = c.in_ok-push.ensures.items i;
      sent = c.scene.inside.0.1.1.1.0.sent.items;
      given = c.scene.inside.0.1.1.1.0.given.items;
    })
    room
