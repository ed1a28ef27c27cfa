use Rattle.std.proofs.Common.{◌≤◌, ◌-◌, ◌%◌, ◌^◌, ◌∙◌, sym, ap, subst, arith, filter, nat_le}
use Rattle.replay_store.specs.Windows.{Recalls}
use Rattle.replay_store.proofs.Recalled.{recalls_later}
use Rattle.replay_store.proofs.window_store.WindowStoreStore.tick.Goals as goal
use Rattle.replay_store.proofs.window_store.WindowStoreStore.tick.Goals.{then-clock-self, else-clock-self}

pub returns-clause-stays : goal.returns-clause-stays
returns-clause-stays c = λ accepted r.
    let inner = subst (λ s. Recalls s accepted) (sym c.self.view_is) r in
    let i = c.self.inside in
    elim c.if-clock-self.branch [
      | then-clock-self w ↦
          let later : i.now ≤ c.args.clock = omega (arith, w.if-clock-self.true) in
          let oldest = w.saturating_sub-oldest.ensures ∙ ap (λ x. c.args.clock - x) w.from.ensures in
          let kept = w.forget_before.ensures.keys ∙ ap (λ o. filter (λ k. nat_le o (k % 2 ^ 64)) i.times.keys) oldest in
          rw w.self-inside-is (recalls_later i.window i.now c.args.clock i.times.keys _ i.numbers.entries _ _ accepted later kept inner)
      | else-clock-self w ↦ rw w.self-inside-is inner
    ]
