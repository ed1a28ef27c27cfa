use Rattle.std.proofs.Common.{◌≡◌, ◌<◌, ◌≤◌, ◌^◌, ◌∙◌, sym, ap, ap₂, subst, arith, max, nat_eq}
use Rattle.std.specs.Map.{lookup}
use Rattle.replay_store.specs.Stamps.{numbers, stamp_verdict}
use Rattle.replay_store.specs.Windows.{AreSeen, Recalls, held_verdict}
use Rattle.replay_store.proofs.Verdicts.{verdict_is}
use Rattle.replay_store.proofs.window_store.WindowStoreStore.probe.Goals as goal

pub returns : goal.returns
returns c = record {
  verdict = λ accepted r.
      let a = c.args in
      let i = c.self.inside in
      let pair = c.pair_number-pair.ensures in
      let inner = subst (λ s. Recalls s accepted) (sym c.self.view_is) r in
      let found = c.copied-seen.ensures ∙ c.get.ensures.value ∙ ap (λ q. lookup (nat_eq q) i.numbers.entries) pair.number in
      let are = subst (λ seen. AreSeen seen (numbers a.sender a.tag.now accepted)) (sym found) (inner.numbers a.sender a.tag.now pair.pair) in
      let later : i.now ≤ max i.now a.clock = omega arith in
      let small : max i.now a.clock < 2 ^ 64 = omega (arith, c.max-now.ensures, c.max-now.type_inv) in
      let said = verdict_is i.window i.now (max i.now a.clock) a.sender a.tag.now a.kind a.stamp.now i.times.keys c.copied-seen.result accepted pair.pair later small c.see_number.ensures inner.valid inner.times are in
      let same = ap₂ (λ m q. held_verdict i.window m a.kind q a.stamp.now i.times.keys c.copied-seen.result) c.max-now.ensures pair.number in
      subst (λ s. c.judge_held.result ≡ stamp_verdict s.window (max s.now a.clock) accepted a.kind a.sender a.tag.now a.stamp.now) c.self.view_is (c.judge_held.ensures ∙ same ∙ said);
}
