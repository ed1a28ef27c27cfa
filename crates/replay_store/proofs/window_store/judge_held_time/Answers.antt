use Rattle.std.proofs.Common.{◌≡◌, ◌≤◌, ◌+◌, ◌-◌, ◌∙◌, ap, ap₂, arith, nat_lt}
use Rattle.replay_store.specs.Stores.{time_answer}
use Rattle.replay_store.specs.Windows.{below, key_of, up_to}
use Rattle.replay_store.proofs.Ranks.{below_up_to}
use Rattle.replay_store.proofs.window_store.judge_held_time.Goals as goal

pub overflow_sub-count : goal.overflow_sub-count
overflow_sub-count c =
    let order : c.time_key-2.result ≤ c.time_key.result + 1 = omega arith in
    omega (arith, c.below-2.ensures, c.up_to-2.ensures, below_up_to c.time_key-2.result c.time_key.result order c.args.times.now.keys)

pub returns : goal.returns
returns c =
    let a = c.args in
    let keys = a.times.now.keys in
    let oldest : c.saturating_sub-oldest.result ≡ a.now - a.window = omega arith in
    let found = ap₂ (λ x y. nat_lt x y) (c.below.ensures ∙ ap (λ k. below k keys) c.time_key-key.ensures) (c.up_to.ensures ∙ ap (λ k. up_to k keys) c.time_key-key.ensures) in
    let count = ap₂ (λ x y. x - y) (c.up_to-2.ensures ∙ ap (λ k. up_to k keys) c.time_key.ensures) (c.below-2.ensures ∙ ap (λ k. below k keys) (c.time_key-2.ensures ∙ ap (key_of a.pair) oldest)) in
    c.judge_time.ensures ∙ ap₂ (λ f n. time_answer a.window a.now a.time f n) found count
