use Rattle.std.proofs.Common.{◌∙◌, sym, ap}
use Rattle.replay_store.specs.Stamps.{live}
use Rattle.replay_store.specs.Windows.{below, key_of, up_to}
use Rattle.replay_store.proofs.Recalled.{nothing_added}
use Rattle.replay_store.proofs.window_store.restore_time.Goals as goal

pub returns-else-below-up_to-clause-added : goal.returns-else-below-up_to-clause-added
returns-else-below-up_to-clause-added c = λ p.
    let a = c.args in
    let keys = a.times.now.keys in
    nothing_added p (live a.window a.now a.time) (key_of a.pair a.time) keys
    (λ e. c.if-below-up_to.false (c.below.ensures ∙ ap (λ k. below k keys) c.time_key-key.ensures ∙ e ∙ sym (c.up_to.ensures ∙ ap (λ k. up_to k keys) c.time_key-key.ensures)))
