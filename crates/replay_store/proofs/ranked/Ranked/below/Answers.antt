use Rattle.std.proofs.Common.{◌≡◌, ◌∙◌, sym, ap, arith}
use Rattle.replay_store.specs.Windows.{below}
use Rattle.replay_store.proofs.Rising.{below_nothing}
use Rattle.replay_store.proofs.ranked.Ranked.below.Goals as goal

pub returns-in-None : goal.returns-in-None
returns-in-None c =
    let none : c.args.bound ≡ 0 = omega (arith, c.in-None.ensures) in
    let keys = c.args.self.now.keys in
    sym (ap (λ b. below b keys) none ∙ below_nothing keys)
