use Rattle.std.proofs.Common.{◌+◌, ◌∙◌, ap, ap₂, arith, length}
use Rattle.replay_store.proofs.Recalled.{kept_is}
use Rattle.replay_store.proofs.window_store.WindowStore.kept.Goals as goal

pub overflow_add-result : goal.overflow_add-result
overflow_add-result c = omega (arith, c.len.ensures.small, c.len-2.ensures.small)

pub returns-clause-held : goal.returns-clause-held
returns-clause-held c = ap₂ (λ a b. a + b) (c.len.ensures.count ∙ ap (λ s. length s.times) c.self.view_is) (c.len-2.ensures.len ∙ ap (λ s. length s.numbers) c.self.view_is)

pub returns-clause-needed : goal.returns-clause-needed
returns-clause-needed c = λ accepted r. returns-clause-held c ∙ kept_is c.args.self.now accepted r
