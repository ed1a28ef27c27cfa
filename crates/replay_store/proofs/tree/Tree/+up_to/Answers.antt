use Rattle.std.proofs.Common.{◌≤◌, ◌∙◌, length, sym, ap, subst, arith}
use Rattle.replay_store.specs.Rising.{Rises, keys_in}
use Rattle.replay_store.specs.Windows.{up_to}
use Rattle.replay_store.proofs.Rising.{length_fork, up_to_left, up_to_right, up_to_within}
use Rattle.replay_store.proofs.tree.Tree.+up_to.Goals as goal

pub overflow_add-result : goal.overflow_add-result
overflow_add-result t c =
    let top = c.in-Some.top.value in
    let is = sym c.self.view_is ∙ ap keys_in c.in-Some.is in
    let left = c.len.ensures ∙ ap (λ n. length n.left) c.deref-then-deref-bound.ensures in
    omega (arith, left, ap length is, length_fork top.left top.key top.right, c.requires.fits)

pub overflow_add-result-then-deref-bound : goal.overflow_add-result-then-deref-bound
overflow_add-result-then-deref-bound t c =
    let top = c.in-Some.top.value in
    let is = sym c.self.view_is ∙ ap keys_in c.in-Some.is in
    let left = c.len.ensures ∙ ap (λ n. length n.left) c.deref-then-deref-bound.ensures in
    let right = c.up_to.ensures ∙ ap (λ n. up_to c.args.bound n.right) c.deref-then-deref-bound-2.ensures in
    omega (arith, left, right, up_to_within c.args.bound top.right, ap length is, length_fork top.left top.key top.right, c.requires.fits)

pub returns-then-deref-bound : goal.returns-then-deref-bound
returns-then-deref-bound t c =
    let top = c.in-Some.top.value in
    let is = sym c.self.view_is ∙ ap keys_in c.in-Some.is in
    let low : top.key ≤ c.args.bound = subst (λ n. n.key ≤ c.args.bound) c.deref.ensures c.if-deref-bound.true in
    let left = c.len.ensures ∙ ap (λ n. length n.left) c.deref-then-deref-bound.ensures in
    let right = c.up_to.ensures ∙ ap (λ n. up_to c.args.bound n.right) c.deref-then-deref-bound-2.ensures in
    let whole = up_to_right c.args.bound top.left top.key top.right low (subst Rises is c.requires.rising) in
    omega (arith, left, right, whole, ap (up_to c.args.bound) is)

pub returns-else-deref-bound : goal.returns-else-deref-bound
returns-else-deref-bound t c =
    let top = c.in-Some.top.value in
    let is = sym c.self.view_is ∙ ap keys_in c.in-Some.is in
    let key = ap (λ n. n.key) c.deref.ensures in
    let whole = up_to_left c.args.bound top.left top.key top.right (omega (arith, key, c.if-deref-bound.false)) (subst Rises is c.requires.rising) in
    c.up_to-else-deref-bound.ensures ∙ ap (λ n. up_to c.args.bound n.left) c.deref-else-deref-bound.ensures ∙ sym whole ∙ sym (ap (up_to c.args.bound) is)
