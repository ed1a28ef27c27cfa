use Rattle.std.proofs.Common.{◌≡◌, ◌+◌, ◌%◌, ◌^◌, min, length, ◌∙◌, ap, sym, subst, arith}
use Rattle.replay_store.specs.Rising.{AllSince}
use Rattle.replay_store.proofs.Rising.{length_fork, since_fork}
use Rattle.replay_store.proofs.tree.fork.Goals as goal

pub invariant_of-result : goal.invariant_of-result
invariant_of-result c =
    let a = c.args in
    let node = c.deref_mut-5.result.now in
    let left : node.left ≡ a.left = ap (λ n. n.left) c.deref_mut-5.ensures.value in
    let own : c.deref_mut.result.now.key ≡ a.node.value.key = ap (λ n. n.key) c.deref_mut.ensures.value in
    let key : node.key ≡ a.node.value.key = cc (own, ap (λ n. n.key) c.deref_mut-5.ensures.value, ap (λ n. n.key) c.deref_mut-3.ensures.value, ap (λ n. n.key) c.deref_mut-2.ensures.value) in
    let len : node.len ≡ c.len.result + c.len-2.result + 1 = cc (ap (λ n. n.len) c.deref_mut-5.ensures.value, ap (λ n. n.len) c.deref_mut-3.ensures.value, ap (λ n. n.len) c.deref_mut-2.ensures.value) in
    let oldest : node.oldest ≡ c.min-2.result = cc (ap (λ n. n.oldest) c.deref_mut-5.ensures.value, ap (λ n. n.oldest) c.deref_mut-3.ensures.value) in
    let time : c.time.result ≡ node.key % 2 ^ 64 = c.time.ensures ∙ ap (λ n. n.key % 2 ^ 64) c.deref.ensures ∙ ap (λ k. k % 2 ^ 64) (sym (ap (λ n. n.key) c.deref_mut-3.ensures.value ∙ ap (λ n. n.key) c.deref_mut-2.ensures.value)) ∙ ap (λ k. k % 2 ^ 64) (sym (ap (λ n. n.key) c.deref_mut-5.ensures.value)) in
    let least : node.oldest ≡ min (min c.oldest.result c.oldest-2.result) c.time.result = cc (oldest, c.min-2.ensures, c.min.ensures) in
    let whole = length_fork node.left node.key a.right in
    (omega (arith, len, whole, ap length left, c.len.ensures, c.len-2.ensures), since_fork c.oldest.result c.oldest-2.result c.time.result node.oldest node.left node.key a.right (subst (AllSince c.oldest.result) (sym left) c.oldest.ensures.since) c.oldest-2.ensures.since time least)
