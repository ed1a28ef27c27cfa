use Rattle.std.proofs.Common.{ℕ, List, ◌<◌, ◌∙◌, sym, ap, subst, arith, length, get_or}
use Rattle.replay_store.proofs.window_store.pair_number.Goals as goal

pub returns-clause-pair : goal.returns-clause-pair
returns-clause-pair c = record {
  name = omega (arith, c.get.ensures.value, c.get.type_inv);
  is_tag = record {
    length = ap length (sym c.tag.view_is) ∙ c.tag.told;
    bytes = λ i. subst (λ (bytes : List ℕ). get_or bytes i 0 < 256) c.list.ensures.value (c.see_bytes.ensures i);
  };
}
