use Rattle.std.proofs.Common.{arith}
use Rattle.replay_store.proofs.window_store.see_bytes.Goals as goal

pub returns : goal.returns
returns c = λ i. omega (arith, c.type_inv.bytes i)
