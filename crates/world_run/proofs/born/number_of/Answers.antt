use Rattle.std.proofs.Common.{◌≡◌, ◌∙◌, drop, arith}
use Rattle.world_run.specs.Born.{number_from}
use Rattle.world_run.proofs.Numbers.{read_on, all_read}
use Rattle.world_run.proofs.born.number_of.Goals as goal

pub loop-byte-preserved : goal.loop-byte-preserved
loop-byte-preserved c = (
  read_on c.loop-byte.number c.loop-byte.byte-index c.from.result _ _ c.saturating_add-number.result c.args.bytes.now c.loop-byte-test.true c.from.ensures c.saturating_mul.ensures c.saturating_add-number.ensures ∙ c.loop-byte.invariant.0,
  omega (arith, c.saturating_add-number.ensures),
)

pub returns : goal.returns
returns c =
    let e : number_from c.loop-byte.number (drop c.loop-byte.byte-index c.args.bytes.now) ≡ c.loop-byte.number = all_read c.loop-byte.number c.loop-byte.byte-index c.args.bytes.now c.loop-byte-test.false in
    omega (arith, e, c.loop-byte.invariant.0, c.loop-byte.invariant.1)
