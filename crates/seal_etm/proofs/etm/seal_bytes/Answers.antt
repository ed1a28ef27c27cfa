use Rattle.std.proofs.Common.{◌∙◌, length, ap, arith}
use Rattle.seal_etm.proofs.Spelled.{in_limits}
use Rattle.seal_etm.proofs.etm.seal_bytes.Goals as goal

pub combined-requires : goal.combined-requires
combined-requires c =
    let limits = in_limits c.args.body.now c.requires in
    omega (arith, limits.length, ap length (c.as_slice.ensures.value ∙ c.in_ok-plain.ensures))
