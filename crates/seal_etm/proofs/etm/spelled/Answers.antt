use Rattle.std.proofs.Common.{Err, ap}
use Rattle.seal_etm.proofs.Spelled.{in_limits}
use Rattle.seal_etm.proofs.etm.spelled.Goals as goal

pub unreachable-requires : goal.unreachable-requires
unreachable-requires c =
    c.in-Err-TooLarge.ensures.large (ap Err c.in-Err-TooLarge.field-0-is) (in_limits c.args.body.now c.requires)
