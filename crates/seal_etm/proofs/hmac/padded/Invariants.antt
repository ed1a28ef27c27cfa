use Rattle.std.proofs.Common.{◌≡◌, ◌++◌, take, drop}
use Rattle.seal_etm.specs.Hmac.{padded}
use Rattle.seal_etm.proofs.hmac.padded.Given as goal

abbrev pub invariant-loop-byte : goal.invariant-loop-byte
invariant-loop-byte l = take l.byte-index l.byte-items ++ padded l.pad (drop l.byte-index l.byte-items) ≡ padded l.pad l.block
