use Rattle.std.proofs.Common.{◌≡◌, ◌≢◌, ◌++◌, ◌/◌, ◌%◌, drop}
use Rattle.seal_etm.specs.Layout.{combined_from, stream_block}
use Rattle.seal_etm.proofs.etm.combined.Given as goal

abbrev pub invariant-loop-k : goal.invariant-loop-k
invariant-loop-k l = record {
  bytes : l.out.items ++ combined_from l.key l.iv l.k (drop l.k l.bytes) ≡ combined_from l.key l.iv 0 l.bytes;
  block : l.k % 32 ≢ 0 → l.block ≡ stream_block l.key l.iv (l.k / 32);
}
