use Rattle.std.proofs.Common.{◌+◌, ◌≤◌, ◌-◌, length, take, drop, sym, ap, subst, ◌≡◌, arith, take-add, take_all, length-drop}
use Rattle.std.proofs.KnownBytes.{Appends-trans}
use Rattle.std.specs.Io.KnownBytes.{Appends}
use Rattle.authctl.proofs.real.write_whole.Goals as goal

pub loop-written-preserved : goal.loop-written-preserved
loop-written-preserved g c =
    let old = g.W.Write.contents c.args.writer.now in
    let middle = g.W.Write.contents c.loop-written.writer in
    let new = g.W.Write.contents c.write.new.self in
    let piece = c.args.piece.now in
    let before = c.loop-written.written in
    let count = c.in-Ok.count in
    let rest = take_all (length piece - before) (drop before piece) (omega (arith, length-drop before piece)) in
    let more = subst (Appends middle new) (ap (take count) rest) c.in-Ok.ensures.bytes in
    let both = Appends-trans old middle new (take before piece) (take count (drop before piece)) c.loop-written.invariant.so_far more in
    record {
      so_far = subst (Appends old new) (sym (take-add before count piece)) both;
      within = omega (arith, c.in-Ok.ensures.bound, length-drop before piece, c.loop-written.invariant.within);
    }
