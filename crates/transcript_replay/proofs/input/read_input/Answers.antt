use Rattle.std.proofs.Common.{arith}
use Rattle.transcript_replay.proofs.Fronts.{is_told_or, told_longer, told_or}
use Rattle.transcript_replay.proofs.input.read_input.Goals as goal

pub returns-clause-long : goal.returns-clause-long
returns-clause-long g c =
    let old = g.I.Source.left c.args.input.now in
    let new = g.I.Source.left c.loop-buf.input in
    let text = c.loop-buf.text.items in
    λ _. (told_or old text, is_told_or old text, omega (arith, told_longer old new text c.loop-buf.invariant.so_far, c.loop-buf-test.false, c.len.ensures))
