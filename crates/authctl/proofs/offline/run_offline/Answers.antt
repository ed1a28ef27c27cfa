use Rattle.outside.specs.Causes.{Rose}
use Rattle.authctl.specs.Words.{word_lists}
use Rattle.authctl.proofs.Completing.{walk_complete, walk_cut, walk_whole}
use Rattle.authctl.proofs.offline.run_offline.Goals as goal

pub returns-in-Some-Replay-clause-sound : goal.returns-in-Some-Replay-clause-sound
returns-in-Some-Replay-clause-sound g c = λ bytes w asked told is. c.replay.ensures.sound bytes w told is

pub returns-in-Some-Walk-clause-whole : goal.returns-in-Some-Walk-clause-whole
returns-in-Some-Walk-clause-whole g c = λ two three four seven.
    let asked = rw (c.in-Some-Walk.field-0-is, c.deref.ensures.value) at c.in-Some-Walk.ensures.some in
    walk_whole (word_lists c.args.words.now.items) (g.I.Source.left c.args.input.now) (g.O.Sink.put_so_far c.args.out.now) (g.O.Sink.put_so_far c.write_walk.new.out) c.write_walk.result
    c.in-Some-Walk.walk asked c.write_walk.ensures.statuses c.write_walk.ensures.whole four seven

pub returns-in-Some-Walk-clause-cut : goal.returns-in-Some-Walk-clause-cut
returns-in-Some-Walk-clause-cut g c =
    let asked = rw (c.in-Some-Walk.field-0-is, c.deref.ensures.value) at c.in-Some-Walk.ensures.some in
    walk_cut (word_lists c.args.words.now.items) (g.I.Source.left c.args.input.now) (g.O.Sink.put_so_far c.args.out.now) (g.O.Sink.put_so_far c.write_walk.new.out) c.write_walk.result
    c.in-Some-Walk.walk asked c.write_walk.ensures.front

pub returns-in-Some-Walk-clause-complete : goal.returns-in-Some-Walk-clause-complete
returns-in-Some-Walk-clause-complete g c = λ bytes text status told is reads writes.
    let asked = rw (c.in-Some-Walk.field-0-is, c.deref.ensures.value) at c.in-Some-Walk.ensures.some in
    walk_complete (word_lists c.args.words.now.items) (g.O.Sink.put_so_far c.args.out.now) (g.O.Sink.put_so_far c.write_walk.new.out) c.write_walk.result bytes text status
    c.in-Some-Walk.walk (Rose (g.O.Sink.fault_count c.args.out.now) (g.O.Sink.fault_count c.write_walk.new.out)) asked c.write_walk.ensures.statuses c.write_walk.ensures.whole c.write_walk.ensures.cause writes is
