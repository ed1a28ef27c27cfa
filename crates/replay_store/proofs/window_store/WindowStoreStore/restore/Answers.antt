use Rattle.std.proofs.Common.{sym, subst}
use Rattle.replay_store.specs.Windows.{Recalls}
use Rattle.replay_store.proofs.Recalled.{restores_as_number, restores_as_time}
use Rattle.replay_store.proofs.window_store.WindowStoreStore.restore.Goals as goal

pub returns-in-Time-clause-added : goal.returns-in-Time-clause-added
returns-in-Time-clause-added c = λ accepted r.
    let a = c.args in
    let i = c.self.inside in
    let pair = c.pair_number-pair.ensures in
    let inner = subst (λ s. Recalls s accepted) (sym c.self.view_is) r in
    restores_as_time i.window i.now i.times.keys c.restore_time.new.times.keys i.numbers.entries _ _ a.sender a.tag.now c.in-Time.time c.pair_number-pair.result a.stamp.now accepted c.in-Time.is pair.number pair.pair c.see_number.ensures c.restore_time.ensures.added inner

pub returns-in-Seq-clause-added : goal.returns-in-Seq-clause-added
returns-in-Seq-clause-added c = λ accepted r.
    let a = c.args in
    let i = c.self.inside in
    let pair = c.pair_number-pair.ensures in
    let inner = subst (λ s. Recalls s accepted) (sym c.self.view_is) r in
    restores_as_number i.window i.now i.times.keys i.numbers.entries c.add_number.new.numbers.entries _ _ a.sender a.tag.now c.in-Seq.number c.pair_number-pair.result a.stamp.now accepted c.in-Seq.is pair.number pair.pair c.see_number.ensures c.add_number.ensures.added inner
