use Rattle.std.proofs.Common.{◌∙◌, ap₂, sym}
use Rattle.replay_store.specs.Stamps.{numbers}
use Rattle.replay_store.specs.Stores.{number_answer}
use Rattle.replay_store.proofs.Found.{any_number, number_verdict_is}
use Rattle.replay_store.proofs.scans.judge_as_number.Goals as goal

pub returns : goal.returns
returns c =
    let a = c.args in
    c.judge_number.ensures
    ∙ ap₂ (λ most found. number_answer most a.number found) c.greatest.ensures (c.has_number-found.ensures ∙ any_number a.sender a.tag.now a.number a.entries.now)
    ∙ sym (number_verdict_is (numbers a.sender a.tag.now a.entries.now) a.number)
