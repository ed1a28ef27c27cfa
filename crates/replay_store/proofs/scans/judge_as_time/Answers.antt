use Rattle.std.proofs.Common.{◌∙◌, ap₂}
use Rattle.replay_store.specs.Stores.{time_answer}
use Rattle.replay_store.proofs.Found.{any_live}
use Rattle.replay_store.proofs.scans.judge_as_time.Goals as goal

pub returns : goal.returns
returns c =
    let a = c.args in
    c.judge_time.ensures
    ∙ ap₂ (λ found count. time_answer a.window a.now a.time found count) (c.has_live-found.ensures ∙ any_live a.window a.now a.sender a.tag.now a.time a.entries.now) c.live_count-count.ensures
