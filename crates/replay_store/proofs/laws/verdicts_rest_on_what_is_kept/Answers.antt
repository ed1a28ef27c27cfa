use Rattle.replay_store.proofs.Verdicts.{same_verdict}
use Rattle.replay_store.proofs.laws.verdicts_rest_on_what_is_kept.Goals as goal

pub returns : goal.returns
returns c = record { same = same_verdict }
