use Rattle.term_values.proofs.SameTrees.{is_same}
use Rattle.text_hooks.proofs.values.same_stamp.Goals as goal

pub returns : goal.returns
returns c = record { same = is_same _ _ _ c.is_stamp.ensures.is }
