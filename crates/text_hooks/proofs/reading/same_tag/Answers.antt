use Rattle.term_values.proofs.SameTrees.{is_same}
use Rattle.text_hooks.proofs.reading.same_tag.Goals as goal

pub returns : goal.returns
returns c = record { same = is_same _ _ _ c.is_this_tag.ensures.is }
