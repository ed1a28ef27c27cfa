use Rattle.std.proofs.Common.{◌∙◌, ap}
use Rattle.term_values.specs.Trees.{blob}
use Rattle.seal_etm.proofs.Opens.{checks_by}
use Rattle.seal_etm.proofs.etm.EtmSealer.check.Goals as goal

pub returns-clause-bytes : goal.returns-clause-bytes
returns-clause-bytes c = c.of.ensures.tree ∙ ap blob (c.new.ensures.value ∙ c.in_ok-from_slice.ensures.items ∙ c.in_ok-bytes.ensures)

pub returns-clause-checks : goal.returns-clause-checks
returns-clause-checks c =
    checks_by c.args.key.now c.args.body.now c.of.result c.new.result c.of.ensures.tree (c.new.ensures.value ∙ c.in_ok-from_slice.ensures.items ∙ c.in_ok-bytes.ensures)
