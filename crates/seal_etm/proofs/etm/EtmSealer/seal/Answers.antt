use Rattle.std.proofs.Common.{◌∙◌, ap, sym}
use Rattle.std.specs.Option.{option_copied}
use Rattle.term_values.specs.Trees.{blob}
use Rattle.seal_etm.proofs.Opens.{item_iv, item_limits, item_opens}
use Rattle.seal_etm.proofs.etm.EtmSealer.seal.Goals as goal

pub returns-clause-bytes : goal.returns-clause-bytes
returns-clause-bytes c = rw (ap option_copied c.in-Some.is) (c.of.ensures.tree ∙ ap blob (c.new.ensures.value ∙ c.in_ok-bytes.ensures.bytes))

pub returns-clause-opens : goal.returns-clause-opens
returns-clause-opens c =
    let is = ap blob (c.new.ensures.value ∙ c.in_ok-bytes.ensures.bytes) in
    item_opens c.args.key.now c.args.body.now c.of.result c.in-Some.iv.now (c.of.ensures.tree ∙ is) c.in_ok-bytes.ensures.iv c.requires.short

pub returns-clause-iv : goal.returns-clause-iv
returns-clause-iv c =
    let is = ap blob (c.new.ensures.value ∙ c.in_ok-bytes.ensures.bytes) in
    item_iv c.args.key.now c.args.body.now c.of.result c.in-Some.iv.now (c.of.ensures.tree ∙ is) c.in_ok-bytes.ensures.iv ∙ sym (ap option_copied c.in-Some.is)

pub returns-clause-limits : goal.returns-clause-limits
returns-clause-limits c =
    let is = ap blob (c.new.ensures.value ∙ c.in_ok-bytes.ensures.bytes) in
    item_limits c.args.key.now c.args.body.now c.of.result c.in-Some.iv.now (c.of.ensures.tree ∙ is) c.in_ok-bytes.ensures.iv c.requires.short
