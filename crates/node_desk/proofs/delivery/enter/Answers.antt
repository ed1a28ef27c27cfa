use Rattle.node_desk.proofs.delivery.enter.Goals as goal

pub commit-requires-clause-issued : goal.commit-requires-clause-issued
commit-requires-clause-issued g c = rw c.made_ready.ensures.kept.log c.requires.issued
