use Rattle.node_desk.proofs.live.LiveRoleState.speak.Goals as goal

pub returns-in_ok-reply-in-E-clause-says : goal.returns-in_ok-reply-in-E-clause-says
returns-in_ok-reply-in-E-clause-says g c = rw c.in-E.is c.in_ok-reply-in-E.ensures.says

pub returns-in_ok-reply-in-C-clause-says : goal.returns-in_ok-reply-in-C-clause-says
returns-in_ok-reply-in-C-clause-says g c = rw c.in-C.is c.in_ok-reply-in-C.ensures.says
