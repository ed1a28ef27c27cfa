use Rattle.trio_roles.proofs.state.TrioStateRoleState.speak.Goals as goal

pub returns-in_ok-speak-in-StampsA-clause-says : goal.returns-in_ok-speak-in-StampsA-clause-says
returns-in_ok-speak-in-StampsA-clause-says g c = rw (c.in-StampsA.is, c.replied.ensures.after, c.replied.ensures.message, c.replied.ensures.sealed) c.in_ok-speak-in-StampsA.ensures.says

pub returns-in_ok-speak-in-StampsB-clause-says : goal.returns-in_ok-speak-in-StampsB-clause-says
returns-in_ok-speak-in-StampsB-clause-says g c = rw (c.in-StampsB.is, c.replied-in-StampsB.ensures.after, c.replied-in-StampsB.ensures.message, c.replied-in-StampsB.ensures.sealed) c.in_ok-speak-in-StampsB.ensures.says

pub returns-in_ok-speak-in-NoncesA-clause-says : goal.returns-in_ok-speak-in-NoncesA-clause-says
returns-in_ok-speak-in-NoncesA-clause-says g c = rw (c.in-NoncesA.is, c.replied-in-NoncesA.ensures.after, c.replied-in-NoncesA.ensures.message, c.replied-in-NoncesA.ensures.sealed) c.in_ok-speak-in-NoncesA.ensures.says

pub returns-in_ok-speak-in-NoncesB-clause-says : goal.returns-in_ok-speak-in-NoncesB-clause-says
returns-in_ok-speak-in-NoncesB-clause-says g c = rw (c.in-NoncesB.is, c.replied-in-NoncesB.ensures.after, c.replied-in-NoncesB.ensures.message, c.replied-in-NoncesB.ensures.sealed) c.in_ok-speak-in-NoncesB.ensures.says
