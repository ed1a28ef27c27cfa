use Rattle.std.proofs.Common.{◌≡◌, ◌++◌, drop}
use Rattle.agreement_laws.specs.Worlds.{peers_by}
use Rattle.world_run.proofs.beginning.peers_for.Given as goal

abbrev pub invariant-loop-party : goal.invariant-loop-party
invariant-loop-party l = l.peers.items ++ peers_by l.config l.me (drop l.party-index l.party-items) ≡ peers_by l.config l.me l.config.parties
