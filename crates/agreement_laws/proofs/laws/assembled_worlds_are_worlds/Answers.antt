use Rattle.agreement_laws.proofs.Conclusions.{world_sound}
use Rattle.agreement_laws.proofs.Assembled.{assembled_is_world}
use Rattle.agreement_laws.specs.Assembled.{symbolic_entries}
use Rattle.agreement_laws.proofs.laws.assembled_worlds_are_worlds.Goals as goal

pub returns-clause-world : goal.returns-clause-world
returns-clause-world g c config rings h net = assembled_is_world g.S.Sealing.opens net.blobs config net.lawful rings net.from h net.assembled net.ideal net.network

pub returns-clause-sound : goal.returns-clause-sound
returns-clause-sound g c config rings h net = world_sound config net.lawful (symbolic_entries h) (assembled_is_world g.S.Sealing.opens net.blobs config net.lawful rings net.from h net.assembled net.ideal net.network)
