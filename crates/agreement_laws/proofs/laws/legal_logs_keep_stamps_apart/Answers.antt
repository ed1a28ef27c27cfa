use Rattle.std.proofs.Common.{refl}
use Rattle.agreement_laws.specs.Nodes.{new_node}
use Rattle.agreement_laws.proofs.Nodes.{accepts_once, uses_once, all_rise, nows_rise}
use Rattle.agreement_laws.proofs.laws.legal_logs_keep_stamps_apart.Goals as goal

pub returns-clause-accepted : goal.returns-clause-accepted
returns-clause-accepted g c ring last = accepts_once g.S.Sealing.opens (new_node ring last)

pub returns-clause-used : goal.returns-clause-used
returns-clause-used g c ring last log = uses_once g.S.Sealing.opens (new_node ring last) log refl

pub returns-clause-issued : goal.returns-clause-issued
returns-clause-issued g c ring last = all_rise g.S.Sealing.opens (new_node ring last)

pub returns-clause-nows : goal.returns-clause-nows
returns-clause-nows g c ring last log = nows_rise g.S.Sealing.opens (new_node ring last) refl log
