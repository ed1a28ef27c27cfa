use Rattle.std.proofs.Common.{rules}
use Rattle.trio_roles.proofs.stamps_a.StampsARoleState.speak.Goals as goal

pub returns-in_ok-heard-in-Heard-clause-says : goal.returns-in_ok-heard-in-Heard-clause-says
returns-in_ok-heard-in-Heard-clause-says g c = record {
  same_head = search rules;
  moves = search rules;
  keeps = search rules;
  slots = search rules;
  values = search rules;
  shows = search rules;
  makes = search rules;
  issues = search rules;
}
