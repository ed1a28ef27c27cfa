use Rattle.std.proofs.Common.{rules}
use Rattle.desk_tests.proofs.tests.commits.committed.Goals as goal

pub commit-answer-requires-clause-issued : goal.commit-answer-requires-clause-issued
commit-answer-requires-clause-issued g c = (c.suits.ensures.suits.0 (search rules)).1
