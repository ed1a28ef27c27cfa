use Rattle.world_run.proofs.Begun.{parties_new, acts_new, new_clocks}
use Rattle.world_run.proofs.parties.Parties.new.Goals as goal

pub invariant_of-result : goal.invariant_of-result
invariant_of-result c = parties_new c.args.config c.args.seats.items c.new.result.items c.requires.conditions c.requires.seats c.new.ensures.items

pub returns-clause-clocks : goal.returns-clause-clocks
returns-clause-clocks c = new_clocks c.args.config c.args.config.parties c.args.seats.items c.requires.seats
