use Rattle.std.proofs.Common.{◌≡◌, ◌++◌, None, drop, map}
use Rattle.term_values.specs.Trees.{part}
use Rattle.attacker_model.proofs.knowledge.Knowledge.new.Given as goal

abbrev pub invariant-loop-part : goal.invariant-loop-part
invariant-loop-part l = record {
  given : l.knowledge.given ++ map part (drop l.part-index l.parts) ≡ map part l.parts;
  due : l.knowledge.due ≡ None;
}
