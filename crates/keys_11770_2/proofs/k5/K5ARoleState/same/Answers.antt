use Rattle.std.proofs.Common.{rules, ◌≡◌}
use Rattle.std.specs.Bool.{IsTrue}
use Rattle.keys_11770_2.specs.K5A.{state_of}
use Rattle.keys_11770_2.proofs.OneStage.{one_stage, same_run}
use Rattle.keys_11770_2.proofs.k5.K5ARoleState.same.Goals as goal

-- src/k5.rt:199:5
pub returns-then-eq : goal.returns-then-eq
returns-then-eq c = record { same = (forth, back) }
  where
    names : c.args.self.now.names ≡ c.args.other.now.names
    names = search rules

    forth : IsTrue c.eq-then-eq.result → state_of c.args.self.now ≡ state_of c.args.other.now
    forth h = same_run c.args.self.now.names c.args.other.now.names c.args.self.now.stage c.args.other.now.stage names (search rules)

    back : state_of c.args.self.now ≡ state_of c.args.other.now → IsTrue c.eq-then-eq.result
    back e =
        let stage : c.args.self.now.stage ≡ c.args.other.now.stage = one_stage c.args.self.now.names c.args.other.now.names c.args.self.now.stage c.args.other.now.stage e in
        search rules
