use Rattle.std.proofs.Common.{◌∙◌, ap, map}
use Rattle.term_values.specs.Trees.{part}
use Rattle.fresh_values.specs.Counts.{Counts}
use Rattle.world_run.specs.Conditions.{KeepsConditions}
use Rattle.world_run.proofs.Begun.{kept_new}
use Rattle.world_run.proofs.world.World.new.Goals as goal

pub invariant_of-result : goal.invariant_of-result
invariant_of-result c =
    let k : KeepsConditions c.args.config.now = c.keeps_conditions.ensures.0 c.if-not-keeps_conditions.false in
    kept_new c.args.config.now _ c.in_ok-parties.ensures.config c.in_ok-parties.ensures.acts (ap (λ (x : Counts). x.place) c.new-5.ensures) c.new-6.ensures.items k
    (c.in_ok-knowledge.ensures.given ∙ ap (map part) c.as_slice.ensures.value ∙ c.in_ok-parts.ensures)
    (λ i. record { revealed = c.in_ok-revealed_names.ensures i; happened = c.new-2.ensures.items i; sent = c.new-3.ensures.items i; given = c.new-4.ensures.items i })

pub returns-clause-begins : goal.returns-clause-begins
returns-clause-begins c = λ i. record {
  config = c.in_ok-parties.ensures.config i;
  acts = c.in_ok-parties.ensures.acts i;
  clocks = c.in_ok-parties.ensures.clocks i;
  draws = ap (λ (x : Counts). x.place) c.new-5.ensures i;
  runs = c.new-6.ensures.items i;
}
