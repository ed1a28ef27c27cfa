use Rattle.std.proofs.Common.{◌∙◌, ap, sym, refl}
use Rattle.agreement_laws.specs.Configs.{Config, names_in}
use Rattle.world_run.specs.Clocks.{clock_by}
use Rattle.world_run.specs.Kept.{view_of}
use Rattle.world_run.specs.Parties.{PartiesView}
use Rattle.world_run.proofs.Quiet.{kept_raised}
use Rattle.world_run.proofs.world.World.clock.Goals as goal

pub returns-then-not-has : goal.returns-then-not-has
returns-then-not-has c = record { raises = rw (← c.self.view_is) ((λ a. let t = c.has.ensures.1 a in let f = c.if-not-has.true in absurd (cc)), refl, refl) }

pub raise-requires : goal.raise-requires
raise-requires c = record { declared = c.has.ensures.0 c.if-not-has.false }

pub invariant_of-self : goal.invariant_of-self
invariant_of-self c = kept_raised c.self.inside.scene c.raise.new.self _ c.self.invariant c.raise.ensures.raised

pub returns : goal.returns
returns c = record {
  raises = rw (← c.self.view_is) (
    c.has.ensures.0 c.if-not-has.false,
    ap (λ (p : PartiesView). view_of (record c.self.inside.scene { parties = p })) c.raise.ensures.raised,
    c.raise.ensures.clock ∙ ap (λ (k : Config). clock_by (names_in k) c.raise.new.self.clocks c.args.party) (sym (λ i. (c.raise.ensures.raised i).config)),
  );
}
