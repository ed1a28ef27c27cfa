use Rattle.std.proofs.Common.{◌≡◌, ◌∙◌, ap, subst, List}
use Rattle.term_values.specs.Trees.{Among}
use Rattle.agreement_laws.specs.Configs.{Config, Party}
use Rattle.world_run.proofs.Begun.{among_at, seats_on, seats_made}
use Rattle.world_run.proofs.beginning.seats_for.Goals as goal

pub seat_for-requires : goal.seat_for-requires
seat_for-requires c =
    let same : c.as_slice-party-items.result.now ≡ c.args.config.now.parties = c.as_slice-party-items.ensures.value ∙ ap (λ (x : Config). x.parties) c.config.view_is in
    let there : Among c.party-item.result c.as_slice-party-items.result.now = among_at c.as_slice-party-items.result.now c.loop-party.party-index c.party-item.result c.party-item.result c.loop-party-test.true c.party-item.is in
    record { window = c.requires.windows c.party-item.result (subst (λ (ps : List Party). Among c.party-item.result ps) same there) }

pub loop-party-preserved : goal.loop-party-preserved
loop-party-preserved c =
    seats_on c.args.config.now c.args.config.now.parties c.as_slice-party-items.result.now c.loop-party.party-index c.party-item.result c.party-item.result c.loop-party.seats.items c.push.new.self.items c.in_ok-seat_for.field-0 c.loop-party-test.true c.party-item.is c.in_ok-push.ensures.items c.in_ok-seat_for.ensures c.loop-party.invariant

pub returns : goal.returns
returns c = seats_made c.args.config.now c.args.config.now.parties c.as_slice-party-items.result.now c.loop-party.party-index c.loop-party.seats.items c.loop-party-test.false c.loop-party.invariant
