use Rattle.std.proofs.Common.{◌≡◌, true, refl, rules}
use Rattle.transcript_replay.specs.Fitting.{fits_party}
use Rattle.transcript_replay.proofs.Adding.{party_kept}
use Rattle.transcript_replay.proofs.setup.Setup.party.Goals as goal

pub returns-clause-ok : goal.returns-clause-ok
returns-clause-ok c =
    let fits : fits_party c.args.self.now.config c.args.name c.args.window ≡ true = search rules in
    (party_kept c.args.self.now.config c.args.name c.args.kind c.args.window c.requires fits, record { early = refl; is = search rules; silent = refl })
