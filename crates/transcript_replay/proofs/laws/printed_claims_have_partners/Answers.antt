use Rattle.transcript_replay.proofs.Claimed.{claim_is_shown, none_is_printed, printed_partner, shown_is_claim}
use Rattle.transcript_replay.proofs.laws.printed_claims_have_partners.Goals as goal

pub returns-clause-shown : goal.returns-clause-shown
returns-clause-shown c = λ w run slots claims. claim_is_shown w run slots claims

pub returns-clause-claims : goal.returns-clause-claims
returns-clause-claims c = λ w run done shown. shown_is_claim w run done shown

pub returns-clause-none : goal.returns-clause-none
returns-clause-none c = λ w run done shown. none_is_printed w run done shown

pub returns-clause-partner : goal.returns-clause-partner
returns-clause-partner c = λ bytes k w h run after tells among done shown. printed_partner bytes k w h run after tells among done shown
