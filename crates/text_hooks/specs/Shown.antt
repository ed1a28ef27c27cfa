-- What messages show, and the texts of a run's own messages, in the order of noting.
use Rattle.std.specs.Prelude.{[], ◌∷◌}
use Rattle.term_values.specs.Trees.{nonce, stamp, text}
use Rattle.mech_rows.specs.declared.kinds.Slot.TheVariants.{Rb, Ta, X1, X2, X3, X4, X5}
use Rattle.mech_rows.specs.Verdict.{Noted}
use Rattle.text_hooks.specs.declared.shown.FirstTexts.{FirstTexts}
use Rattle.text_hooks.specs.declared.shown.SecondTexts.{SecondTexts}
use Rattle.text_hooks.specs.declared.shown.AnswerTexts.{AnswerTexts}
use Rattle.text_hooks.specs.declared.shown.ChallengeText.{ChallengeText}
use Rattle.text_hooks.specs.declared.shown.ChallengerTexts.{ChallengerTexts}
use Rattle.text_hooks.specs.declared.shown.Challenge.{Challenge}
use Rattle.text_hooks.specs.declared.shown.SealedToken.{SealedToken}
use Rattle.text_hooks.specs.declared.shown.CheckedToken.{CheckedToken}

-- the texts of a first message that has a stamp
abbrev pub first_texts : FirstTexts → Noted
first_texts f = (X1, text f.x1) ∷ (X2, text f.x2) ∷ []

-- the texts of a second message that answers a challenge
abbrev pub second_texts : SecondTexts → Noted
second_texts s = (X2, text s.x2) ∷ (X3, text s.x3) ∷ []

-- the texts of a second message that has a stamp
abbrev pub answer_texts : AnswerTexts → Noted
answer_texts a = (X3, text a.x3) ∷ (X4, text a.x4) ∷ []

-- the text of a challenge
abbrev pub challenge_text : ChallengeText → Noted
challenge_text c = (X1, text c.x1) ∷ []

-- the texts of a challenge and of the third message
abbrev pub challenger_texts : ChallengerTexts → Noted
challenger_texts c = (X1, text c.x1) ∷ (X4, text c.x4) ∷ (X5, text c.x5) ∷ []

-- what a challenge shows
abbrev pub challenge : Challenge → Noted
challenge c = (Rb, nonce c.rb) ∷ (X1, text c.x1) ∷ []

-- what a first message with a sealed stamp shows
abbrev pub sealed_token : SealedToken → Noted
sealed_token s = (X2, text s.x2) ∷ (Ta, stamp s.ta) ∷ (X1, text s.x1) ∷ []

-- what a first message with a checked stamp shows
abbrev pub checked_token : CheckedToken → Noted
checked_token c = (Ta, stamp c.ta) ∷ (X1, text c.x1) ∷ (X2, text c.x2) ∷ []
