-- What a run knows, in the order of noting.
use Rattle.std.specs.Prelude.{[], ◌∷◌, ◌++◌}
use Rattle.term_values.specs.Trees.{nonce, stamp}
use Rattle.mech_rows.specs.declared.kinds.Slot.TheVariants.{Ra, Rb, Ta}
use Rattle.mech_rows.specs.Verdict.{Noted}
use Rattle.text_hooks.specs.declared.known.Challenged.{Challenged}
use Rattle.text_hooks.specs.declared.known.Sent.{Sent}
use Rattle.text_hooks.specs.declared.known.Stamped.{Stamped}
use Rattle.text_hooks.specs.declared.known.Asked.{Asked}
use Rattle.text_hooks.specs.declared.known.Challenging.{Challenging}
use Rattle.text_hooks.specs.Shown.{challenge, challenge_text, challenger_texts, first_texts, second_texts}

-- it has heard a challenge, and answers it with these texts
abbrev pub challenged : Challenged → Noted
challenged c = second_texts c.own ++ challenge c.challenge

-- it has answered a challenge, with a nonce of its own
abbrev pub sent : Sent → Noted
sent s = (second_texts s.own ++ challenge s.challenge) ++ (Ra, nonce s.ra) ∷ []

-- it has sent a first message with a stamp
abbrev pub stamped : Stamped → Noted
stamped s = first_texts s.own ++ (Ta, stamp s.ta) ∷ []

-- it has sent a challenge, and speaks no more
abbrev pub asked : Asked → Noted
asked a = challenge_text a.own ++ (Rb, nonce a.rb) ∷ []

-- it has sent a challenge, and says the third message
abbrev pub challenging : Challenging → Noted
challenging c = challenger_texts c.own ++ (Rb, nonce c.rb) ∷ []
