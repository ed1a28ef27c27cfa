-- What the offline call writes, and what its status says.
use Rattle.std.specs.Prelude.{◌≡◌, ◌⊎◌, ℕ, List, [], ◌∷◌, take, codes}
use Rattle.transcript_replay.specs.Runs.{End, Front, IsOutput, Whole}
use Rattle.authctl.specs.declared.words.Walk.{Walk}
use Rattle.authctl.specs.Words.{IsWalk}
use Rattle.authctl.specs.Walks.{walk_output}

-- the words ask for the replay of a script
abbrev pub IsReplay : List (List ℕ) → Type 0
IsReplay words = words ≡ codes "replay" ∷ []

-- the words are a command
abbrev pub IsCommand : List (List ℕ) → Type 0
IsCommand words = ((w : Walk) × IsWalk words w) ⊎ IsReplay words

-- the output of a walk with its status, or a front of it
abbrev pub IsWalked : Walk → End → List ℕ → Type 0
IsWalked w (Whole status) text = (text ≡ walk_output w) × (status ≡ 0)
IsWalked w Front text = (n : ℕ) × (text ≡ take n (walk_output w))

-- the output of words and an input, which a walk does not read
abbrev pub IsOffline : List (List ℕ) → List ℕ → End → List ℕ → Type 0
IsOffline words input end text = ((w : Walk) × IsWalk words w × IsWalked w end text) ⊎ (IsReplay words × IsOutput input end text)
