-- What gates hold.
use Rattle.std.specs.Prelude.{◌≡◌, ℕ, ◌+◌, List, [], ◌∷◌, ◌++◌, Option, None, Some, Result, Ok, Err}
use Rattle.outside.specs.Tally.{Tally}

-- what a gate tells: the lines still to come, those given back, and the ports dialed
pub record Gated (L : Type 0) : Type 0 where
  pub to_come : List L
  pub returned : List L
  pub dialed : List ℕ

-- a gate in memory: its three lists, how many lines are out, and its calls
pub record GateParts (L : Type 0) : Type 0 where
  pub lists : Gated L
  pub lines_out : ℕ
  pub calls : Tally

-- a line was the next to come, and these ports were dialed for it
abbrev pub Leaves : {L : Type 0} → Gated L → Gated L → L → List ℕ → Type 0
Leaves old new line ports =
    (old.to_come ≡ line ∷ new.to_come) × (new.returned ≡ old.returned) × (new.dialed ≡ old.dialed ++ ports)

-- the next line, or none where no more come
abbrev pub Admits : {L : Type 0} → Gated L → Gated L → Option L → Type 0
Admits old new None = (old.to_come ≡ []) × (new ≡ old)
Admits old new (Some line) = Leaves old new line []

-- one relation of what was told before and after, where that is told
abbrev pub Tells : {G : Type 0} → (G → G → Type 0) → Option G → Option G → Type 0
Tells relation None new = new ≡ None
Tells relation (Some old) None = ⊥
Tells relation (Some old) (Some new) = relation old new

-- after a line was given back
abbrev pub after_return : {L : Type 0} → L → Gated L → Gated L
after_return line g = record { to_come = g.to_come; returned = g.returned ++ line ∷ []; dialed = g.dialed }

-- one more where an admit gave a line
abbrev pub out_after : {L E : Type 0} → Result (Option L) E → ℕ → ℕ
out_after (Ok (Some line)) out = out + 1
out_after (Ok None) out = out
out_after (Err fault) out = out

-- one more where a dial gave a line
abbrev pub out_dialed : {L E : Type 0} → Result L E → ℕ → ℕ
out_dialed (Ok line) out = out + 1
out_dialed (Err fault) out = out
