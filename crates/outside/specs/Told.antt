-- What draws give, where that is told.
use Rattle.std.specs.Prelude.{◌≡◌, ℕ, ◌+◌, List, ◌∷◌, Option, None, Some, ⊤}
use Rattle.std.specs.Int.{bytes_high_first}

-- what is drawn
pub data DrawKind : Type 0 where
  nonce_draw : DrawKind
  part_draw : DrawKind

-- the place of the next draw, and the nonce or part that draw k gives
pub record Told : Type 0 where
  pub place : ℕ
  pub value : DrawKind → ℕ → List ℕ

-- after one draw
abbrev pub next_draw : Told → Told
next_draw t = record { place = t.place + 1; value = t.value }

-- these bytes are the draw at the old place, and the place has risen by one
abbrev pub IsDrawn : DrawKind → Option Told → Option Told → List ℕ → Type 0
IsDrawn kind None new bytes = ⊤
IsDrawn kind (Some t) new bytes = (bytes ≡ t.value kind t.place) × (new ≡ Some (next_draw t))

-- draw k in memory: the byte lead, and k as 15 bytes or 31, the greater byte first
unfoldable pub counted_draw : ℕ → DrawKind → ℕ → List ℕ
counted_draw lead nonce_draw k = lead ∷ bytes_high_first 15 k
counted_draw lead part_draw k = lead ∷ bytes_high_first 31 k
