-- Draws that are counted.
use Rattle.std.specs.Prelude.{ℕ, ◌-◌, ◌^◌, List, nat_lt, if◌then◌else◌}
use Rattle.outside.specs.Told.{DrawKind, nonce_draw, part_draw, counted_draw}

-- the number of the next draw, and how many draws failed
pub record Counts : Type 0 where
  pub place : ℕ
  pub faults : ℕ

-- how many draws failed: none before the counter's end
abbrev pub failed_draws : Counts → ℕ
failed_draws c = if nat_lt c.place (2 ^ 64 - 1) then 0 else c.faults

-- the byte that a nonce or a part begins with
abbrev pub first_byte : DrawKind → ℕ
first_byte nonce_draw = 0xd0
first_byte part_draw = 0xd1

-- draw k: its first byte, and k as 15 bytes or 31, the greater byte first
abbrev pub counted_value : DrawKind → ℕ → List ℕ
counted_value kind k = counted_draw (first_byte kind) kind k
