-- What an issuer holds.
use Rattle.std.specs.Prelude.{ℕ}
use Rattle.term_values.specs.declared.small.StampKind.{StampKind}

-- the kind of its stamps, and the number that was issued last
pub record Issued : Type 0 where
  pub kind : StampKind
  pub last : ℕ
