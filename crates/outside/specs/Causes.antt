-- What a call of the outside did, and why it failed.
use Rattle.std.specs.Prelude.{◌≡◌, ℕ, ◌+◌, ◌-◌, ◌^◌, ◌≤◌, min, Bool, true, false, List, take, Option, Result, Ok, Err, OnErr, MatchResult}
use Rattle.std.specs.Io.KnownBytes.{Appends}
use Rattle.outside.specs.declared.fault.PutFault.{PutFault}
use Rattle.outside.specs.declared.fault.PutFault.TheVariants.{Failed, Memory}

-- the count has risen; one that stands at its type's end stands still
abbrev pub Rose : ℕ → ℕ → Type 0
Rose before now = min (before + 1) (2 ^ 64 - 1) ≤ now

-- the count never falls, and has risen where a call failed
pub record HasCause {T E : Type 0} (before now : ℕ) (result : Result T E) : Type 0 where
  pub later : before ≤ now
  pub failed : OnErr result (Rose before now)

-- the count never falls, and has risen where a put failed; want of memory is no fault of the outside
pub record HasPutCause {T : Type 0} (before now : ℕ) (result : Result T PutFault) : Type 0 where
  pub later : before ≤ now
  pub failed : result ≡ Err Failed → Rose before now

-- whether a put failed by the outside
abbrev pub has_failed : {T : Type 0} → Result T PutFault → Bool
has_failed (Ok v) = false
has_failed (Err Memory) = false
has_failed (Err Failed) = true

-- the whole piece, or after a fault a front of it
abbrev pub PutAppends : {T : Type 0} → Option (List ℕ) → Option (List ℕ) → Result T PutFault → List ℕ → Type 0
PutAppends old new result piece = MatchResult result (λ _. Appends old new piece) (λ _. (n : ℕ) × Appends old new (take n piece))
