-- What keepers hold, and why a call of theirs failed.
use Rattle.std.specs.Prelude.{◌≡◌, ℕ, ◌+◌, ◌≤◌, ◌∷◌, [], ◌++◌, Bool, true, false, List, take, Option, Result, Ok, Err}
use Rattle.outside.specs.Causes.{Rose}
use Rattle.outside.specs.Gates.{Tells}
use Rattle.outside.specs.Tally.{Tally, IsToFail}
use Rattle.outside.specs.declared.fault.KeepFault.{KeepFault}
use Rattle.outside.specs.declared.fault.KeepFault.TheVariants.{Failed, Memory}
use Rattle.outside.specs.declared.mark.Mark.{Mark}

-- a keeper in memory: its marks, the first one first, and its appends
pub record KeeperParts : Type 0 where
  pub marks : List Mark
  pub calls : Tally

-- the count never falls, and has risen where a keeper failed; want of memory is no such fault
pub record HasKeepCause {T : Type 0} (before now : ℕ) (result : Result T KeepFault) : Type 0 where
  pub later : before ≤ now
  pub failed : result ≡ Err Failed → Rose before now

-- whether a keeper failed by the outside
abbrev pub keeper_failed : {T : Type 0} → Result T KeepFault → Bool
keeper_failed (Ok v) = false
keeper_failed (Err Memory) = false
keeper_failed (Err Failed) = true

-- these marks stand behind those that were told before
abbrev pub Adds : Option (List Mark) → Option (List Mark) → List Mark → Type 0
Adds old new marks = Tells (λ before after. after ≡ before ++ marks) old new

-- all the marks, or where the outside failed a front of them, or for want of memory none
abbrev pub KeepAdds : {T : Type 0} → Option (List Mark) → Option (List Mark) → Result T KeepFault → List Mark → Type 0
KeepAdds old new (Ok v) marks = Adds old new marks
KeepAdds old new (Err Failed) marks = (n : ℕ) × Adds old new (take n marks)
KeepAdds old new (Err Memory) marks = new ≡ old

-- the number of the next call, where it has one, is listed now, once; nothing else changes
pub record ListsNext (old new : Tally) : Type 0 where
  pub done : new.done ≡ old.done
  pub faults : new.faults ≡ old.faults
  pub listed : IsToFail old → new.failing ≡ old.failing
  pub added : (¬ IsToFail old) → new.failing ≡ old.failing ++ (old.done + 1) ∷ []
