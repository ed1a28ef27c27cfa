-- The numbers of the refusals.
use Rattle.std.specs.Prelude.{ℕ}
use Rattle.mech_rows.specs.declared.refusal.Refusal.{Refusal}
use Rattle.mech_rows.specs.declared.refusal.Refusal.TheVariants.{UnknownRun, EndedRun, Malformed, WrongPass, Unopened, WrongShape, WrongNames, WrongValue, WrongStampKind, Early, Late, Repeated, StoreFull, TextRefused, NotDerivable, Unborn, NoSecret, UnknownParty, WrongKind, SelfPeer, NoKey, TableFull, StampsSpent, DrawFault, Moved, KeeperFault, Memory}

-- the number of a refusal
abbrev pub code_of : Refusal → ℕ
code_of UnknownRun = 1
code_of EndedRun = 2
code_of (Malformed _ _) = 3
code_of WrongPass = 4
code_of (Unopened _) = 5
code_of (WrongShape _) = 6
code_of (WrongNames _) = 7
code_of (WrongValue _ _) = 8
code_of (WrongStampKind _) = 9
code_of (Early _ _) = 10
code_of (Late _ _) = 11
code_of (Repeated _) = 12
code_of (StoreFull _) = 13
code_of (TextRefused _) = 14
code_of NotDerivable = 20
code_of Unborn = 21
code_of NoSecret = 22
code_of UnknownParty = 30
code_of WrongKind = 31
code_of SelfPeer = 32
code_of NoKey = 33
code_of TableFull = 34
code_of StampsSpent = 35
code_of DrawFault = 36
code_of (Moved _ _) = 37
code_of KeeperFault = 38
code_of Memory = 40
