-- Why a script was not played to its end.
use Rattle.std.specs.Prelude.{◌≡◌, ◌≤◌, ℕ, Result, Err}
use Rattle.outside.specs.Causes.{Rose}
use Rattle.outside.specs.declared.fault.PutFault.{PutFault}
use Rattle.outside.specs.declared.fault.PutFault.TheVariants as put
use Rattle.transcript_replay.specs.declared.stop.Stop.{Stop}
use Rattle.transcript_replay.specs.declared.stop.Stop.TheVariants.{Failed, Memory}

-- the end that a fault of a write makes
abbrev pub stop_of : PutFault → Stop
stop_of put.Failed = Failed
stop_of put.Memory = Memory

-- the count of faults never falls, and has risen where a write failed
pub record HasStopCause {T : Type 0} (before now : ℕ) (result : Result T Stop) : Type 0 where
  pub later : before ≤ now
  pub failed : result ≡ Err Failed → Rose before now

-- that, where it is told why
pub record HasFaultCause (before now : ℕ) (stop : Stop) : Type 0 where
  pub later : before ≤ now
  pub failed : stop ≡ Failed → Rose before now
