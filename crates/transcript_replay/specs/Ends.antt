-- How the playing of a line, or of a script, ends, and what was written by then.
use Rattle.std.specs.Prelude.{◌≡◌, ℕ, Bool, true, false, List, [], Option, Result, Ok, Err}
use Rattle.std.specs.Io.KnownBytes.{Appends}
use Rattle.term_values.specs.Trees.{Tree}
use Rattle.script_text.specs.declared.line.Line.{Line}
use Rattle.transcript_replay.specs.declared.reason.Reason.{Reason}
use Rattle.agreement_laws.specs.Configs.{Config}
use Rattle.transcript_replay.specs.declared.reason.Reason.TheVariants as reason
use Rattle.transcript_replay.specs.declared.stop.LineFault.{LineFault}
use Rattle.transcript_replay.specs.declared.stop.LineFault.TheVariants as fault
use Rattle.transcript_replay.specs.declared.stop.Stop.{Stop}
use Rattle.transcript_replay.specs.declared.stop.Stop.TheVariants.{Bad, Failed, Memory}
use Rattle.transcript_replay.specs.Players.{Player}
use Rattle.transcript_replay.specs.Printed.{bad_line}
use Rattle.transcript_replay.specs.Runs.{Breaks, Does, End, Whole, Front, Goes, IsBad, LineFront}
use Rattle.transcript_replay.specs.Said.{IsNoLine, NamesNothing, Says, is_event, is_setting}
use Rattle.transcript_replay.specs.Told.{PutsFront}

-- a line is bad for that reason, or memory was wanting
abbrev pub IsBadBy : Player → List ℕ → LineFault → Type 0
IsBadBy p l (fault.Bad r) = IsBad p l r
IsBadBy p l fault.Memory = Unit {0}

-- a text was not read as a line
abbrev pub IsUnsaid : List Tree → List ℕ → LineFault → Type 0
IsUnsaid sent l (fault.Bad reason.Grammar) = IsNoLine sent l
IsUnsaid sent l (fault.Bad reason.Reference) = NamesNothing sent l
IsUnsaid sent l (fault.Bad reason.Order) = ⊥
IsUnsaid sent l (fault.Bad reason.Config) = ⊥
IsUnsaid sent l fault.Memory = Unit {0}

-- what was written of a line that has no answer
abbrev pub FaultEnds : Stop → LineFault → ℕ → Option (List ℕ) → Option (List ℕ) → Type 0
FaultEnds Bad (fault.Bad r) k old new = Appends old new (bad_line k r)
FaultEnds Failed (fault.Bad r) k old new = PutsFront old new (bad_line k r)
FaultEnds Memory (fault.Bad r) k old new = PutsFront old new (bad_line k r)
FaultEnds Memory fault.Memory k old new = new ≡ old
FaultEnds Bad fault.Memory k old new = ⊥
FaultEnds Failed fault.Memory k old new = ⊥

-- the text that these ends have, where the bytes are told
abbrev pub end_of : Result (Unit {0}) Stop → End
end_of (Ok _) = Whole 0
end_of (Err Bad) = Whole 5
end_of (Err Failed) = Front
end_of (Err Memory) = Front

-- why a line ends the script, and what of it was written
abbrev pub StopEnds : Stop → ℕ → Player → List ℕ → Option (List ℕ) → Option (List ℕ) → Type 0
StopEnds Bad k p l old new = (r : Reason) × IsBad p l r × Appends old new (bad_line k r)
StopEnds Failed k p l old new = (text : List ℕ) × LineFront k p l text × Appends old new text
StopEnds Memory k p l old new = (text : List ℕ) × LineFront k p l text × Appends old new text

-- a line: whole, or its front
abbrev pub LineEnds : Result (Unit {0}) Stop → ℕ → Player → List ℕ → Player → Option (List ℕ) → Option (List ℕ) → Type 0
LineEnds (Ok _) k p l q old new = (text : List ℕ) × Goes p l q text × Appends old new text
LineEnds (Err stop) k p l q old new = StopEnds stop k p l old new

-- before the first event line: the line says something of the configuration, or nothing; or it is the first event line
abbrev pub HeardSo : Player → Line → Player → Bool → Type 0
HeardSo p l q false = Does p l q []
HeardSo p l q true = (is_event l ≡ true) × (q ≡ p)

-- a configuration line breaks a condition, or memory was wanting
abbrev pub IsBroken : Config → Line → LineFault → Type 0
IsBroken c l (fault.Bad r) = (r ≡ reason.Config) × Breaks c l
IsBroken c l fault.Memory = Unit {0}

-- a configuration line came after the first event line, or memory was wanting
abbrev pub IsLate : Line → LineFault → Type 0
IsLate l (fault.Bad r) = (r ≡ reason.Order) × (is_setting l ≡ true)
IsLate l fault.Memory = Unit {0}

-- a text before the first event line, and what was written of it
abbrev pub HeardEnds : Result Bool Stop → ℕ → Player → List ℕ → Player → Option (List ℕ) → Option (List ℕ) → Type 0
HeardEnds (Ok event) k p l q old new = (e : Line) × Says [] l e × HeardSo p e q event × (new ≡ old)
HeardEnds (Err stop) k p l q old new = StopEnds stop k p l old new

-- a text: whole, or its front
abbrev pub TextEnds : Result (Unit {0}) Stop → List ℕ → Option (List ℕ) → Option (List ℕ) → Type 0
TextEnds (Ok _) text old new = Appends old new text
TextEnds (Err Bad) text old new = ⊥
TextEnds (Err Failed) text old new = PutsFront old new text
TextEnds (Err Memory) text old new = PutsFront old new text
