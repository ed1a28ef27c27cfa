-- What a text says as a line of a script.
use Rattle.std.specs.Prelude.{◌≡◌, Bool, true, false, IsTrue, List, ℕ}
use Rattle.term_values.specs.Trees.{Tree}
use Rattle.tagged_codec.specs.Grammar.{IsInLimits}
use Rattle.node_desk.specs.Lives.{plays_live}
use Rattle.script_text.specs.declared.line.Line.{Line}
use Rattle.script_text.specs.declared.line.Line.TheVariants as line
use Rattle.script_text.specs.Lines.{IsLine, WrittenLine, is_line_named, said}

-- the text is a line that says this, after these messages were sent
abbrev pub Says : List Tree → List ℕ → Line → Type 0
Says sent text l = (w : WrittenLine) × IsLine sent text w × IsTrue (is_line_named sent w) × (l ≡ said sent w)

-- the text is a line, but an `@` of it names nothing
abbrev pub NamesNothing : List Tree → List ℕ → Type 0
NamesNothing sent text = (w : WrittenLine) × IsLine sent text w × (is_line_named sent w ≡ false)

-- the text is no line
abbrev pub IsNoLine : List Tree → List ℕ → Type 0
IsNoLine sent text = (w : WrittenLine) → IsLine sent text w → ⊥

-- an event line
abbrev pub is_event : Line → Bool
is_event (line.Clock name ms) = true
is_event (line.Open head texts) = true
is_event (line.Give run term) = true
is_event (line.Drop run) = true
is_event (line.Party name kind window) = false
is_event (line.Pair a b part revealed) = false
is_event (line.Own part) = false
is_event (line.Allow rule) = false
is_event line.Empty = false

-- a configuration line
abbrev pub is_setting : Line → Bool
is_setting (line.Clock name ms) = false
is_setting (line.Open head texts) = false
is_setting (line.Give run term) = false
is_setting (line.Drop run) = false
is_setting (line.Party name kind window) = true
is_setting (line.Pair a b part revealed) = true
is_setting (line.Own part) = true
is_setting (line.Allow rule) = true
is_setting line.Empty = false

-- what a world asks of a line: its run is one that parties may have, and its term is within the limits of spellings
abbrev pub IsPlayable : Line → Type 0
IsPlayable (line.Clock name ms) = Unit {0}
IsPlayable (line.Open head texts) = plays_live head ≡ true
IsPlayable (line.Give run term) = IsInLimits term
IsPlayable (line.Drop run) = Unit {0}
IsPlayable (line.Party name kind window) = Unit {0}
IsPlayable (line.Pair a b part revealed) = Unit {0}
IsPlayable (line.Own part) = Unit {0}
IsPlayable (line.Allow rule) = Unit {0}
IsPlayable line.Empty = Unit {0}
