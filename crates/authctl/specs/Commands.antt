-- What words ask for.
use Rattle.std.specs.Prelude.{ℕ, List}
use Rattle.authctl.specs.declared.command.Command.{Command}
use Rattle.authctl.specs.declared.command.Command.TheVariants as command
use Rattle.authctl.specs.Offline.{IsReplay}
use Rattle.authctl.specs.Words.{IsWalk}

-- the words ask for this command
abbrev pub IsAsked : List (List ℕ) → Command → Type 0
IsAsked words (command.Walk w) = IsWalk words w
IsAsked words command.Replay = IsReplay words
