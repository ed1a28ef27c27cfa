-- What a script prints: one case for each thing that a line may do.
use Rattle.std.specs.Prelude.{◌≡◌, ◌⊎◌, ℕ, ◌+◌, ◌||◌, nat_lt, List, [], ◌∷◌, ◌++◌, length, take, Bool, true, false}
use Rattle.text_hooks.specs.declared.rule.Rule.{Rule}
use Rattle.text_hooks.specs.Rules.{allowed}
use Rattle.script_text.specs.declared.line.Line.{Line}
use Rattle.script_text.specs.declared.line.Line.TheVariants as line
use Rattle.agreement_laws.specs.Configs.{Config}
use Rattle.world_run.specs.Conditions.{KeepsConditions}
use Rattle.world_run.specs.Views.{WorldView, sent_in}
use Rattle.transcript_replay.specs.declared.reason.Reason.{Reason}
use Rattle.transcript_replay.specs.declared.reason.Reason.TheVariants as reason
use Rattle.transcript_replay.specs.Cuts.{lines_of}
use Rattle.transcript_replay.specs.Answered.{IsClocked, IsDroppedSo, IsGivenSo, IsOpenedSo}
use Rattle.transcript_replay.specs.Players.{Player, fresh, set_up, started, with_own, with_pair, with_party}
use Rattle.transcript_replay.specs.Printed.{bad_line}
use Rattle.transcript_replay.specs.Said.{IsNoLine, NamesNothing, Says, is_setting}

-- ---- what a line does

-- a configuration line: it comes before the event lines, and prints nothing
pub record Declares (p : Player) (c : Config) (rules : List Rule) (q : Player) (text : List ℕ) : Type 0 where
  pub early : p.begun ≡ false
  pub is : q ≡ set_up c rules
  pub silent : text ≡ []

-- a line that says this does so, and prints this
abbrev pub Does : Player → Line → Player → List ℕ → Type 0
Does p (line.Party name kind window) q text = KeepsConditions (with_party p.world.config name kind window) × Declares p (with_party p.world.config name kind window) p.rules q text
Does p (line.Pair a b part revealed) q text = KeepsConditions (with_pair p.world.config a b part revealed) × Declares p (with_pair p.world.config a b part revealed) p.rules q text
Does p (line.Own part) q text = KeepsConditions (with_own p.world.config part) × Declares p (with_own p.world.config part) p.rules q text
Does p (line.Allow rule) q text = Declares p p.world.config (p.rules ++ rule ∷ []) q text
Does p (line.Clock name ms) q text = IsClocked p.world name ms q.world text × (q ≡ started q.world p.rules)
Does p (line.Open head texts) q text = IsOpenedSo p.world head texts q.world text × (q ≡ started q.world p.rules)
Does p (line.Give run term) q text = IsGivenSo (allowed p.rules) p.world run term q.world text × (q ≡ started q.world p.rules)
Does p (line.Drop run) q text = IsDroppedSo p.world run q.world text × (q ≡ started q.world p.rules)
Does p line.Empty q text = (q ≡ p) × (text ≡ [])

-- a text is a line that isn't bad
abbrev pub Goes : Player → List ℕ → Player → List ℕ → Type 0
Goes p text q said = (l : Line) × Says (sent_in p.world.acts) text l × Does p l q said

-- a configuration line breaks a condition
abbrev pub Breaks : Config → Line → Type 0
Breaks c (line.Party name kind window) = KeepsConditions (with_party c name kind window) → ⊥
Breaks c (line.Pair a b part revealed) = KeepsConditions (with_pair c a b part revealed) → ⊥
Breaks c (line.Own part) = KeepsConditions (with_own c part) → ⊥
Breaks c _ = ⊥

-- a bad line, with its reason
abbrev pub IsBad : Player → List ℕ → Reason → Type 0
IsBad p text reason.Grammar = IsNoLine (sent_in p.world.acts) text
IsBad p text reason.Reference = NamesNothing (sent_in p.world.acts) text
IsBad p text reason.Order = (l : Line) × Says (sent_in p.world.acts) text l × (is_setting l ≡ true) × (p.begun ≡ true)
IsBad p text reason.Config = (l : Line) × Says (sent_in p.world.acts) text l × Breaks p.world.config l × (p.begun ≡ false)

-- ---- what a text prints

-- the whole output with its status, or a front of it
pub data End : Type 0 where
  Whole : ℕ → End
  Front : End

-- a front of what a line prints
abbrev pub LineFront : ℕ → Player → List ℕ → List ℕ → Type 0
LineFront k p l text =
    (text ≡ [])
    ⊎ ((q : Player) × (said : List ℕ) × (n : ℕ) × Goes p l q said × (text ≡ take n said))
    ⊎ ((r : Reason) × (n : ℕ) × IsBad p l r × (text ≡ take n (bad_line k r)))

-- the script ends in this line: it is bad, or was cut off in it
abbrev pub Stops : ℕ → Player → List ℕ → End → List ℕ → Type 0
Stops k p l (Whole status) text = (r : Reason) × IsBad p l r × (text ≡ bad_line k r) × (status ≡ 5)
Stops k p l Front text = LineFront k p l text

-- the script ends after its last line
abbrev pub Closes : End → List ℕ → Type 0
Closes (Whole status) text = (text ≡ []) × (status ≡ 0)
Closes Front text = text ≡ []

-- these lines, of which the first has this number, print this text
abbrev pub Runs : ℕ → Player → List (List ℕ) → End → List ℕ → Type 0
Runs k p [] end text = Closes end text
Runs k p (l ∷ ls) end text =
    ((q : Player) × (said rest : List ℕ) × Goes p l q said × Runs (k + 1) q ls end rest × (text ≡ said ++ rest))
    ⊎ Stops k p l end text

-- more bytes or more lines than a script may have
abbrev pub is_over : List ℕ → Bool
is_over bytes = nat_lt 1_048_576 (length bytes) || nat_lt 4096 (length (lines_of bytes))

-- nothing is printed of a text that is too long
abbrev pub PrintsNothing : End → List ℕ → Type 0
PrintsNothing (Whole status) text = (status ≡ 6) × (text ≡ [])
PrintsNothing Front text = text ≡ []

-- an input leads to this output
abbrev pub IsOutput : List ℕ → End → List ℕ → Type 0
IsOutput bytes end text = ((is_over bytes ≡ true) × PrintsNothing end text) ⊎ ((is_over bytes ≡ false) × Runs 1 fresh (lines_of bytes) end text)

-- where these lines lead, up to a bad one
abbrev pub LeadsTo : Player → List (List ℕ) → Player → Type 0
LeadsTo p [] q = q ≡ p
LeadsTo p (l ∷ ls) q =
    ((m : Player) × (said : List ℕ) × Goes p l m said × LeadsTo m ls q)
    ⊎ ((r : Reason) × IsBad p l r × (q ≡ p))

-- the world that an input leads to which is not too long, however much of it was printed
abbrev pub IsWorldOf : List ℕ → WorldView → Type 0
IsWorldOf bytes w = (is_over bytes ≡ false) × (q : Player) × LeadsTo fresh (lines_of bytes) q × (w ≡ q.world)

-- the world after so many lines of an input which is not too long, up to a bad one, however much of it was printed
abbrev pub IsWorldAfter : List ℕ → ℕ → WorldView → Type 0
IsWorldAfter bytes k w = (is_over bytes ≡ false) × (q : Player) × LeadsTo fresh (take k (lines_of bytes)) q × (w ≡ q.world)
