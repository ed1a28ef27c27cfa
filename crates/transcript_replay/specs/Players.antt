-- What a script has come to.
use Rattle.std.specs.Prelude.{ℕ, Bool, false, true, List, [], ◌∷◌, ◌++◌, map}
use Rattle.term_values.specs.declared.small.StampKind.{StampKind}
use Rattle.text_hooks.specs.declared.rule.Rule.{Rule}
use Rattle.agreement_laws.specs.Configs.{Config, Party}
use Rattle.world_run.specs.Views.{WorldView}

-- the world, in which nothing has happened before the first event line, the rules on texts, and whether an event line has come
pub record Player : Type 0 where
  pub world : WorldView
  pub rules : List Rule
  pub begun : Bool

-- the world of a configuration before its first event
abbrev pub beginning : Config → WorldView
beginning c = record { config = c; acts = []; clocks = map (λ (p : Party). 0) c.parties; draws = 0; runs = [] }

-- the lines before the first event line said this
abbrev pub set_up : Config → List Rule → Player
set_up c rules = record { world = beginning c; rules = rules; begun = false }

-- an event line has come
abbrev pub started : WorldView → List Rule → Player
started w rules = record { world = w; rules = rules; begun = true }

-- nobody is there yet
abbrev pub nobody : Config
nobody = record { parties = []; pairs = []; own = [] }

-- before the first line
abbrev pub fresh : Player
fresh = set_up nobody []

-- the configuration with a further party
abbrev pub with_party : Config → ℕ → StampKind → ℕ → Config
with_party c name kind window = record { parties = c.parties ++ record { name = name; is_server = false; kind = kind; window = window } ∷ []; pairs = c.pairs; own = c.own }

-- the configuration with a further long-term part
abbrev pub with_pair : Config → ℕ → ℕ → List ℕ → Bool → Config
with_pair c a b part revealed = record { parties = c.parties; pairs = c.pairs ++ record { x = a; y = b; part = part; revealed = revealed } ∷ []; own = c.own }

-- the configuration with a further part of the attacker's own
abbrev pub with_own : Config → List ℕ → Config
with_own c part = record { parties = c.parties; pairs = c.pairs; own = c.own ++ part ∷ [] }
