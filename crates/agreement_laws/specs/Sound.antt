-- What a completion may rely on: agreement, its injectivity, secrecy.
use Rattle.std.specs.Prelude.{ℕ, ◌≡◌, List, Some, [], ◌∷◌, ◌++◌, ◌⊎◌, true}
use Rattle.term_values.specs.Trees.{Trees, tag, tuple, item, seal, check, Among, Bytes, Tree, part}
use Rattle.term_values.specs.declared.small.Key.{Key}
use Rattle.attacker_model.specs.Derivation.{Derivable, IsGoodKey}
use Rattle.mech_rows.specs.declared.kinds.Mech.{Mech}
use Rattle.mech_rows.specs.declared.kinds.Role.{Role}
use Rattle.mech_rows.specs.declared.kinds.Role.TheVariants.{P}
use Rattle.mech_rows.specs.declared.kinds.Slot.{Slot}
use Rattle.mech_rows.specs.declared.kinds.Slot.TheVariants.{Fa}
use Rattle.mech_rows.specs.Rows.{has_third, agreed_of}
use Rattle.mech_rows.specs.Facts.{peer_of}
use Rattle.mech_rows.specs.Heads.{me}
use Rattle.mech_rows.specs.Runs.{Notes, Run, names, Step, IsDone, key_of}
use Rattle.agreement_laws.specs.Configs.{Config, IsGoodHead, IsUnrevealed}
use Rattle.agreement_laws.specs.Traces.{RunId, Happening, Opens, Steps, Reveals, current, given, known_before, parts_of, IsGoodPart, WasMade}

-- h once was old: it is old, with later happenings before it in the list
abbrev pub Once : List Happening → List Happening → Type 0
Once old [] = old ≡ []
Once old (e ∷ h) = (old ≡ e ∷ h) ⊎ Once old h

-- a run completes: the step with which it acts in its last pass, and what there was before it
pub record Completion (h : List Happening) : Type 0 where
  pub id : RunId
  pub step : Step
  pub before : List Happening
  pub moment : Once (Steps id step ∷ before) h
  pub done : IsDone step.after

-- the slot is noted in both, with equal values
pub record NotedAlike (s : Slot) (r c : Notes) : Type 0 where
  pub tree : Tree
  pub left : r s ≡ Some tree
  pub right : c s ≡ Some tree

-- the run r has that role, and has mechanism, names and these slots alike with the run of a completion
pub record AgreesOn (role : Role) (slots : List Slot) (r c : Run) : Type 0 where
  pub mech : r.head.mech ≡ c.head.mech
  pub names : names r.head ≡ names c.head
  pub role_is : r.head.role ≡ role
  pub alike : (s : Slot) → Among s slots → NotedAlike s r.notes c.notes

-- the mechanism has a third party
abbrev pub IsThird : Mech → Type 0
IsThird m = has_third m ≡ true

-- the completion claims agreement on these slots: its role has them in its row, no long-term pair of the row is revealed,
-- and with a third party its Fa wasn't given away before
pub record HasClaim (c : Config) (h : List Happening) (k : Completion h) (slots : List Slot) : Type 0 where
  pub claimed : agreed_of k.step.after.head.mech k.step.after.head.role ≡ Some slots
  pub good : IsGoodHead c k.step.after.head
  pub kept : IsThird k.step.after.head.mech → (p : Bytes) → k.step.after.notes Fa ≡ Some (part p) → Among p (given k.before) → ⊥

-- the completion has this key as a secret: no long-term pair of its row is revealed, and no part of the key is given away at the end
pub record HasSecret (c : Config) (h : List Happening) (k : Completion h) (key : Key) : Type 0 where
  pub is_key : key_of k.step.after.head k.step.after.notes ≡ Some key
  pub good : IsGoodHead c k.step.after.head
  pub kept : (p : Bytes) → Among p (parts_of (Some key)) → Among p (given h) → ⊥

-- the runs in the order of opening, from the first
abbrev pub opened : List Happening → List RunId
opened [] = []
opened (Opens id run ∷ h) = opened h ++ (id ∷ [])
opened (Steps id step ∷ h) = opened h
opened (Reveals id ∷ h) = opened h

-- id is the first of these that is so, and none before it is
abbrev pub IsFirst : (RunId → Type 0) → List RunId → RunId → Type 0
IsFirst Is [] id = ⊥
IsFirst Is (i ∷ is) id = ((id ≡ i) × Is i) ⊎ ((Is i → ⊥) × IsFirst Is is id)

-- the run of that number, as it stands, agrees so with the completed one
abbrev pub AgreesAt : List Happening → Role → List Slot → Run → RunId → Type 0
AgreesAt h role slots run id = (r : Run) × (current h id ≡ Some r) × AgreesOn role slots r run

-- of the runs that agree with the completed one on these slots, the one that was opened first
abbrev pub IsPartner : List Happening → List Slot → Run → RunId → Type 0
IsPartner h slots run = IsFirst (AgreesAt h (peer_of run.head.role) slots run) (opened h)

-- of the runs of the third party with the same mechanism, names and Fa, the one that was opened first
abbrev pub IsServer : List Happening → Run → RunId → Type 0
IsServer h run = IsFirst (AgreesAt h P (Fa ∷ []) run) (opened h)

-- each completion with a claim has a partner, and with a third party a server
pub record IsPartnered (c : Config) (h : List Happening) : Type 0 where
  pub partner : (k : Completion h) (slots : List Slot) → HasClaim c h k slots → (id : RunId) × IsPartner h slots k.step.after id
  pub server : (k : Completion h) (slots : List Slot) → HasClaim c h k slots → IsThird k.step.after.head.mech → (id : RunId) × IsServer h k.step.after id

-- the two are one completion
abbrev pub SameCompletion : {h : List Happening} → Completion h → Completion h → Type 0
SameCompletion k l = (k.id ≡ l.id) × (k.step ≡ l.step) × (k.before ≡ l.before)

-- two claims with which one run agrees are one completion
abbrev pub IsInjective : Config → List Happening → Type 0
IsInjective c h =
    (k l : Completion h) (slots more : List Slot) → HasClaim c h k slots → HasClaim c h l more → (id : RunId) (r : Run) → current h id ≡ Some r →
    AgreesOn (peer_of k.step.after.head.role) slots r k.step.after → AgreesOn (peer_of l.step.after.head.role) more r l.step.after → SameCompletion k l

-- what completions keep secret cannot be derived
abbrev pub KeepsKeys : Config → List Happening → Type 0
KeepsKeys c h = (k : Completion h) (key : Key) → HasSecret c h k key → (p : Bytes) → Among p (parts_of (Some key)) → Derivable (known_before c h) (part p) → ⊥

-- the keys of completions with a secret are fresh ground for what goes on under them: none of their parts can be derived,
-- and nothing under them that begins with a tag of that family
pub record IsCleanBase (c : Config) (h : List Happening) (family : ℕ) : Type 0 where
  pub parts : KeepsKeys c h
  pub seals : (k : Completion h) (key : Key) (rest : Bytes) (us : Trees) → HasSecret c h k key → Derivable (known_before c h) (seal key (tuple (item (tag (family ∷ rest)) us))) → ⊥
  pub checks : (k : Completion h) (key : Key) (rest : Bytes) (us : Trees) → HasSecret c h k key → Derivable (known_before c h) (check key (tuple (item (tag (family ∷ rest)) us))) → ⊥

-- agreement, its injectivity, and secrecy of the keys
pub record IsSound (c : Config) (h : List Happening) : Type 0 where
  pub partnered : IsPartnered c h
  pub injective : IsInjective c h
  pub secret : KeepsKeys c h

-- no part of these is derivable
abbrev pub HidesParts : (Bytes → Type 0) → Config → List Happening → Type 0
HidesParts Is c h = (p : Bytes) → Is p → Derivable (known_before c h) (part p) → ⊥

-- no good part is derivable
abbrev pub HidesGoodParts : Config → List Happening → Type 0
HidesGoodParts c h = HidesParts (IsGoodPart c h) c h

-- each derivable seal or check under a good key was made by an earlier step of its row
pub record HasOrigins (c : Config) (h : List Happening) : Type 0 where
  pub seals : (k : Key) (t : Tree) → IsGoodKey (IsGoodPart c h) k → Derivable (known_before c h) (seal k t) → WasMade c h k (seal k t) t
  pub checks : (k : Key) (t : Tree) → IsGoodKey (IsGoodPart c h) k → Derivable (known_before c h) (check k t) → WasMade c h k (check k t) t

-- each part of the key of a completion with a secret is good
abbrev pub SecretsAreGood : Config → List Happening → Type 0
SecretsAreGood c h = (k : Completion h) (key : Key) → HasSecret c h k key → (p : Bytes) → Among p (parts_of (Some key)) → IsGoodPart c h p

-- a run stands in the log of the party that plays its role
abbrev pub RunsAreOwned : Config → List Happening → Type 0
RunsAreOwned c h = (id : RunId) (r : Run) → current h id ≡ Some r → me r.head ≡ id.party

-- there is at most one partner and at most one server
pub record HasOnePartner (h : List Happening) (slots : List Slot) (run : Run) : Type 0 where
  pub partner : (i j : RunId) → IsPartner h slots run i → IsPartner h slots run j → i ≡ j
  pub server : (i j : RunId) → IsServer h run i → IsServer h run j → i ≡ j

-- where none of the pairs of a completed run of A or B is revealed, each of them is there and hidden
abbrev pub PairsAreThere : Config → List Happening → Type 0
PairsAreThere c h = (k : Completion h) → (k.step.after.head.role ≡ P → ⊥) → IsUnrevealed c k.step.after.head → IsGoodHead c k.step.after.head
