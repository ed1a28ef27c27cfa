-- What a world shows: its runs, their steps, and the session keys that were given away, the newest first.
use Rattle.std.specs.Prelude.{◌≡◌, ℕ, suc, take, Bool, true, false, List, [], ◌∷◌, ◌++◌, map, Option, Some, None, ◌⊎◌, ◌==◌, ◌&&◌, if◌then◌else◌}
use Rattle.term_values.specs.Trees.{Among, Bytes, Tree, part, Occurs}
use Rattle.term_values.specs.declared.small.Key.{Key}
use Rattle.term_values.specs.declared.small.Key.TheVariants.{One, Two}
use Rattle.attacker_model.specs.Derivation.{Derivable}
use Rattle.mech_rows.specs.declared.kinds.Slot.{Slot}
use Rattle.mech_rows.specs.declared.kinds.Kind.{Kind}
use Rattle.mech_rows.specs.declared.kinds.Kind.TheVariants.{Nonce as a_nonce, Part as a_part}
use Rattle.mech_rows.specs.Rows.{kind_of, Cover, Pass, row_of, family, number}
use Rattle.mech_rows.specs.Facts.{is_part}
use Rattle.mech_rows.specs.Runs.{Notes, Run, Keys, body, protected, nth, Step, Draws, reply_pass, key_of}
use Rattle.agreement_laws.specs.Configs.{LongTerm, Config, keys_of, revealed_parts, IsGoodLong, IsGoodHead}

-- a run of a world: its party, and its number there
pub record RunId : Type 0 where
  pub party : ℕ
  pub number : ℕ

-- the two runs are one
abbrev pub same_id : RunId → RunId → Bool
same_id i j = (i.party == j.party) && (i.number == j.number)

-- what is seen of a world: a run is opened, a run makes a step, or the session key of a run is given away
pub data Happening : Type 0 where
  Opens : RunId → Run → Happening
  Steps : RunId → Step → Happening
  Reveals : RunId → Happening

-- the run of that number, as it stands
abbrev pub current : List Happening → RunId → Option Run
current [] id = None
current (Opens i run ∷ h) id = if same_id i id then Some run else current h id
current (Steps i step ∷ h) id = if same_id i id then Some step.after else current h id
current (Reveals i ∷ h) id = current h id

-- the parts of a key
abbrev pub parts_of : Option Key → List Bytes
parts_of None = []
parts_of (Some (One p)) = p ∷ []
parts_of (Some (Two p q)) = p ∷ q ∷ []

-- the session key of a run that is there
abbrev pub key_of_run : Option Run → Option Key
key_of_run None = None
key_of_run (Some run) = key_of run.head run.notes

-- the parts that were given away
abbrev pub given : List Happening → List Bytes
given [] = []
given (Opens id run ∷ h) = given h
given (Steps id step ∷ h) = given h
given (Reveals id ∷ h) = parts_of (key_of_run (current h id)) ++ given h

-- the known terms with the reply, where there is one
abbrev pub with_reply : Option Tree → List Tree → List Tree
with_reply None known = known
with_reply (Some t) known = t ∷ known

-- what the attacker knows: its own parts and the revealed ones, all that was sent, and the parts given away
abbrev pub known_before : Config → List Happening → List Tree
known_before c [] = map part c.own ++ revealed_parts c.pairs
known_before c (Opens id run ∷ h) = known_before c h
known_before c (Steps id step ∷ h) = with_reply step.reply (known_before c h)
known_before c (Reveals id ∷ h) = map part (parts_of (key_of_run (current h id))) ++ known_before c h

-- the term stands in a noted value
abbrev pub OccursInNotes : Tree → Notes → Type 0
OccursInNotes v notes = (s : Slot) × (t : Tree) × (notes s ≡ Some t) × Occurs v t

-- the term stands in the message, where there is one
abbrev pub OccursInMessage : Tree → Option Tree → Type 0
OccursInMessage v None = ⊥
OccursInMessage v (Some t) = Occurs v t

-- the term stands in what happened: in the notes of the run, in the message that it took, or in its reply
abbrev pub OccursIn : Tree → Happening → Type 0
OccursIn v (Opens id run) = OccursInNotes v run.notes
OccursIn v (Steps id step) = OccursInNotes v step.after.notes ⊎ OccursInMessage v step.taken ⊎ OccursInMessage v step.reply
OccursIn v (Reveals id) = ⊥

-- the term is a part of the configuration
abbrev pub OccursInConfig : Tree → Config → Type 0
OccursInConfig v c = ((p : Bytes) × Among p c.own × (v ≡ part p)) ⊎ ((l : LongTerm) × Among l c.pairs × (v ≡ part l.part))

-- values of the kind are drawn: nonces and parts
abbrev pub is_drawn_kind : Kind → Bool
is_drawn_kind a_nonce = true
is_drawn_kind a_part = true
is_drawn_kind _ = false

-- a message that is taken is derivable
abbrev pub Delivered : Config → List Happening → Option Tree → Type 0
Delivered c h None = Unit {0}
Delivered c h (Some t) = Derivable (known_before c h) t

-- each value that a step draws is new, and differs from the others that it draws
pub record IsFresh (c : Config) (h : List Happening) (step : Step) : Type 0 where
  pub in_config : (s : Slot) (t : Tree) → is_drawn_kind (kind_of s) ≡ true → Draws step s t → OccursInConfig t c → ⊥
  pub in_earlier : (s : Slot) (t : Tree) (e : Happening) → is_drawn_kind (kind_of s) ≡ true → Draws step s t → Among e h → OccursIn t e → ⊥
  pub in_taken : (s : Slot) (t : Tree) → is_drawn_kind (kind_of s) ≡ true → Draws step s t → OccursInMessage t step.taken → ⊥
  pub apart : (s u : Slot) (t : Tree) → is_drawn_kind (kind_of s) ≡ true → Draws step s t → Draws step u t → s ≡ u

-- drawn by a run whose long-term pairs all aren't revealed, and not given away so far
pub record IsGoodDrawn (c : Config) (h : List Happening) (p : Bytes) : Type 0 where
  pub id : RunId
  pub step : Step
  pub there : Among (Steps id step) h
  pub slot : Slot
  pub is_part_slot : is_part slot ≡ true
  pub draws : Draws step slot (part p)
  pub good : IsGoodHead c step.before.head
  pub kept : Among p (given h) → ⊥

-- good parts: those that the attacker is not to learn
abbrev pub IsGoodPart : Config → List Happening → Bytes → Type 0
IsGoodPart c h p = IsGoodLong c p ⊎ IsGoodDrawn c h p

-- the step makes this protected item: its role sends the pass of the reply, in which the item stands with the head's names
pub record Seals (keys : Keys) (step : Step) (t : Tree) : Type 0 where
  pub pass : Pass
  pub at : nth (row_of step.before.head.mech) (reply_pass step) ≡ Some pass
  pub sent : pass.from ≡ step.before.head.role
  pub cover : Cover
  pub there : Among cover pass.covers
  pub is_made : cover.made ≡ true
  pub is : t ≡ protected keys step.before.head step.after.notes cover

-- an earlier step made the protected item
pub record WasSealed (c : Config) (h : List Happening) (t : Tree) : Type 0 where
  pub id : RunId
  pub step : Step
  pub there : Among (Steps id step) h
  pub seals : Seals (keys_of c) step t

-- an earlier step made the item u: it stands in the step's list of sealed items, with this key and body.
-- The body has the names of the step's run, its tag names mechanism and pass, and the run's role sends that pass
pub record WasMade (c : Config) (h : List Happening) (k : Key) (u t : Tree) : Type 0 where
  pub id : RunId
  pub step : Step
  pub there : Among (Steps id step) h
  pub listed : Among (record { key = k; item = u; body = t }) step.sealed
  pub seals : Seals (keys_of c) step u
  pub is_body : t ≡ body step.before.head step.after.notes seals.cover
  pub tag_names : take 3 seals.cover.tagged ≡ family step.before.head.mech ∷ number step.before.head.mech ∷ suc (reply_pass step) ∷ []
