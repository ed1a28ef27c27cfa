-- Runs, the messages that a run sends and takes, and its steps, for every mechanism by its row.
use Rattle.std.specs.Prelude.{◌≡◌, ◌≤◌, ℕ, zero, suc, Bool, List, [], ◌∷◌, ◌++◌, map, drop, Option, Some, None, ◌⊎◌, if◌then◌else◌}
use Rattle.term_values.specs.Trees.{Among, Bytes, Tree, name, stamp, nonce, part, text, tag, tuple, seal, check, none, trees}
use Rattle.term_values.specs.Lengths.{length_of}
use Rattle.term_values.specs.declared.small.Key.{Key}
use Rattle.term_values.specs.declared.small.Key.TheVariants.{One, Two}
use Rattle.term_values.specs.declared.small.Stamp.{Stamp}
use Rattle.mech_rows.specs.declared.kinds.Role.{Role}
use Rattle.mech_rows.specs.declared.kinds.Role.TheVariants.{P}
use Rattle.mech_rows.specs.declared.kinds.Slot.{Slot}
use Rattle.mech_rows.specs.declared.kinds.Slot.TheVariants.{Fa, Fwd}
use Rattle.mech_rows.specs.declared.kinds.Kind.{Kind}
use Rattle.mech_rows.specs.declared.kinds.Kind.TheVariants.{Nonce as a_nonce, Stamp as a_stamp, Part as a_part, Text as a_text, Item as an_item}
use Rattle.mech_rows.specs.Rows.{kind_of, Cover, Pass, row_of, has_third, key_slots}
use Rattle.mech_rows.specs.declared.kinds.Under.{Under}
use Rattle.mech_rows.specs.declared.kinds.Under.TheVariants.{Pair, Drawn}
use Rattle.mech_rows.specs.declared.kinds.Clear.{Clear}
use Rattle.mech_rows.specs.declared.kinds.Clear.TheVariants.{Slot as Shown, NameOfB}
use Rattle.mech_rows.specs.declared.outcome.Outcome.{Outcome}
use Rattle.mech_rows.specs.declared.outcome.Outcome.TheVariants.{Going, Done}
use Rattle.mech_rows.specs.Facts.{acts}
use Rattle.mech_rows.specs.Heads.{Head, name_of}

-- what a run knows of each slot
abbrev pub Notes : Type 0
Notes = Slot → Option Tree

-- a run: its head, the place of its next pass, counted from 0, and what it has noted
pub record Run : Type 0 where
  pub head : Head
  pub next : ℕ
  pub notes : Notes

-- the long-term part of two names
abbrev pub Keys : Type 0
Keys = ℕ → ℕ → Option Bytes

-- a noted value; the empty tuple where there is none, which no message of a step shows
abbrev pub noted_or_empty : Option Tree → Tree
noted_or_empty (Some t) = t
noted_or_empty None = tuple none

-- the value of the slot
abbrev pub value : Notes → Slot → Tree
value notes s = noted_or_empty (notes s)

-- the bytes of a part that is there
abbrev pub bytes_or_empty : Option Bytes → Bytes
bytes_or_empty (Some p) = p
bytes_or_empty None = []

-- the bytes of a part
abbrev pub part_bytes : Tree → Bytes
part_bytes (part p) = p
part_bytes _ = []

-- the key of a protected item: a long-term part comes from the ring, the drawn one from the notes
abbrev pub key_under : Keys → Head → Notes → Under → Key
key_under keys h notes (Pair x y) = One (bytes_or_empty (keys (name_of h x) (name_of h y)))
key_under keys h notes Drawn = One (part_bytes (value notes Fa))

-- the names in a body: that of A, that of B, and that of the third party where there is one
abbrev pub names : Head → List Tree
names h = if has_third h.mech then name h.a ∷ name h.b ∷ name (name_of h P) ∷ [] else name h.a ∷ name h.b ∷ []

-- the body of a protected item: its tag, the names, and the values of its slots
abbrev pub body : Head → Notes → Cover → Tree
body h notes c = tuple (trees (tag c.tagged ∷ (names h ++ map (value notes) c.slots)))

-- the protected item itself, under symbolic sealing
abbrev pub protected : Keys → Head → Notes → Cover → Tree
protected keys h notes c =
    if c.is_check
    then check (key_under keys h notes c.under) (body h notes c)
    else seal (key_under keys h notes c.under) (body h notes c)

-- an item that is not protected
abbrev pub clear_item : Head → Notes → Clear → Tree
clear_item h notes (Shown s) = value notes s
clear_item h notes NameOfB = name h.b

-- the items that the sender knows: those that it makes
abbrev pub made : Cover → Bool
made c = c.made

-- the items that the receiver knows: those that it opens or tests
abbrev pub seen : Cover → Bool
seen c = c.seen

-- the pass at place k, counted from 0
abbrev pub nth : List Pass → ℕ → Option Pass
nth [] k = None
nth (p ∷ ps) zero = Some p
nth (p ∷ ps) (suc k) = nth ps k

-- the slots that a pass shows to a role that knows these items
abbrev pub clear_slots : List Clear → List Slot
clear_slots [] = []
clear_slots (Shown s ∷ cs) = s ∷ clear_slots cs
clear_slots (NameOfB ∷ cs) = clear_slots cs

-- the slots of the items that the sender makes
abbrev pub sent_in : List Cover → List Slot
sent_in [] = []
sent_in (c ∷ cs) = (if c.made then c.slots else []) ++ sent_in cs

-- the slots of the items that the receiver opens or tests, and Fwd for each other one
abbrev pub seen_in : List Cover → List Slot
seen_in [] = []
seen_in (c ∷ cs) = (if c.seen then c.slots else Fwd ∷ []) ++ seen_in cs

-- the slots that the sender of the pass shows
abbrev pub sent_slots : Pass → List Slot
sent_slots p = clear_slots p.clear ++ sent_in p.covers

-- the slots that the receiver of the pass sees
abbrev pub seen_slots : Pass → List Slot
seen_slots p = clear_slots p.clear ++ seen_in p.covers

-- a term that may be forwarded: its spelling has at most 4,096 bytes
abbrev pub IsForwardable : Tree → Type 0
IsForwardable t = length_of t ≤ 4096

-- the value is of the kind
abbrev pub HasKind : Kind → Tree → Type 0
HasKind a_nonce t = (b : Bytes) × (t ≡ nonce b)
HasKind a_stamp t = (s : Stamp) × (t ≡ stamp s)
HasKind a_part t = (b : Bytes) × (t ≡ part b)
HasKind a_text t = (b : Bytes) × (t ≡ text b)
HasKind an_item t = IsForwardable t

-- new has what old has, and besides a value of its kind for each of these slots alone
pub record Extends (old : Notes) (slots : List Slot) (new : Notes) : Type 0 where
  pub kept : (s : Slot) (t : Tree) → old s ≡ Some t → new s ≡ Some t
  pub noted : (s : Slot) → Among s slots → (t : Tree) × (new s ≡ Some t)
  pub only : (s : Slot) (t : Tree) → new s ≡ Some t → (old s ≡ Some t) ⊎ Among s slots
  pub kinds : (s : Slot) (t : Tree) → Among s slots → new s ≡ Some t → HasKind (kind_of s) t

-- a protected item with its key and its body
pub record Opening : Type 0 where
  pub key : Key
  pub item : Tree
  pub body : Tree

-- a stamp to judge: the slot where it stood, the party that issued it, and the tag of its body
pub record Got : Type 0 where
  pub slot : Slot
  pub sender : ℕ
  pub tagged : Bytes
  pub stamp : Stamp

-- a step: what the run was, the message that it took, its notes then, what it became, and its reply.
-- `opened` are the protected items of the message that the role opened or tested, `sealed` those of the reply that it made,
-- `got` the stamps to judge, and `issued` the stamp that it issued for the reply
pub record Step : Type 0 where
  pub before : Run
  pub taken : Option Tree
  pub middle : Notes
  pub after : Run
  pub opened : List Opening
  pub got : List Got
  pub issued : Option Stamp
  pub sealed : List Opening
  pub reply : Option Tree
  pub outcome : Outcome

-- the next pass after a message was taken, or none was
abbrev pub after_taking : ℕ → Option Tree → ℕ
after_taking next None = next
after_taking next (Some t) = suc next

-- the pass of the reply, where there is one
abbrev pub reply_pass : Step → ℕ
reply_pass step = after_taking step.before.next step.taken

-- the place of the first pass in which the role acts, where these passes begin at place n
abbrev pub first_act : Role → ℕ → List Pass → ℕ
first_act r n [] = n
first_act r n (p ∷ ps) = if acts r p then n else first_act r (suc n) ps

-- the place of the next pass, from place n on, in which the role acts
abbrev pub next_act : Head → ℕ → ℕ
next_act h n = first_act h.role n (drop n (row_of h.mech))

-- the step draws t for the slot, or issues it: it sends the slot, which it had not noted
pub record Draws (step : Step) (s : Slot) (t : Tree) : Type 0 where
  pub is_new : step.middle s ≡ None
  pub is : step.after.notes s ≡ Some t

-- the step takes the slot's value from its message
pub record Learns (step : Step) (s : Slot) (t : Tree) : Type 0 where
  pub was_new : step.before.notes s ≡ None
  pub is : step.middle s ≡ Some t

-- the next place after the run sent a message, or none
abbrev pub passed : ℕ → Option Tree → ℕ
passed k None = k
passed k (Some t) = suc k

-- the run has acted in its last pass
abbrev pub IsDone : Run → Type 0
IsDone run = nth (row_of run.head.mech) run.next ≡ None

-- Going where there is a further pass, and else Done
abbrev pub outcome_at : Option Pass → Outcome
outcome_at None = Done
outcome_at (Some p) = Going

-- what becomes of the run
abbrev pub outcome_of : Run → Outcome
outcome_of run = outcome_at (nth (row_of run.head.mech) run.next)

-- the key of one part
abbrev pub one_key : Option Tree → Option Key
one_key (Some (part p)) = Some (One p)
one_key _ = None

-- the key of two parts
abbrev pub two_keys : Option Tree → Option Tree → Option Key
two_keys (Some (part p)) (Some (part q)) = Some (Two p q)
two_keys _ _ = None

-- the session key: its parts, where they are noted
abbrev pub key_by : List Slot → Notes → Option Key
key_by (s ∷ []) notes = one_key (notes s)
key_by (s ∷ u ∷ []) notes = two_keys (notes s) (notes u)
key_by _ notes = None

-- the session key of a run with this head and these notes
abbrev pub key_of : Head → Notes → Option Key
key_of h notes = key_by (key_slots h.mech h.role) notes
