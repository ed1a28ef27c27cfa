-- What the laws say of messages, verdicts and notes.
use Rattle.std.specs.Prelude.{◌≡◌, ◌↔◌, ℕ, Bool, List, Option, Some, Result, Ok}
use Rattle.term_values.specs.Trees.{Bytes, Tree}
use Rattle.term_values.specs.declared.small.Key.{Key}
use Rattle.mech_rows.specs.declared.kinds.Mech.{Mech}
use Rattle.mech_rows.specs.declared.kinds.Slot.{Slot}
use Rattle.mech_rows.specs.declared.refusal.Refusal.{Refusal}
use Rattle.mech_rows.specs.Found.{found}
use Rattle.mech_rows.specs.Heads.{Head}
use Rattle.mech_rows.specs.Lawful.{IsWelcome, Receives}
use Rattle.mech_rows.specs.Noting.{slots_at}
use Rattle.mech_rows.specs.Replies.{slots_in}
use Rattle.mech_rows.specs.Rows.{Cover, Pass}
use Rattle.mech_rows.specs.Runs.{Got, Keys, Notes, Opening, Run}
use Rattle.mech_rows.specs.Says.{message}
use Rattle.mech_rows.specs.Steps.{Fits, IsMessage, symbolic}
use Rattle.mech_rows.specs.Verdict.{Noted, State, Taken, verdict}

-- the same is noted for each slot
abbrev pub Alike : Notes → Notes → Type 0
Alike n m = (u : Slot) → n u ≡ m u

-- over symbolic sealing the message leaves the run at most one choice of notes
abbrev pub LeavesOneChoice : Keys → Run → Tree → Type 0
LeavesOneChoice keys run t =
    (n m : Notes) (o p : List Opening) (g k : List Got)
    → Fits symbolic keys run t n o g → Fits symbolic keys run t m p k → Alike n m

-- over symbolic sealing the message of each pass is the one term that `message` computes
abbrev pub HasOneMessage : Keys → Head → Notes → Type 0
HasOneMessage keys h notes =
    (knows : Cover → Bool) (k : ℕ) (p : Pass) (t : Tree)
    → IsMessage symbolic keys h notes knows k p t ↔ (t ≡ message keys h notes knows k p)

-- who judges messages: two tests that give a sealing, the texts that are allowed, and keys
pub record Judge : Type 0 where
  pub opens : Key → Tree → Option Tree
  pub checks : Key → Tree → Tree → Bool
  pub allowed : Mech → Slot → Bytes → Bool
  pub keys : Keys

-- its verdict on a message to the run
abbrev pub verdict_of : Judge → State → Tree → Result Taken Refusal
verdict_of j s m = verdict j.opens j.checks j.keys j.allowed s m

-- the run welcomes the message under its tests
abbrev pub Welcomes : Judge → State → Pass → Tree → Notes → List Opening → List Got → Type 0
Welcomes j s p m n o g = IsWelcome j.opens j.checks j.allowed j.keys s p m n o g

-- what the verdict takes is welcome, with what it took
abbrev pub TakenIsWelcome : Judge → State → Pass → Type 0
TakenIsWelcome j s p =
    (m : Tree) (t : Taken)
    → verdict_of j s m ≡ Ok t → Welcomes j s p m (found t.notes) t.opened t.got

-- what is welcome is taken, with the same notes, openings and stamps
abbrev pub WelcomeIsTaken : Judge → State → Pass → Type 0
WelcomeIsTaken j s p =
    (m : Tree) (n : Notes) (o : List Opening) (g : List Got)
    → Welcomes j s p m n o g
    → (t : Taken) × (verdict_of j s m ≡ Ok t)
    × Alike (found t.notes) n × (t.opened ≡ o) × (t.got ≡ g)

-- a message is welcome with one choice of notes, openings and stamps
abbrev pub OneWelcome : Judge → State → Pass → Type 0
OneWelcome j s p =
    (m : Tree) (n k : Notes) (o q : List Opening) (g i : List Got)
    → Welcomes j s p m n o g → Welcomes j s p m k q i → Alike n k × (o ≡ q) × (g ≡ i)

-- the same slots in the same order
abbrev pub SameSlots : Noted → Noted → Type 0
SameSlots n m = slots_in n ≡ slots_in m

-- the same value is found in each slot
abbrev pub SameLookups : Noted → Noted → Type 0
SameLookups n m = Alike (found n) (found m)

-- the run has noted the slots of its row by its next pass, in the order of noting
abbrev pub HasRowSlots : State → Type 0
HasRowSlots s = slots_in s.notes ≡ slots_at s.head s.next

-- two states of one head and one pass that noted the slots of the row, with the same values
pub record IsSameRun (s t : State) : Type 0 where
  pub head : s.head ≡ t.head
  pub next : s.next ≡ t.next
  pub one : HasRowSlots s
  pub other : HasRowSlots t
  pub values : SameLookups s.notes t.notes
