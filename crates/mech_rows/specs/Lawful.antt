-- Which runs the law on verdicts speaks of, and what it says of texts and of kept items.
use Rattle.std.specs.Prelude.{◌≡◌, ℕ, zero, suc, Bool, true, false, ◌&&◌, List, [], ◌∷◌, ◌++◌, Option, Some, if◌then◌else◌}
use Rattle.std.specs.List.{list_all, list_any}
use Rattle.term_values.specs.Trees.{Among, Bytes, Tree}
use Rattle.term_values.specs.declared.small.Key.{Key}
use Rattle.mech_rows.specs.declared.kinds.Mech.{Mech}
use Rattle.mech_rows.specs.declared.kinds.Role.{Role}
use Rattle.mech_rows.specs.declared.kinds.Slot.{Slot}
use Rattle.mech_rows.specs.declared.kinds.Slot.TheVariants.{Fa, Fwd}
use Rattle.mech_rows.specs.declared.kinds.Under.{Under}
use Rattle.mech_rows.specs.declared.kinds.Under.TheVariants.{Pair, Drawn}
use Rattle.mech_rows.specs.declared.kinds.Kind.TheVariants.{Text as a_text}
use Rattle.mech_rows.specs.Rows.{kind_of, Cover, Pass, row_of}
use Rattle.mech_rows.specs.Facts.{same_role, same_slot}
use Rattle.mech_rows.specs.Runs.{Notes, Run, Keys, Opening, Got, HasKind, nth, sent_slots, seen_slots, clear_slots, value}
use Rattle.mech_rows.specs.Steps.{Sealer, Fits}
use Rattle.mech_rows.specs.Verdict.{State, run_of, read_slots, text_bytes}

-- a sealing that two tests give
abbrev pub tested_by : (Key → Tree → Option Tree) → (Key → Tree → Tree → Bool) → Sealer
tested_by opens checks false key item body = opens key item ≡ Some body
tested_by opens checks true key item body = checks key body item ≡ true

-- the slots of a pass that the role sends or sees
abbrev pub own_slots : Role → Pass → List Slot
own_slots r p = (if same_role p.from r then sent_slots p else []) ++ (if same_role p.to r then seen_slots p else [])

-- the slots that the role sends or sees in the first k passes
abbrev pub acted_slots : Role → ℕ → List Pass → List Slot
acted_slots r zero ps = []
acted_slots r (suc k) [] = []
acted_slots r (suc k) (p ∷ ps) = own_slots r p ++ acted_slots r k ps

-- the notes have a value of its kind for each of these slots
abbrev pub AreNoted : Notes → List Slot → Type 0
AreNoted notes ss = (s : Slot) → Among s ss → (t : Tree) × (notes s ≡ Some t) × HasKind (kind_of s) t

-- the run has noted what its role has sent and seen before its next pass
abbrev pub HasActed : Run → Type 0
HasActed run = AreNoted run.notes (acted_slots run.head.role run.next (row_of run.head.mech))

-- every text that the pass shows is allowed
abbrev pub TextsAllowed : (Mech → Slot → Bytes → Bool) → Mech → Notes → List Slot → Type 0
TextsAllowed allowed m notes ss = (s : Slot) → Among s ss → kind_of s ≡ a_text → allowed m s (text_bytes (value notes s)) ≡ true

-- the run welcomes the message: it fits with these notes, and every text that it shows is allowed
pub record IsWelcome (opens : Key → Tree → Option Tree) (checks : Key → Tree → Tree → Bool) (allowed : Mech → Slot → Bytes → Bool) (keys : Keys) (s : State) (p : Pass) (m : Tree) (n : Notes) (opened : List Opening) (got : List Got) : Type 0 where
  pub fits : Fits (tested_by opens checks) keys (run_of s) m n opened got
  pub texts : TextsAllowed allowed s.head.mech n (read_slots p)

-- p is the run's next pass, which its role receives, and the run has acted in what is before it
pub record Receives (s : State) (p : Pass) : Type 0 where
  pub next : nth (row_of s.head.mech) s.next ≡ Some p
  pub received : p.to ≡ s.head.role
  pub acted : HasActed (run_of s)

-- the slot of the key that the parties drew
abbrev pub drawn_slots : Under → List Slot
drawn_slots (Pair x y) = []
drawn_slots Drawn = Fa ∷ []

-- the slots whose values are needed before the item can be judged
abbrev pub needed_slots : Cover → List Slot
needed_slots c = if c.seen then drawn_slots c.under ++ (if c.is_check then c.slots else []) else []

-- the slots that the item shows
abbrev pub shown_slots : Cover → List Slot
shown_slots c = if c.seen then c.slots else Fwd ∷ []

-- the slot is one of these
abbrev pub stands_in : List Slot → Slot → Bool
stands_in ss s = list_any (λ t. same_slot t s) ss

-- each item needs only slots that are known before it
abbrev pub are_ready : List Slot → List Cover → Bool
are_ready known [] = true
are_ready known (c ∷ cs) = list_all (stands_in known) (needed_slots c) && are_ready (known ++ shown_slots c) cs

-- in each pass of the row the receiver can judge each item
abbrev pub are_judged : Mech → ℕ → List Pass → Bool
are_judged m k [] = true
are_judged m k (p ∷ ps) = are_ready (acted_slots p.to k (row_of m) ++ clear_slots p.clear) p.covers && are_judged m (suc k) ps
