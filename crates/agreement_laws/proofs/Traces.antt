-- The conditions on a world's trace from which the laws of worlds follow.
use Rattle.std.proofs.Common.{◌≡◌, ℕ, List, [], ◌∷◌, Option, Some, None}
use Rattle.term_values.specs.Trees.{Among, Bytes, Tree}
use Rattle.mech_rows.specs.declared.kinds.Slot.{Slot}
use Rattle.mech_rows.specs.declared.kinds.Kind.TheVariants.{Stamp as a_stamp, Text as a_text}
use Rattle.mech_rows.specs.Rows.{kind_of}
use Rattle.mech_rows.specs.Heads.{me}
use Rattle.mech_rows.specs.Runs.{Run, HasKind, Step, Draws, next_act, IsDone}
use Rattle.agreement_laws.specs.Configs.{Config, keys_of}
use Rattle.agreement_laws.specs.Traces.{RunId, Happening, Opens, Steps, Reveals, current, Delivered, IsFresh}
use Rattle.mech_rows.proofs.Judged.{Judges}
use Rattle.mech_rows.proofs.Symbolic.{IsSymbolicStep}

-- a party issues no stamp twice
abbrev pub IssuesNew : List Happening → Step → Type 0
IssuesNew h step = (s u : Slot) (t : Tree) (n : RunId) (other : Step) → kind_of s ≡ a_stamp → kind_of u ≡ a_stamp → Draws step s t → Among (Steps n other) h → me other.before.head ≡ me step.before.head → Draws other u t → ⊥

-- a party accepts no stamp of one sender under one tag twice
abbrev pub AcceptsNew : List Happening → Step → Type 0
AcceptsNew h step = (sender : ℕ) (tag : Option Bytes) (t : Tree) (n : RunId) (other : Step) → Judges step sender tag t → Among (Steps n other) h → me other.before.head ≡ me step.before.head → Judges other sender tag t → ⊥

pub record IsOpening (run : Run) : Type 0 where
  pub first : run.next ≡ next_act run.head 0
  pub texts : (s : Slot) (t : Tree) → run.notes s ≡ Some t → (kind_of s ≡ a_text) × HasKind a_text t

pub record IsDoneAt (h : List Happening) (id : RunId) : Type 0 where
  pub run : Run
  pub runs : current h id ≡ Some run
  pub done : IsDone run

abbrev pub Happens : Config → List Happening → Happening → Type 0
Happens c h (Opens id run) = (current h id ≡ None) × IsOpening run
Happens c h (Steps id step) =
    record {
      runs : current h id ≡ Some step.before;
      is_step : IsSymbolicStep (keys_of c) step;
      delivered : Delivered c h step.taken;
      fresh : IsFresh c h step;
      issues : IssuesNew h step;
      accepts : AcceptsNew h step;
    }
Happens c h (Reveals id) = IsDoneAt h id

abbrev pub IsTrace : Config → List Happening → Type 0
IsTrace c [] = Unit {0}
IsTrace c (e ∷ h) = IsTrace c h × Happens c h e
