-- Steps over symbolic sealing, with messages as values: the form in which the laws of worlds are proved.
use Rattle.std.proofs.Common.{◌≡◌, ◌≢◌, ℕ, Option, Some, None}
use Rattle.term_values.specs.Trees.{Tree}
use Rattle.mech_rows.specs.Rows.{Pass, row_of}
use Rattle.mech_rows.specs.Says.{message}
use Rattle.mech_rows.specs.Runs.{Notes, Run, Keys, made, seen, nth, sent_slots, seen_slots, Extends, Step, reply_pass, passed, next_act}
use Rattle.mech_rows.specs.Heads.{Head}

-- the message fits the run, and leaves these notes
pub record SymbolicFits (keys : Keys) (run : Run) (t : Tree) (notes : Notes) : Type 0 where
  pub pass : Pass
  pub at : nth (row_of run.head.mech) run.next ≡ Some pass
  pub received : pass.to ≡ run.head.role
  pub extends : Extends run.notes (seen_slots pass) notes
  pub is : t ≡ message keys run.head notes seen run.next pass

-- the run with these notes sends this message as pass k
pub record SymbolicSends (keys : Keys) (h : Head) (k : ℕ) (old new : Notes) (t : Tree) : Type 0 where
  pub pass : Pass
  pub at : nth (row_of h.mech) k ≡ Some pass
  pub sent : pass.from ≡ h.role
  pub extends : Extends old (sent_slots pass) new
  pub is : t ≡ message keys h new made k pass

abbrev pub SymbolicTakes : Keys → Run → Option Tree → Notes → Type 0
SymbolicTakes keys run None notes = notes ≡ run.notes
SymbolicTakes keys run (Some t) notes = SymbolicFits keys run t notes

abbrev pub SymbolicReplies : Keys → Head → ℕ → Notes → Notes → Option Tree → Type 0
SymbolicReplies keys h k old new (Some t) = SymbolicSends keys h k old new t
SymbolicReplies keys h k old new None = (new ≡ old) × ((p : Pass) → nth (row_of h.mech) k ≡ Some p → p.from ≢ h.role)

pub record IsSymbolicStep (keys : Keys) (step : Step) : Type 0 where
  pub same_head : step.after.head ≡ step.before.head
  pub acts : step.taken ≡ None → step.reply ≢ None
  pub takes : SymbolicTakes keys step.before step.taken step.middle
  pub replies : SymbolicReplies keys step.before.head (reply_pass step) step.middle step.after.notes step.reply
  pub moves : step.after.next ≡ next_act step.before.head (passed (reply_pass step) step.reply)
