-- The replacement of a working sealing's items by symbolic ones.
use Rattle.std.specs.Prelude.{◌≡◌, ◌==◌, Bool, map, Option, Some, None, option_map}
use Rattle.term_values.specs.Trees.{Among, Bytes, Tree, name, stamp, nonce, part, text, tag, blob, tuple, seal, check, Trees, none, item}
use Rattle.term_values.specs.declared.small.Key.{Key}
use Rattle.mech_rows.specs.declared.kinds.Mech.{Mech}
use Rattle.mech_rows.specs.declared.kinds.Slot.TheVariants.{Fwd}
use Rattle.mech_rows.specs.Rows.{family}
use Rattle.mech_rows.specs.Runs.{Notes, Run, Opening, Step, IsForwardable}
use Rattle.mech_rows.specs.Steps.{symbolic_item}

-- the term that stands for the blob, or the blob itself where there is none
abbrev pub or_blob : Bytes → Option Tree → Tree
or_blob x None = blob x
or_blob x (Some t) = t

-- each blob that stands for an item becomes that item
abbrev mutual
  pub replaced : (Bytes → Option Tree) → Tree → Tree
  replaced f (blob x) = or_blob x (f x)
  replaced f (tuple ts) = tuple (all_replaced f ts)
  replaced f (seal k t) = seal k (replaced f t)
  replaced f (check k t) = check k (replaced f t)
  replaced f (name n) = name n
  replaced f (stamp s) = stamp s
  replaced f (nonce b) = nonce b
  replaced f (part b) = part b
  replaced f (text b) = text b
  replaced f (tag b) = tag b

  pub all_replaced : (Bytes → Option Tree) → Trees → Trees
  all_replaced f none = none
  all_replaced f (item t ts) = item (replaced f t) (all_replaced f ts)

-- the notes with the items replaced
abbrev pub replaced_notes : (Bytes → Option Tree) → Notes → Notes
replaced_notes f notes s = option_map (replaced f) (notes s)

-- the run with the items replaced in its notes
abbrev pub replaced_run : (Bytes → Option Tree) → Run → Run
replaced_run f run = record run { notes = replaced_notes f run.notes }

-- the key stays; the item and the body are replaced
abbrev pub replaced_opening : (Bytes → Option Tree) → Opening → Opening
replaced_opening f o = record { key = o.key; item = replaced f o.item; body = replaced f o.body }

-- the step with the items replaced wherever they stand
abbrev pub replaced_step : (Bytes → Option Tree) → Step → Step
replaced_step f step =
    record {
      before = replaced_run f step.before;
      taken = option_map (replaced f) step.taken;
      middle = replaced_notes f step.middle;
      after = replaced_run f step.after;
      opened = map (replaced_opening f) step.opened;
      got = step.got;
      issued = step.issued;
      sealed = map (replaced_opening f) step.sealed;
      reply = option_map (replaced f) step.reply;
      outcome = step.outcome;
    }

-- a mechanism of family 02 has checks, and each other one has seals
abbrev pub checks : Mech → Bool
checks m = family m == 2

-- the item becomes the seal, or the check, of its key and body
abbrev pub BecomesSymbolic : (Bytes → Option Tree) → Mech → Opening → Type 0
BecomesSymbolic f m o = replaced f o.item ≡ symbolic_item (checks m) o.key (replaced f o.body)

-- what the run forwards may still be forwarded after the replacement
abbrev pub ForwardsStill : (Bytes → Option Tree) → Notes → Type 0
ForwardsStill f notes = (t : Tree) → notes Fwd ≡ Some t → IsForwardable (replaced f t)

-- each item that the step opens, tests or makes becomes symbolic, no blob becomes anything but a seal or a check,
-- and what the run forwards may still be forwarded
pub record IsIdealFor (f : Bytes → Option Tree) (step : Step) : Type 0 where
  pub opened : (o : Opening) → Among o step.opened → BecomesSymbolic f step.before.head.mech o
  pub sealed : (o : Opening) → Among o step.sealed → BecomesSymbolic f step.before.head.mech o
  pub forwards : ForwardsStill f step.after.notes
  pub items_alone : (x : Bytes) (t : Tree) → f x ≡ Some t → (b : Bool) × (k : Key) × (u : Tree) × (t ≡ symbolic_item b k u)
