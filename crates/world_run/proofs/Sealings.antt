-- Steps over two sealings of which one opens all that the other does.
use Rattle.std.proofs.Common.{ℕ, Bool, true, false, List, [], ◌∷◌, Option, Some, None}
use Rattle.term_values.specs.Trees.{Tree}
use Rattle.term_values.specs.declared.small.Key.{Key}
use Rattle.mech_rows.specs.Rows.{Cover, Pass}
use Rattle.mech_rows.specs.Heads.{Head}
use Rattle.mech_rows.specs.Runs.{Notes, Run, Keys, Opening, Got, Step}
use Rattle.mech_rows.specs.Lawful.{tested_by}
use Rattle.mech_rows.specs.Steps.{Sealer, symbolic, ItemBy, ItemsAre, IsMessage, Takes, Replies, IsStep}
use Rattle.seal_symbolic.specs.Symbolic.{body_of, is_check}
use Rattle.seal_symbolic.proofs.Keys.{opens_is, checks_is}

module _ (opens others : Sealer) (each : (b : Bool) (k : Key) (u t : Tree) → opens b k u t → others b k u t) where
  item_by : (b : Bool) (keys : Keys) (h : Head) (notes : Notes) (c : Cover) (u : Tree) → ItemBy b opens keys h notes c u → ItemBy b others keys h notes c u
  item_by true keys h notes c u i = each _ _ _ _ i
  item_by false keys h notes c u i = i

  items_are : (keys : Keys) (h : Head) (notes : Notes) (knows : Cover → Bool) (cs : List Cover) (us : List Tree) → ItemsAre opens keys h notes knows cs us → ItemsAre others keys h notes knows cs us
  items_are keys h notes knows [] us i = i
  items_are keys h notes knows (c ∷ cs) [] i = i
  items_are keys h notes knows (c ∷ cs) (u ∷ us) i = (item_by (knows c) keys h notes c u i.0, items_are keys h notes knows cs us i.1)

  message_over : (keys : Keys) (h : Head) (notes : Notes) (knows : Cover → Bool) (k : ℕ) (p : Pass) (t : Tree) → IsMessage opens keys h notes knows k p t → IsMessage others keys h notes knows k p t
  message_over keys h notes knows k p t m = record { items = m.items; is = m.is; each = items_are keys h notes knows p.covers m.items m.each }

  takes_over : (keys : Keys) (run : Run) (t : Option Tree) (notes : Notes) (opened : List Opening) (got : List Got) → Takes opens keys run t notes opened got → Takes others keys run t notes opened got
  unfolding message_over
  takes_over keys run None notes opened got f = f
  takes_over keys run (Some t) notes opened got f = record {
    pass = f.pass;
    at = f.at;
    received = f.received;
    extends = f.extends;
    shows = message_over keys run.head notes _ run.next f.pass t f.shows;
    opens_are = f.opens_are;
    got_is = f.got_is;
  }

  replies_over : (keys : Keys) (h : Head) (k : ℕ) (old new : Notes) (t : Option Tree) (sealed : List Opening) → Replies opens keys h k old new t sealed → Replies others keys h k old new t sealed
  unfolding message_over
  replies_over keys h k old new None sealed f = f
  replies_over keys h k old new (Some t) sealed f = record {
    pass = f.pass;
    at = f.at;
    sent = f.sent;
    extends = f.extends;
    shows = message_over keys h new _ k f.pass t f.shows;
    seals_are = f.seals_are;
  }

  pub step_over : (keys : Keys) (step : Step) → IsStep opens keys step → IsStep others keys step
  step_over keys step s = record {
    same_head = s.same_head;
    acts = s.acts;
    takes = takes_over keys step.before step.taken step.middle step.opened step.got s.takes;
    replies = replies_over keys step.before.head _ step.middle step.after.notes step.reply step.sealed s.replies;
    moves = s.moves;
    issues = s.issues;
    outcome = s.outcome;
  }

-- symbolic sealing is what the two tests of terms tell
to_symbolic : (b : Bool) (k : Key) (u t : Tree) → tested_by body_of is_check b k u t → symbolic b k u t
to_symbolic true k u t e = (checks_is k t u).0 e
to_symbolic false k u t e = (opens_is k u t).0 e

from_symbolic : (b : Bool) (k : Key) (u t : Tree) → symbolic b k u t → tested_by body_of is_check b k u t
from_symbolic true k u t e = (checks_is k t u).1 e
from_symbolic false k u t e = (opens_is k u t).1 e

pub symbolic_step : (keys : Keys) (step : Step) → IsStep (tested_by body_of is_check) keys step → IsStep symbolic keys step
symbolic_step keys step s = step_over (tested_by body_of is_check) symbolic to_symbolic keys step s

pub tested_step : (keys : Keys) (step : Step) → IsStep symbolic keys step → IsStep (tested_by body_of is_check) keys step
tested_step keys step s = step_over symbolic (tested_by body_of is_check) from_symbolic keys step s
