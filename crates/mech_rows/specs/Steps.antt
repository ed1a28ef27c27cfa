-- Steps of the sixteen mechanisms, over any sealing: what a run takes, what it sends, and what it leaves.
use Rattle.std.specs.Prelude.{◌≡◌, ◌≢◌, ◌↔◌, ℕ, suc, Bool, true, false, List, [], ◌∷◌, ◌++◌, map, Option, Some, None, is_none, ◌&&◌, if◌then◌else◌}
use Rattle.term_values.specs.Trees.{Bytes, Tree, stamp, tag, tuple, seal, check, trees}
use Rattle.term_values.specs.declared.small.Key.{Key}
use Rattle.term_values.specs.declared.small.Stamp.{Stamp}
use Rattle.term_values.specs.declared.small.Stamp.TheVariants.{Seq}
use Rattle.mech_rows.specs.declared.kinds.Slot.{Slot}
use Rattle.mech_rows.specs.declared.kinds.Slot.TheVariants.{Fwd}
use Rattle.mech_rows.specs.declared.kinds.Kind.TheVariants.{Stamp as a_stamp}
use Rattle.mech_rows.specs.Rows.{kind_of, is_stamp, issuer, Cover, Pass, tag_of, row_of}
use Rattle.mech_rows.specs.Heads.{Head, name_of}
use Rattle.mech_rows.specs.Runs.{Notes, Run, Keys, value, key_under, body, clear_item, made, seen, nth, sent_slots, seen_slots, Extends, Opening, Got, Step, Draws, reply_pass, passed, next_act, outcome_of}

-- a sealing: whether the item opens to the body under the key, or, for a check, checks it
abbrev pub Sealer : Type 1
Sealer = Bool → Key → Tree → Tree → Type 0

-- the seal, or the check, of a body under a key
abbrev pub symbolic_item : Bool → Key → Tree → Tree
symbolic_item b k t = if b then check k t else seal k t

-- over symbolic sealing the one item that opens is the seal, or the check, itself
abbrev pub symbolic : Sealer
symbolic b k u t = u ≡ symbolic_item b k t

-- an item in the eyes of a role that makes it or looks into it, and else forwards or keeps it
abbrev pub ItemBy : Bool → Sealer → Keys → Head → Notes → Cover → Tree → Type 0
ItemBy true opens keys h notes c u = opens c.is_check (key_under keys h notes c.under) u (body h notes c)
ItemBy false opens keys h notes c u = u ≡ value notes Fwd

-- that, of each protected item of the message, in order
abbrev pub ItemsAre : Sealer → Keys → Head → Notes → (Cover → Bool) → List Cover → List Tree → Type 0
ItemsAre opens keys h notes knows [] us = us ≡ []
ItemsAre opens keys h notes knows (c ∷ cs) [] = ⊥
ItemsAre opens keys h notes knows (c ∷ cs) (u ∷ us) = ItemBy (knows c) opens keys h notes c u × ItemsAre opens keys h notes knows cs us

-- t is the message of pass k, counted from 0, under these notes, for a role that knows these items
pub record IsMessage (opens : Sealer) (keys : Keys) (h : Head) (notes : Notes) (knows : Cover → Bool) (k : ℕ) (p : Pass) (t : Tree) : Type 0 where
  pub items : List Tree
  pub is : t ≡ tuple (trees (tag (tag_of h.mech (suc k) 0) ∷ (map (clear_item h notes) p.clear ++ items)))
  pub each : ItemsAre opens keys h notes knows p.covers items

-- key, item and body of each protected item that the role knows, in the order of the message
abbrev pub openings : Keys → Head → Notes → (Cover → Bool) → List Cover → List Tree → List Opening
openings keys h notes knows (c ∷ cs) (u ∷ us) =
    if knows c
    then record { key = key_under keys h notes c.under; item = u; body = body h notes c } ∷ openings keys h notes knows cs us
    else openings keys h notes knows cs us
openings keys h notes knows _ _ = []

-- the stamp that the term is
abbrev pub stamp_in : Tree → Stamp
stamp_in (stamp s) = s
stamp_in _ = Seq 0

-- the stamps to judge: in each protected item that the receiver opens or tests, in order, each stamp slot that was not noted before
abbrev pub got_of_slots : Head → Notes → Notes → Bytes → List Slot → List Got
got_of_slots h old new t [] = []
got_of_slots h old new t (s ∷ ss) =
    if is_stamp (kind_of s) && is_none (old s)
    then record { slot = s; sender = name_of h (issuer s); tagged = t; stamp = stamp_in (value new s) } ∷ got_of_slots h old new t ss
    else got_of_slots h old new t ss

-- that, of each item that the receiver opens or tests
abbrev pub got_of : Head → Notes → Notes → List Cover → List Got
got_of h old new [] = []
got_of h old new (c ∷ cs) = (if c.seen then got_of_slots h old new c.tagged c.slots else []) ++ got_of h old new cs

-- the message fits the run: it is that of the run's next pass under notes that add what this role sees there
pub record Fits (opens : Sealer) (keys : Keys) (run : Run) (t : Tree) (notes : Notes) (opened : List Opening) (got : List Got) : Type 0 where
  pub pass : Pass
  pub at : nth (row_of run.head.mech) run.next ≡ Some pass
  pub received : pass.to ≡ run.head.role
  pub extends : Extends run.notes (seen_slots pass) notes
  pub shows : IsMessage opens keys run.head notes seen run.next pass t
  pub opens_are : opened ≡ openings keys run.head notes seen pass.covers shows.items
  pub got_is : got ≡ got_of run.head run.notes notes pass.covers

-- the run sends this message as pass k, under notes that add what it sends there
pub record Sends (opens : Sealer) (keys : Keys) (h : Head) (k : ℕ) (old new : Notes) (t : Tree) (sealed : List Opening) : Type 0 where
  pub pass : Pass
  pub at : nth (row_of h.mech) k ≡ Some pass
  pub sent : pass.from ≡ h.role
  pub extends : Extends old (sent_slots pass) new
  pub shows : IsMessage opens keys h new made k pass t
  pub seals_are : sealed ≡ openings keys h new made pass.covers shows.items

-- what the run takes: a message that fits, or none, which teaches nothing
abbrev pub Takes : Sealer → Keys → Run → Option Tree → Notes → List Opening → List Got → Type 0
Takes opens keys run None notes opened got = (notes ≡ run.notes) × (opened ≡ []) × (got ≡ [])
Takes opens keys run (Some t) notes opened got = Fits opens keys run t notes opened got

-- what the run sends as pass k: the message of the pass, or none where the pass is not its own
abbrev pub Replies : Sealer → Keys → Head → ℕ → Notes → Notes → Option Tree → List Opening → Type 0
Replies opens keys h k old new (Some t) sealed = Sends opens keys h k old new t sealed
Replies opens keys h k old new None sealed = (new ≡ old) × (sealed ≡ []) × ((p : Pass) → nth (row_of h.mech) k ≡ Some p → p.from ≢ h.role)

-- a step over the sealing, of a run that has these keys.
-- It takes a message that fits, or none where it sends the first message; it then sends the next pass where that is its own
pub record IsStep (opens : Sealer) (keys : Keys) (step : Step) : Type 0 where
  pub same_head : step.after.head ≡ step.before.head
  pub acts : step.taken ≡ None → (step.before.next ≡ 0) × (step.reply ≢ None)
  pub takes : Takes opens keys step.before step.taken step.middle step.opened step.got
  pub replies : Replies opens keys step.before.head (reply_pass step) step.middle step.after.notes step.reply step.sealed
  pub moves : step.after.next ≡ next_act step.before.head (passed (reply_pass step) step.reply)
  pub issues : (t : Stamp) → step.issued ≡ Some t ↔ ((s : Slot) × (kind_of s ≡ a_stamp) × Draws step s (stamp t))
  pub outcome : step.outcome ≡ outcome_of step.after
