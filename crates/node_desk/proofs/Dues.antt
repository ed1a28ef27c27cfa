-- A stamp that is issued for what a run says next is the desk's next one.
use Rattle.std.proofs.Common.{◌≡◌, ◌⊎◌, ℕ, max, Bool, true, Option, Some, None, is_some, Ok, sym, ap, ap₂, ◌∙◌, inl, inr, List}
use Rattle.term_values.specs.Trees.{Bytes, Tree}
use Rattle.term_values.specs.declared.small.Key.{Key}
use Rattle.term_values.specs.declared.small.Stamp.{Stamp}
use Rattle.term_values.specs.declared.small.StampKind.{StampKind}
use Rattle.tagged_codec.specs.Grammar.{IsSpelling}
use Rattle.outside.specs.Told.{Told}
use Rattle.replay_store.specs.Stamps.{Accepted, next_stamp}
use Rattle.fresh_values.specs.Issued.{Issued}
use Rattle.mech_rows.specs.declared.kinds.Mech.{Mech}
use Rattle.mech_rows.specs.declared.kinds.Slot.{Slot}
use Rattle.mech_rows.specs.Replies.{sends_first, needs_stamp, run_verdict}
use Rattle.mech_rows.specs.Verdict.{State, Taken}
use Rattle.mech_rows.specs.Rings.{Ring, keys_in}
use Rattle.mech_rows.specs.Moves.{Move, Ready, Fitted}
use Rattle.node_desk.specs.declared.event.Event.{Event}
use Rattle.node_desk.specs.Desks.{DeskView, node_of, run_at, Untouched, IsNode, due_stamp}
use Rattle.node_desk.specs.Deliveries.{open_in, after_message, IssuedIs, IsDue, HasIssuedDue, IsFit, IssuedAtMost, IssuedAtMostFirst, MadeFor, FirstFor}
use Rattle.node_desk.proofs.Delivering.{given, after-is, issued-same}

-- what the issuer gives is the node's next stamp
pub due-is : (ring : Ring) (first : ℕ) (log : List Event) (issued : Issued) (now window clock moment : ℕ) (stands : List Accepted → Type 0) (stamp : Stamp) → IsNode (node_of ring first log) issued now window stands → moment ≡ max now clock → next_stamp issued.kind issued.last moment ≡ Some stamp
    → due_stamp (node_of ring first log) clock ≡ Some stamp
due-is ring first log issued now window clock moment stands stamp node m s =
    let at = (node_of ring first log) in
    ap₂ (λ (kind : StampKind) (last : ℕ). next_stamp kind last (max at.now clock)) (sym node.kind) node.last
    ∙ (ap (next_stamp issued.kind issued.last) (ap (λ (n : ℕ). max n clock) node.moment ∙ sym m) ∙ s)

-- a stamp that is needed was issued, and is the next one; and else none was
issued-due : (old new : DeskView) (clock : ℕ) (issued : Option Stamp) (s : State) → is_some issued ≡ needs_stamp s → IssuedIs old new clock issued → IsDue old clock issued → Untouched old new ⊎ HasIssuedDue old new clock s
issued-due old new clock None s needs is due = inl is
issued-due old new clock (Some stamp) s needs is due = inr (sym needs, stamp, due, is)

-- for the first message of a run
pub due-first : (old new : DeskView) (run clock : ℕ) (s : State) (issued : Option Stamp) → run_at old run ≡ open_in s → sends_first s ≡ true → is_some issued ≡ needs_stamp s → IssuedIs old new clock issued → IsDue old clock issued → IssuedAtMostFirst old new run clock
due-first old new run clock s issued current sends needs is due = go (issued-due old new clock issued s needs is due)
  where
    go : Untouched old new ⊎ HasIssuedDue old new clock s → IssuedAtMostFirst old new run clock
    go (inl same) = inl same
    go (inr h) = inr (s, current, sends, h)

module _ (opens : Key → Tree → Option Tree) (checks : Key → Tree → Tree → Bool) (allowed : Mech → Slot → Bytes → Bool) where
  -- for the reply to a message that fits
  due-fit : (old new : DeskView) (run clock : ℕ) (bytes : Bytes) (s : State) (m : Tree) (t : Taken) (issued : Option Stamp) → IsFit opens checks allowed old run bytes s m t → is_some issued ≡ needs_stamp (after_message s t) → IssuedIs old new clock issued → IsDue old clock issued
      → IssuedAtMost opens checks allowed old new run bytes clock
  due-fit old new run clock bytes s m t issued fit needs is due = go (issued-due old new clock issued (after_message s t) needs is due)
    where
      go : Untouched old new ⊎ HasIssuedDue old new clock (after_message s t) → IssuedAtMost opens checks allowed old new run bytes clock
      go (inl same) = inl same
      go (inr h) = inr (s, m, t, fit, h)

  -- to one that was prepared
  pub due-late : (old new : DeskView) (run clock : ℕ) (bytes : Bytes) (p : Ready) (issued : Option Stamp) → IsSpelling p.taken bytes → run_at old run ≡ open_in p.before → run_verdict opens checks allowed (keys_in old.ring) p.before p.taken ≡ Ok (given p) → Fitted opens checks (keys_in old.ring) p
      → is_some issued ≡ needs_stamp p.after → IssuedIs old new clock issued → IsDue old clock issued
      → IssuedAtMost opens checks allowed old new run bytes clock
  due-late old new run clock bytes p issued spells current fit fitted needs is due =
      due-fit old new run clock bytes p.before p.taken (given p) issued (record { current = current; spells = spells; fits = fit }) (needs ∙ ap needs_stamp (after-is opens checks (keys_in old.ring) p fitted)) is due

  -- to one of which a step was made, which isn't entered
  pub due-made : (iv_of : Tree → Option Bytes) (wants : Bool) (told_old told_new : Option Told) (old mid new : DeskView) (run : ℕ) (bytes : Bytes) (clock : ℕ) (step : Move) → MadeFor opens checks allowed iv_of wants told_old told_new old mid run bytes clock step → IsDue old clock step.issued → Untouched mid new
      → IssuedAtMost opens checks allowed old new run bytes clock
  due-made iv_of wants told_old told_new old mid new run bytes clock step made due same =
      due-fit old new run clock bytes step.before made.message made.taken step.issued (record { current = made.current; spells = made.spells; fits = made.fits }) made.needs (issued-same old mid new clock step.issued made.issued same) due

-- for a first message that isn't entered
pub due-first-made : (opens : Key → Tree → Option Tree) (checks : Key → Tree → Tree → Bool) (iv_of : Tree → Option Bytes) (wants : Bool) (told_old told_new : Option Told) (old mid new : DeskView) (run clock : ℕ) (step : Move) → FirstFor opens checks iv_of wants told_old told_new old mid run clock step → IsDue old clock step.issued → Untouched mid new
    → IssuedAtMostFirst old new run clock
due-first-made opens checks iv_of wants told_old told_new old mid new run clock step made due same =
    due-first old new run clock step.before step.issued made.current made.first made.needs (issued-same old mid new clock step.issued made.issued same) due
