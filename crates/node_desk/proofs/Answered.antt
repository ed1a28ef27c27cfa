-- What the table and the store answer is what the node says.
use Rattle.std.proofs.Common.{◌≡◌, ◌≢◌, ℕ, max, List, Bool, true, false, if◌then◌else◌, Option, Some, None, sym, ap, ap₂, subst, subst₂, ◌∙◌, inl, inr}
use Rattle.term_values.specs.declared.small.StampKind.{StampKind}
use Rattle.replay_store.specs.Stamps.{Accepted}
use Rattle.fresh_values.specs.Issued.{Issued}
use Rattle.mech_rows.specs.declared.refusal.Refusal.{Refusal}
use Rattle.mech_rows.specs.declared.refusal.Refusal.TheVariants.{Memory, EndedRun}
use Rattle.mech_rows.specs.Rings.{Ring}
use Rattle.mech_rows.specs.Runs.{Got}
use Rattle.mech_rows.specs.Moves.{Move}
use Rattle.node_desk.specs.declared.event.Event.{Event}
use Rattle.node_desk.specs.declared.run_slot.RunSlot.{RunSlot}
use Rattle.node_desk.specs.Helds.{Held, held_at, table_at}
use Rattle.node_desk.specs.Refusals.{run_refusal, stamps_refusal, IsCurrent, AnswerIs, CommitAnswer, got_refusal}
use Rattle.node_desk.specs.Desks.{node_of, IsKept}
use Rattle.node_desk.proofs.Logs.{node_ring}
use Rattle.node_desk.proofs.Stamped.{stamps-alike, stamps-not-memory}

module _ (ring : Ring) (first : ℕ) (log : List Event) (issued : Issued) (now window : ℕ) (stands : List Accepted → Type 0) (run_slots : List RunSlot) (open_count room : ℕ) (kept : IsKept ring first log issued now window stands run_slots open_count room) where
  -- what the store says of received stamps is what the node says
  pub got-is : (clock : ℕ) (got : List Got) → stamps_refusal window (max now clock) kept.node.accepted ring.kind got ≡ got_refusal (node_of ring first log) clock got
  got-is clock got =
      let node = node_of ring first log in
      stamps-alike window (max now clock) kept.node.accepted node.accepted ring.kind got kept.node.alike
      ∙ (ap₂ (λ (w n : ℕ). stamps_refusal w (max n clock) node.accepted ring.kind got) kept.node.window_is (sym kept.node.moment)
      ∙ ap (λ (k : StampKind). stamps_refusal node.ring.window (max node.now clock) node.accepted k got) (sym (ap (λ (x : Ring). x.kind) (node_ring ring first log))))

  -- an answer by the table and the store is the node's
  pub answer-is : (run clock : ℕ) (step : Move) (answer : Option Refusal) → CommitAnswer (table_at log run_slots run) step (stamps_refusal window (max now clock) kept.node.accepted ring.kind step.got) answer → CommitAnswer (held_at log run) step (got_refusal (node_of ring first log) clock step.got) answer
  answer-is run clock step answer h =
      subst₂ (λ (held : Option Held) (stamps : Option Refusal). CommitAnswer held step stamps answer) (sym (kept.held.each run)) (got-is clock step.got) h

  current-answer : (held : Option Held) (step : Move) (stamps : Option Refusal) → IsCurrent held step → stamps ≡ None → CommitAnswer held step stamps None
  current-answer held step stamps current fit =
      subst (λ (o : Option Refusal). AnswerIs o held step stamps None) (sym (ap run_refusal current)) (inr (current, sym fit))

  -- where the step is current and its stamps are fit, nothing is refused
  pub fit-is : (run clock : ℕ) (step : Move) → IsCurrent (table_at log run_slots run) step → stamps_refusal window (max now clock) kept.node.accepted ring.kind step.got ≡ None → CommitAnswer (held_at log run) step (got_refusal (node_of ring first log) clock step.got) None
  fit-is run clock step current fit = answer-is run clock step None (current-answer (table_at log run_slots run) step _ current fit)

run-not-memory : (held : Option Held) → run_refusal held ≡ Some Memory → ⊥
run-not-memory None e = cc
run-not-memory (Some h) e = go h.is_open e
  where
    go : (b : Bool) → ◌≡◌ {A = Option Refusal} (if b then None else Some EndedRun) (Some Memory) → ⊥
    go true f = cc
    go false f = cc

answer-not-memory : (o : Option Refusal) → (o ≡ Some Memory → ⊥) → (held : Option Held) (step : Move) (stamps : Option Refusal) → (stamps ≡ Some Memory → ⊥) → (e : Refusal) → AnswerIs o held step stamps (Some e) → e ≢ Memory
answer-not-memory (Some x) run held step stamps other e h is = run (sym h ∙ ap (λ (r : Refusal). Some r) is)
answer-not-memory None run held step stamps other e (inl h) is = let moved = sym (ap (λ (r : Refusal). Some r) is) ∙ h.1 in cc
answer-not-memory None run held step stamps other e (inr h) is = other (sym h.1 ∙ ap (λ (r : Refusal). Some r) is)

-- want of memory is never the answer
pub never-memory : (held : Option Held) (step : Move) (window now : ℕ) (accepted : List Accepted) (kind : StampKind) (e : Refusal) → CommitAnswer held step (stamps_refusal window now accepted kind step.got) (Some e) → e ≢ Memory
never-memory held step window now accepted kind e h = answer-not-memory (run_refusal held) (run-not-memory held) held step _ (stamps-not-memory window now accepted kind step.got) e h
