-- The stamps that a run issues next.
use Rattle.std.proofs.Common.{◌≡◌, ℕ, zero, suc, Bool, true, false, ◌&&◌, List, [], ◌∷◌, drop, refl, ap, sym, ◌∙◌}
use Rattle.std.specs.List.{list_any}
use Rattle.mech_rows.specs.declared.kinds.Role.{Role}
use Rattle.mech_rows.specs.declared.kinds.Slot.{Slot}
use Rattle.mech_rows.specs.Rows.{Pass, is_stamp, kind_of, row_of}
use Rattle.mech_rows.specs.Runs.{nth, sent_slots}
use Rattle.mech_rows.specs.Replies.{ends_at, needs_stamp, new_slots, pass_or_none, sends, slots_in, unknown_slots}
use Rattle.mech_rows.specs.Verdict.{State}
use Rattle.text_hooks.specs.Phases.{phase_of, slots_to_send, stamps_next}
use Rattle.text_hooks.specs.declared.phase.Phase.{Phase}

slots_now : (r : Role) (known : List Slot) (k : ℕ) (ps : List Pass) → ends_at (λ p. p.from) r (nth ps k) ≡ true → slots_to_send r known (drop k ps) ≡ unknown_slots known (sent_slots (pass_or_none (nth ps k)))
slots_now r known k [] e = absurd cc
slots_now r known zero (p ∷ ps) e = rw e refl
slots_now r known (suc k) (p ∷ ps) e = slots_now r known k ps e

next_is_now : (s : State) → sends s ≡ true → stamps_next s ≡ list_any (λ u. is_stamp (kind_of u)) (new_slots s)
next_is_now s e = ap (list_any (λ u. is_stamp (kind_of u))) (slots_now s.head.role (slots_in s.notes) s.next (row_of s.head.mech) e)

-- where the role sends the next pass, that is the next message that it sends
pub stamps_sent : (s : State) → sends s ≡ true → stamps_next s ≡ needs_stamp s
stamps_sent s e = next_is_now s e ∙ sym (ap (λ (b : Bool). b && list_any (λ u. is_stamp (kind_of u)) (new_slots s)) e)

pub stamps_now : (p : Phase) (s : State) → p ≡ phase_of s → p.sends ≡ true → p.stamps ≡ needs_stamp s
stamps_now p s e f = ap (λ (x : Phase). x.stamps) e ∙ stamps_sent s (sym (ap (λ (x : Phase). x.sends) e) ∙ f)

pub stamps_not : (p : Phase) (s : State) → p ≡ phase_of s → p.sends ≡ false → false ≡ needs_stamp s
stamps_not p s e f = sym (ap (λ (b : Bool). b && list_any (λ u. is_stamp (kind_of u)) (new_slots s)) (sym (ap (λ (x : Phase). x.sends) e) ∙ f))
