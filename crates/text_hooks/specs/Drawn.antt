-- What a run draws for what it says, and in which order.
use Rattle.std.specs.Prelude.{◌≡◌, ◌≢◌, ◌≤◌, ◌+◌, ℕ, Bool, true, is_some, List, [], ◌∷◌, ◌++◌, length, Option, Some, None, Result, IfSome, IfErr, OnOk, if◌then◌else◌, false, ◌⊎◌}
use Rattle.term_values.specs.Trees.{Bytes, Tree, nonce, stamp, part, tuple, none}
use Rattle.term_values.specs.declared.small.Stamp.{Stamp}
use Rattle.mech_rows.specs.declared.kinds.Kind.{Kind}
use Rattle.mech_rows.specs.declared.kinds.Kind.TheVariants.{Nonce as a_nonce, Stamp as a_stamp, Part as a_part}
use Rattle.mech_rows.specs.declared.kinds.Slot.{Slot}
use Rattle.mech_rows.specs.Rows.{kind_of, Cover}
use Rattle.mech_rows.specs.Runs.{Opening}
use Rattle.mech_rows.specs.Verdict.{Noted, State}
use Rattle.mech_rows.specs.Replies.{made_in, new_slots, next_pass}
use Rattle.mech_rows.specs.declared.refusal.Refusal.{Refusal}
use Rattle.mech_rows.specs.declared.refusal.Refusal.TheVariants.{Memory, WrongPass, DrawFault}
use Rattle.outside.specs.Causes.{Rose}
use Rattle.outside.specs.Told.{Told, nonce_draw, part_draw, next_draw}

-- the stamp that was issued
abbrev pub issued_term : Option Stamp → Tree
issued_term (Some s) = stamp s
issued_term None = tuple none

-- the value of a slot of this kind, by the next draw or the stamp
abbrev pub new_value : Kind → Told → Option Stamp → Tree
new_value a_nonce t issued = nonce (t.value nonce_draw t.place)
new_value a_part t issued = part (t.value part_draw t.place)
new_value _ t issued = issued_term issued

-- the draws after a slot of this kind
abbrev pub after_slot : Kind → Told → Told
after_slot a_stamp t = t
after_slot _ t = next_draw t

-- the values of these slots, in their order: each nonce and part is the next draw
abbrev pub drawn_values : Told → Option Stamp → List Slot → Noted
drawn_values t issued [] = []
drawn_values t issued (s ∷ ss) = (s, new_value (kind_of s) t issued) ∷ drawn_values (after_slot (kind_of s) t) issued ss

-- the draws after these slots
abbrev pub after_slots : Told → List Slot → Told
after_slots t [] = t
after_slots t (s ∷ ss) = after_slots (after_slot (kind_of s) t) ss

-- those of the items that are seals
abbrev pub seals_in : List Cover → List Opening → List Opening
seals_in (c ∷ cs) (o ∷ os) = if c.is_check then seals_in cs os else o ∷ seals_in cs os
seals_in _ _ = []

-- each of these seals was made with the next draw as its nonce
abbrev pub NoncesAre : (Tree → Option Bytes) → Told → List Opening → Option Told → Type 0
NoncesAre iv_of t [] new = new ≡ Some t
NoncesAre iv_of t (o ∷ os) new = (iv_of o.item ≡ Some (t.value nonce_draw t.place)) × NoncesAre iv_of (next_draw t) os new

-- where draws are told: the notes are the old ones and the draws of the new slots; then each seal takes one, where the sealer wants a nonce
abbrev pub DrawsAre : (Tree → Option Bytes) → Bool → Option Told → Option Told → Option Stamp → List Slot → List Cover → Noted → Noted → List Opening → Type 0
DrawsAre iv_of wants old new issued ss cs before after sealed = IfSome old (λ t. (after ≡ before ++ drawn_values t issued ss) × NoncesAre iv_of (after_slots t ss) (if wants then seals_in cs sealed else []) new)

-- where draws are told: they still are, and have moved on by at most so many
abbrev pub MovedOn : ℕ → Option Told → Option Told → Type 0
MovedOn most old new = IfSome old (λ t. (is_some new ≡ true) × IfSome new (λ u. (u.value ≡ t.value) × (t.place ≤ u.place) × (u.place ≤ t.place + most)))

-- the draws of what the one run says next, which leads to the other
abbrev pub DrawnFor : (Tree → Option Bytes) → Bool → Option Told → Option Told → Option Stamp → State → State → List Opening → Type 0
DrawnFor iv_of wants old new issued s t sealed = DrawsAre iv_of wants old new issued (new_slots s) (made_in (next_pass s).covers) s.notes t.notes sealed

-- where draws are told: they still are, and have moved on by at most what the run says next
abbrev pub MovedFor : State → Option Told → Option Told → Type 0
MovedFor s old new = MovedOn (length (new_slots s) + length (made_in (next_pass s).covers)) old new

-- what a call that draws tells of the count of faults: it never falls, and stays where the call succeeds or only memory was wanting; else a draw failed, and it rose
pub record HasDrawCause {T : Type 0} (before now : ℕ) (result : Result T Refusal) : Type 0 where
  pub later : before ≤ now
  pub quiet : OnOk result (now ≡ before)
  pub memory : IfErr result (λ e. e ≡ Memory → now ≡ before)
  pub failed : IfErr result (λ e. e ≢ Memory → (e ≡ DrawFault) × Rose before now)

-- the same of a call that says a message where the role sends one: WrongPass comes too, where it doesn't
pub record HasSayCause {T : Type 0} (is_sent : Bool) (before now : ℕ) (result : Result T Refusal) : Type 0 where
  pub later : before ≤ now
  pub quiet : OnOk result (now ≡ before)
  pub memory : IfErr result (λ e. e ≡ Memory → now ≡ before)
  pub failed : IfErr result (λ e. e ≢ Memory → ((is_sent ≡ false) × (e ≡ WrongPass)) ⊎ ((e ≡ DrawFault) × Rose before now))
