-- Protected items that a run made or opened, and what was refused.
use Rattle.std.specs.Prelude.{◌≡◌, ℕ, Bool, true, false, [], ◌∷◌, Option, Some, IfSome, if◌then◌else◌}
use Rattle.term_values.specs.Trees.{Bytes, Tree}
use Rattle.term_values.specs.Same.{same}
use Rattle.term_values.specs.declared.small.Key.{Key}
use Rattle.outside.specs.Told.{Told, next_draw}
use Rattle.mech_rows.specs.declared.kinds.Mech.{Mech}
use Rattle.mech_rows.specs.declared.kinds.Slot.{Slot}
use Rattle.mech_rows.specs.declared.refusal.Refusal.{Refusal}
use Rattle.mech_rows.specs.declared.refusal.Refusal.TheVariants.{TextRefused, WrongValue}
use Rattle.mech_rows.specs.Runs.{Opening}
use Rattle.text_hooks.specs.Drawn.{NoncesAre}

-- an item of this key and body, which opens
abbrev pub IsSealOf : (Key → Tree → Option Tree) → Key → Tree → Opening → Type 0
IsSealOf opens key body o = (opens key o.item ≡ Some body) × (o.key ≡ key) × (o.body ≡ body)

-- an item of this key and body, which checks
abbrev pub IsCheckOf : (Key → Tree → Tree → Bool) → Key → Tree → Opening → Type 0
IsCheckOf checks key body o = (checks key body o.item ≡ true) × (o.key ≡ key) × (o.body ≡ body)

-- this item, opened under this key
abbrev pub IsOpened : (Key → Tree → Option Tree) → Key → Tree → Opening → Type 0
IsOpened opens key item o = (opens key item ≡ Some o.body) × (o.key ≡ key) × (o.item ≡ item)

-- this item, tested as the check of a body under this key
abbrev pub IsTested : (Key → Tree → Tree → Bool) → Key → Tree → Tree → Opening → Type 0
IsTested checks key body item o = (checks key body item ≡ true) × (o ≡ record { key = key; item = item; body = body })

-- where draws are told: the seal was made with the next draw as its nonce, where its sealer wants one
abbrev pub IsNonceOf : (Tree → Option Bytes) → Bool → Option Told → Option Told → Opening → Type 0
IsNonceOf iv_of wants old new o = IfSome old (λ t. NoncesAre iv_of t (if wants then o ∷ [] else []) new)

-- where draws are told: the value is the next draw of a kind, and the draws have moved on by one
abbrev pub IsNext : (Told → Bytes) → Option Told → Option Told → Bytes → Type 0
IsNext value old new v = IfSome old (λ t. (v ≡ value t) × (new ≡ Some (next_draw t)))

-- the found value isn't the one that is held, and the refusal says where
abbrev pub IsWrongValue : Tree → Tree → ℕ → Slot → Refusal → Type 0
IsWrongValue found held part slot e = (same found held ≡ false) × (e ≡ WrongValue part slot)

-- the text isn't allowed, and the refusal says where
abbrev pub IsRefusedText : (Mech → Slot → Bytes → Bool) → Mech → Slot → Bytes → Refusal → Type 0
IsRefusedText allowed m s x e = (allowed m s x ≡ false) × (e ≡ TextRefused s)
