-- What a message does to a run.
use Rattle.std.specs.Prelude.{◌≡◌, ◌≢◌, suc, Bool, List, Option, Ok, Err}
use Rattle.term_values.specs.Trees.{Tree}
use Rattle.term_values.specs.declared.small.Key.{Key}
use Rattle.mech_rows.specs.declared.refusal.Refusal.{Refusal}
use Rattle.mech_rows.specs.declared.refusal.Refusal.TheVariants.{Memory}
use Rattle.mech_rows.specs.Rings.{Ring, keys_in}
use Rattle.mech_rows.specs.Runs.{Opening, Got}
use Rattle.mech_rows.specs.Replies.{run_verdict}
use Rattle.mech_rows.specs.Verdict.{State, Taken, verdict}
use Rattle.text_hooks.specs.declared.delivery.Delivery.{Delivery}
use Rattle.text_hooks.specs.declared.rule.Rule.{Rule}
use Rattle.text_hooks.specs.Rules.{allowed}

module _ {S X : Type 0} {F : X → Type 0} {P : _} (opens : Key → Tree → Option Tree) (checks : Key → Tree → Tree → Bool) (d : Delivery S X F P) where
  -- the delivered message leads from the one state to the other, by these opened items, with these stamps to judge
  abbrev pub Leads : State → State → List Opening → List Got → Type 0
  Leads s t opened got = (run_verdict opens checks (allowed d.hook.now.rules.items) (keys_in d.ring.now) s d.term.now ≡ Ok (record { notes = t.notes; opened = opened; got = got })) × (t.head ≡ s.head) × (t.next ≡ suc s.next)

  -- the state refuses the message: by its verdict, and with WrongPass where its role doesn't receive the next pass; want of memory may come in its place
  abbrev pub Refuses : State → Refusal → Type 0
  Refuses s e = e ≢ Memory → run_verdict opens checks (allowed d.hook.now.rules.items) (keys_in d.ring.now) s d.term.now ≡ Err e

-- the verdict with this ring and these rules takes the message, and this is what it gave
abbrev pub IsTaken : (Key → Tree → Option Tree) → (Key → Tree → Tree → Bool) → Ring → List Rule → State → Tree → Taken → Type 0
IsTaken opens checks ring rules s m t = verdict opens checks (keys_in ring) (allowed rules) s m ≡ Ok t
