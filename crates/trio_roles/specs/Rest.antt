-- What a message of sealed items alone does to a run, by its pass and the names of its bodies, and what is still to be judged of it once its first item was opened.
use Rattle.std.specs.Prelude.{◌≡◌, ◌≢◌, ◌+◌, ℕ, suc, Bool, List, [], ◌∷◌, length, Option, Some, None, Result, Ok, Err, if◌then◌else◌}
use Rattle.term_values.specs.Trees.{Bytes, Tree}
use Rattle.term_values.specs.declared.small.Key.{Key}
use Rattle.mech_rows.specs.declared.kinds.Mech.{Mech}
use Rattle.mech_rows.specs.declared.kinds.Slot.{Slot}
use Rattle.mech_rows.specs.declared.refusal.Refusal.{Refusal}
use Rattle.mech_rows.specs.declared.refusal.Refusal.TheVariants.{Memory, Unopened, WrongPass}
use Rattle.mech_rows.specs.Rows.{Cover, Pass, tag_of}
use Rattle.mech_rows.specs.Found.{found}
use Rattle.mech_rows.specs.Heads.{Head}
use Rattle.mech_rows.specs.Replies.{run_verdict}
use Rattle.mech_rows.specs.Rings.{keys_in}
use Rattle.mech_rows.specs.Runs.{Keys, key_under, Opening, Got}
use Rattle.mech_rows.specs.Verdict.{Noted, State, Taken, bind, at, message_items, body_items, note_clear, note_slots, taken_by, joined, kept_part, seens, unless, refused_text, read_slots}
use Rattle.text_hooks.specs.declared.delivery.Delivery.{Delivery}
use Rattle.text_hooks.specs.Rules.{allowed}

-- a sealed item that is opened, by what it opens to, where bodies show these names
abbrev pub opened_among : List ℕ → Head → Noted → ℕ → Cover → Noted → Key → Tree → Option Tree → Result Taken Refusal
opened_among ns h old part c notes key u None = Err (Unopened part)
opened_among ns h old part c notes key u (Some b) =
    bind (body_items c.tagged ns c.slots part b) (λ ts.
    bind (note_slots part ts (length ns + 1) c.slots notes) (λ new.
    Ok (taken_by h old c new key u b)))

module _ (opens : Key → Tree → Option Tree) (keys : Keys) (ns : List ℕ) where
  -- one sealed item: opened, or only kept
  abbrev pub part_among : Head → Noted → ℕ → Cover → Tree → Noted → Result Taken Refusal
  part_among h old part c u notes =
      if c.seen then opened_among ns h old part c notes (key_under keys h (found notes) c.under) u (opens (key_under keys h (found notes) c.under) u)
      else kept_part part notes u

  -- the sealed items from item k on, each by its part
  abbrev pub parts_among : Head → Noted → ℕ → List Tree → ℕ → List Cover → Taken → Result Taken Refusal
  parts_among h old part ts k [] t = Ok t
  parts_among h old part ts k (c ∷ cs) t =
      bind (part_among h old part c (at ts k) t.notes) (λ new. parts_among h old (suc part) ts (suc k) cs (joined t new))

  -- a message as that of this pass
  abbrev pub judged_among : (Mech → Slot → Bytes → Bool) → Head → ℕ → Noted → Pass → Tree → Result Taken Refusal
  judged_among allowed h k notes p m =
      bind (message_items (tag_of h.mech (suc k) 0) h.b p.clear (seens p.covers) m) (λ ts.
      bind (note_clear ts 1 p.clear notes) (λ clear.
      bind (parts_among h notes 1 ts (length p.clear + 1) p.covers (record { notes = clear; opened = []; got = [] })) (λ t.
      unless (refused_text allowed h.mech t.notes (read_slots p)) t)))

module _ {S X : Type 0} {F : X → Type 0} {P : _} (opens : Key → Tree → Option Tree) (d : Delivery S X F P) (ns : List ℕ) (p : Pass) (s : State) where
  -- the delivered message, judged as that of the pass. Not unfolded, so that goals stay short
  unfoldable pub judged_as : Result Taken Refusal
  judged_as = judged_among opens (keys_in d.ring.now) ns (allowed d.hook.now.rules.items) s.head s.next s.notes p d.term.now

  -- judged so, it leads from the one state to the other, by these opened items, with these stamps to judge
  abbrev pub LeadsBy : State → List Opening → List Got → Type 0
  LeadsBy t opened got = (judged_as ≡ Ok (record { notes = t.notes; opened = opened; got = got })) × (t.head ≡ s.head) × (t.next ≡ suc s.next)

  -- judged so, it is refused; want of memory may come in place of that
  abbrev pub RefusesBy : Refusal → Type 0
  RefusesBy e = e ≢ Memory → judged_as ≡ Err e

  module _ (ts : List Tree) (b : Tree) (us : List Tree) where
    -- what the items after the first one still give, and then the texts
    abbrev pub rest_of_covers : Noted → List Cover → Result Taken Refusal
    rest_of_covers clear [] = Err WrongPass
    rest_of_covers clear (c ∷ cs) =
        bind (note_slots 1 us (length ns + 1) c.slots clear) (λ new.
        bind (parts_among opens (keys_in d.ring.now) ns s.head s.notes 2 ts (suc (length p.clear + 1)) cs (taken_by s.head s.notes c new (key_under (keys_in d.ring.now) s.head (found clear) c.under) (at ts (length p.clear + 1)) b)) (λ all.
        unless (refused_text (allowed d.hook.now.rules.items) s.head.mech all.notes (read_slots p)) all))

    -- what the judgement still is, once the message has these items, and the first protected one opened to this body with these items. Not unfolded either
    unfoldable pub after_first : Result Taken Refusal
    after_first = bind (note_clear ts 1 p.clear s.notes) (λ clear. rest_of_covers clear p.covers)

    -- it then leads to that state, by these opened items, with these stamps to judge
    abbrev pub ThenLeads : State → List Opening → List Got → Type 0
    ThenLeads t opened got = (after_first ≡ Ok (record { notes = t.notes; opened = opened; got = got })) × (t.head ≡ s.head) × (t.next ≡ suc s.next)

    -- it is then refused; want of memory may come in place of that
    abbrev pub ThenRefuses : Refusal → Type 0
    ThenRefuses e = e ≢ Memory → after_first ≡ Err e

-- the verdict on the delivered message is its judgement as that of the pass
abbrev pub IsJudgedAs : {S X : Type 0} {F : X → Type 0} {P : _} → (Key → Tree → Option Tree) → (Key → Tree → Tree → Bool) → Delivery S X F P → List ℕ → Pass → State → Type 0
IsJudgedAs opens checks d ns p s = run_verdict opens checks (allowed d.hook.now.rules.items) (keys_in d.ring.now) s d.term.now ≡ judged_as opens d ns p s
