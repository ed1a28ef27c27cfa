-- Messages of sealed items by their passes, and what is left of them once the first item was opened.
use Rattle.std.proofs.Common.{◌≡◌, ℕ, ◌+◌, suc, Bool, true, false, List, [], ◌∷◌, length, Option, Some, None, Result, Ok, Err, refl, sym, ap, ◌∙◌, if◌then◌else◌}
use Rattle.term_values.specs.Trees.{Bytes, Tree}
use Rattle.term_values.specs.declared.small.Key.{Key}
use Rattle.mech_rows.specs.declared.kinds.Mech.{Mech}
use Rattle.mech_rows.specs.declared.kinds.Slot.{Slot}
use Rattle.mech_rows.specs.declared.refusal.Refusal.{Refusal}
use Rattle.mech_rows.specs.declared.refusal.Refusal.TheVariants.{WrongPass}
use Rattle.mech_rows.specs.Rows.{Cover, Pass, row_of, tag_of}
use Rattle.mech_rows.specs.Facts.{same_role}
use Rattle.mech_rows.specs.Heads.{Head}
use Rattle.mech_rows.specs.Found.{found}
use Rattle.mech_rows.specs.Replies.{ends_at, run_verdict}
use Rattle.mech_rows.specs.Rings.{keys_in}
use Rattle.mech_rows.specs.Runs.{Keys, key_under, nth}
use Rattle.mech_rows.specs.Verdict.{Noted, State, Taken, bind, at, message_items, body_items, note_clear, note_slots, names_of, taken_by, joined, judged_part, judged_parts, opened_part, kept_part, unless, refused_text, read_slots, seens, judged, on_pass}
use Rattle.text_hooks.specs.declared.delivery.Delivery.{Delivery}
use Rattle.text_hooks.specs.Rules.{allowed as allowed_by}
use Rattle.trio_roles.specs.Rest.{opened_among, part_among, parts_among, judged_among, rest_of_covers, judged_as, after_first}

-- no item is a check
abbrev pub AreSeals : List Cover → Type 0
AreSeals [] = Unit {0}
AreSeals (c ∷ cs) = (c.is_check ≡ false) × AreSeals cs

opened_is_among : (h : Head) (old : Noted) (part : ℕ) (c : Cover) (notes : Noted) (key : Key) (u : Tree) (o : Option Tree) → opened_part h old part c notes key u o ≡ opened_among (names_of h) h old part c notes key u o
opened_is_among h old part c notes key u None = refl
opened_is_among h old part c notes key u (Some b) = refl

bind_first : {X Y : Type 0} (r q : Result X Refusal) (f g : X → Result Y Refusal) → r ≡ q → ((x : X) → f x ≡ g x) → bind r f ≡ bind q g
bind_first r (Ok x) f g e h = rw e (h x)
bind_first r (Err x) f g e h = rw e refl

bind_same : {X Y : Type 0} (r : Result X Refusal) (f g : X → Result Y Refusal) → ((x : X) → f x ≡ g x) → bind r f ≡ bind r g
bind_same (Ok x) f g h = h x
bind_same (Err x) f g h = refl

module _ (opens : Key → Tree → Option Tree) (checks : Key → Tree → Tree → Bool) (keys : Keys) where
  part_is_among : (h : Head) (old : Noted) (part : ℕ) (c : Cover) (u : Tree) (notes : Noted) → c.is_check ≡ false → judged_part opens checks keys h old part c u notes ≡ part_among opens keys (names_of h) h old part c u notes
  part_is_among h old part c u notes sealed = rw sealed (go c.seen)
    where
      go : (b : Bool) → (if b then opened_part h old part c notes (key_under keys h (found notes) c.under) u (opens (key_under keys h (found notes) c.under) u) else kept_part part notes u) ≡ (if b then opened_among (names_of h) h old part c notes (key_under keys h (found notes) c.under) u (opens (key_under keys h (found notes) c.under) u) else kept_part part notes u)
      go true = opened_is_among h old part c notes (key_under keys h (found notes) c.under) u (opens (key_under keys h (found notes) c.under) u)
      go false = refl

  parts_are_among : (h : Head) (old : Noted) (part : ℕ) (ts : List Tree) (k : ℕ) (cs : List Cover) (t : Taken) → AreSeals cs → judged_parts opens checks keys h old part ts k cs t ≡ parts_among opens keys (names_of h) h old part ts k cs t
  parts_are_among h old part ts k [] t a = refl
  parts_are_among h old part ts k (c ∷ cs) t a = bind_first _ _ _ _ (part_is_among h old part c (at ts k) t.notes a.0) (λ new. parts_are_among h old (suc part) ts (suc k) cs (joined t new) a.1)

  judged_is_among : (allowed : Mech → Slot → Bytes → Bool) (h : Head) (k : ℕ) (notes : Noted) (p : Pass) (m : Tree) → AreSeals p.covers → judged opens checks keys allowed h k notes p m ≡ judged_among opens keys (names_of h) allowed h k notes p m
  judged_is_among allowed h k notes p m a =
      bind_same (message_items (tag_of h.mech (suc k) 0) h.b p.clear (seens p.covers) m) _ _ (λ ts.
      bind_same (note_clear ts 1 p.clear notes) _ _ (λ clear.
      ap (λ (r : Result Taken Refusal). bind r (λ t. unless (refused_text allowed h.mech t.notes (read_slots p)) t)) (parts_are_among h notes 1 ts (length p.clear + 1) p.covers (record { notes = clear; opened = []; got = [] }) a)))

  run_is : (allowed : Mech → Slot → Bytes → Bool) (s : State) (m : Tree) (o : Option Pass) (p : Pass) → o ≡ Some p → same_role p.to s.head.role ≡ true → (if ends_at (λ q. q.to) s.head.role o then on_pass opens checks keys allowed s o m else Err WrongPass) ≡ judged opens checks keys allowed s.head s.next s.notes p m
  run_is allowed s m o p e received = rw e (rw received refl)

module _ {S X : Type 0} {F : X → Type 0} {P : _} (opens : Key → Tree → Option Tree) (checks : Key → Tree → Tree → Bool) (d : Delivery S X F P) where
  -- the verdict of a run that receives this pass
  pub by_pass : (ns : List ℕ) (p : Pass) (s : State) → nth (row_of s.head.mech) s.next ≡ Some p → same_role p.to s.head.role ≡ true → AreSeals p.covers → names_of s.head ≡ ns → run_verdict opens checks (allowed_by d.hook.now.rules.items) (keys_in d.ring.now) s d.term.now ≡ judged_as opens d ns p s
  unfolding judged_as
  by_pass ns p s e received seals names =
      run_is opens checks (keys_in d.ring.now) (allowed_by d.hook.now.rules.items) s d.term.now (nth (row_of s.head.mech) s.next) p e received
      ∙ (judged_is_among opens checks (keys_in d.ring.now) (allowed_by d.hook.now.rules.items) s.head s.next s.notes p d.term.now seals
      ∙ ap (λ (xs : List ℕ). judged_among opens (keys_in d.ring.now) xs (allowed_by d.hook.now.rules.items) s.head s.next s.notes p d.term.now) names)

module _ {S X : Type 0} {F : X → Type 0} {P : _} (opens : Key → Tree → Option Tree) (d : Delivery S X F P) (ns : List ℕ) (p : Pass) (s : State) where
  first_part : (ts : List Tree) (c : Cover) (cs : List Cover) (clear : Noted) (b : Tree) (us : List Tree) → c.seen ≡ true → opens (key_under (keys_in d.ring.now) s.head (found clear) c.under) (at ts (length p.clear + 1)) ≡ Some b → body_items c.tagged ns c.slots 1 b ≡ Ok us →
      bind (parts_among opens (keys_in d.ring.now) ns s.head s.notes 1 ts (length p.clear + 1) (c ∷ cs) (record { notes = clear; opened = []; got = [] })) (λ all. unless (refused_text (allowed_by d.hook.now.rules.items) s.head.mech all.notes (read_slots p)) all)
      ≡ rest_of_covers opens d ns p s ts b us clear (c ∷ cs)
  first_part ts c cs clear b us seen o e = rw seen (rw o (rw e (go (note_slots 1 us (length ns + 1) c.slots clear))))
    where
      go : (r : Result Noted Refusal) →
          bind (bind (bind r (λ new. Ok (taken_by s.head s.notes c new (key_under (keys_in d.ring.now) s.head (found clear) c.under) (at ts (length p.clear + 1)) b))) (λ new. parts_among opens (keys_in d.ring.now) ns s.head s.notes 2 ts (suc (length p.clear + 1)) cs (joined (record { notes = clear; opened = []; got = [] }) new))) (λ all. unless (refused_text (allowed_by d.hook.now.rules.items) s.head.mech all.notes (read_slots p)) all)
          ≡ bind r (λ new. bind (parts_among opens (keys_in d.ring.now) ns s.head s.notes 2 ts (suc (length p.clear + 1)) cs (taken_by s.head s.notes c new (key_under (keys_in d.ring.now) s.head (found clear) c.under) (at ts (length p.clear + 1)) b)) (λ all. unless (refused_text (allowed_by d.hook.now.rules.items) s.head.mech all.notes (read_slots p)) all))
      go (Ok new) = refl
      go (Err x) = refl

  -- what protected items give, and then the texts
  abbrev by_covers : List Tree → Noted → List Cover → Result Taken Refusal
  by_covers ts clear cs = bind (parts_among opens (keys_in d.ring.now) ns s.head s.notes 1 ts (length p.clear + 1) cs (record { notes = clear; opened = []; got = [] })) (λ all. unless (refused_text (allowed_by d.hook.now.rules.items) s.head.mech all.notes (read_slots p)) all)

  -- what a message of these items gives
  abbrev by_items : List Tree → Result Taken Refusal
  by_items ts = bind (note_clear ts 1 p.clear s.notes) (λ clear. by_covers ts clear p.covers)

  -- once the first protected item has opened, the judgement is what is left
  pub first_known : (c : Cover) (cs : List Cover) (ts : List Tree) (clear : Noted) (b : Tree) (us : List Tree) → p.covers ≡ c ∷ cs → c.seen ≡ true → message_items (tag_of s.head.mech (suc s.next) 0) s.head.b p.clear (seens p.covers) d.term.now ≡ Ok ts → note_clear ts 1 p.clear s.notes ≡ Ok clear → opens (key_under (keys_in d.ring.now) s.head (found clear) c.under) (at ts (length p.clear + 1)) ≡ Some b → body_items c.tagged ns c.slots 1 b ≡ Ok us → judged_as opens d ns p s ≡ after_first opens d ns p s ts b us
  unfolding judged_as after_first
  first_known c cs ts clear b us covers seen items clears o body =
      (ap (λ (r : Result (List Tree) Refusal). bind r by_items) items
      ∙ (ap (λ (r : Result Noted Refusal). bind r (λ n. by_covers ts n p.covers)) clears
      ∙ (ap (by_covers ts clear) covers
      ∙ first_part ts c cs clear b us seen o body)))
      ∙ sym (ap (λ (r : Result Noted Refusal). bind r (λ n. rest_of_covers opens d ns p s ts b us n p.covers)) clears
      ∙ ap (rest_of_covers opens d ns p s ts b us clear) covers)
