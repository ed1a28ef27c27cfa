-- What is said of a message that a run is given, by the row. Each definition goes by the row, never by the message.
use Rattle.std.specs.Prelude.{◌==◌, ◌+◌, ℕ, suc, Bool, true, false, ◌&&◌, List, [], ◌∷◌, ◌++◌, length, get_or, nat_le, Option, Some, None, Result, Ok, Err, if◌then◌else◌}
use Rattle.term_values.specs.Trees.{Bytes, Tree, name, stamp, nonce, text, tag, tuple, none, untrees}
use Rattle.term_values.specs.Trees as term
use Rattle.term_values.specs.Lengths.{length_of}
use Rattle.term_values.specs.declared.small.Key.{Key}
use Rattle.mech_rows.specs.declared.kinds.Mech.{Mech}
use Rattle.mech_rows.specs.declared.kinds.Role.TheVariants.{P}
use Rattle.mech_rows.specs.declared.kinds.Slot.{Slot}
use Rattle.mech_rows.specs.declared.kinds.Slot.TheVariants.{Fwd}
use Rattle.mech_rows.specs.declared.kinds.Clear.{Clear}
use Rattle.mech_rows.specs.declared.kinds.Clear.TheVariants.{Slot as Shown, NameOfB}
use Rattle.mech_rows.specs.declared.kinds.Kind.{Kind}
use Rattle.mech_rows.specs.declared.kinds.Kind.TheVariants.{Nonce as a_nonce, Stamp as a_stamp, Part as a_part, Text as a_text, Item as an_item}
use Rattle.mech_rows.specs.declared.refusal.Refusal.{Refusal}
use Rattle.mech_rows.specs.declared.refusal.Refusal.TheVariants.{WrongPass, Unopened, WrongShape, WrongNames, WrongValue, TextRefused}
use Rattle.mech_rows.specs.Rows.{kind_of, has_third, tag_of, Cover, Pass, row_of}
use Rattle.mech_rows.specs.Heads.{Head, name_of}
use Rattle.mech_rows.specs.Found.{found}
use Rattle.mech_rows.specs.Runs.{Run, Keys, value, key_under, body, nth, clear_slots, Opening, Got}
use Rattle.mech_rows.specs.Steps.{got_of_slots}
use Rattle.term_values.specs.Same.{same}

-- what a run has noted, the first note first
abbrev pub Noted : Type 0
Noted = List (Slot × Tree)

-- a run with its notes as a list: who takes part, its next pass, counted from 0, and what it has noted
pub record State : Type 0 where
  pub head : Head
  pub next : ℕ
  pub notes : Noted

-- that run with its notes as a function
abbrev pub run_of : State → Run
run_of s = record { head = s.head; next = s.next; notes = found s.notes }

-- an answer, or the first refusal
abbrev pub bind : {X Y : Type 0} → Result X Refusal → (X → Result Y Refusal) → Result Y Refusal
bind (Ok x) f = f x
bind (Err e) f = Err e

-- the items of a tuple; any other term has none
abbrev pub items_of : Tree → List Tree
items_of (tuple ts) = untrees ts
items_of _ = []

-- item k, and the empty tuple where there is none
abbrev pub at : List Tree → ℕ → Tree
at ts k = get_or ts k (tuple none)

-- the term may stand in a slot of that kind; a forwarded item has at most 4,096 bytes
abbrev pub has_kind : Kind → Tree → Bool
has_kind a_nonce (nonce b) = true
has_kind a_stamp (stamp s) = true
has_kind a_part (term.part b) = true
has_kind a_text (text b) = true
has_kind an_item t = nat_le (length_of t) 4096
has_kind _ _ = false

-- the term is a name
abbrev pub is_name : Tree → Bool
is_name (name n) = true
is_name _ = false

-- from item k on stand the kinds of these slots
abbrev pub are_kinds : List Tree → ℕ → List Slot → Bool
are_kinds ts k [] = true
are_kinds ts k (s ∷ ss) = has_kind (kind_of s) (at ts k) && are_kinds ts (suc k) ss

-- from item k on stand the kinds of these clear items
abbrev pub are_clear : List Tree → ℕ → List Clear → Bool
are_clear ts k [] = true
are_clear ts k (Shown s ∷ cs) = has_kind (kind_of s) (at ts k) && are_clear ts (suc k) cs
are_clear ts k (NameOfB ∷ cs) = is_name (at ts k) && are_clear ts (suc k) cs

-- each protected item from item k on that the receiver only keeps is short enough
abbrev pub are_kept : List Tree → ℕ → List Bool → Bool
are_kept ts k [] = true
are_kept ts k (true ∷ bs) = are_kept ts (suc k) bs
are_kept ts k (false ∷ bs) = has_kind an_item (at ts k) && are_kept ts (suc k) bs

-- the names among the clear items are that of B
abbrev pub clear_names : ℕ → List Tree → ℕ → List Clear → Bool
clear_names b ts k [] = true
clear_names b ts k (Shown s ∷ cs) = clear_names b ts (suc k) cs
clear_names b ts k (NameOfB ∷ cs) = same (at ts k) (name b) && clear_names b ts (suc k) cs

-- the items of a message with this tag, or the refusal that its pass, or part 0 of it, gives
abbrev pub message_items : Bytes → ℕ → List Clear → List Bool → Tree → Result (List Tree) Refusal
message_items t b clear seen m =
    let ts = items_of m in
    if same (at ts 0) (tag t) then
    if (length ts == length clear + length seen + 1) && (are_clear ts 1 clear && are_kept ts (length clear + 1) seen) then
    if clear_names b ts 1 clear then Ok ts
    else Err (WrongNames 0)
    else Err (WrongShape 0)
    else Err WrongPass

-- from item k on stand as many names as these
abbrev pub name_kinds : List Tree → ℕ → List ℕ → Bool
name_kinds ts k [] = true
name_kinds ts k (n ∷ ns) = is_name (at ts k) && name_kinds ts (suc k) ns

-- from item k on stand these names
abbrev pub same_names : List Tree → ℕ → List ℕ → Bool
same_names ts k [] = true
same_names ts k (n ∷ ns) = same (at ts k) (name n) && same_names ts (suc k) ns

-- the items of a body with this tag, these names and these slots, or the refusal that it gives
abbrev pub body_items : Bytes → List ℕ → List Slot → ℕ → Tree → Result (List Tree) Refusal
body_items t ns slots part b =
    let ts = items_of b in
    if same (at ts 0) (tag t) && ((length ts == length ns + length slots + 1) && (name_kinds ts 1 ns && are_kinds ts (length ns + 1) slots)) then
    if same_names ts 1 ns then Ok ts
    else Err (WrongNames part)
    else Err (WrongShape part)

-- what a slot shows is noted, or compared with what is noted already
abbrev pub note_slot : ℕ → Slot → Tree → Noted → Option Tree → Result Noted Refusal
note_slot part s t notes None = Ok (notes ++ (s, t) ∷ [])
note_slot part s t notes (Some v) = if same t v then Ok notes else Err (WrongValue part s)

-- the slots from item k on, each noted or compared
abbrev pub note_slots : ℕ → List Tree → ℕ → List Slot → Noted → Result Noted Refusal
note_slots part ts k [] notes = Ok notes
note_slots part ts k (s ∷ ss) notes = bind (note_slot part s (at ts k) notes (found notes s)) (note_slots part ts (suc k) ss)

-- the clear items from item k on, each noted or compared
abbrev pub note_clear : List Tree → ℕ → List Clear → Noted → Result Noted Refusal
note_clear ts k [] notes = Ok notes
note_clear ts k (Shown s ∷ cs) notes = bind (note_slot 0 s (at ts k) notes (found notes s)) (note_clear ts (suc k) cs)
note_clear ts k (NameOfB ∷ cs) notes = note_clear ts (suc k) cs notes

-- what a message gives: the notes then, the items that were opened or tested, and the stamps to judge
pub record Taken : Type 0 where
  pub notes : Noted
  pub opened : List Opening
  pub got : List Got

-- the names that each body shows
abbrev pub names_of : Head → List ℕ
names_of h = if has_third h.mech then h.a ∷ h.b ∷ name_of h P ∷ [] else h.a ∷ h.b ∷ []

-- what an item gives that was opened or tested; `old` are the notes before the message
abbrev pub taken_by : Head → Noted → Cover → Noted → Key → Tree → Tree → Taken
taken_by h old c notes key item body = record {
  notes = notes;
  opened = record { key = key; item = item; body = body } ∷ [];
  got = got_of_slots h (found old) (found notes) c.tagged c.slots;
}

-- a part that is opened, by what it opens to
abbrev pub opened_part : Head → Noted → ℕ → Cover → Noted → Key → Tree → Option Tree → Result Taken Refusal
opened_part h old part c notes key u None = Err (Unopened part)
opened_part h old part c notes key u (Some b) =
    bind (body_items c.tagged (names_of h) c.slots part b) (λ ts.
    bind (note_slots part ts (length (names_of h) + 1) c.slots notes) (λ new.
    Ok (taken_by h old c new key u b)))

-- a part that is tested, by whether it passes
abbrev pub tested_part : Head → Noted → ℕ → Cover → Noted → Key → Tree → Tree → Bool → Result Taken Refusal
tested_part h old part c notes key u b ok = if ok then Ok (taken_by h old c notes key u b) else Err (Unopened part)

-- a part that is only kept; no run has noted one before
abbrev pub kept_part : ℕ → Noted → Tree → Result Taken Refusal
kept_part part notes u = bind (note_slot part Fwd u notes (found notes Fwd)) (λ new. Ok (record { notes = new; opened = []; got = [] }))

-- the bytes of a text
abbrev pub text_bytes : Tree → Bytes
text_bytes (text b) = b
text_bytes _ = []

-- the slots of the items that are opened
abbrev pub opened_slots : List Cover → List Slot
opened_slots [] = []
opened_slots (c ∷ cs) = (if c.is_check then [] else if c.seen then c.slots else []) ++ opened_slots cs

-- the slots that the pass shows to its receiver, in the order of the message
abbrev pub read_slots : Pass → List Slot
read_slots p = clear_slots p.clear ++ opened_slots p.covers

-- the refusal of a slot that holds a text, where it is not allowed, or that of the rest
abbrev pub text_refusal : Kind → Slot → Bool → Option Refusal → Option Refusal
text_refusal a_text s ok rest = if ok then rest else Some (TextRefused s)
text_refusal _ s ok rest = rest

-- the first text that is not allowed
abbrev pub refused_text : (Mech → Slot → Bytes → Bool) → Mech → Noted → List Slot → Option Refusal
refused_text allowed m notes [] = None
refused_text allowed m notes (s ∷ ss) = text_refusal (kind_of s) s (allowed m s (text_bytes (value (found notes) s))) (refused_text allowed m notes ss)

-- the answer, unless something is refused
abbrev pub unless : {X : Type 0} → Option Refusal → X → Result X Refusal
unless None x = Ok x
unless (Some e) x = Err e

-- which items the receiver opens or tests
abbrev pub seens : List Cover → List Bool
seens [] = []
seens (c ∷ cs) = c.seen ∷ seens cs

-- what was taken so far, and what one further part gives
abbrev pub joined : Taken → Taken → Taken
joined t new = record { notes = new.notes; opened = t.opened ++ new.opened; got = t.got ++ new.got }

module _ (opens : Key → Tree → Option Tree) (checks : Key → Tree → Tree → Bool) (keys : Keys) where
  -- one part: tested, opened or only kept
  abbrev pub judged_part : Head → Noted → ℕ → Cover → Tree → Noted → Result Taken Refusal
  judged_part h old part c u notes =
      if c.seen then
      if c.is_check
      then tested_part h old part c notes (key_under keys h (found notes) c.under) u (body h (found notes) c) (checks (key_under keys h (found notes) c.under) (body h (found notes) c) u)
      else opened_part h old part c notes (key_under keys h (found notes) c.under) u (opens (key_under keys h (found notes) c.under) u)
      else kept_part part notes u

  -- the protected items from item k on, each by its part
  abbrev pub judged_parts : Head → Noted → ℕ → List Tree → ℕ → List Cover → Taken → Result Taken Refusal
  judged_parts h old part ts k [] t = Ok t
  judged_parts h old part ts k (c ∷ cs) t =
      bind (judged_part h old part c (at ts k) t.notes) (λ new. judged_parts h old (suc part) ts (suc k) cs (joined t new))

  module _ (allowed : Mech → Slot → Bytes → Bool) where
    -- a message as that of this pass
    abbrev pub judged : Head → ℕ → Noted → Pass → Tree → Result Taken Refusal
    judged h k notes p m =
        bind (message_items (tag_of h.mech (suc k) 0) h.b p.clear (seens p.covers) m) (λ ts.
        bind (note_clear ts 1 p.clear notes) (λ clear.
        bind (judged_parts h notes 1 ts (length p.clear + 1) p.covers (record { notes = clear; opened = []; got = [] })) (λ t.
        unless (refused_text allowed h.mech t.notes (read_slots p)) t)))

    -- a message as that of a pass that the row may have
    abbrev pub on_pass : State → Option Pass → Tree → Result Taken Refusal
    on_pass s None m = Err WrongPass
    on_pass s (Some p) m = judged s.head s.next s.notes p m

    -- the verdict on a message: what the run then knows, or the first refusal
    abbrev pub verdict : State → Tree → Result Taken Refusal
    verdict s m = on_pass s (nth (row_of s.head.mech) s.next) m
