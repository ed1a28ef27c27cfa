-- No refusal of a world is want of memory.
use Rattle.std.proofs.Common.{◌≡◌, ◌≢◌, ◌==◌, ◌&&◌, ◌+◌, ℕ, suc, not, Bool, true, false, if◌then◌else◌, List, [], ◌∷◌, length, Option, Some, None, Result, Ok, Err, ap}
use Rattle.term_values.specs.Trees.{Bytes, Tree, tag}
use Rattle.term_values.specs.declared.small.Key.{Key}
use Rattle.mech_rows.specs.declared.kinds.Clear.{Clear}
use Rattle.mech_rows.specs.declared.kinds.Clear.TheVariants.{Slot as Shown, NameOfB}
use Rattle.mech_rows.specs.declared.kinds.Kind.{Kind}
use Rattle.mech_rows.specs.declared.kinds.Kind.TheVariants.{Nonce as a_nonce, Stamp as a_stamp, Part as a_part, Text as a_text, Item as an_item}
use Rattle.mech_rows.specs.declared.kinds.Mech.{Mech}
use Rattle.mech_rows.specs.declared.kinds.Slot.{Slot}
use Rattle.mech_rows.specs.declared.kinds.Slot.TheVariants.{Fwd}
use Rattle.mech_rows.specs.declared.refusal.Refusal.{Refusal}
use Rattle.mech_rows.specs.declared.refusal.Refusal.TheVariants.{EndedRun, Memory, NoKey, SelfPeer, StampsSpent, TableFull, UnknownParty, WrongKind, WrongNames, WrongPass, WrongShape, WrongValue}
use Rattle.mech_rows.specs.Found.{found}
use Rattle.mech_rows.specs.Heads.{Head, me}
use Rattle.mech_rows.specs.Openings.{Texts, has_parts, opened_state}
use Rattle.mech_rows.specs.Replies.{needs_stamp, receives, run_verdict, sends_first}
use Rattle.mech_rows.specs.Rings.{Ring}
use Rattle.mech_rows.specs.Rows.{Cover, Pass, kind_of, row_of, tag_of}
use Rattle.mech_rows.specs.Runs.{Keys, body, key_under, nth, value}
use Rattle.term_values.specs.Same.{same}
use Rattle.mech_rows.specs.Verdict.{Noted, State, Taken, are_clear, are_kept, are_kinds, at, bind, body_items, clear_names, items_of, joined, judged, judged_part, judged_parts, kept_part, message_items, name_kinds, names_of, note_clear, note_slot, note_slots, on_pass, opened_part, read_slots, refused_text, same_names, seens, taken_by, tested_part, text_bytes, text_refusal, unless, verdict}
use Rattle.seal_symbolic.specs.Symbolic.{body_of, is_check}
use Rattle.node_desk.specs.Deliveries.{spent_refusal}
use Rattle.node_desk.specs.Desks.{DeskView, node_at}
use Rattle.node_desk.specs.Helds.{Held}
use Rattle.node_desk.specs.Openings.{are_known, first_of, have_wrong_kinds, head_refusal, is_full}
use Rattle.node_desk.specs.Refusals.{run_refusal}
use Rattle.world_run.specs.Opens.{begin_refusal, open_refusal, opened_by}
use Rattle.world_run.specs.Turns.{desk_in, has_name}
use Rattle.world_run.specs.Views.{WorldView}
use Rattle.replay_store.specs.Stamps.{last_number}
use Rattle.agreement_laws.specs.Nodes.{open_among, opens_in}

-- the answer is not want of memory
abbrev pub IsOther : {X : Type 0} → Result X Refusal → Type 0
IsOther r = r ≢ Err Memory

ok_other : {X : Type 0} (x : X) → IsOther (Ok x)
ok_other x e = cc

bind_other : {X Y : Type 0} (r : Result X Refusal) (f : X → Result Y Refusal) → IsOther r → ((x : X) → IsOther (f x)) → IsOther (bind r f)
bind_other (Ok x) f a b = b x
bind_other {Y = Y} (Err e) f a b = λ is. a (again e is)
  where
    again : {X : Type 0} (d : Refusal) → ◌≡◌ {A = Result Y Refusal} (Err d) (Err Memory) → ◌≡◌ {A = Result X Refusal} (Err d) (Err Memory)
    again d is = let same : d ≡ Memory = cc in ap Err same

-- ---- a verdict

slot_other : (part : ℕ) (s : Slot) (t : Tree) (ns : Noted) (o : Option Tree) → IsOther (note_slot part s t ns o)
slot_other part s t ns None = λ e. cc
slot_other part s t ns (Some v) = go (same t v)
  where
    go : (b : Bool) → IsOther (if b then Ok ns else Err (WrongValue part s))
    go true e = cc
    go false e = cc

slots_other : (part : ℕ) (ts : List Tree) (k : ℕ) (ss : List Slot) (ns : Noted) → IsOther (note_slots part ts k ss ns)
slots_other part ts k [] ns = ok_other ns
slots_other part ts k (s ∷ ss) ns = bind_other (note_slot part s (at ts k) ns (found ns s)) (note_slots part ts (suc k) ss) (slot_other part s (at ts k) ns (found ns s)) (slots_other part ts (suc k) ss)

clear_other : (ts : List Tree) (k : ℕ) (cs : List Clear) (ns : Noted) → IsOther (note_clear ts k cs ns)
clear_other ts k [] ns = ok_other ns
clear_other ts k (Shown s ∷ cs) ns = bind_other (note_slot 0 s (at ts k) ns (found ns s)) (note_clear ts (suc k) cs) (slot_other 0 s (at ts k) ns (found ns s)) (clear_other ts (suc k) cs)
clear_other ts k (NameOfB ∷ cs) ns = clear_other ts (suc k) cs ns

message_other : (t : Bytes) (b : ℕ) (clear : List Clear) (seen : List Bool) (m : Tree) → IsOther (message_items t b clear seen m)
message_other t b clear seen m = let ts = items_of m in go ts (same (at ts 0) (tag t)) ((length ts == length clear + length seen + 1) && (are_clear ts 1 clear && are_kept ts (length clear + 1) seen)) (clear_names b ts 1 clear)
  where
    go : (ts : List Tree) (x y z : Bool) → IsOther (if x then (if y then (if z then Ok ts else Err (WrongNames 0)) else Err (WrongShape 0)) else Err WrongPass)
    go ts true true true e = cc
    go ts true true false e = cc
    go ts true false z e = cc
    go ts false y z e = cc

body_other : (t : Bytes) (ns : List ℕ) (slots : List Slot) (part : ℕ) (b : Tree) → IsOther (body_items t ns slots part b)
body_other t ns slots part b = let ts = items_of b in go ts (same (at ts 0) (tag t) && ((length ts == length ns + length slots + 1) && (name_kinds ts 1 ns && are_kinds ts (length ns + 1) slots))) (same_names ts 1 ns)
  where
    go : (ts : List Tree) (x y : Bool) → IsOther (if x then (if y then Ok ts else Err (WrongNames part)) else Err (WrongShape part))
    go ts true true e = cc
    go ts true false e = cc
    go ts false y e = cc

opened_other : (h : Head) (old : Noted) (part : ℕ) (c : Cover) (ns : Noted) (key : Key) (u : Tree) (o : Option Tree) → IsOther (opened_part h old part c ns key u o)
opened_other h old part c ns key u None = λ e. cc
opened_other h old part c ns key u (Some b) =
    bind_other (body_items c.tagged (names_of h) c.slots part b) _ (body_other c.tagged (names_of h) c.slots part b)
    (λ ts. bind_other (note_slots part ts (length (names_of h) + 1) c.slots ns) _ (slots_other part ts (length (names_of h) + 1) c.slots ns) (λ new. ok_other (taken_by h old c new key u b)))

tested_other : (h : Head) (old : Noted) (part : ℕ) (c : Cover) (ns : Noted) (key : Key) (u b : Tree) (good : Bool) → IsOther (tested_part h old part c ns key u b good)
tested_other h old part c ns key u b true e = cc
tested_other h old part c ns key u b false e = cc

kept_other : (part : ℕ) (ns : Noted) (u : Tree) → IsOther (kept_part part ns u)
kept_other part ns u = bind_other (note_slot part Fwd u ns (found ns Fwd)) _ (slot_other part Fwd u ns (found ns Fwd)) (λ new. ok_other _)

unless_other : {X : Type 0} (o : Option Refusal) (x : X) → o ≢ Some Memory → IsOther (unless o x)
unless_other None x a = ok_other x
unless_other (Some d) x a = λ e. let same : d ≡ Memory = cc in a (ap Some same)

text_other : (k : Kind) (s : Slot) (good : Bool) (rest : Option Refusal) → rest ≢ Some Memory → text_refusal k s good rest ≢ Some Memory
text_other a_text s true rest a = a
text_other a_text s false rest a = λ e. absurd cc
text_other a_nonce s good rest a = a
text_other a_stamp s good rest a = a
text_other a_part s good rest a = a
text_other an_item s good rest a = a

texts_other : (allowed : Mech → Slot → Bytes → Bool) (m : Mech) (ns : Noted) (ss : List Slot) → refused_text allowed m ns ss ≢ Some Memory
texts_other allowed m ns [] = λ e. absurd cc
texts_other allowed m ns (s ∷ ss) = text_other (kind_of s) s (allowed m s (text_bytes (value (found ns) s))) (refused_text allowed m ns ss) (texts_other allowed m ns ss)

module _ (keys : Keys) (h : Head) (old : Noted) where
  part_other : (part : ℕ) (c : Cover) (u : Tree) (ns : Noted) → IsOther (judged_part body_of is_check keys h old part c u ns)
  part_other part c u ns = go c.seen c.is_check
    where
      go : (a b : Bool) → IsOther (if a then (if b then tested_part h old part c ns (key_under keys h (found ns) c.under) u (body h (found ns) c) (is_check (key_under keys h (found ns) c.under) (body h (found ns) c) u) else opened_part h old part c ns (key_under keys h (found ns) c.under) u (body_of (key_under keys h (found ns) c.under) u)) else kept_part part ns u)
      go true true = tested_other h old part c ns (key_under keys h (found ns) c.under) u (body h (found ns) c) (is_check (key_under keys h (found ns) c.under) (body h (found ns) c) u)
      go true false = opened_other h old part c ns (key_under keys h (found ns) c.under) u (body_of (key_under keys h (found ns) c.under) u)
      go false b = kept_other part ns u

  parts_other : (part : ℕ) (ts : List Tree) (k : ℕ) (cs : List Cover) (t : Taken) → IsOther (judged_parts body_of is_check keys h old part ts k cs t)
  parts_other part ts k [] t = ok_other t
  parts_other part ts k (c ∷ cs) t = bind_other (judged_part body_of is_check keys h old part c (at ts k) t.notes) _ (part_other part c (at ts k) t.notes) (λ new. parts_other (suc part) ts (suc k) cs (joined t new))

module _ (keys : Keys) (allowed : Mech → Slot → Bytes → Bool) (s : State) (m : Tree) where
  judged_other : (p : Pass) → IsOther (judged body_of is_check keys allowed s.head s.next s.notes p m)
  judged_other p =
      bind_other (message_items (tag_of s.head.mech (suc s.next) 0) s.head.b p.clear (seens p.covers) m) _ (message_other (tag_of s.head.mech (suc s.next) 0) s.head.b p.clear (seens p.covers) m) (λ ts.
      bind_other (note_clear ts 1 p.clear s.notes) _ (clear_other ts 1 p.clear s.notes) (λ clear.
      bind_other (judged_parts body_of is_check keys s.head s.notes 1 ts (length p.clear + 1) p.covers (record { notes = clear; opened = []; got = [] })) _ (parts_other keys s.head s.notes 1 ts (length p.clear + 1) p.covers (record { notes = clear; opened = []; got = [] })) (λ t.
      unless_other (refused_text allowed s.head.mech t.notes (read_slots p)) t (texts_other allowed s.head.mech t.notes (read_slots p)))))

  pass_other : (o : Option Pass) → IsOther (on_pass body_of is_check keys allowed s o m)
  pass_other None = λ e. cc
  pass_other (Some p) = judged_other p

  pub verdict_other : IsOther (run_verdict body_of is_check allowed keys s m)
  verdict_other = go (receives s)
    where
      go : (b : Bool) → IsOther (if b then verdict body_of is_check keys allowed s m else Err WrongPass)
      go true = pass_other (nth (row_of s.head.mech) s.next)
      go false = λ e. cc

-- ---- other refusals

pub run_other : (o : Option Held) → run_refusal o ≢ Some Memory
run_other None = λ e. cc
run_other (Some h) = go h.is_open
  where
    go : (b : Bool) → ◌≢◌ {A = Option Refusal} (if b then None else Some EndedRun) (Some Memory)
    go true e = cc
    go false e = cc

pub spent_other : (d : DeskView) (s : State) → spent_refusal d s ≢ Some Memory
spent_other d s = go (needs_stamp s) ((node_at d).last == last_number)
  where
    go : (a b : Bool) → ◌≢◌ {A = Option Refusal} (if a then (if b then Some StampsSpent else None) else None) (Some Memory)
    go true true e = cc
    go true false e = cc
    go false b e = cc

first_other : (o q : Option Refusal) → o ≢ Some Memory → q ≢ Some Memory → first_of o q ≢ Some Memory
first_other None q a b = b
first_other (Some e) q a b = a

head_other : (ring : Ring) (h : Head) → head_refusal ring h ≢ Some Memory
head_other ring h = go (not (are_known ring h)) (have_wrong_kinds ring h) (h.a == h.b) (not (has_parts ring h))
  where
    go : (a b c d : Bool) → ◌≢◌ {A = Option Refusal} (if a then Some UnknownParty else if b then Some WrongKind else if c then Some SelfPeer else if d then Some NoKey else None) (Some Memory)
    go true b c d e = cc
    go false true c d e = cc
    go false false true d e = cc
    go false false false true e = cc
    go false false false false e = cc

full_other : (b : Bool) → ◌≢◌ {A = Option Refusal} (if b then Some TableFull else None) (Some Memory)
full_other true e = cc
full_other false e = cc

pub opening_other : (w : WorldView) (h : Head) → open_refusal w h ≢ Some Memory
opening_other w h = go (has_name w (me h)) (node_at (desk_in w (me h))).ring (is_full (open_among (node_at (desk_in w (me h))).runs (opens_in (node_at (desk_in w (me h))).log)) (opens_in (node_at (desk_in w (me h))).log))
  where
    go : (b : Bool) (ring : Ring) (full : Bool) → ◌≢◌ {A = Option Refusal} (if b then first_of (head_refusal ring h) (if full then Some TableFull else None) else Some UnknownParty) (Some Memory)
    go true ring full = first_other (head_refusal ring h) (if full then Some TableFull else None) (head_other ring h) (full_other full)
    go false ring full = λ e. cc

pub begin_other : (w : WorldView) (h : Head) (texts : Texts) → begin_refusal w h texts ≢ Some Memory
begin_other w h texts = go (sends_first (opened_state h texts))
  where
    go : (b : Bool) → ◌≢◌ {A = Option Refusal} (if b then spent_refusal (desk_in (opened_by w h texts) (me h)) (opened_state h texts) else None) (Some Memory)
    go true = spent_other (desk_in (opened_by w h texts) (me h)) (opened_state h texts)
    go false = λ e. cc
