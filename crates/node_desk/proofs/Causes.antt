-- Which refusals come of a run, of a message and of received stamps.
use Rattle.std.proofs.Common.{◌≡◌, ◌≢◌, ℕ, suc, Bool, true, false, if◌then◌else◌, ◌==◌, ◌+◌, ◌&&◌, length, List, [], ◌∷◌, ◌⊎◌, Option, Some, None, Result, Ok, Err, refl, sym, ap, subst, ◌∙◌, inl, inr}
use Rattle.std.specs.Prelude.{IfErr, IfSome}
use Rattle.tagged_codec.specs.Grammar.{IsSpelling}
use Rattle.term_values.specs.Trees.{Bytes, Tree, tag}
use Rattle.term_values.specs.declared.small.Key.{Key}
use Rattle.term_values.specs.declared.small.StampKind.{StampKind}
use Rattle.replay_store.specs.Stamps.{Accepted, stamp_verdict, last_number}
use Rattle.replay_store.specs.declared.verdict.Verdict.{Verdict}
use Rattle.replay_store.specs.declared.verdict.Verdict.TheVariants as verdicts
use Rattle.mech_rows.specs.declared.kinds.Clear.{Clear}
use Rattle.mech_rows.specs.declared.kinds.Clear.TheVariants.{Slot as Shown, NameOfB}
use Rattle.mech_rows.specs.declared.kinds.Kind.{Kind}
use Rattle.mech_rows.specs.declared.kinds.Kind.TheVariants.{Nonce as a_nonce, Stamp as a_stamp, Part as a_part, Text as a_text, Item as an_item}
use Rattle.mech_rows.specs.declared.kinds.Mech.{Mech}
use Rattle.mech_rows.specs.declared.kinds.Slot.{Slot}
use Rattle.mech_rows.specs.declared.kinds.Slot.TheVariants.{Fwd}
use Rattle.mech_rows.specs.declared.refusal.Refusal.{Refusal}
use Rattle.mech_rows.specs.declared.refusal.Refusal.TheVariants.{UnknownRun, EndedRun, Malformed, WrongPass, Unopened, WrongShape, WrongNames, WrongValue, TextRefused, StampsSpent, DrawFault, Memory}
use Rattle.mech_rows.specs.Rows.{kind_of, Cover, Pass, tag_of, row_of}
use Rattle.mech_rows.specs.Found.{found}
use Rattle.mech_rows.specs.Heads.{Head}
use Rattle.mech_rows.specs.Rings.{keys_in}
use Rattle.mech_rows.specs.Replies.{receives, needs_stamp, run_verdict}
use Rattle.mech_rows.specs.Runs.{Keys, Got, nth, value, body, key_under}
use Rattle.term_values.specs.Same.{same}
use Rattle.mech_rows.specs.Verdict.{Noted, State, Taken, bind, at, items_of, are_clear, are_kept, clear_names, name_kinds, are_kinds, same_names, names_of, message_items, body_items, note_slot, note_slots, note_clear, taken_by, opened_part, tested_part, kept_part, judged_part, judged_parts, judged, joined, on_pass, verdict, unless, seens, read_slots, text_refusal, refused_text, text_bytes}
use Rattle.text_hooks.specs.Refused.{IsNoSpelling}
use Rattle.agreement_laws.specs.Nodes.{Node}
use Rattle.node_desk.specs.Helds.{Held}
use Rattle.node_desk.specs.Openings.{first_of}
use Rattle.node_desk.specs.Refusals.{run_refusal, refusal_of, stamps_refusal, issue_refusal}
use Rattle.node_desk.specs.Desks.{DeskView, node_at, run_at}
use Rattle.node_desk.specs.Deliveries.{after_message, spent_refusal, is_of_stamp, IsTurnedAway, IsUnmade}

pub some-of : (P : Refusal → Type 0) (o : Option Refusal) (e : Refusal) → IfSome o P → o ≡ Some e → P e
some-of P o e h is = subst (λ (x : Option Refusal). IfSome x P) is h

err-of : {X : Type 0} (P : Refusal → Type 0) (r : Result X Refusal) (e : Refusal) → IfErr r P → r ≡ Err e → P e
err-of {X} P r e h is = subst (λ (x : Result X Refusal). IfErr x P) is h

-- what holds of each error holds of that of a result
pub err-all : {X E : Type 0} (P : E → Type 0) (r : Result X E) → ((e : E) → P e) → IfErr r P
err-all P (Ok x) h = tt
err-all P (Err e) h = h e

-- the verdict has six kinds of refusals
module _ (P : Refusal → Type 0) (pass : P WrongPass) (unopened : (k : ℕ) → P (Unopened k)) (shape : (k : ℕ) → P (WrongShape k)) (named : (k : ℕ) → P (WrongNames k)) (valued : (k : ℕ) (s : Slot) → P (WrongValue k s)) (worded : (s : Slot) → P (TextRefused s)) where
  bind-err : {X Y : Type 0} (r : Result X Refusal) (f : X → Result Y Refusal) → IfErr r P → ((x : X) → IfErr (f x) P) → IfErr (bind r f) P
  bind-err (Ok x) f h k = k x
  bind-err (Err e) f h k = h

  unless-err : {X : Type 0} (o : Option Refusal) (x : X) → IfSome o P → IfErr (unless o x) P
  unless-err None x h = tt
  unless-err (Some e) x h = h

  three-err : (x y z : Bool) (ts : List Tree) → IfErr (if x then if y then if z then Ok ts else Err (WrongNames 0) else Err (WrongShape 0) else Err WrongPass) P
  three-err false y z ts = pass
  three-err true false z ts = shape 0
  three-err true true false ts = named 0
  three-err true true true ts = tt

  two-err : (x y : Bool) (part : ℕ) (ts : List Tree) → IfErr (if x then if y then Ok ts else Err (WrongNames part) else Err (WrongShape part)) P
  two-err false y part ts = shape part
  two-err true false part ts = named part
  two-err true true part ts = tt

  message-err : (t : Bytes) (b : ℕ) (clear : List Clear) (seen : List Bool) (m : Tree) → IfErr (message_items t b clear seen m) P
  message-err t b clear seen m =
      let ts : List Tree = items_of m in
      three-err (same (at ts 0) (tag t)) ((length ts == length clear + length seen + 1) && (are_clear ts 1 clear && are_kept ts (length clear + 1) seen)) (clear_names b ts 1 clear) ts

  body-err : (t : Bytes) (ns : List ℕ) (slots : List Slot) (part : ℕ) (b : Tree) → IfErr (body_items t ns slots part b) P
  body-err t ns slots part b =
      let ts : List Tree = items_of b in
      two-err (same (at ts 0) (tag t) && ((length ts == length ns + length slots + 1) && (name_kinds ts 1 ns && are_kinds ts (length ns + 1) slots))) (same_names ts 1 ns) part ts

  same-err : (x : Bool) (part : ℕ) (s : Slot) (notes : Noted) → IfErr (if x then Ok notes else Err (WrongValue part s)) P
  same-err true part s notes = tt
  same-err false part s notes = valued part s

  note-err : (part : ℕ) (s : Slot) (t : Tree) (notes : Noted) (o : Option Tree) → IfErr (note_slot part s t notes o) P
  note-err part s t notes None = tt
  note-err part s t notes (Some v) = same-err (same t v) part s notes

  notes-err : (part : ℕ) (ts : List Tree) (k : ℕ) (ss : List Slot) (notes : Noted) → IfErr (note_slots part ts k ss notes) P
  notes-err part ts k [] notes = tt
  notes-err part ts k (s ∷ ss) notes =
      bind-err (note_slot part s (at ts k) notes (found notes s)) (note_slots part ts (suc k) ss) (note-err part s (at ts k) notes (found notes s)) (notes-err part ts (suc k) ss)

  clear-err : (ts : List Tree) (k : ℕ) (cs : List Clear) (notes : Noted) → IfErr (note_clear ts k cs notes) P
  clear-err ts k [] notes = tt
  clear-err ts k (Shown s ∷ cs) notes =
      bind-err (note_slot 0 s (at ts k) notes (found notes s)) (note_clear ts (suc k) cs) (note-err 0 s (at ts k) notes (found notes s)) (clear-err ts (suc k) cs)
  clear-err ts k (NameOfB ∷ cs) notes = clear-err ts (suc k) cs notes

  text-some : (k : Kind) (s : Slot) (ok : Bool) (rest : Option Refusal) → IfSome rest P → IfSome (text_refusal k s ok rest) P
  text-some a_text s true rest h = h
  text-some a_text s false rest h = worded s
  text-some a_nonce s ok rest h = h
  text-some a_stamp s ok rest h = h
  text-some a_part s ok rest h = h
  text-some an_item s ok rest h = h

  texts-some : (allowed : Mech → Slot → Bytes → Bool) (m : Mech) (notes : Noted) (ss : List Slot) → IfSome (refused_text allowed m notes ss) P
  texts-some allowed m notes [] = tt
  texts-some allowed m notes (s ∷ ss) =
      text-some (kind_of s) s (allowed m s (text_bytes (value (found notes) s))) (refused_text allowed m notes ss) (texts-some allowed m notes ss)

  opened-err : (h : Head) (old : Noted) (part : ℕ) (c : Cover) (notes : Noted) (key : Key) (u : Tree) (o : Option Tree) → IfErr (opened_part h old part c notes key u o) P
  opened-err h old part c notes key u None = unopened part
  opened-err h old part c notes key u (Some b) =
      bind-err (body_items c.tagged (names_of h) c.slots part b) (λ ts. bind (note_slots part ts (length (names_of h) + 1) c.slots notes) (λ new. Ok (taken_by h old c new key u b))) (body-err c.tagged (names_of h) c.slots part b)
      (λ ts. bind-err (note_slots part ts (length (names_of h) + 1) c.slots notes) (λ new. Ok (taken_by h old c new key u b)) (notes-err part ts (length (names_of h) + 1) c.slots notes) (λ new. tt))

  tested-err : (h : Head) (old : Noted) (part : ℕ) (c : Cover) (notes : Noted) (key : Key) (u b : Tree) (ok : Bool) → IfErr (tested_part h old part c notes key u b ok) P
  tested-err h old part c notes key u b true = tt
  tested-err h old part c notes key u b false = unopened part

  kept-err : (part : ℕ) (notes : Noted) (u : Tree) → IfErr (kept_part part notes u) P
  kept-err part notes u =
      bind-err (note_slot part Fwd u notes (found notes Fwd)) (λ new. Ok (record { notes = new; opened = []; got = [] })) (note-err part Fwd u notes (found notes Fwd)) (λ new. tt)

  if-err : {X : Type 0} (b : Bool) (x y : Result X Refusal) → IfErr x P → IfErr y P → IfErr (if b then x else y) P
  if-err true x y h k = h
  if-err false x y h k = k

  module _ (opens : Key → Tree → Option Tree) (checks : Key → Tree → Tree → Bool) (keys : Keys) where
    part-err : (h : Head) (old : Noted) (part : ℕ) (c : Cover) (u : Tree) (notes : Noted) → IfErr (judged_part opens checks keys h old part c u notes) P
    part-err h old part c u notes =
        let key : Key = key_under keys h (found notes) c.under in
        let b : Tree = body h (found notes) c in
        let tested : Result Taken Refusal = tested_part h old part c notes key u b (checks key b u) in
        let opened : Result Taken Refusal = opened_part h old part c notes key u (opens key u) in
        if-err c.seen (if c.is_check then tested else opened) (kept_part part notes u)
        (if-err c.is_check tested opened (tested-err h old part c notes key u b (checks key b u)) (opened-err h old part c notes key u (opens key u)))
        (kept-err part notes u)

    parts-err : (h : Head) (old : Noted) (part : ℕ) (ts : List Tree) (k : ℕ) (cs : List Cover) (t : Taken) → IfErr (judged_parts opens checks keys h old part ts k cs t) P
    parts-err h old part ts k [] t = tt
    parts-err h old part ts k (c ∷ cs) t =
        bind-err (judged_part opens checks keys h old part c (at ts k) t.notes) (λ new. judged_parts opens checks keys h old (suc part) ts (suc k) cs (joined t new))
        (part-err h old part c (at ts k) t.notes)
        (λ new. parts-err h old (suc part) ts (suc k) cs (joined t new))

    judged-err : (allowed : Mech → Slot → Bytes → Bool) (h : Head) (k : ℕ) (notes : Noted) (p : Pass) (m : Tree) → IfErr (judged opens checks keys allowed h k notes p m) P
    judged-err allowed h k notes p m =
        let start : Noted → Taken = λ clear. record { notes = clear; opened = []; got = [] } in
        let last : Taken → Result Taken Refusal = λ t. unless (refused_text allowed h.mech t.notes (read_slots p)) t in
        let rest : List Tree → Noted → Result Taken Refusal = λ ts clear. bind (judged_parts opens checks keys h notes 1 ts (length p.clear + 1) p.covers (start clear)) last in
        bind-err (message_items (tag_of h.mech (suc k) 0) h.b p.clear (seens p.covers) m) (λ ts. bind (note_clear ts 1 p.clear notes) (rest ts)) (message-err (tag_of h.mech (suc k) 0) h.b p.clear (seens p.covers) m)
        (λ ts. bind-err (note_clear ts 1 p.clear notes) (rest ts) (clear-err ts 1 p.clear notes)
        (λ clear. bind-err (judged_parts opens checks keys h notes 1 ts (length p.clear + 1) p.covers (start clear)) last (parts-err h notes 1 ts (length p.clear + 1) p.covers (start clear))
        (λ t. unless-err (refused_text allowed h.mech t.notes (read_slots p)) t (texts-some allowed h.mech t.notes (read_slots p)))))

    pass-err : (allowed : Mech → Slot → Bytes → Bool) (s : State) (o : Option Pass) (m : Tree) → IfErr (on_pass opens checks keys allowed s o m) P
    pass-err allowed s None m = pass
    pass-err allowed s (Some p) m = judged-err allowed s.head s.next s.notes p m

    pub run-err : (allowed : Mech → Slot → Bytes → Bool) (s : State) (m : Tree) → IfErr (run_verdict opens checks allowed keys s m) P
    run-err allowed s m = if-err (receives s) (verdict opens checks keys allowed s m) (Err WrongPass) (pass-err allowed s (nth (row_of s.head.mech) s.next) m) pass

-- the refusal of a draw, or of a received stamp
abbrev pub is_late : Refusal → Bool
is_late DrawFault = true
is_late e = is_of_stamp e

pub fault-other : (e : Refusal) → e ≡ DrawFault → e ≢ Memory
fault-other e is memory = let bad : DrawFault ≡ Memory = sym is ∙ memory in cc

pub late-fault : (e : Refusal) → is_late e ≡ false → e ≡ DrawFault → ⊥
late-fault e early is = let bad : true ≡ false = ap is_late (sym is) ∙ early in cc

pub late-stamp : (e : Refusal) → is_late e ≡ false → is_of_stamp e ≡ true → ⊥
late-stamp DrawFault early is = cc
late-stamp e early is = let bad : true ≡ false = sym is ∙ early in cc

pub stamp-other : (e : Refusal) → is_of_stamp e ≡ true → e ≢ Memory
stamp-other e is memory = let bad : false ≡ true = sym (ap is_of_stamp memory) ∙ is in cc

no-spelling : (bytes : Bytes) (e : Refusal) → IsNoSpelling bytes e → is_late e ≡ false
no-spelling bytes (Malformed place why) h = refl
no-spelling bytes _ h = absurd h

run-some : (o : Option Held) → IfSome (run_refusal o) (λ e. is_late e ≡ false)
run-some None = refl
run-some (Some h) = go h.is_open
  where
    go : (b : Bool) → IfSome (if b then None else Some EndedRun) (λ e. is_late e ≡ false)
    go true = tt
    go false = refl

-- what is refused for the run is neither a draw nor a stamp
pub run-early : (o : Option Held) (e : Refusal) → run_refusal o ≡ Some e → is_late e ≡ false
run-early o e is = some-of (λ x. is_late x ≡ false) (run_refusal o) e (run-some o) is

-- what is refused for the run or the message is neither a draw nor a stamp
pub early : (opens : Key → Tree → Option Tree) (checks : Key → Tree → Tree → Bool) (allowed : Mech → Slot → Bytes → Bool) (d : DeskView) (run : ℕ) (bytes : Bytes) (e : Refusal) → IsTurnedAway opens checks allowed d run bytes e → is_late e ≡ false
early opens checks allowed d run bytes e (inl is) = run-early (run_at d run) e is
early opens checks allowed d run bytes e (inr (s, current, inl h)) = no-spelling bytes e h
early opens checks allowed d run bytes e (inr (s, current, inr (m, spells, is))) =
    err-of (λ x. is_late x ≡ false) (run_verdict opens checks allowed (keys_in d.ring) s m) e (run-err (λ x. is_late x ≡ false) refl (λ k. refl) (λ k. refl) (λ k. refl) (λ k n. refl) (λ n. refl) opens checks (keys_in d.ring) allowed s m) is

spent-some : (d : DeskView) (s : State) → IfSome (spent_refusal d s) (λ e. is_late e ≡ false)
spent-some d s = go (needs_stamp s)
  where
    inner : (b : Bool) → IfSome (if b then Some StampsSpent else None) (λ e. is_late e ≡ false)
    inner true = refl
    inner false = tt

    go : (b : Bool) → IfSome (if b then issue_refusal (node_at d) else None) (λ e. is_late e ≡ false)
    go true = inner ((node_at d).last == last_number)
    go false = tt

-- where no stamp is left, that is neither a draw nor a received stamp
pub spent-early : (d : DeskView) (s : State) (e : Refusal) → spent_refusal d s ≡ Some e → is_late e ≡ false
spent-early d s e is = some-of (λ x. is_late x ≡ false) (spent_refusal d s) e (spent-some d s) is

-- where no step is made, that is no refusal of a received stamp
pub unmade-stamp : (opens : Key → Tree → Option Tree) (checks : Key → Tree → Tree → Bool) (allowed : Mech → Slot → Bytes → Bool) (d : DeskView) (run : ℕ) (bytes : Bytes) (rose : Type 0) (e : Refusal) → IsUnmade opens checks allowed d run bytes rose e → is_of_stamp e ≡ true → ⊥
unmade-stamp opens checks allowed d run bytes rose e (inl h) is = late-stamp e (early opens checks allowed d run bytes e h) is
unmade-stamp opens checks allowed d run bytes rose e (inr (s, m, t, fit, inl spent)) is = late-stamp e (spent-early d (after_message s t) e spent) is
unmade-stamp opens checks allowed d run bytes rose e (inr (s, m, t, fit, inr (left, fault, h))) is = let bad : false ≡ true = sym (ap is_of_stamp fault) ∙ is in cc

first-some : (P : Refusal → Type 0) (o other : Option Refusal) → IfSome o P → IfSome other P → IfSome (first_of o other) P
first-some P None other h k = k
first-some P (Some e) other h k = h

verdict-some : (g : Got) (v : Verdict) → IfSome (refusal_of g v) (λ e. is_of_stamp e ≡ true)
verdict-some g verdicts.WrongStampKind = refl
verdict-some g (verdicts.Early at) = refl
verdict-some g (verdicts.Late at) = refl
verdict-some g verdicts.Repeated = refl
verdict-some g (verdicts.StoreFull count) = refl
verdict-some g verdicts.Fit = tt

stamps-some : (window now : ℕ) (accepted : List Accepted) (kind : StampKind) (got : List Got) → IfSome (stamps_refusal window now accepted kind got) (λ e. is_of_stamp e ≡ true)
stamps-some window now accepted kind [] = tt
stamps-some window now accepted kind (g ∷ gs) =
    first-some (λ x. is_of_stamp x ≡ true) (refusal_of g (stamp_verdict window now accepted kind g.sender g.tagged g.stamp)) (stamps_refusal window now accepted kind gs) (verdict-some g (stamp_verdict window now accepted kind g.sender g.tagged g.stamp)) (stamps-some window now accepted kind gs)

-- what is refused for received stamps is a refusal of stamps
pub stamps-late : (window now : ℕ) (accepted : List Accepted) (kind : StampKind) (got : List Got) (e : Refusal) → stamps_refusal window now accepted kind got ≡ Some e → is_of_stamp e ≡ true
stamps-late window now accepted kind got e is = some-of (λ x. is_of_stamp x ≡ true) (stamps_refusal window now accepted kind got) e (stamps-some window now accepted kind got) is
