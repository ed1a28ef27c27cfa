-- In each world what the attacker knows is safe.
use Rattle.std.proofs.Common.{◌≡◌, ℕ, ◌≤◌, ◌⊎◌, List, [], ◌∷◌, ◌++◌, map, drop, Bool, true, false, if◌then◌else◌, refl, sym, subst, inl, inr, Option, Some, None}
use Rattle.term_values.specs.Trees.{Among, Bytes, Tree, part}
use Rattle.mech_rows.specs.declared.kinds.Role.{Role}
use Rattle.mech_rows.specs.declared.kinds.Slot.{Slot}
use Rattle.mech_rows.specs.declared.kinds.Slot.TheVariants.{Fwd}
use Rattle.mech_rows.specs.declared.kinds.Kind.TheVariants.{Part as a_part, Text as a_text}
use Rattle.mech_rows.specs.Rows.{kind_of, Cover, row_of, pairs_of}
use Rattle.mech_rows.specs.Facts.{is_part}
use Rattle.mech_rows.specs.Runs.{Run, bytes_or_empty, protected, Step, Draws, HasKind, after_taking, reply_pass, passed}
use Rattle.mech_rows.specs.Heads.{name_of}
use Rattle.agreement_laws.specs.Configs.{LongTerm, Config, keys_of, revealed_parts}
use Rattle.agreement_laws.specs.Traces.{Happening, Opens, Steps, Reveals, given, parts_of, key_of_run, current, with_reply, known_before, Delivered, WasSealed, RunId, same_id}
use Rattle.agreement_laws.proofs.Steps.{NotesOk, part_kind, first_act_later, taken_ok, sent_ok, reply_is_safe, later_ok, stays_ok}
use Rattle.agreement_laws.proofs.Traces.{IsDoneAt, IsOpening, IsTrace}
use Rattle.mech_rows.proofs.Symbolic.{SymbolicTakes, SymbolicReplies, IsSymbolicStep}
use Rattle.term_values.proofs.Lists.{among_map, among_append, among_left, among_right}
use Rattle.attacker_model.proofs.Safe.{Safe, AllSafe, stays_safe, derivable_is_safe}

revealed_case : (ls : List LongTerm) (t : Tree) → Among t (revealed_parts ls) → (l : LongTerm) × Among l ls × (l.revealed ≡ true) × (t ≡ part l.part)
revealed_case [] t i = elim i [ ]
revealed_case (l ∷ ls) t i = go l.revealed refl i (revealed_case ls t)
  where
    go : (b : Bool) → l.revealed ≡ b → Among t (if b then part l.part ∷ revealed_parts ls else revealed_parts ls) → (Among t (revealed_parts ls) → (m : LongTerm) × Among m ls × (m.revealed ≡ true) × (t ≡ part m.part)) → (m : LongTerm) × Among m (l ∷ ls) × (m.revealed ≡ true) × (t ≡ part m.part)
    go true e (inl is) r = (l, inl refl, e, is)
    go true e (inr j) r = let m = r j in (m.0, inr m.1, m.2, m.3)
    go false e j r = let m = r j in (m.0, inr m.1, m.2, m.3)

-- what is known at the start is a part, of the attacker's own or revealed
pub start_case : (c : Config) (t : Tree) → Among t (known_before c []) → (p : Bytes) × (t ≡ part p) × (Among p c.own ⊎ ((l : LongTerm) × Among l c.pairs × (l.revealed ≡ true) × (p ≡ l.part)))
start_case c t i = go (among_append (map part c.own) (revealed_parts c.pairs) t i)
  where
    go : Among t (map part c.own) ⊎ Among t (revealed_parts c.pairs) → (p : Bytes) × (t ≡ part p) × (Among p c.own ⊎ ((l : LongTerm) × Among l c.pairs × (l.revealed ≡ true) × (p ≡ l.part)))
    go (inl j) = let p = among_map part c.own t j in (p.0, p.2, inl p.1)
    go (inr j) = let l = revealed_case c.pairs t j in (l.0.part, l.3, inr (l.0, l.1, l.2, refl))

module _ (c : Config) (Good : Bytes → Type 0) where
  -- what is kept in a world
  pub record Kept (h : List Happening) : Type 0 where
    pub known : AllSafe Good (WasSealed c h) (known_before c h)
    pub runs : (id : RunId) (run : Run) → current h id ≡ Some run → NotesOk Good (WasSealed c h) run.head run.next run.notes

  later : (e : Happening) (h : List Happening) (t : Tree) → WasSealed c h t → WasSealed c (e ∷ h) t
  later e h t w = record { id = w.id; step = w.step; there = inr w.there; seals = w.seals }

  -- a good part is drawn for good keys alone
  abbrev pub DrawsWell : List Happening → Type 0
  DrawsWell h = (id : RunId) (step : Step) (s : Slot) (p : Bytes) → Among (Steps id step) h → is_part s ≡ true → Draws step s (part p) → Good p → (x y : Role) → Among (x, y) (pairs_of step.before.head.mech) → Good (bytes_or_empty (keys_of c (name_of step.before.head x) (name_of step.before.head y)))

  -- a good part that was given away is of a kind that no run has in its key
  abbrev pub GivesWell : (Bytes → Type 0) → List Happening → Type 0
  GivesWell Low h = (p : Bytes) → Among p (given h) → Good p → Low p

  -- no key of a done run has such a part
  abbrev pub KeysAreHigh : (Bytes → Type 0) → Type 0
  KeysAreHigh Low = (h : List Happening) (id : RunId) (p : Bytes) → IsTrace c h → IsDoneAt h id → Kept h → Among p (parts_of (key_of_run (current h id))) → Good p → Low p → ⊥

  opening_ok : (Sent : Tree → Type 0) (run : Run) → IsOpening run → NotesOk Good Sent run.head run.next run.notes
  opening_ok Sent run o =
      record {
        kinds = λ s t e. subst (λ k. HasKind k t) (sym (o.texts s t e).0) (o.texts s t e).1;
        fwd = λ t e. let no : kind_of Fwd ≡ a_text = (o.texts Fwd t e).0 in absurd (cc);
        own = λ s t i e. let no : kind_of s ≡ a_text = (o.texts s t e).0 in let yes_part : kind_of s ≡ a_part = part_kind s i in absurd (cc);
      }

  known_later : (e : Happening) (h : List Happening) → Kept h → AllSafe Good (WasSealed c (e ∷ h)) (known_before c h)
  known_later e h k t i = stays_safe Good (WasSealed c h) (WasSealed c (e ∷ h)) (later e h) t (k.known t i)

  runs_later : (e : Happening) (h : List Happening) → Kept h → (id : RunId) (run : Run) → current h id ≡ Some run → NotesOk Good (WasSealed c (e ∷ h)) run.head run.next run.notes
  runs_later e h k id run is = stays_ok Good (WasSealed c h) (WasSealed c (e ∷ h)) (later e h) run.head run.next run.notes (k.runs id run is)

  -- the run of a number after an event on number n that leaves it as it is in `now`
  run_case : (Sent : Tree → Type 0) (n id : RunId) (now : Run) (old : Option Run) → NotesOk Good Sent now.head now.next now.notes → ((run : Run) → old ≡ Some run → NotesOk Good Sent run.head run.next run.notes) → (b : Bool) (run : Run) → (if b then Some now else old) ≡ Some run → NotesOk Good Sent run.head run.next run.notes
  run_case Sent n id now old ok others true run is = let e : now ≡ run = cc in subst (λ r. NotesOk Good Sent r.head r.next r.notes) e ok
  run_case Sent n id now old ok others false run is = others run is

  keeps_opening : (h : List Happening) (id : RunId) (run : Run) → IsOpening run → Kept h → Kept (Opens id run ∷ h)
  keeps_opening h id run o k =
      record {
        known = known_later (Opens id run) h k;
        runs = λ n r is. run_case (WasSealed c (Opens id run ∷ h)) id n run (current h n) (opening_ok _ run o) (runs_later (Opens id run) h k n) (same_id id n) r is;
      }

  keeps_step : (h : List Happening) (id : RunId) (step : Step) → current h id ≡ Some step.before → IsSymbolicStep (keys_of c) step → Delivered c h step.taken → DrawsWell (Steps id step ∷ h) → Kept h → Kept (Steps id step ∷ h)
  keeps_step h id step runs is_step delivered draws k =
      record {
        known = replied.0;
        runs = λ n r is. run_case Sent id n step.after (current h n) after_ok (runs_later (Steps id step) h k n) (same_id id n) r is;
      }
    where
      Sent : Tree → Type 0
      Sent = WasSealed c (Steps id step ∷ h)

      before : Run
      before = step.before

      before_ok : NotesOk Good (WasSealed c (Steps id step ∷ h)) step.before.head step.before.next step.before.notes
      before_ok = runs_later (Steps id step) h k id step.before runs

      middle_ok : (o : Option Tree) → SymbolicTakes (keys_of c) step.before o step.middle → Delivered c h o → NotesOk Good (WasSealed c (Steps id step ∷ h)) step.before.head (after_taking step.before.next o) step.middle
      middle_ok None is d = subst (NotesOk Good (WasSealed c (Steps id step ∷ h)) step.before.head step.before.next) (sym is) before_ok
      middle_ok (Some t) fits d = taken_ok Good (WasSealed c (Steps id step ∷ h)) (keys_of c) step.before t step.middle before_ok (derivable_is_safe Good (WasSealed c (Steps id step ∷ h)) (known_before c h) (known_later (Steps id step) h k) t d) fits

      mid : NotesOk Good (WasSealed c (Steps id step ∷ h)) step.before.head (reply_pass step) step.middle
      mid = middle_ok step.taken is_step.takes delivered

      good : (x y : Role) (s : Slot) (p : Bytes) → Among (x, y) (pairs_of step.before.head.mech) → is_part s ≡ true → step.middle s ≡ None → step.after.notes s ≡ Some (part p) → Good p → Good (bytes_or_empty (keys_of c (name_of step.before.head x) (name_of step.before.head y)))
      good x y s p i e none some g =
          draws id step s p (inl refl) e (record { is_new = none; is = some }) g x y i

      reply_ok : (o : Option Tree) → SymbolicReplies (keys_of c) step.before.head (reply_pass step) step.middle step.after.notes o → AllSafe Good (WasSealed c (Steps id step ∷ h)) (with_reply o (known_before c h)) × NotesOk Good (WasSealed c (Steps id step ∷ h)) step.before.head (passed (reply_pass step) o) step.after.notes
      reply_ok None is = (known_later (Steps id step) h k, subst (NotesOk Good (WasSealed c (Steps id step ∷ h)) step.before.head (reply_pass step)) (sym is.0) mid)
      reply_ok (Some t) sends = (safe, sent_ok Good (WasSealed c (Steps id step ∷ h)) (keys_of c) step.before.head (reply_pass step) step.middle step.after.notes t mid sends)
        where
          sealed : (d : Cover) → Among d sends.pass.covers → d.made ≡ true → WasSealed c (Steps id step ∷ h) (protected (keys_of c) step.before.head step.after.notes d)
          sealed d i m = record { id = id; step = step; there = inl refl; seals = record { pass = sends.pass; at = sends.at; sent = sends.sent; cover = d; there = i; is_made = m; is = refl } }

          safe : AllSafe Good (WasSealed c (Steps id step ∷ h)) (t ∷ known_before c h)
          safe u (inl e) = subst (Safe Good (WasSealed c (Steps id step ∷ h))) (sym e) (reply_is_safe Good (WasSealed c (Steps id step ∷ h)) (keys_of c) step.before.head (reply_pass step) step.middle step.after.notes t mid sends sealed good)
          safe u (inr i) = known_later (Steps id step) h k u i

      replied : AllSafe Good (WasSealed c (Steps id step ∷ h)) (known_before c (Steps id step ∷ h)) × NotesOk Good (WasSealed c (Steps id step ∷ h)) step.before.head (passed (reply_pass step) step.reply) step.after.notes
      replied = reply_ok step.reply is_step.replies

      after_ok : NotesOk Good (WasSealed c (Steps id step ∷ h)) step.after.head step.after.next step.after.notes
      after_ok =
          subst (λ x. NotesOk Good (WasSealed c (Steps id step ∷ h)) x step.after.next step.after.notes) (sym is_step.same_head)
          (later_ok Good (WasSealed c (Steps id step ∷ h)) step.before.head (passed (reply_pass step) step.reply) step.after.next step.after.notes (subst (λ (n : ℕ). passed (reply_pass step) step.reply ≤ n) (sym is_step.moves) (first_act_later step.before.head.role (passed (reply_pass step) step.reply) (drop (passed (reply_pass step) step.reply) (row_of step.before.head.mech)))) replied.1)

  among_given : (ps : List Bytes) (K : List Tree) (t : Tree) → Among t (map part ps ++ K) → ((p : Bytes) × Among p ps × (t ≡ part p)) ⊎ Among t K
  among_given ps K t i = go (among_append (map part ps) K t i)
    where
      go : Among t (map part ps) ⊎ Among t K → ((p : Bytes) × Among p ps × (t ≡ part p)) ⊎ Among t K
      go (inl j) = inl (among_map part ps t j)
      go (inr j) = inr j

  keeps_reveal : (h : List Happening) (id : RunId) → ((p : Bytes) → Among p (parts_of (key_of_run (current h id))) → Good p → ⊥) → Kept h → Kept (Reveals id ∷ h)
  keeps_reveal h id none k =
      record {
        known = λ t i. go t (among_given (parts_of (key_of_run (current h id))) (known_before c h) t i);
        runs = λ n r is. runs_later (Reveals id) h k n r is;
      }
    where
      go : (t : Tree) → ((p : Bytes) × Among p (parts_of (key_of_run (current h id))) × (t ≡ part p)) ⊎ Among t (known_before c h) → Safe Good (WasSealed c (Reveals id ∷ h)) t
      go t (inl p) = subst (Safe Good (WasSealed c (Reveals id ∷ h))) (sym p.2) (none p.0 p.1)
      go t (inr i) = known_later (Reveals id) h k t i

  -- the induction over the events
  pub kept : ((p : Bytes) → Among (part p) (known_before c []) → Good p → ⊥) → (Low : Bytes → Type 0) → KeysAreHigh Low → (h : List Happening) → IsTrace c h → DrawsWell h → GivesWell Low h → Kept h
  kept start Low high [] w d g = record { known = λ t i. at_start t (start_case c t i) i; runs = λ id run e. absurd (cc) }
    where
      at_start : (t : Tree) → (p : Bytes) × (t ≡ part p) × (Among p c.own ⊎ ((l : LongTerm) × Among l c.pairs × (l.revealed ≡ true) × (p ≡ l.part))) → Among t (known_before c []) → Safe Good (WasSealed c []) t
      at_start t p i = subst (Safe Good (WasSealed c [])) (sym p.1) (start p.0 (subst (λ u. Among u (known_before c [])) p.1 i))
  kept start Low high (Opens id run ∷ h) w d g = keeps_opening h id run w.1.1 (kept start Low high h w.0 (λ n s x p i. d n s x p (inr i)) g)
  kept start Low high (Steps id step ∷ h) w d g = keeps_step h id step w.1.runs w.1.is_step w.1.delivered d (kept start Low high h w.0 (λ n s x p i. d n s x p (inr i)) g)
  kept start Low high (Reveals id ∷ h) w d g =
      let k : Kept h = kept start Low high h w.0 (λ n s x p i. d n s x p (inr i)) (λ p i. g p (among_right (parts_of (key_of_run (current h id))) (given h) p i)) in
      keeps_reveal h id (λ p i good. high h id p w.0 w.1 k i good (g p (among_left (parts_of (key_of_run (current h id))) (given h) p i) good)) k

  -- the notes at the middle of a step that follows on h
  pub middle_notes : (h : List Happening) → Kept h → (id : RunId) (step : Step) → current h id ≡ Some step.before → IsSymbolicStep (keys_of c) step → Delivered c h step.taken → NotesOk Good (WasSealed c h) step.before.head (reply_pass step) step.middle
  middle_notes h k id step runs is_step delivered = go step.taken is_step.takes delivered
    where
      go : (o : Option Tree) → SymbolicTakes (keys_of c) step.before o step.middle → Delivered c h o → NotesOk Good (WasSealed c h) step.before.head (after_taking step.before.next o) step.middle
      go None is d = subst (NotesOk Good (WasSealed c h) step.before.head step.before.next) (sym is) (k.runs id step.before runs)
      go (Some t) fits d = taken_ok Good (WasSealed c h) (keys_of c) step.before t step.middle (k.runs id step.before runs) (derivable_is_safe Good (WasSealed c h) (known_before c h) k.known t d) fits
