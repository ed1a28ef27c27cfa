-- What becomes of the run of a step, and of what it made.
use Rattle.std.proofs.Common.{◌≡◌, ℕ, ◌<◌, ◌≤◌, List, [], ◌∷◌, drop, Bool, true, false, if◌then◌else◌, refl, sym, ap, subst, ◌∙◌, inl, inr, Option, Some, None, arith, le_refl, le_trans}
use Rattle.term_values.specs.Trees.{Among, Tree}
use Rattle.mech_rows.specs.declared.kinds.Slot.{Slot}
use Rattle.mech_rows.specs.Rows.{Cover, Pass, row_of}
use Rattle.mech_rows.specs.Facts.{is_part, acts}
use Rattle.mech_rows.specs.Runs.{IsDone, Notes, Run, Keys, nth, Step, reply_pass, passed, after_taking}
use Rattle.mech_rows.specs.Heads.{Head}
use Rattle.agreement_laws.specs.Configs.{Config, keys_of}
use Rattle.agreement_laws.specs.Traces.{Happening, Opens, Steps, current, WasSealed, Reveals, RunId, same_id}
use Rattle.agreement_laws.specs.Sound.{Once}
use Rattle.agreement_laws.proofs.Steps.{NotesOk, first_act_later}
use Rattle.agreement_laws.proofs.Traces.{Happens, IsTrace}
use Rattle.mech_rows.proofs.Symbolic.{IsSymbolicStep, SymbolicTakes, SymbolicReplies}
use Rattle.mech_rows.proofs.RowUse.{draws_its_parts}
use Rattle.agreement_laws.proofs.Ids.{same_id_is, same_id_refl}
use Rattle.agreement_laws.proofs.Worlds.{middle_notes, Kept, kept}
use Rattle.agreement_laws.proofs.Held.{Keeps}

-- a step keeps what was noted, and goes on
pub step_keeps : (keys : Keys) (step : Step) → IsSymbolicStep keys step → Keeps step.before.notes step.after.notes
step_keeps keys step is s t e = last step.reply is.replies (first step.taken is.takes)
  where
    first : (o : Option Tree) → SymbolicTakes keys step.before o step.middle → step.middle s ≡ Some t
    first None f = subst (λ (n : Notes). n s ≡ Some t) (sym f) e
    first (Some u) fits = fits.extends.kept s t e

    last : (o : Option Tree) → SymbolicReplies keys step.before.head (reply_pass step) step.middle step.after.notes o → step.middle s ≡ Some t → step.after.notes s ≡ Some t
    last None f g = subst (λ (n : Notes). n s ≡ Some t) (sym f.0) g
    last (Some u) sends g = sends.extends.kept s t g

moved : (keys : Keys) (step : Step) → IsSymbolicStep keys step → passed (reply_pass step) step.reply ≤ step.after.next
moved keys step is = subst (λ (n : ℕ). passed (reply_pass step) step.reply ≤ n) (sym is.moves) (first_act_later step.before.head.role (passed (reply_pass step) step.reply) (drop (passed (reply_pass step) step.reply) (row_of step.before.head.mech)))

goes_on : (keys : Keys) (step : Step) → IsSymbolicStep keys step → step.before.next ≤ step.after.next
goes_on keys step is = last step.taken step.reply (moved keys step is)
  where
    last : (o r : Option Tree) → passed (after_taking step.before.next o) r ≤ step.after.next → step.before.next ≤ step.after.next
    last None None le = le
    last None (Some t) le = omega arith
    last (Some u) None le = omega arith
    last (Some u) (Some t) le = omega arith

-- the pass that a step sends is behind it
pub sent_is_behind : (keys : Keys) (step : Step) → IsSymbolicStep keys step → (p : Pass) → nth (row_of step.before.head.mech) (reply_pass step) ≡ Some p → p.from ≡ step.before.head.role → reply_pass step < step.after.next
sent_is_behind keys step is p at from = go step.reply is.replies (moved keys step is)
  where
    go : (o : Option Tree) → SymbolicReplies keys step.before.head (reply_pass step) step.middle step.after.notes o → passed (reply_pass step) o ≤ step.after.next → reply_pass step < step.after.next
    go None f le = absurd (f.1 p at from)
    go (Some t) sends le = le

-- the run of a step still runs, with what the step noted
pub record StillRuns (h : List Happening) (id : RunId) (head : Head) (next : ℕ) (notes : Notes) : Type 0 where
  pub run : Run
  pub runs : current h id ≡ Some run
  pub head_is : run.head ≡ head
  pub keeps : Keeps notes run.notes
  pub later : next ≤ run.next

-- it still runs after one more happening
pub still_later : (c : Config) (e : Happening) (h : List Happening) → IsTrace c (e ∷ h) → (id : RunId) (head : Head) (next : ℕ) (notes : Notes) → StillRuns h id head next notes → StillRuns (e ∷ h) id head next notes
still_later c (Opens n now) h w id head next notes s = go (same_id n id) refl
  where
    go : (b : Bool) → (same_id n id) ≡ b → StillRuns (Opens n now ∷ h) id head next notes
    go true e =
        let same : n ≡ id = same_id_is n id e in
        let none : current h id ≡ None = subst (λ (m : RunId). current h m ≡ None) same w.1.0 in
        let some : current h id ≡ Some s.run = s.runs in absurd (cc)
    go false e = record { run = s.run; runs = ap (λ (b : Bool). if b then Some now else current h id) e ∙ s.runs; head_is = s.head_is; keeps = s.keeps; later = s.later }
still_later c (Steps n other) h w id head next notes s = go (same_id n id) refl
  where
    go : (b : Bool) → (same_id n id) ≡ b → StillRuns (Steps n other ∷ h) id head next notes
    go true e =
        let same : n ≡ id = same_id_is n id e in
        let some : Some other.before ≡ Some s.run = sym w.1.runs ∙ (ap (current h) same ∙ s.runs) in
        let run_is : other.before ≡ s.run = cc in
        record {
          run = other.after;
          runs = ap (λ (b : Bool). if b then Some other.after else current h id) e;
          head_is = w.1.is_step.same_head ∙ (ap (λ (r : Run). r.head) run_is ∙ s.head_is);
          keeps = λ u t f. step_keeps (keys_of c) other w.1.is_step u t (subst (λ (r : Run). r.notes u ≡ Some t) (sym run_is) (s.keeps u t f));
          later = le_trans s.later (subst (λ (r : Run). r.next ≤ other.after.next) run_is (goes_on (keys_of c) other w.1.is_step));
        }
    go false e = record { run = s.run; runs = ap (λ (b : Bool). if b then Some other.after else current h id) e ∙ s.runs; head_is = s.head_is; keeps = s.keeps; later = s.later }
still_later c (Reveals n) h w id head next notes s = record { run = s.run; runs = s.runs; head_is = s.head_is; keeps = s.keeps; later = s.later }

now_runs : (c : Config) (h : List Happening) → IsTrace c h → (id : RunId) (step : Step) → IsTrace c (Steps id step ∷ h) → StillRuns (Steps id step ∷ h) id step.before.head step.after.next step.after.notes
now_runs c h w id step v =
    record {
      run = step.after;
      runs = ap (λ (b : Bool). if b then Some step.after else current h id) (same_id_refl id id refl);
      head_is = v.1.is_step.same_head;
      keeps = λ s t f. f;
      later = le_refl _;
    }

pub still_runs : (c : Config) (h : List Happening) → IsTrace c h → (id : RunId) (step : Step) → Among (Steps id step) h → StillRuns h id step.before.head step.after.next step.after.notes
still_runs c [] w id step i = elim i [ ]
still_runs c (e ∷ h) w id step (inl is) = subst (λ (x : Happening). IsTrace c (x ∷ h) → StillRuns (x ∷ h) id step.before.head step.after.next step.after.notes) is (now_runs c h w.0 id step) w
still_runs c (e ∷ h) w id step (inr i) = still_later c e h w id step.before.head step.after.next step.after.notes (still_runs c h w.0 id step i)

-- what a trace once was is a trace
pub once_trace : (c : Config) (old h : List Happening) → IsTrace c h → Once old h → IsTrace c old
once_trace c old [] w i = subst (IsTrace c) (sym i) tt
once_trace c old (e ∷ h) w (inl is) = subst (IsTrace c) (sym is) w
once_trace c old (e ∷ h) w (inr i) = once_trace c old h w.0 i

-- a run that was there still runs
pub run_later : (c : Config) (old h : List Happening) → IsTrace c h → Once old h → (id : RunId) (r : Run) → current old id ≡ Some r → StillRuns h id r.head r.next r.notes
run_later c old [] w i id r is = let no : None ≡ Some r = subst (λ (x : List Happening). current x id ≡ Some r) i is in absurd (cc)
run_later c old (e ∷ h) w (inl o) id r is = record { run = r; runs = subst (λ (x : List Happening). current x id ≡ Some r) o is; head_is = refl; keeps = λ s t f. f; later = le_refl _ }
run_later c old (e ∷ h) w (inr o) id r is = still_later c e h w id r.head r.next r.notes (run_later c old h w.0 o id r is)

-- a done run makes no step
pub done_is_still : (keys : Keys) (step : Step) → IsSymbolicStep keys step → IsDone step.before → ⊥
done_is_still keys step is done = go step.taken step.reply refl refl is.takes is.replies
  where
    go : (o r : Option Tree) → step.taken ≡ o → step.reply ≡ r → SymbolicTakes keys step.before o step.middle → SymbolicReplies keys step.before.head (after_taking step.before.next o) step.middle step.after.notes r → ⊥
    go (Some t) r e f fits g = let no : None ≡ Some fits.pass = sym done ∙ fits.at in cc
    go None None e f g k = is.acts e f
    go None (Some t) e f g sends = let no : None ≡ Some sends.pass = sym done ∙ sends.at in cc

-- a done run stays as it is
pub done_stays : (c : Config) (old h : List Happening) → IsTrace c h → Once old h → (id : RunId) (r : Run) → current old id ≡ Some r → IsDone r → current h id ≡ Some r
done_stays c old [] w i id r is done = let no : None ≡ Some r = subst (λ (x : List Happening). current x id ≡ Some r) i is in absurd (cc)
done_stays c old (e ∷ h) w (inl o) id r is done = subst (λ (x : List Happening). current x id ≡ Some r) o is
done_stays c old (Opens n now ∷ h) w (inr o) id r is done = go (same_id n id) refl (done_stays c old h w.0 o id r is done)
  where
    go : (b : Bool) → same_id n id ≡ b → current h id ≡ Some r → (if same_id n id then Some now else current h id) ≡ Some r
    go true e before =
        let none : current h id ≡ None = subst (λ (m : RunId). current h m ≡ None) (same_id_is n id e) w.1.0 in
        absurd (cc)
    go false e before = ap (λ (b : Bool). if b then Some now else current h id) e ∙ before
done_stays c old (Steps n step ∷ h) w (inr o) id r is done = go (same_id n id) refl (done_stays c old h w.0 o id r is done)
  where
    run_is : (x y : Run) → Some x ≡ Some y → y ≡ x
    run_is x y e = cc

    go : (b : Bool) → same_id n id ≡ b → current h id ≡ Some r → (if same_id n id then Some step.after else current h id) ≡ Some r
    go true e before =
        let same : n ≡ id = same_id_is n id e in
        let at : r ≡ step.before = run_is step.before r (sym w.1.runs ∙ (ap (current h) same ∙ before)) in
        absurd (done_is_still (keys_of c) step w.1.is_step (subst IsDone at done))
    go false e before = ap (λ (b : Bool). if b then Some step.after else current h id) e ∙ before
done_stays c old (Reveals n ∷ h) w (inr o) id r is done = done_stays c old h w.0 o id r is done

-- a run that completed before makes no step
no_more : (c : Config) (h : List Happening) {x : Happening} (i j : RunId) (s t : Step) (old before : List Happening) → IsTrace c (Steps i s ∷ old) → Steps i s ∷ old ≡ x ∷ h → Once (Steps j t ∷ before) h → IsDone t.after → i ≡ j → ⊥
no_more c h i j s t old before w m n e same = done_is_still (keys_of c) s w.1.is_step (subst IsDone (run_is s.before t.after (sym w.1.runs ∙ there)) e)
  where
    rest : old ≡ h
    rest = cc

    run_is : (x y : Run) → Some x ≡ Some y → y ≡ x
    run_is x y f = cc

    at_moment : current (Steps j t ∷ before) j ≡ Some t.after
    at_moment = ap (λ (b : Bool). if b then Some t.after else current before j) (same_id_refl j j refl)

    there : current old i ≡ Some t.after
    there = subst (λ (k : RunId). current old k ≡ Some t.after) (sym same) (done_stays c (Steps j t ∷ before) old w.0 (subst (Once (Steps j t ∷ before)) (sym rest) n) j t.after at_moment e)

-- a run completes once
pub completes_once : (c : Config) (h : List Happening) → IsTrace c h → (i j : RunId) (s t : Step) (old before : List Happening) → Once (Steps i s ∷ old) h → Once (Steps j t ∷ before) h → IsDone s.after → IsDone t.after → i ≡ j → (s ≡ t) × (old ≡ before)
completes_once c [] w i j s t old before m n d e same = absurd (cc)
completes_once c (x ∷ h) w i j s t old before (inl m) (inl n) d e same = both (m ∙ sym n)
  where
    both : Steps i s ∷ old ≡ Steps j t ∷ before → (s ≡ t) × (old ≡ before)
    both f = (cc, cc)
completes_once c (x ∷ h) w i j s t old before (inl m) (inr n) d e same = absurd (no_more c h i j s t old before (subst (IsTrace c) (sym m) w) m n e same)
completes_once c (x ∷ h) w i j s t old before (inr m) (inl n) d e same = absurd (no_more c h j i t s before old (subst (IsTrace c) (sym n) w) n m d (sym same))
completes_once c (x ∷ h) w i j s t old before (inr m) (inr n) d e same = completes_once c h w.0 i j s t old before m n d e same

-- the world when the step was made
pub record MadeAt (c : Config) (id : RunId) (step : Step) : Type 0 where
  pub before : List Happening
  pub world : IsTrace c before
  pub happens : Happens c before (Steps id step)

pub made_at : (c : Config) (h : List Happening) → IsTrace c h → (id : RunId) (step : Step) → Among (Steps id step) h → MadeAt c id step
made_at c [] w id step i = elim i [ ]
made_at c (e ∷ h) w id step (inl is) = record { before = h; world = w.0; happens = subst (Happens c h) (sym is) w.1 }
made_at c (e ∷ h) w id step (inr i) = made_at c h w.0 id step i

-- with no part to hide there is nothing to ask
plainly_kept : (c : Config) (h : List Happening) → IsTrace c h → Kept c (λ p. ⊥) h
plainly_kept c h w = kept c (λ p. ⊥) (λ p i g. g) (λ p. ⊥) (λ o id p v d k i g l. g) h w (λ id step s p i e d g x y j. g) (λ p i g. g)

-- a part slot of an item that a step makes is drawn in that step
pub part_drawn : (c : Config) → (h : List Happening) → IsTrace c h → (id : RunId) (step : Step) → Among (Steps id step) h → (p : Pass) → nth (row_of step.before.head.mech) (reply_pass step) ≡ Some p → p.from ≡ step.before.head.role → (d : Cover) → Among d p.covers → d.made ≡ true → (s : Slot) → Among s d.slots → is_part s ≡ true → step.middle s ≡ None
part_drawn c h w id step there p at from d i made s j e = go (step.middle s) refl
  where
    at_step : MadeAt c id step
    at_step = made_at c h w id step there

    ok : NotesOk (λ p. ⊥) (WasSealed c at_step.before) step.before.head (reply_pass step) step.middle
    ok = middle_notes c (λ p. ⊥) at_step.before (plainly_kept c at_step.before at_step.world) id step at_step.happens.runs at_step.happens.is_step at_step.happens.delivered

    go : (o : Option Tree) → step.middle s ≡ o → step.middle s ≡ None
    go None is = is
    go (Some t) is =
        let had = ok.own s t e is in
        absurd (draws_its_parts step.before.head.mech had.place (reply_pass step) had.pass p d s had.at at had.earlier i made j e (subst (λ r. acts r had.pass ≡ true) (sym from) had.acting) had.there)
