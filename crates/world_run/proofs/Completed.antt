-- What happened to the runs of a trace: how they completed, and that they stepped.
use Rattle.std.proofs.Common.{◌≡◌, ◌≢◌, ℕ, not, Bool, true, false, if◌then◌else◌, List, [], ◌∷◌, ◌++◌, Option, Some, None, is_some, refl, sym, ap, ap₂, ◌&&◌, subst, ◌∙◌, inl, inr}
use Rattle.std.specs.List.{list_any}
use Rattle.term_values.specs.Trees.{Among, Bytes, Tree, text}
use Rattle.term_values.proofs.Lists.{not_true, some_among}
use Rattle.mech_rows.specs.declared.kinds.Mech.{Mech}
use Rattle.mech_rows.specs.declared.kinds.Mech.TheVariants.{E1}
use Rattle.mech_rows.specs.declared.kinds.Role.{Role}
use Rattle.mech_rows.specs.declared.kinds.Role.TheVariants.{A, B, P}
use Rattle.mech_rows.specs.declared.kinds.Slot.{Slot}
use Rattle.mech_rows.specs.declared.kinds.Kind.TheVariants.{Text as a_text}
use Rattle.mech_rows.specs.Heads.{Head, IsHead}
use Rattle.mech_rows.specs.Openings.{is_text, opened_run, sends_slot, text_for}
use Rattle.mech_rows.specs.Rows.{agreed_of, kind_of, row_of}
use Rattle.mech_rows.specs.Runs.{IsDone, Run, Step, first_act, nth}
use Rattle.agreement_laws.specs.Configs.{Config, IsLawful, keys_of}
use Rattle.agreement_laws.specs.Nodes.{Commit, Drop, Issue, Open, Restart, Standing}
use Rattle.agreement_laws.specs.Sound.{Completion, Once}
use Rattle.agreement_laws.specs.Traces.{Happening, Opens, Reveals, RunId, Steps, current, given, key_of_run, parts_of, same_id}
use Rattle.agreement_laws.specs.Worlds.{At, Entry, IsWorld, Reveal, node_of, run_id, trace}
use Rattle.agreement_laws.proofs.Ids.{same_id_is}
use Rattle.agreement_laws.proofs.Later.{step_keeps}
use Rattle.agreement_laws.proofs.Reduction.{run_at, world_trace}
use Rattle.agreement_laws.proofs.Reduction as reduction
use Rattle.agreement_laws.proofs.Traces.{IsOpening, IsTrace}

-- ---- rows

starts_a : (m : Mech) → is_some (nth (row_of m) (first_act A 0 (row_of m))) ≡ true
starts_a E1 = refl
starts_a _ = refl

starts_b : (m : Mech) → is_some (nth (row_of m) (first_act B 0 (row_of m))) ≡ true
starts_b E1 = refl
starts_b _ = refl

-- A and B act in each row
unstarted : (m : Mech) (r : Role) → r ≢ P → nth (row_of m) (first_act r 0 (row_of m)) ≡ None → ⊥
unstarted m A other e = let s = starts_a m in absurd cc
unstarted m B other e = let s = starts_b m in absurd cc
unstarted m P other e = other refl

-- one of these slots is none of a text
abbrev has_plain : Option (List Slot) → Bool
has_plain None = true
has_plain (Some ss) = list_any (λ s. not (is_text (kind_of s))) ss

agrees_a : (m : Mech) → has_plain (agreed_of m A) ≡ true
agrees_a E1 = refl
agrees_a _ = refl

agrees_b : (m : Mech) → has_plain (agreed_of m B) ≡ true
agrees_b E1 = refl
agrees_b _ = refl

agrees_p : (m : Mech) → has_plain (agreed_of m P) ≡ true
agrees_p E1 = refl
agrees_p _ = refl

agrees_plain : (m : Mech) (r : Role) → has_plain (agreed_of m r) ≡ true
agrees_plain m A = agrees_a m
agrees_plain m B = agrees_b m
agrees_plain m P = agrees_p m

unclaimed_p : (m : Mech) → is_some (agreed_of m P) ≡ false
unclaimed_p E1 = refl
unclaimed_p _ = refl

-- P claims no agreement
pub not_p : (m : Mech) (r : Role) (slots : List Slot) → agreed_of m r ≡ Some slots → r ≢ P
not_p m r slots e is = let s = unclaimed_p m in let f : agreed_of m P ≡ Some slots = ap (agreed_of m) (sym is) ∙ e in absurd cc

-- what is agreed on has a slot that is none of a text
pub plain_slot : (m : Mech) (r : Role) (slots : List Slot) → agreed_of m r ≡ Some slots → (s : Slot) × Among s slots × (is_text (kind_of s) ≡ false)
plain_slot m r slots e =
    let x = some_among (λ s. not (is_text (kind_of s))) slots (subst (λ (o : Option (List Slot)). has_plain o ≡ true) e (agrees_plain m r)) in
    (x.0, x.1, not_true (is_text (kind_of x.0)) x.2)

-- ---- a run that is done has completed

some_run : (r s : Run) → Some r ≡ Some s → r ≡ s
some_run r s e = cc

record CompletedAs (h : List Happening) (id : RunId) (r : Run) : Type 0 where
  completion : Completion h
  of_run : completion.id ≡ id
  after : completion.step.after ≡ r

later_completed : (e : Happening) (h : List Happening) (id : RunId) (r : Run) → CompletedAs h id r → CompletedAs (e ∷ h) id r
later_completed e h id r x = record {
  completion = record { id = x.completion.id; step = x.completion.step; before = x.completion.before; moment = inr x.completion.moment; done = x.completion.done };
  of_run = x.of_run;
  after = x.after;
}

completed_as : (c : Config) (h : List Happening) → IsTrace c h → (id : RunId) (r : Run) → current h id ≡ Some r → IsDone r → r.head.role ≢ P → CompletedAs h id r
completed_as c [] w id r is done other = absurd cc
completed_as c (Opens n run ∷ h) w id r is done other = go (same_id n id) is (λ e. completed_as c h w.0 id r e done other)
  where
    go : (b : Bool) → (if b then Some run else current h id) ≡ Some r → (current h id ≡ Some r → CompletedAs h id r) → CompletedAs (Opens n run ∷ h) id r
    go true e rest =
        let o : IsOpening r = subst IsOpening (some_run run r e) w.1.1 in
        absurd (unstarted r.head.mech r.head.role other (subst (λ (k : ℕ). nth (row_of r.head.mech) k ≡ None) o.first done))
    go false e rest = later_completed (Opens n run) h id r (rest e)
completed_as c (Steps n step ∷ h) w id r is done other = go (same_id n id) refl is (λ e. completed_as c h w.0 id r e done other)
  where
    go : (b : Bool) → same_id n id ≡ b → (if b then Some step.after else current h id) ≡ Some r → (current h id ≡ Some r → CompletedAs h id r) → CompletedAs (Steps n step ∷ h) id r
    go true f e rest =
        let same = some_run step.after r e in
        record {
          completion = record { id = n; step = step; before = h; moment = inl refl; done = subst IsDone (sym same) done };
          of_run = same_id_is n id f;
          after = same;
        }
    go false f e rest = later_completed (Steps n step) h id r (rest e)
completed_as c (Reveals n ∷ h) w id r is done other = later_completed (Reveals n) h id r (completed_as c h w.0 id r is done other)

pub completed : (c : Config) (h : List Happening) → IsTrace c h → (id : RunId) (r : Run) → current h id ≡ Some r → IsDone r → r.head.role ≢ P → (k : Completion h) × (k.id ≡ id) × (k.step.after ≡ r)
completed c h w id r is done other = let x = completed_as c h w id r is done other in (x.completion, x.of_run, x.after)

-- ---- a run that noted more than its texts has stepped

pub has_stepped : (c : Config) (h : List Happening) → IsTrace c h → (id : RunId) (r : Run) (s : Slot) (t : Tree) → current h id ≡ Some r → r.notes s ≡ Some t → is_text (kind_of s) ≡ false → (step : Step) × Among (Steps id step) h
has_stepped c [] w id r s t is e plain = absurd cc
has_stepped c (Opens n run ∷ h) w id r s t is e plain = go (same_id n id) is (λ f. has_stepped c h w.0 id r s t f e plain)
  where
    no_text : kind_of s ≡ a_text → ⊥
    no_text k = let f : is_text (kind_of s) ≡ true = ap is_text k in absurd cc

    go : (b : Bool) → (if b then Some run else current h id) ≡ Some r → (current h id ≡ Some r → (step : Step) × Among (Steps id step) h) → (step : Step) × Among (Steps id step) (Opens n run ∷ h)
    go true f rest = let o : IsOpening r = subst IsOpening (some_run run r f) w.1.1 in absurd (no_text (o.texts s t e).0)
    go false f rest = let x = rest f in (x.0, inr x.1)
has_stepped c (Steps n step ∷ h) w id r s t is e plain = go (same_id n id) refl is (λ f. has_stepped c h w.0 id r s t f e plain)
  where
    go : (b : Bool) → same_id n id ≡ b → (if b then Some step.after else current h id) ≡ Some r → (current h id ≡ Some r → (x : Step) × Among (Steps id x) h) → (x : Step) × Among (Steps id x) (Steps n step ∷ h)
    go true same f rest = (step, inl (ap (λ (i : RunId). Steps i step) (sym (same_id_is n id same))))
    go false same f rest = let x = rest f in (x.0, inr x.1)
has_stepped c (Reveals n ∷ h) w id r s t is e plain = let x = has_stepped c h w.0 id r s t is e plain in (x.0, inr x.1)

-- ---- what was given away

none_of_both : (xs ys : List Bytes) → xs ++ ys ≡ [] → ys ≡ []
none_of_both [] ys e = e
none_of_both (x ∷ xs) ys e = absurd cc

-- where nothing was given away, nothing was before
pub once_given : (old h : List Happening) → Once old h → given h ≡ [] → given old ≡ []
once_given old [] o e = ap given o
once_given old (x ∷ h) (inl is) e = ap given is ∙ e
once_given old (Opens n run ∷ h) (inr o) e = once_given old h o e
once_given old (Steps n step ∷ h) (inr o) e = once_given old h o e
once_given old (Reveals n ∷ h) (inr o) e = once_given old h o (none_of_both (parts_of (key_of_run (current h n))) (given h) e)

-- ---- heads and own texts of the runs of a world

-- the head is one, and its own texts are noted
pub record IsPlayed (r : Run) : Type 0 where
  pub is_head : IsHead r.head
  pub texts : (s : Slot) → is_text (kind_of s) ≡ true → sends_slot r.head.role s (row_of r.head.mech) ≡ true → (t : Tree) × (r.notes s ≡ Some t)

run_standing : (o : Option Standing) (s : Standing) → o ≡ Some s → reduction.run_of o ≡ Some s.run
run_standing o s e = ap reduction.run_of e

pub played : (c : Config) → IsLawful c → (h : List Entry) → IsWorld c h → (id : RunId) (r : Run) → current (trace h) id ≡ Some r → IsPlayed r
played c lawful [] w id r is = absurd cc
played c lawful (At n (Open run head texts) ∷ h) w id r is = go (same_id (run_id n run) id) is (played c lawful h w.0 id r)
  where
    opened : IsPlayed (opened_run head texts)
    opened = record {
      is_head = w.1.needs.is_head;
      texts = λ s e f. (_, ap₂ (λ (a b : Bool). if a && b then Some (text (text_for texts s)) else None) e f);
    }

    go : (b : Bool) → (if b then Some (opened_run head texts) else current (trace h) id) ≡ Some r → (current (trace h) id ≡ Some r → IsPlayed r) → IsPlayed r
    go true e rest = subst IsPlayed (some_run (opened_run head texts) r e) opened
    go false e rest = rest e
played c lawful (At n (Commit run now step) ∷ h) w id r is =
    go (same_id (run_id n run) id) is (played c lawful h w.0 id r)
    (played c lawful h w.0 (run_id n run) step.before (sym (run_at c n run h) ∙ run_standing ((node_of c n h).runs run) (record { run = step.before; is_open = true }) w.1.needs.is_open))
  where
    whole : IsTrace c (Steps (run_id n run) step ∷ trace h)
    whole = world_trace c lawful (At n (Commit run now step) ∷ h) w

    after : IsPlayed step.before → IsPlayed step.after
    after before = record {
      is_head = subst IsHead (sym w.1.needs.is_step.same_head) before.is_head;
      texts = λ s e f.
          let t = before.texts s e (subst (λ (x : Head). sends_slot x.role s (row_of x.mech) ≡ true) w.1.needs.is_step.same_head f) in
          (t.0, step_keeps (keys_of c) step whole.1.is_step s t.0 t.1);
    }

    go : (b : Bool) → (if b then Some step.after else current (trace h) id) ≡ Some r → (current (trace h) id ≡ Some r → IsPlayed r) → IsPlayed step.before → IsPlayed r
    go true e rest before = subst IsPlayed (some_run step.after r e) (after before)
    go false e rest before = rest e
played c lawful (At n (Issue now stamp) ∷ h) w id r is = played c lawful h w.0 id r is
played c lawful (At n (Drop run) ∷ h) w id r is = played c lawful h w.0 id r is
played c lawful (At n (Restart now last more) ∷ h) w id r is = played c lawful h w.0 id r is
played c lawful (Reveal n ∷ h) w id r is = played c lawful h w.0 id r is
