-- From what a run took and what it said to a step of its row.
use Rattle.std.proofs.Common.{◌≡◌, ◌≢◌, ◌⊎◌, ◌==◌, ◌+◌, ℕ, zero, suc, Bool, true, false, ◌&&◌, if◌then◌else◌, List, [], ◌∷◌, drop, Option, Some, None, Ok, refl, sym, ap, subst, ◌∙◌, inl, inr, eqb-true, arith}
use Rattle.term_values.specs.Trees.{Among, Bytes, Tree, stamp}
use Rattle.term_values.specs.declared.small.Key.{Key}
use Rattle.term_values.specs.declared.small.Stamp.{Stamp}
use Rattle.term_values.proofs.Lists.{some_among, any_among, and_left, and_right}
use Rattle.mech_rows.specs.declared.kinds.Kind.TheVariants.{Stamp as a_stamp}
use Rattle.mech_rows.specs.declared.kinds.Mech.{Mech}
use Rattle.mech_rows.specs.declared.kinds.Role.{Role}
use Rattle.mech_rows.specs.declared.kinds.Slot.{Slot}
use Rattle.mech_rows.specs.Rows.{kind_of, Pass, row_of}
use Rattle.mech_rows.specs.Facts.{same_role, same_slot}
use Rattle.mech_rows.specs.Found.{found}
use Rattle.mech_rows.specs.Heads.{Head}
use Rattle.mech_rows.specs.Runs.{Notes, Run, Keys, Extends, Opening, Got, Step, Draws, nth, seen_slots, sent_slots, first_act, next_act, outcome_of}
use Rattle.mech_rows.specs.Steps.{Sealer, Fits, Sends, IsStep}
use Rattle.mech_rows.specs.Verdict.{State, run_of, verdict}
use Rattle.mech_rows.specs.Lawful.{tested_by, stands_in}
use Rattle.mech_rows.specs.Replies.{ends_at, sends, sends_first, receives, has_acted, Says}
use Rattle.mech_rows.specs.Moves.{seen_at, or_else, middle_of, Ready, Fitted, step_of}
use Rattle.mech_rows.proofs.RowUse.{same_role_is, same_role_refl, same_slot_is, same_slot_refl}
use Rattle.mech_rows.proofs.VerdictFits.{verdict_fits}
use Rattle.mech_rows.proofs.Reading.{extends_none}
use Rattle.mech_rows.proofs.Sending.{acted_is, says_sends, Issues, issues_slot, slot_issued}
use Rattle.mech_rows.specs.declared.kinds.Mech.TheVariants.{E1}

-- what was taken

pub record ReceivesPass (s : State) : Type 0 where
  pub pass : Pass
  pub at : nth (row_of s.head.mech) s.next ≡ Some pass
  pub received : pass.to ≡ s.head.role

pub receives_pass : (s : State) → receives s ≡ true → ReceivesPass s
receives_pass s e = go (nth (row_of s.head.mech) s.next) refl e
  where
    go : (o : Option Pass) → nth (row_of s.head.mech) s.next ≡ o → ends_at (λ p. p.to) s.head.role o ≡ true → ReceivesPass s
    go None f g = absurd cc
    go (Some p) f g = record { pass = p; at = f; received = same_role_is p.to s.head.role g }

pub taken_fits : (opens : Key → Tree → Option Tree) (checks : Key → Tree → Tree → Bool) (allowed : Mech → Slot → Bytes → Bool) (keys : Keys) (r : Ready) → receives r.before ≡ true → has_acted r.before ≡ true → verdict opens checks keys allowed r.before r.taken ≡ Ok (record { notes = r.after.notes; opened = r.opened; got = r.got }) → r.after.head ≡ r.before.head → r.after.next ≡ suc r.before.next → Fitted opens checks keys r
taken_fits opens checks allowed keys r receives acted fit head moves =
    let p = receives_pass r.before receives in
    let w = verdict_fits opens checks allowed keys r.before p.pass r.taken (record { notes = r.after.notes; opened = r.opened; got = r.got }) (record { next = p.at; received = p.received; acted = acted_is r.before acted }) fit in
    record { fits = w.fits; same_head = head; moves = moves }

-- what a run has learnt is what fits

stands_of : (ss : List Slot) (s : Slot) → Among s ss → stands_in ss s ≡ true
stands_of ss s i = any_among (λ t. same_slot t s) ss s i (same_slot_refl s)

stands_among : (ss : List Slot) (s : Slot) → stands_in ss s ≡ true → Among s ss
stands_among ss s e = let x = some_among (λ t. same_slot t s) ss e in subst (λ (v : Slot). Among v ss) (same_slot_is x.0 s x.2) x.1

learnt_at : (old n last : Notes) (ss us : List Slot) → Extends old ss n → Extends n us last → (s : Slot) → or_else (old s) (if stands_in ss s then last s else None) ≡ n s
learnt_at old n last ss us a b s = go (old s) refl (stands_in ss s) refl (n s) refl
  where
    no : (t : Tree) → Some t ≡ None → ⊥
    no t e = absurd cc

    false_true : false ≡ true → ⊥
    false_true x = absurd cc

    only : (t : Tree) → old s ≡ None → stands_in ss s ≡ false → (old s ≡ Some t) ⊎ Among s ss → ⊥
    only t e f (inl g) = no t (sym g ∙ e)
    only t e f (inr i) = false_true (sym f ∙ stands_of ss s i)

    go : (o : Option Tree) → old s ≡ o → (x : Bool) → stands_in ss s ≡ x → (m : Option Tree) → n s ≡ m → or_else o (if x then last s else None) ≡ n s
    go (Some t) e x f m g = sym (a.kept s t e)
    go None e true f m g = let y = a.noted s (stands_among ss s f) in b.kept s y.0 y.1 ∙ sym y.1
    go None e false f (Some t) g = absurd (only t e f (a.only s t g))
    go None e false f None g = sym g

same_everywhere : {n m : Notes} → ((s : Slot) → n s ≡ m s) → n ≡ m
same_everywhere h = λ i s. h s i

pub middle_is : (opens : Sealer) (keys : Keys) (run : Run) (t : Tree) (n last : Notes) (o : List Opening) (g : List Got) (us : List Slot) → Fits opens keys run t n o g → Extends n us last → middle_of run (Some t) last ≡ n
middle_is opens keys run t n last o g us f e = same_everywhere (λ s. subst (λ (p : Option Pass). or_else (run.notes s) (if stands_in (seen_at p) s then last s else None) ≡ n s) (sym f.at) (learnt_at run.notes n last (seen_slots f.pass) us f.extends e s))

-- a role that takes a message acts in the next pass, or the row ends

abbrev acts_on : ℕ → List Pass → Bool
acts_on n [] = true
acts_on n (p ∷ ps) = (first_act p.to (suc n) ps == suc n) && acts_on (suc n) ps

acts_at : (n k : ℕ) (ps : List Pass) (p : Pass) → acts_on n ps ≡ true → nth ps k ≡ Some p → first_act p.to (suc (k + n)) (drop (suc k) ps) ≡ suc (k + n)
acts_at n k [] p e f = absurd cc
acts_at n zero (q ∷ ps) p e f =
    let is : q ≡ p = some_is f in
    let shift : n ≡ 0 + n = omega arith in
    subst (λ (i : ℕ). first_act p.to (suc i) ps ≡ suc i) shift (subst (λ (x : Pass). first_act x.to (suc n) ps ≡ suc n) is (eqb-true (first_act q.to (suc n) ps) (suc n) (and_left (first_act q.to (suc n) ps == suc n) (acts_on (suc n) ps) e)))
  where
    some_is : Some q ≡ Some p → q ≡ p
    some_is g = cc
acts_at n (suc k) (q ∷ ps) p e f =
    let shift : k + suc n ≡ suc k + n = omega arith in
    subst (λ (i : ℕ). first_act p.to (suc i) (drop (suc k) ps) ≡ suc i) shift (acts_at (suc n) k ps p (and_right (first_act q.to (suc n) ps == suc n) (acts_on (suc n) ps) e) f)

acts_row : (m : Mech) → acts_on 0 (row_of m) ≡ true
acts_row E1 = refl
acts_row _ = refl

pub acts_next : (m : Mech) (k : ℕ) (p : Pass) → nth (row_of m) k ≡ Some p → first_act p.to (suc k) (drop (suc k) (row_of m)) ≡ suc k
acts_next m k p e =
    let shift : k + 0 ≡ k = omega arith in
    subst (λ (i : ℕ). first_act p.to (suc i) (drop (suc k) (row_of m)) ≡ suc i) shift (acts_at 0 k (row_of m) p (acts_row m) e)

-- steps

-- the run answers
pub answered : (opens : Key → Tree → Option Tree) (checks : Key → Tree → Tree → Bool) (keys : Keys) (r : Ready) (after : State) (issued : Option Stamp) (sealed : List Opening) (reply : Tree) → Fitted opens checks keys r → sends r.after ≡ true → Says opens checks keys r.after after reply sealed issued → IsStep (tested_by opens checks) keys (step_of (record { before = r.before; after = after; taken = Some r.taken; opened = r.opened; got = r.got; issued = issued; sealed = sealed; reply = Some reply; outcome = outcome_of (run_of after) }))
answered opens checks keys r after issued sealed reply f e s =
    let sent : Sends (tested_by opens checks) keys r.before.head (suc r.before.next) (found r.after.notes) (found after.notes) reply sealed = subst (λ (h : Head). Sends (tested_by opens checks) keys h (suc r.before.next) (found r.after.notes) (found after.notes) reply sealed) f.same_head (subst (λ (k : ℕ). Sends (tested_by opens checks) keys r.after.head k (found r.after.notes) (found after.notes) reply sealed) f.moves (says_sends opens checks keys r.after after reply sealed issued e s)) in
    subst (λ (n : Notes). IsStep (tested_by opens checks) keys (at n)) (sym (middle_is (tested_by opens checks) keys (run_of r.before) r.taken (found r.after.notes) (found after.notes) r.opened r.got (sent_slots sent.pass) f.fits sent.extends))
    (record {
      same_head = s.same_head ∙ f.same_head;
      acts = λ x. absurd (none x);
      takes = f.fits;
      replies = sent;
      moves = s.moves ∙ (ap (λ (k : ℕ). next_act r.after.head (suc k)) f.moves ∙ ap (λ (h : Head). next_act h (suc (suc r.before.next))) f.same_head);
      issues = λ t. ((λ x. there t (issues_slot opens checks keys r.after after reply sealed issued s t x)), (λ x. slot_issued opens checks keys r.after after reply sealed issued s t (record { slot = x.0; kind = x.1; is_new = x.2.is_new; is = x.2.is })));
      outcome = refl;
    })
  where
    at : Notes → Step
    at n = record { before = run_of r.before; taken = Some r.taken; middle = n; after = run_of after; opened = r.opened; got = r.got; issued = issued; sealed = sealed; reply = Some reply; outcome = outcome_of (run_of after) }

    none : Some r.taken ≡ None → ⊥
    none x = absurd cc

    there : (t : Stamp) → Issues (found r.after.notes) (found after.notes) t → (u : Slot) × (kind_of u ≡ a_stamp) × Draws (at (found r.after.notes)) u (stamp t)
    there t i = (i.slot, i.kind, record { is_new = i.is_new; is = i.is })

-- the run answers nothing
pub ended : (opens : Key → Tree → Option Tree) (checks : Key → Tree → Tree → Bool) (keys : Keys) (r : Ready) → Fitted opens checks keys r → sends r.after ≡ false → IsStep (tested_by opens checks) keys (step_of (record { before = r.before; after = r.after; taken = Some r.taken; opened = r.opened; got = r.got; issued = None; sealed = []; reply = None; outcome = outcome_of (run_of r.after) }))
ended opens checks keys r f e =
    subst (λ (n : Notes). IsStep (tested_by opens checks) keys (at n)) (sym (middle_is (tested_by opens checks) keys (run_of r.before) r.taken (found r.after.notes) (found r.after.notes) r.opened r.got [] f.fits (extends_none (found r.after.notes))))
    (record {
      same_head = f.same_head;
      acts = λ x. absurd (none x);
      takes = f.fits;
      replies = (refl, refl, λ p g. silent p g);
      moves = f.moves ∙ sym (subst (λ (x : Role). first_act x (suc r.before.next) (drop (suc r.before.next) (row_of r.before.head.mech)) ≡ suc r.before.next) f.fits.received (acts_next r.before.head.mech r.before.next f.fits.pass f.fits.at));
      issues = λ t. ((λ x. absurd (no_stamp t x)), (λ x. absurd (old x.0 (stamp t) x.2.is_new x.2.is)));
      outcome = refl;
    })
  where
    at : Notes → Step
    at n = record { before = run_of r.before; taken = Some r.taken; middle = n; after = run_of r.after; opened = r.opened; got = r.got; issued = None; sealed = []; reply = None; outcome = outcome_of (run_of r.after) }

    none : Some r.taken ≡ None → ⊥
    none x = absurd cc

    no_stamp : (t : Stamp) → None ≡ Some t → ⊥
    no_stamp t x = absurd cc

    old : (u : Slot) (t : Tree) → found r.after.notes u ≡ None → found r.after.notes u ≡ Some t → ⊥
    old u t x y = let z : None ≡ Some t = sym x ∙ y in absurd cc

    true_false : true ≡ false → ⊥
    true_false x = absurd cc

    silent : (p : Pass) → nth (row_of r.before.head.mech) (suc r.before.next) ≡ Some p → p.from ≢ r.before.head.role
    silent p g is =
        let here : nth (row_of r.after.head.mech) r.after.next ≡ Some p = ap (λ (h : Head). nth (row_of h.mech) r.after.next) f.same_head ∙ (ap (λ (k : ℕ). nth (row_of r.before.head.mech) k) f.moves ∙ g) in
        let role : same_role p.from r.after.head.role ≡ true = subst (λ (x : Role). same_role p.from x ≡ true) (is ∙ sym (ap (λ (h : Head). h.role) f.same_head)) (same_role_refl p.from) in
        true_false (sym role ∙ (sym (ap (λ (o : Option Pass). ends_at (λ q. q.from) r.after.head.role o) here) ∙ e))

-- the run begins
pub began : (opens : Key → Tree → Option Tree) (checks : Key → Tree → Tree → Bool) (keys : Keys) (before after : State) (issued : Option Stamp) (sealed : List Opening) (reply : Tree) → sends_first before ≡ true → Says opens checks keys before after reply sealed issued → IsStep (tested_by opens checks) keys (step_of (record { before = before; after = after; taken = None; opened = []; got = []; issued = issued; sealed = sealed; reply = Some reply; outcome = outcome_of (run_of after) }))
began opens checks keys before after issued sealed reply e s =
    record {
      same_head = s.same_head;
      acts = λ x. (start, λ y. some_none y);
      takes = (refl, refl, refl);
      replies = says_sends opens checks keys before after reply sealed issued (and_left (sends before) (before.next == 0) e) s;
      moves = s.moves;
      issues = λ t. ((λ x. there t (issues_slot opens checks keys before after reply sealed issued s t x)), (λ x. slot_issued opens checks keys before after reply sealed issued s t (record { slot = x.0; kind = x.1; is_new = x.2.is_new; is = x.2.is })));
      outcome = refl;
    }
  where
    at : Step
    at = record { before = run_of before; taken = None; middle = found before.notes; after = run_of after; opened = []; got = []; issued = issued; sealed = sealed; reply = Some reply; outcome = outcome_of (run_of after) }

    start : before.next ≡ 0
    start = eqb-true before.next 0 (and_right (sends before) (before.next == 0) e)

    some_none : Some reply ≡ None → ⊥
    some_none x = absurd cc

    there : (t : Stamp) → Issues (found before.notes) (found after.notes) t → (u : Slot) × (kind_of u ≡ a_stamp) × Draws at u (stamp t)
    there t i = (i.slot, i.kind, record { is_new = i.is_new; is = i.is })
