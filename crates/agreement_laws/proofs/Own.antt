-- A slot that a role owns was drawn or issued by a step of the run itself; so a run is told from others by its value.
use Rattle.std.proofs.Common.{◌≡◌, ℕ, zero, suc, ◌<◌, ◌⊎◌, List, [], ◌∷◌, Bool, true, false, ◌&&◌, if◌then◌else◌, refl, sym, ap, subst, ◌∙◌, inl, inr, Option, Some, None, arith}
use Rattle.term_values.specs.Trees.{Among, Tree}
use Rattle.mech_rows.specs.declared.kinds.Role.{Role}
use Rattle.mech_rows.specs.declared.kinds.Slot.{Slot}
use Rattle.mech_rows.specs.declared.kinds.Kind.{Kind}
use Rattle.mech_rows.specs.declared.kinds.Kind.TheVariants.{Nonce as a_nonce, Stamp as a_stamp, Part as a_part, Text as a_text, Item as an_item}
use Rattle.mech_rows.specs.Rows.{kind_of, Pass, row_of}
use Rattle.mech_rows.specs.Facts.{same_role, same_slot}
use Rattle.mech_rows.specs.Heads.{Head, me}
use Rattle.mech_rows.specs.Runs.{Notes, Run, nth, sent_slots, seen_slots, Step, Draws, reply_pass}
use Rattle.agreement_laws.specs.Configs.{Config, keys_of}
use Rattle.agreement_laws.specs.Traces.{Happening, Opens, Steps, Reveals, current, is_drawn_kind, RunId, same_id}
use Rattle.mech_rows.specs.Rounds.{stands, owns, is_made_kind, is_own}
use Rattle.agreement_laws.proofs.Traces.{IsTrace, Happens}
use Rattle.mech_rows.proofs.Symbolic.{SymbolicTakes, SymbolicReplies}
use Rattle.term_values.proofs.Lists.{any_among, some_among, and_left, and_right, and_both}
use Rattle.mech_rows.proofs.RowUse.{same_role_is, same_slot_is, same_role_refl, same_slot_refl}
use Rattle.agreement_laws.proofs.Ids.{same_id_is}
use Rattle.agreement_laws.proofs.Held.{held, HeldBy, no_self}
use Rattle.agreement_laws.proofs.Fresh.{one_event, one_issue}

pub stands_among : (u : Slot) (ss : List Slot) → stands u ss ≡ true → Among u ss
stands_among u ss h = let f = some_among (same_slot u) ss h in subst (λ s. Among s ss) (sym (same_slot_is u f.0 f.2)) f.1

pub among_stands : (u : Slot) (ss : List Slot) → Among u ss → stands u ss ≡ true
among_stands u ss i = any_among (same_slot u) ss u i (same_slot_refl u)

pub record SentEarlier (ps : List Pass) (k : ℕ) (r : Role) (u : Slot) : Type 0 where
  pub place : ℕ
  pub earlier : place < k
  pub pass : Pass
  pub at : nth ps place ≡ Some pass
  pub from_is : pass.from ≡ r
  pub there : Among u (sent_slots pass)

-- what a role owns it has sent before it sees it
sent_before : (r : Role) (u : Slot) (ps : List Pass) → ((k : ℕ) (p : Pass) → nth ps k ≡ Some p → p.from ≡ r → p.to ≡ r → ⊥) → owns r u ps ≡ true → (k : ℕ) (p : Pass) → nth ps k ≡ Some p → p.to ≡ r → Among u (seen_slots p) → SentEarlier ps k r u
sent_before r u [] no_self h k p at to i = absurd (cc)
sent_before r u (q ∷ ps) no_self h k p at to i = go (same_role q.from r && stands u (sent_slots q)) refl (same_role q.to r && stands u (seen_slots q)) refl h k at (λ n e. sent_before r u ps (λ m x a. no_self (suc m) x a) e n p)
  where
    go : (x : Bool) → (same_role q.from r && stands u (sent_slots q)) ≡ x → (y : Bool) → (same_role q.to r && stands u (seen_slots q)) ≡ y → (if x then true else (if y then false else owns r u ps)) ≡ true → (n : ℕ) → nth (q ∷ ps) n ≡ Some p → ((m : ℕ) → owns r u ps ≡ true → nth ps m ≡ Some p → p.to ≡ r → Among u (seen_slots p) → SentEarlier ps m r u) → SentEarlier (q ∷ ps) n r u
    go true e y f g zero a rest =
        let b : Some q ≡ Some p = a in
        let same : q ≡ p = cc in
        absurd (no_self zero q refl (same_role_is q.from r (and_left _ _ e)) (subst (λ (x : Pass). x.to ≡ r) (sym same) to))
    go true e y f g (suc n) a rest = record { place = 0; earlier = omega arith; pass = q; at = refl; from_is = same_role_is q.from r (and_left _ _ e); there = stands_among u (sent_slots q) (and_right _ _ e) }
    go false e true f g n a rest = absurd (cc)
    go false e false f g zero a rest =
        let b : Some q ≡ Some p = a in
        let same : q ≡ p = cc in
        let sees : (same_role q.to r && stands u (seen_slots q)) ≡ true = and_both _ _ (subst (λ (x : Role). same_role q.to x ≡ true) (subst (λ (x : Pass). x.to ≡ r) (sym same) to) (same_role_refl q.to)) (among_stands u (seen_slots q) (subst (λ (x : Pass). Among u (seen_slots x)) (sym same) i)) in
        absurd (cc)
    go false e false f g (suc n) a rest =
        let s = rest n g a to i in
        record { place = suc s.place; earlier = omega (arith, s.earlier); pass = s.pass; at = s.at; from_is = s.from_is; there = s.there }

-- the step of the run that drew or issued the slot's value
pub record OwnDraw (h : List Happening) (id : RunId) (head : Head) (u : Slot) (t : Tree) : Type 0 where
  pub step : Step
  pub there : Among (Steps id step) h
  pub head_is : step.before.head ≡ head
  pub draws : Draws step u t

own_later : (e : Happening) (h : List Happening) (id : RunId) (head : Head) (u : Slot) (t : Tree) → OwnDraw h id head u t → OwnDraw (e ∷ h) id head u t
own_later e h id head u t o = record { step = o.step; there = inr o.there; head_is = o.head_is; draws = o.draws }

abbrev Owned : List Happening → Run → RunId → Slot → Type 0
Owned h run id u = (t : Tree) → is_own run.head.role u (row_of run.head.mech) ≡ true → run.notes u ≡ Some t → OwnDraw h id run.head u t

pub text_is_not_made : (k : Kind) → is_made_kind k ≡ true → k ≡ a_text → ⊥
text_is_not_made a_text h e = cc
text_is_not_made a_nonce h e = cc
text_is_not_made a_stamp h e = cc
text_is_not_made a_part h e = cc
text_is_not_made an_item h e = cc

owned_step : (c : Config) (h : List Happening) → IsTrace c h → (id : RunId) (step : Step) → Happens c h (Steps id step) → (u : Slot) → Owned h step.before id u → Owned (Steps id step ∷ h) step.after id u
owned_step c h w id step happens u before t own is =
    subst (λ (x : Head). OwnDraw (Steps id step ∷ h) id x u t) (sym happens.is_step.same_head) (by_middle (step.middle u) refl)
  where
    here : is_own step.before.head.role u (row_of step.before.head.mech) ≡ true
    here = subst (λ (x : Head). is_own x.role u (row_of x.mech) ≡ true) happens.is_step.same_head own

    b : HeldBy c h step.before
    b = held c h w id step.before happens.runs

    from_before : (v : Tree) → step.before.notes u ≡ Some v → OwnDraw (Steps id step ∷ h) id step.before.head u v
    from_before v e = own_later (Steps id step) h id step.before.head u v (before v here e)

    from_taken : (o : Option Tree) → SymbolicTakes (keys_of c) step.before o step.middle → (v : Tree) → step.middle u ≡ Some v → OwnDraw (Steps id step ∷ h) id step.before.head u v
    from_taken None f v e = from_before v (subst (λ (n : Notes). n u ≡ Some v) f e)
    from_taken (Some m) fits v e = go (fits.extends.only u v e)
      where
        go : (step.before.notes u ≡ Some v) ⊎ Among u (seen_slots fits.pass) → OwnDraw (Steps id step ∷ h) id step.before.head u v
        go (inl f) = from_before v f
        go (inr i) =
            let s = sent_before step.before.head.role u (row_of step.before.head.mech) (λ k p a. no_self step.before.head.mech k p step.before.head.role a) (and_right _ _ here) step.before.next fits.pass fits.at fits.received i in
            let n = b.said s.place s.pass u s.earlier s.at s.from_is s.there in
            let same : Some n.tree ≡ Some v = sym (fits.extends.kept u n.tree n.is) ∙ e in
            from_before v (n.is ∙ same)

    kept_by : (o : Option Tree) → SymbolicReplies (keys_of c) step.before.head (reply_pass step) step.middle step.after.notes o → (v : Tree) → step.middle u ≡ Some v → step.after.notes u ≡ Some v
    kept_by None f v e = subst (λ (n : Notes). n u ≡ Some v) (sym f.0) e
    kept_by (Some r) sends v e = sends.extends.kept u v e

    by_middle : (o : Option Tree) → step.middle u ≡ o → OwnDraw (Steps id step ∷ h) id step.before.head u t
    by_middle None e = record { step = step; there = inl refl; head_is = refl; draws = record { is_new = e; is = is } }
    by_middle (Some v) e =
        let same : Some v ≡ Some t = sym (kept_by step.reply happens.is_step.replies v e) ∙ is in
        from_taken step.taken happens.is_step.takes t (e ∙ same)

pub own_draw : (c : Config) (h : List Happening) → IsTrace c h → (id : RunId) (run : Run) → current h id ≡ Some run → (u : Slot) (t : Tree) → is_own run.head.role u (row_of run.head.mech) ≡ true → run.notes u ≡ Some t → OwnDraw h id run.head u t
own_draw c [] w id run is u t own e = absurd (cc)
own_draw c (Opens n now ∷ h) w id run is u t own e = go (same_id n id) is (λ j. own_draw c h w.0 id run j u t own e)
  where
    go : (b : Bool) → (if b then Some now else current h id) ≡ Some run → (current h id ≡ Some run → OwnDraw h id run.head u t) → OwnDraw (Opens n now ∷ h) id run.head u t
    go true j rest =
        let same : now ≡ run = cc in
        absurd (text_is_not_made (kind_of u) (and_left _ _ own) (w.1.1.texts u t (subst (λ (r : Run). r.notes u ≡ Some t) (sym same) e)).0)
    go false j rest = own_later (Opens n now) h id run.head u t (rest j)
own_draw c (Steps n step ∷ h) w id run is u t own e = go (same_id n id) refl is (λ j. own_draw c h w.0 id run j u t own e) (λ v o f. own_draw c h w.0 n step.before w.1.runs u v o f)
  where
    go : (b : Bool) → (same_id n id) ≡ b → (if b then Some step.after else current h id) ≡ Some run → (current h id ≡ Some run → OwnDraw h id run.head u t) → Owned h step.before n u → OwnDraw (Steps n step ∷ h) id run.head u t
    go true q j rest before =
        let same : step.after ≡ run = cc in
        let ids : n ≡ id = same_id_is n id q in
        subst (λ (m : RunId). OwnDraw (Steps n step ∷ h) m run.head u t) ids
        (subst (λ (r : Run). OwnDraw (Steps n step ∷ h) n r.head u t) same
        (owned_step c h w.0 n step w.1 u before t (subst (λ (r : Run). is_own r.head.role u (row_of r.head.mech) ≡ true) (sym same) own) (subst (λ (r : Run). r.notes u ≡ Some t) (sym same) e)))
    go false q j rest before = own_later (Steps n step) h id run.head u t (rest j)
own_draw c (Reveals n ∷ h) w id run is u t own e = own_later (Reveals n) h id run.head u t (own_draw c h w.0 id run is u t own e)

-- two runs of one party with one value of a slot that each owns are one run
pub own_run : (c : Config) (h : List Happening) → IsTrace c h → (id n : RunId) (run other : Run) → current h id ≡ Some run → current h n ≡ Some other → (u : Slot) (t : Tree) → is_own run.head.role u (row_of run.head.mech) ≡ true → is_own other.head.role u (row_of other.head.mech) ≡ true → me run.head ≡ me other.head → run.notes u ≡ Some t → other.notes u ≡ Some t → id ≡ n
own_run c h w id n run other is js u t e f m x y =
    go (kind_of u) refl (own_draw c h w id run is u t e x) (own_draw c h w n other js u t f y)
  where
    go : (k : Kind) → kind_of u ≡ k → OwnDraw h id run.head u t → OwnDraw h n other.head u t → id ≡ n
    go a_stamp k a b =
        let one = one_issue c h w id n a.step b.step u u t a.there b.there k k (ap me a.head_is ∙ (m ∙ sym (ap me b.head_is))) a.draws b.draws in cc
    go a_nonce k a b = let one = one_event c h w id n a.step b.step u u t a.there b.there (ap is_drawn_kind k) (ap is_drawn_kind k) a.draws b.draws in cc
    go a_part k a b = let one = one_event c h w id n a.step b.step u u t a.there b.there (ap is_drawn_kind k) (ap is_drawn_kind k) a.draws b.draws in cc
    go a_text k a b = let no : is_made_kind (kind_of u) ≡ true = and_left _ _ e in absurd (cc)
    go an_item k a b = let no : is_made_kind (kind_of u) ≡ true = and_left _ _ e in absurd (cc)
