-- A stamp that a role sees first was accepted by a step of the run itself.
use Rattle.std.proofs.Common.{◌≡◌, ℕ, zero, suc, ◌<◌, ◌⊎◌, List, [], ◌∷◌, Bool, true, false, ◌&&◌, if◌then◌else◌, refl, sym, ap, ap₂, subst, subst₂, ◌∙◌, inl, inr, Option, Some, None, arith}
use Rattle.term_values.specs.Trees.{Bytes, Among, Tree}
use Rattle.mech_rows.specs.declared.kinds.Mech.{Mech}
use Rattle.mech_rows.specs.declared.kinds.Role.{Role}
use Rattle.mech_rows.specs.declared.kinds.Slot.{Slot}
use Rattle.mech_rows.specs.declared.kinds.Kind.TheVariants.{Stamp as a_stamp, Text as a_text}
use Rattle.mech_rows.specs.Rows.{kind_of, Pass, row_of, issuer}
use Rattle.mech_rows.specs.Facts.{same_role, judged_tag}
use Rattle.mech_rows.specs.Heads.{Head, name_of, me}
use Rattle.mech_rows.specs.Runs.{Notes, Run, nth, sent_slots, seen_slots, Step, reply_pass, Learns}
use Rattle.agreement_laws.specs.Configs.{Config, keys_of}
use Rattle.agreement_laws.specs.Traces.{Happening, Opens, Steps, Reveals, current, known_before, RunId, same_id}
use Rattle.mech_rows.specs.Rounds.{stands, hears}
use Rattle.agreement_laws.proofs.Traces.{IsTrace, Happens}
use Rattle.mech_rows.proofs.Judged.{Judges}
use Rattle.mech_rows.proofs.Symbolic.{SymbolicTakes, SymbolicReplies}
use Rattle.term_values.proofs.Lists.{and_left, and_right, and_both}
use Rattle.mech_rows.proofs.RowUse.{same_role_is, same_role_refl}
use Rattle.agreement_laws.proofs.Ids.{same_id_is}
use Rattle.agreement_laws.proofs.Held.{Held, held, held_middle, no_self}
use Rattle.agreement_laws.proofs.Own.{stands_among, among_stands}
use Rattle.agreement_laws.proofs.Fresh.{one_accept}

record SeenEarlier (ps : List Pass) (k : ℕ) (r : Role) (u : Slot) : Type 0 where
  place : ℕ
  earlier : place < k
  pass : Pass
  at : nth ps place ≡ Some pass
  to_is : pass.to ≡ r
  there : Among u (seen_slots pass)

seen_before : (r : Role) (u : Slot) (ps : List Pass) → ((k : ℕ) (p : Pass) → nth ps k ≡ Some p → p.from ≡ r → p.to ≡ r → ⊥) → hears r u ps ≡ true → (k : ℕ) (p : Pass) → nth ps k ≡ Some p → p.from ≡ r → Among u (sent_slots p) → SeenEarlier ps k r u
seen_before r u [] no_self h k p at from i = absurd (cc)
seen_before r u (q ∷ ps) no_self h k p at from i = go (same_role q.to r && stands u (seen_slots q)) refl (same_role q.from r && stands u (sent_slots q)) refl h k at (λ n e. seen_before r u ps (λ m x a. no_self (suc m) x a) e n p)
  where
    go : (x : Bool) → (same_role q.to r && stands u (seen_slots q)) ≡ x → (y : Bool) → (same_role q.from r && stands u (sent_slots q)) ≡ y → (if x then true else (if y then false else hears r u ps)) ≡ true → (n : ℕ) → nth (q ∷ ps) n ≡ Some p → ((m : ℕ) → hears r u ps ≡ true → nth ps m ≡ Some p → p.from ≡ r → Among u (sent_slots p) → SeenEarlier ps m r u) → SeenEarlier (q ∷ ps) n r u
    go true e y f g zero a rest =
        let b : Some q ≡ Some p = a in
        let same : q ≡ p = cc in
        absurd (no_self zero q refl (subst (λ (x : Pass). x.from ≡ r) (sym same) from) (same_role_is q.to r (and_left (same_role q.to r) (stands u (seen_slots q)) e)))
    go true e y f g (suc n) a rest = record { place = 0; earlier = omega arith; pass = q; at = refl; to_is = same_role_is q.to r (and_left (same_role q.to r) (stands u (seen_slots q)) e); there = stands_among u (seen_slots q) (and_right (same_role q.to r) (stands u (seen_slots q)) e) }
    go false e true f g n a rest = absurd (cc)
    go false e false f g zero a rest =
        let b : Some q ≡ Some p = a in
        let same : q ≡ p = cc in
        let sends : (same_role q.from r && stands u (sent_slots q)) ≡ true = and_both _ _ (subst (λ (x : Role). same_role q.from x ≡ true) (subst (λ (x : Pass). x.from ≡ r) (sym same) from) (same_role_refl q.from)) (among_stands u (sent_slots q) (subst (λ (x : Pass). Among u (sent_slots x)) (sym same) i)) in
        absurd (cc)
    go false e false f g (suc n) a rest =
        let s = rest n g a from i in
        record { place = suc s.place; earlier = omega (arith, s.earlier); pass = s.pass; at = s.at; to_is = s.to_is; there = s.there }

-- the step of the run that took the slot's value from a message
pub record OwnLearn (h : List Happening) (id : RunId) (head : Head) (u : Slot) (t : Tree) : Type 0 where
  pub step : Step
  pub there : Among (Steps id step) h
  pub head_is : step.before.head ≡ head
  pub learns : Learns step u t

learn_later : (e : Happening) (h : List Happening) (id : RunId) (head : Head) (u : Slot) (t : Tree) → OwnLearn h id head u t → OwnLearn (e ∷ h) id head u t
learn_later e h id head u t o = record { step = o.step; there = inr o.there; head_is = o.head_is; learns = o.learns }

abbrev Heard : List Happening → Run → RunId → Slot → Type 0
Heard h run id u = (t : Tree) → hears run.head.role u (row_of run.head.mech) ≡ true → run.notes u ≡ Some t → OwnLearn h id run.head u t

heard_step : (c : Config) (h : List Happening) → IsTrace c h → (id : RunId) (step : Step) → Happens c h (Steps id step) → (u : Slot) → Heard h step.before id u → Heard (Steps id step ∷ h) step.after id u
heard_step c h w id step happens u before t own is =
    subst (λ (x : Head). OwnLearn (Steps id step ∷ h) id x u t) (sym happens.is_step.same_head) (in_middle (by_reply step.reply happens.is_step.replies))
  where
    here : hears step.before.head.role u (row_of step.before.head.mech) ≡ true
    here = subst (λ (x : Head). hears x.role u (row_of x.mech) ≡ true) happens.is_step.same_head own

    middle : Held (known_before c h) (keys_of c) step.before.head (reply_pass step) step.middle
    middle = held_middle c h step happens.is_step happens.delivered (held c h w id step.before happens.runs)

    -- what is noted after the reply was noted before it
    by_reply : (o : Option Tree) → SymbolicReplies (keys_of c) step.before.head (reply_pass step) step.middle step.after.notes o → step.middle u ≡ Some t
    by_reply None f = subst (λ (n : Notes). n u ≡ Some t) f.0 is
    by_reply (Some r) sends = go (sends.extends.only u t is)
      where
        go : (step.middle u ≡ Some t) ⊎ Among u (sent_slots sends.pass) → step.middle u ≡ Some t
        go (inl e) = e
        go (inr i) =
            let s = seen_before step.before.head.role u (row_of step.before.head.mech) (λ k p a. no_self step.before.head.mech k p step.before.head.role a) here (reply_pass step) sends.pass sends.at sends.sent i in
            let n = middle.saw s.place s.pass u s.earlier s.at s.to_is s.there in
            n.is ∙ (sym (sends.extends.kept u n.tree n.is) ∙ is)

    in_middle : step.middle u ≡ Some t → OwnLearn (Steps id step ∷ h) id step.before.head u t
    in_middle e = go (step.before.notes u) refl
      where
        kept_by : (o : Option Tree) → SymbolicTakes (keys_of c) step.before o step.middle → (v : Tree) → step.before.notes u ≡ Some v → step.middle u ≡ Some v
        kept_by None f v g = subst (λ (n : Notes). n u ≡ Some v) (sym f) g
        kept_by (Some m) fits v g = fits.extends.kept u v g

        go : (o : Option Tree) → step.before.notes u ≡ o → OwnLearn (Steps id step ∷ h) id step.before.head u t
        go None f = record { step = step; there = inl refl; head_is = refl; learns = record { was_new = f; is = e } }
        go (Some v) f = learn_later (Steps id step) h id step.before.head u t (before t here (f ∙ (sym (kept_by step.taken happens.is_step.takes v f) ∙ e)))

pub own_learn : (c : Config) (h : List Happening) → IsTrace c h → (id : RunId) (run : Run) → current h id ≡ Some run → (u : Slot) (t : Tree) → kind_of u ≡ a_stamp → hears run.head.role u (row_of run.head.mech) ≡ true → run.notes u ≡ Some t → OwnLearn h id run.head u t
own_learn c [] w id run is u t kind own e = absurd (cc)
own_learn c (Opens n now ∷ h) w id run is u t kind own e = go (same_id n id) is (λ j. own_learn c h w.0 id run j u t kind own e)
  where
    go : (b : Bool) → (if b then Some now else current h id) ≡ Some run → (current h id ≡ Some run → OwnLearn h id run.head u t) → OwnLearn (Opens n now ∷ h) id run.head u t
    go true j rest =
        let same : now ≡ run = cc in
        let text : kind_of u ≡ a_text = (w.1.1.texts u t (subst (λ (r : Run). r.notes u ≡ Some t) (sym same) e)).0 in
        absurd (cc)
    go false j rest = learn_later (Opens n now) h id run.head u t (rest j)
own_learn c (Steps n step ∷ h) w id run is u t kind own e = go (same_id n id) refl is (λ j. own_learn c h w.0 id run j u t kind own e) (λ v o f. own_learn c h w.0 n step.before w.1.runs u v kind o f)
  where
    go : (b : Bool) → (same_id n id) ≡ b → (if b then Some step.after else current h id) ≡ Some run → (current h id ≡ Some run → OwnLearn h id run.head u t) → Heard h step.before n u → OwnLearn (Steps n step ∷ h) id run.head u t
    go true q j rest before =
        let same : step.after ≡ run = cc in
        let ids : n ≡ id = same_id_is n id q in
        subst (λ (m : RunId). OwnLearn (Steps n step ∷ h) m run.head u t) ids
        (subst (λ (r : Run). OwnLearn (Steps n step ∷ h) n r.head u t) same
        (heard_step c h w.0 n step w.1 u before t (subst (λ (r : Run). hears r.head.role u (row_of r.head.mech) ≡ true) (sym same) own) (subst (λ (r : Run). r.notes u ≡ Some t) (sym same) e)))
    go false q j rest before = learn_later (Steps n step) h id run.head u t (rest j)
own_learn c (Reveals n ∷ h) w id run is u t kind own e = learn_later (Reveals n) h id run.head u t (own_learn c h w.0 id run is u t kind own e)

judges : (step : Step) (u : Slot) (t : Tree) (head : Head) → kind_of u ≡ a_stamp → step.before.head ≡ head → Learns step u t → Judges step (name_of head (issuer u)) (judged_tag head.role u (row_of head.mech)) t
judges step u t head kind e l = record { slot = u; is_stamp_slot = kind; learns = l; by = ap (λ (x : Head). name_of x (issuer u)) (sym e); under = ap (λ (x : Head). judged_tag x.role u (row_of x.mech)) (sym e) }

pub heard_run : (c : Config) (h : List Happening) → IsTrace c h → (id n : RunId) (run other : Run) → current h id ≡ Some run → current h n ≡ Some other → (u : Slot) (t : Tree) → kind_of u ≡ a_stamp → hears run.head.role u (row_of run.head.mech) ≡ true → hears other.head.role u (row_of other.head.mech) ≡ true → me run.head ≡ me other.head → run.head.mech ≡ other.head.mech → run.head.role ≡ other.head.role → name_of run.head (issuer u) ≡ name_of other.head (issuer u) → run.notes u ≡ Some t → other.notes u ≡ Some t → id ≡ n
heard_run c h w id n run other is js u t kind e f m k l s x y =
    let a = own_learn c h w id run is u t kind e x in
    let b = own_learn c h w n other js u t kind f y in
    let tags : judged_tag other.head.role u (row_of other.head.mech) ≡ judged_tag run.head.role u (row_of run.head.mech) = ap₂ (λ (r : Role) (z : Mech). judged_tag r u (row_of z)) (sym l) (sym k) in
    let theirs : Judges b.step (name_of run.head (issuer u)) (judged_tag run.head.role u (row_of run.head.mech)) t = subst₂ (λ (v : ℕ) (g : Option Bytes). Judges b.step v g t) (sym s) tags (judges b.step u t other.head kind b.head_is b.learns) in
    let one : Steps id a.step ≡ Steps n b.step = one_accept c h w id n a.step b.step (name_of run.head (issuer u)) (judged_tag run.head.role u (row_of run.head.mech)) t a.there b.there (ap me a.head_is ∙ (m ∙ sym (ap me b.head_is))) (judges a.step u t run.head kind a.head_is a.learns) theirs in
    ids_are id n a.step b.step one
  where
    ids_are : (i j : RunId) (v z : Step) → Steps i v ≡ Steps j z → i ≡ j
    ids_are i j v z q = cc
