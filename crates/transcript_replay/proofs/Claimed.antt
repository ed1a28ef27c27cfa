-- A run shows a claim exactly where it has one, as the theory says it.
use Rattle.std.proofs.Common.{◌≡◌, ℕ, Bool, true, false, not, ◌&&◌, ◌||◌, List, [], ◌∷◌, ◌⊎◌, inl, inr, Option, Some, None, if◌then◌else◌, refl, sym, ap, subst, ◌∙◌}
use Rattle.std.specs.Prelude.{is_some}
use Rattle.std.specs.List.{list_any}
use Rattle.term_values.specs.Trees.{Among}
use Rattle.mech_rows.specs.declared.kinds.Slot.{Slot}
use Rattle.mech_rows.specs.Facts.{peer_of}
use Rattle.mech_rows.specs.Heads.{name_of}
use Rattle.mech_rows.specs.Rows.{agreed_of, pairs_of}
use Rattle.agreement_laws.specs.declared.history.Happened.{Happened}
use Rattle.agreement_laws.specs.Configs.{LongTerm, is_of}
use Rattle.agreement_laws.specs.Histories.{HistoryOf}
use Rattle.agreement_laws.specs.Partners.{run_of}
use Rattle.agreement_laws.specs.Sound.{AgreesAt}
use Rattle.agreement_laws.specs.Traces.{RunId}
use Rattle.agreement_laws.specs.Worlds.{trace}
use Rattle.world_run.specs.Claims.{Claims, Tells}
use Rattle.world_run.specs.Views.{WorldView, entries, revealed_names, run_in, shown_of, told_of}
use Rattle.transcript_replay.specs.Completions.{agreeing_with, done_text, has_claim, is_pair_of, is_revealed}
use Rattle.transcript_replay.specs.Printed.{done_line}
use Rattle.transcript_replay.specs.Runs.{IsWorldAfter}
use Rattle.transcript_replay.proofs.Output.{partner_after}

-- no member passes a test that none of the list passes
each_fails : {X : Type 0} (test : X → Bool) (xs : List X) → list_any test xs ≡ false → (x : X) → Among x xs → test x ≡ false
each_fails test [] e x i = absurd i
each_fails test (y ∷ ys) e x i = go (λ f j. each_fails test ys f x j) (test y) refl i
  where
    go : (list_any test ys ≡ false → Among x ys → test x ≡ false) → (b : Bool) → test y ≡ b → (x ≡ y) ⊎ Among x ys → test x ≡ false
    go later true is i = absurd (let never : true ≡ false = subst (λ (b : Bool). (b || list_any test ys) ≡ false) is e in cc)
    go later false is (inl same) = ap test same ∙ is
    go later false is (inr more) = later (subst (λ (b : Bool). (b || list_any test ys) ≡ false) is e) more

-- and the other way round
none_passes : {X : Type 0} (test : X → Bool) (xs : List X) → ((x : X) → Among x xs → test x ≡ false) → list_any test xs ≡ false
none_passes test [] each = refl
none_passes test (y ∷ ys) each = rw (each y (inl refl)) (none_passes test ys (λ x i. each x (inr i)))

-- a revealed pair is named
is_named : (ls : List LongTerm) (l : LongTerm) → Among l ls → l.revealed ≡ true → Among (l.x, l.y) (revealed_names ls)
is_named [] l i r = absurd i
is_named (m ∷ ms) l i r = go (λ j. is_named ms l j r) m.revealed refl i
  where
    go : (Among l ms → Among (l.x, l.y) (revealed_names ms)) → (b : Bool) → m.revealed ≡ b → (l ≡ m) ⊎ Among l ms → Among (l.x, l.y) (revealed_names (m ∷ ms))
    go later true is (inl same) = rw is (inl (ap (λ (k : LongTerm). (k.x, k.y)) same))
    go later true is (inr more) = rw is (inr (later more))
    go later false is (inl same) = absurd (let never : true ≡ false = sym r ∙ (ap (λ (k : LongTerm). k.revealed) same ∙ is) in cc)
    go later false is (inr more) = rw is (later more)

-- a revealed pair of these, of which these are the names
abbrev IsNamedBy : List LongTerm → ℕ × ℕ → Type 0
IsNamedBy ls p = (l : LongTerm) × Among l ls × (l.revealed ≡ true) × (p ≡ (l.x, l.y))

-- names are of a revealed pair
names_one : (ls : List LongTerm) (p : ℕ × ℕ) → Among p (revealed_names ls) → IsNamedBy ls p
names_one [] p i = absurd i
names_one (m ∷ ms) p i = go (λ j. let r = names_one ms p j in (r.0, inr r.1, r.2, r.3)) m.revealed refl
  where
    pick : (Among p (revealed_names ms) → IsNamedBy (m ∷ ms) p) → m.revealed ≡ true → (p ≡ (m.x, m.y)) ⊎ Among p (revealed_names ms) → IsNamedBy (m ∷ ms) p
    pick later is (inl same) = (m, inl refl, is, same)
    pick later is (inr more) = later more

    go : (Among p (revealed_names ms) → IsNamedBy (m ∷ ms) p) → (b : Bool) → m.revealed ≡ b → IsNamedBy (m ∷ ms) p
    go later true is = pick later is (subst (λ (b : Bool). Among p (if b then (m.x, m.y) ∷ revealed_names ms else revealed_names ms)) is i)
    go later false is = later (subst (λ (b : Bool). Among p (if b then (m.x, m.y) ∷ revealed_names ms else revealed_names ms)) is i)

-- where no pair of the row is named as revealed, none is revealed
pub unrevealed_is : {R : Type 0} (name : R → ℕ) (ls : List LongTerm) (ps : List (R × R)) → list_any (λ (r : R × R). list_any (is_pair_of (name r.0) (name r.1)) (revealed_names ls)) ps ≡ false
    → (x y : R) → Among (x, y) ps → (l : LongTerm) → Among l ls → is_of (name x) (name y) l ≡ true → l.revealed ≡ false
unrevealed_is name ls ps e x y i l j of = go l.revealed refl
  where
    inner : list_any (is_pair_of (name x) (name y)) (revealed_names ls) ≡ false
    inner = each_fails (λ r. list_any (is_pair_of (name r.0) (name r.1)) (revealed_names ls)) ps e (x, y) i

    go : (b : Bool) → l.revealed ≡ b → l.revealed ≡ false
    go false is = is
    go true is = absurd (let fails = each_fails (is_pair_of (name x) (name y)) (revealed_names ls) inner (l.x, l.y) (is_named ls l j is) in let never : true ≡ false = sym of ∙ fails in cc)

-- and the other way round
pub revealed_is : {R : Type 0} (name : R → ℕ) (ls : List LongTerm) (ps : List (R × R)) → ((x y : R) → Among (x, y) ps → (l : LongTerm) → Among l ls → is_of (name x) (name y) l ≡ true → l.revealed ≡ false)
    → list_any (λ (r : R × R). list_any (is_pair_of (name r.0) (name r.1)) (revealed_names ls)) ps ≡ false
revealed_is name ls ps u = none_passes (λ r. list_any (is_pair_of (name r.0) (name r.1)) (revealed_names ls)) ps (λ r i. none_passes (is_pair_of (name r.0) (name r.1)) (revealed_names ls) (λ p j. fails r i p (names_one ls p j)))
  where
    fails : (r : _) → Among r ps → (p : ℕ × ℕ) → IsNamedBy ls p → is_pair_of (name r.0) (name r.1) p ≡ false
    fails r i p found = go (is_of (name r.0) (name r.1) found.0) refl
      where
        go : (b : Bool) → is_of (name r.0) (name r.1) found.0 ≡ b → is_pair_of (name r.0) (name r.1) p ≡ false
        go false is = ap (is_pair_of (name r.0) (name r.1)) found.3 ∙ is
        go true is = absurd (let never : true ≡ false = sym found.2 ∙ u r.0 r.1 i found.0 found.1 is in cc)

-- both of these hold
both_hold : {X : Type 0} (o : Option X) (r : Bool) → (is_some o && not r) ≡ true → (x : X) × (o ≡ Some x) × (r ≡ false)
both_hold None r e = absurd cc
both_hold (Some x) true e = absurd cc
both_hold (Some x) false e = (x, refl, refl)

pub claim_is_shown : (w : WorldView) (c : Happened) (slots : List Slot) → Claims w.config c slots → has_claim (told_of w) c.head ≡ true
claim_is_shown w c slots k = rw (k.agreed, revealed_is (name_of c.head) w.config.pairs (pairs_of c.head.mech) k.unrevealed) refl

pub shown_is_claim : (w : WorldView) (c : Happened) → c.done ≡ true → has_claim (told_of w) c.head ≡ true → (slots : List Slot) × Claims w.config c slots
shown_is_claim w c done e =
    let s = both_hold (agreed_of c.head.mech c.head.role) (is_revealed (revealed_names w.config.pairs) c.head) e in
    (s.0, record { done = done; agreed = s.1; unrevealed = unrevealed_is (name_of c.head) w.config.pairs (pairs_of c.head.mech) s.2 })

pub none_is_printed : (w : WorldView) (c : Happened) → c.done ≡ true → has_claim (told_of w) c.head ≡ false → done_text (told_of w) (Some (shown_of c)) ≡ done_line c.run c.head None
none_is_printed w c done e = rw (done, e) refl

printed_line : (w : WorldView) (c : Happened) (n : ℕ) → c.done ≡ true → has_claim (told_of w) c.head ≡ true → agreeing_with (told_of w) (shown_of c) ≡ Some n → done_text (told_of w) (Some (shown_of c)) ≡ done_line c.run c.head (Some (Some n))
printed_line w c n done e p = rw (done, e, p) refl

pub printed_partner : (bytes : List ℕ) (k : ℕ) (w : WorldView) (h : HistoryOf) (c : Happened) → IsWorldAfter bytes k w → Tells h w → Among c h.happened → c.done ≡ true → has_claim (told_of w) c.head ≡ true
    → (n : ℕ) × (done_text (told_of w) (Some (shown_of c)) ≡ done_line c.run c.head (Some (Some n))) × (slots : List Slot) × (agreed_of c.head.mech c.head.role ≡ Some slots) × (id : RunId) × (run_in w.runs n ≡ Some id) × AgreesAt (trace (entries w.acts)) (peer_of c.head.role) slots (run_of c) id
printed_partner bytes k w h c after tells among done e =
    let s = shown_is_claim w c done e in
    let p = partner_after bytes k w h c s.0 after tells among s.1 in
    (p.0, printed_line w c p.0 done e p.1, s.0, s.1.agreed, p.2, p.3, p.4)
