-- What a node needs for an opening or a commit, by tests that compute.
use Rattle.std.proofs.Common.{◌≡◌, ◌≢◌, ◌<◌, ◌≤◌, ◌⊎◌, ℕ, List, [], ◌∷◌, Bool, true, false, not, ◌&&◌, ◌||◌, ◌==◌, if◌then◌else◌, nat_le, nat_lt, is_some, refl, sym, ap, subst, ◌∙◌, inl, inr, Option, Some, None, eqb-true, eq-eqb, leb-true, ltb-true}
use Rattle.std.specs.List.{list_all, list_any}
use Rattle.term_values.specs.Trees.{Among, Bytes}
use Rattle.term_values.specs.declared.small.Stamp.{Stamp}
use Rattle.term_values.specs.declared.small.Stamp.TheVariants.{Time, Seq}
use Rattle.mech_rows.specs.declared.kinds.Role.{Role}
use Rattle.mech_rows.specs.declared.kinds.Role.TheVariants.{A, B, P}
use Rattle.mech_rows.specs.Rows.{has_third, pairs_of}
use Rattle.mech_rows.specs.Heads.{Head, name_of}
use Rattle.mech_rows.specs.Runs.{Got, Step}
use Rattle.mech_rows.specs.Steps.{symbolic, IsStep}
use Rattle.replay_store.specs.declared.verdict.Verdict.{Verdict}
use Rattle.replay_store.specs.declared.verdict.Verdict.TheVariants.{Fit}
use Rattle.replay_store.specs.Stamps.{stamp_verdict}
use Rattle.agreement_laws.specs.Nodes.{Event, Open, Issue, Commit, Drop, Restart, Log, Node, knows, serves, open_among, opens_in, MayOpen, NeedsCommit, WasIssued, WasUsed}
use Rattle.mech_rows.specs.Openings.{uses}
use Rattle.mech_rows.specs.Rings.{keys_in}
use Rattle.term_values.proofs.Lists.{all_among, some_among, any_among, implied, and_left, and_right, not_true}

some_is : {X : Type 0} (o : Option X) → is_some o ≡ true → (x : X) × (o ≡ Some x)
some_is (Some x) e = (x, refl)
some_is None e = absurd (cc)

pub may_open_by : (node : Node) (h : Head) →
    knows node.ring h.a ≡ true → knows node.ring h.b ≡ true → (not (has_third h.mech) || knows node.ring (name_of h P)) ≡ true →
    serves node.ring h.a ≡ false → serves node.ring h.b ≡ false → (not (has_third h.mech) || serves node.ring (name_of h P)) ≡ true →
    (h.a == h.b) ≡ false →
    list_all (λ (q : Role × Role). not (uses h.role q) || is_some (keys_in node.ring (name_of h q.0) (name_of h q.1))) (pairs_of h.mech) ≡ true →
    nat_lt (open_among node.runs (opens_in node.log)) 1024 ≡ true → nat_lt (opens_in node.log) 4_294_967_295 ≡ true → MayOpen node h
may_open_by node h a b p serves_a serves_b serves_p differ keyed few fewer =
    record {
      known = known;
      parties = (serves_a, serves_b);
      server = λ e. implied (has_third h.mech) (serves node.ring (name_of h P)) serves_p e;
      peers = λ e. let f : (h.a == h.b) ≡ true = eq-eqb h.a h.b e in true_false f differ;
      keyed = λ x y i u. some_is (keys_in node.ring (name_of h x) (name_of h y)) (implied (uses h.role (x, y)) (is_some (keys_in node.ring (name_of h x) (name_of h y))) (all_among (λ (q : Role × Role). not (uses h.role q) || is_some (keys_in node.ring (name_of h q.0) (name_of h q.1))) (pairs_of h.mech) keyed (x, y) i) u);
      few_open = ltb-true (open_among node.runs (opens_in node.log)) 1024 few;
      few_opened = ltb-true (opens_in node.log) 4_294_967_295 fewer;
    }
  where
    true_false : {b : Bool} → b ≡ true → b ≡ false → ⊥
    true_false e f = cc

    known : (r : Role) → (r ≡ P → has_third h.mech ≡ true) → knows node.ring (name_of h r) ≡ true
    known A f = a
    known B f = b
    known P f = implied (has_third h.mech) (knows node.ring (name_of h P)) p (f refl)

abbrev pub same_stamp : Stamp → Stamp → Bool
same_stamp (Time n) (Time m) = n == m
same_stamp (Seq n) (Seq m) = n == m
same_stamp _ _ = false

same_stamp_is : (s t : Stamp) → same_stamp s t ≡ true → s ≡ t
same_stamp_is (Time n) (Time m) e = ap Time (eqb-true n m e)
same_stamp_is (Seq n) (Seq m) e = ap Seq (eqb-true n m e)
same_stamp_is (Time n) (Seq m) e = absurd (cc)
same_stamp_is (Seq n) (Time m) e = absurd (cc)

same_stamp_refl : (s : Stamp) → same_stamp s s ≡ true
same_stamp_refl (Time n) = eq-eqb n n refl
same_stamp_refl (Seq n) = eq-eqb n n refl

abbrev pub is_issue : Stamp → Event → Bool
is_issue s (Issue now t) = same_stamp s t
is_issue s _ = false

abbrev pub is_stamp_of : Stamp → Option Stamp → Bool
is_stamp_of s None = false
is_stamp_of s (Some t) = same_stamp s t

abbrev pub is_use : Stamp → Event → Bool
is_use s (Commit run now step) = is_stamp_of s step.issued
is_use s _ = false

was_issued : (s : Stamp) (log : Log) → list_any (is_issue s) log ≡ true → WasIssued s log
was_issued s log e = let f = some_among (is_issue s) log e in go f.0 f.1 f.2
  where
    go : (e : Event) → Among e log → is_issue s e ≡ true → WasIssued s log
    go (Issue now t) i e = (now, subst (λ (x : Stamp). Among (Issue now x) log) (sym (same_stamp_is s t e)) i)
    go (Open run h texts) i e = absurd (cc)
    go (Commit run now step) i e = absurd (cc)
    go (Drop run) i e = absurd (cc)
    go (Restart now last more) i e = absurd (cc)

not_used : (s : Stamp) (log : Log) → list_any (is_use s) log ≡ false → WasUsed s log → ⊥
not_used s log e u = no (any_among (is_use s) log (Commit u.run u.now u.step) u.there (ap (is_stamp_of s) u.issued ∙ same_stamp_refl s))
  where
    no : list_any (is_use s) log ≡ true → ⊥
    no f = let g : true ≡ false = sym f ∙ e in cc

abbrev pub issued_well : Option Stamp → Log → Bool
issued_well None log = true
issued_well (Some s) log = list_any (is_issue s) log && not (list_any (is_use s) log)

issued_by : (o : Option Stamp) (log : Log) → issued_well o log ≡ true → (s : Stamp) → o ≡ Some s → WasIssued s log × (WasUsed s log → ⊥)
issued_by None log e s f = absurd (cc)
issued_by (Some t) log e s f =
    let is : t ≡ s = cc in
    subst (λ (x : Stamp). WasIssued x log × (WasUsed x log → ⊥)) is (
      was_issued t log (and_left (list_any (is_issue t) log) (not (list_any (is_use t) log)) e),
      not_used t log (not_true (list_any (is_use t) log) (and_right (list_any (is_issue t) log) (not (list_any (is_use t) log)) e)),
    )

abbrev pub is_fit : Verdict → Bool
is_fit Fit = true
is_fit _ = false

is_fit_is : (v : Verdict) → is_fit v ≡ true → v ≡ Fit
is_fit_is Fit e = refl
is_fit_is _ e = absurd (cc)

abbrev pub judged : Node → ℕ → Got → Verdict
judged node now g = stamp_verdict node.ring.window now node.accepted node.ring.kind g.sender g.tagged g.stamp

pub commits_by : (node : Node) (run now : ℕ) (step : Step) → nat_le node.now now ≡ true → node.runs run ≡ Some (record { run = step.before; is_open = true }) → IsStep symbolic (keys_in node.ring) step →
    list_all (λ g. is_fit (judged node now g)) step.got ≡ true → issued_well step.issued node.log ≡ true → NeedsCommit symbolic node run now step
commits_by node run now step later stands is fit issued =
    record {
      later = leb-true node.now now later;
      is_open = stands;
      is_step = is;
      fit = λ g i. is_fit_is (judged node now g) (all_among (λ (x : Got). is_fit (judged node now x)) step.got fit g i);
      issued = issued_by step.issued node.log issued;
    }
