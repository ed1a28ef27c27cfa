-- What is said of received stamps, over lists that no verdict can tell apart.
use Rattle.std.proofs.Common.{◌≡◌, ℕ, List, [], ◌∷◌, Option, Some, None, refl, sym, ap₂, subst, inl, inr}
use Rattle.term_values.specs.Trees.{Among}
use Rattle.term_values.specs.declared.small.StampKind.{StampKind}
use Rattle.replay_store.specs.Stamps.{Accepted, stamp_verdict}
use Rattle.replay_store.specs.declared.verdict.Verdict.{Verdict}
use Rattle.replay_store.specs.declared.verdict.Verdict.TheVariants as verdicts
use Rattle.mech_rows.specs.declared.refusal.Refusal.{Refusal}
use Rattle.mech_rows.specs.declared.refusal.Refusal.TheVariants.{Memory}
use Rattle.mech_rows.specs.Runs.{Got}
use Rattle.node_desk.specs.Accepteds.{Alike}
use Rattle.node_desk.specs.Openings.{first_of}
use Rattle.node_desk.specs.Refusals.{refusal_of, stamps_refusal}
use Rattle.node_desk.proofs.Alikes.{alike-verdict}

pub stamps-alike : (w now : ℕ) (xs ys : List Accepted) (kind : StampKind) (got : List Got) → Alike xs ys → stamps_refusal w now xs kind got ≡ stamps_refusal w now ys kind got
stamps-alike w now xs ys kind [] h = refl
stamps-alike w now xs ys kind (g ∷ gs) h =
    ap₂ (λ (v : Verdict) (rest : Option Refusal). first_of (refusal_of g v) rest) (alike-verdict xs ys h w now kind g.sender g.tagged g.stamp) (stamps-alike w now xs ys kind gs h)

no-refusal : (g : Got) (v : Verdict) → refusal_of g v ≡ None → v ≡ verdicts.Fit
no-refusal g verdicts.Fit e = refl
no-refusal g verdicts.WrongStampKind e = absurd (cc)
no-refusal g (verdicts.Early at) e = absurd (cc)
no-refusal g (verdicts.Late at) e = absurd (cc)
no-refusal g verdicts.Repeated e = absurd (cc)
no-refusal g (verdicts.StoreFull count) e = absurd (cc)

first-none : (o other : Option Refusal) → first_of o other ≡ None → (o ≡ None) × (other ≡ None)
first-none None other h = (refl, h)
first-none (Some e) other h = absurd (cc)

-- where nothing is said against them, each is fit
pub each-fit : (w now : ℕ) (accepted : List Accepted) (kind : StampKind) (got : List Got) → stamps_refusal w now accepted kind got ≡ None → (g : Got) → Among g got → stamp_verdict w now accepted kind g.sender g.tagged g.stamp ≡ verdicts.Fit
each-fit w now accepted kind [] e g i = elim i [ ]
each-fit w now accepted kind (k ∷ ks) e g (inl is) =
    subst (λ (x : Got). stamp_verdict w now accepted kind x.sender x.tagged x.stamp ≡ verdicts.Fit) (sym is)
    (no-refusal k (stamp_verdict w now accepted kind k.sender k.tagged k.stamp) (first-none (refusal_of k (stamp_verdict w now accepted kind k.sender k.tagged k.stamp)) _ e).0)
each-fit w now accepted kind (k ∷ ks) e g (inr i) =
    each-fit w now accepted kind ks (first-none (refusal_of k (stamp_verdict w now accepted kind k.sender k.tagged k.stamp)) _ e).1 g i

-- want of memory is never said
not-memory : (g : Got) (v : Verdict) → refusal_of g v ≡ Some Memory → ⊥
not-memory g verdicts.Fit e = cc
not-memory g verdicts.WrongStampKind e = cc
not-memory g (verdicts.Early at) e = cc
not-memory g (verdicts.Late at) e = cc
not-memory g verdicts.Repeated e = cc
not-memory g (verdicts.StoreFull count) e = cc

first-not-memory : (o other : Option Refusal) → (o ≡ Some Memory → ⊥) → (other ≡ Some Memory → ⊥) → first_of o other ≡ Some Memory → ⊥
first-not-memory None other a b e = b e
first-not-memory (Some x) other a b e = a e

pub stamps-not-memory : (w now : ℕ) (accepted : List Accepted) (kind : StampKind) (got : List Got) → stamps_refusal w now accepted kind got ≡ Some Memory → ⊥
stamps-not-memory w now accepted kind [] e = cc
stamps-not-memory w now accepted kind (g ∷ gs) e =
    first-not-memory (refusal_of g (stamp_verdict w now accepted kind g.sender g.tagged g.stamp)) (stamps_refusal w now accepted kind gs) (not-memory g _) (stamps-not-memory w now accepted kind gs) e
