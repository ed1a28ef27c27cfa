-- The messages of a walk are those of the table, and keep the limits of spellings.
use Rattle.std.proofs.Common.{◌≡◌, ℕ, ◌+◌, ◌≤◌, true, List, [], ◌∷◌, length, drop, refl, sym, subst, arith}
use Rattle.term_values.specs.Lengths.{length_of}
use Rattle.term_values.specs.Trees.{Tree, depth_of}
use Rattle.term_values.specs.Limits.{Fits}
use Rattle.tagged_codec.specs.Grammar.{IsInLimits}
use Rattle.tagged_codec.proofs.Grammar.{length_of_spelling}
use Rattle.mech_rows.specs.declared.Mech.{Mech}
use Rattle.mech_rows.specs.declared.Mech.TheVariants.{E1, E2, E3, E4, E5, E6, C1, C2, C3, C4, K3, K4, K5, K6, K8, K9}
use Rattle.mech_rows.specs.Rows.{row_of}
use Rattle.authctl.specs.declared.words.Walk.{Walk}
use Rattle.authctl.specs.declared.walk.Fresh.TheVariants.{First, Second, Now}
use Rattle.authctl.specs.Messages.{AreInLimits, challenge_of, checked_of, sealed_of}
use Rattle.authctl.specs.Walks.{walk_messages}
use Rattle.authctl.specs.Words.{IsPlan}

within : (t : Tree) → Fits t → depth_of t ≤ 8 → length_of t ≤ 8192 → IsInLimits t
within t fits levels short = record { fits = fits; levels = levels; length = omega (arith, length_of_spelling t fits, short) }

-- what holds of a walk of that mechanism holds of a walk that has it
known : (Is : Walk → Type 0) (w : Walk) (m : Mech) → w.mech ≡ m → Is (record { mech = m; a = w.a; b = w.b; part = w.part }) → Is w
known Is w m e x = subst Is (λ i. record { mech = sym e i; a = w.a; b = w.b; part = w.part }) x

pub messages_e1 : (w : Walk) → w.mech ≡ E1 → sealed_of w 1 (Now ∷ []) ∷ [] ≡ walk_messages w
messages_e1 x e = known (λ (w : Walk). sealed_of w 1 (Now ∷ []) ∷ [] ≡ walk_messages w) x E1 e refl

pub messages_e2 : (w : Walk) → w.mech ≡ E2 → challenge_of w ∷ sealed_of w 2 (First ∷ []) ∷ [] ≡ walk_messages w
messages_e2 x e = known (λ (w : Walk). challenge_of w ∷ sealed_of w 2 (First ∷ []) ∷ [] ≡ walk_messages w) x E2 e refl

pub messages_e3 : (w : Walk) → w.mech ≡ E3 → sealed_of w 1 (Now ∷ []) ∷ sealed_of w 2 (Now ∷ []) ∷ [] ≡ walk_messages w
messages_e3 x e = known (λ (w : Walk). sealed_of w 1 (Now ∷ []) ∷ sealed_of w 2 (Now ∷ []) ∷ [] ≡ walk_messages w) x E3 e refl

pub messages_e4 : (w : Walk) → w.mech ≡ E4 → challenge_of w ∷ sealed_of w 2 (Second ∷ First ∷ []) ∷ sealed_of w 3 (First ∷ Second ∷ []) ∷ [] ≡ walk_messages w
messages_e4 x e = known (λ (w : Walk). challenge_of w ∷ sealed_of w 2 (Second ∷ First ∷ []) ∷ sealed_of w 3 (First ∷ Second ∷ []) ∷ [] ≡ walk_messages w) x E4 e refl

pub messages_c1 : (w : Walk) → w.mech ≡ C1 → checked_of w 1 (Now ∷ []) (Now ∷ []) ∷ [] ≡ walk_messages w
messages_c1 x e = known (λ (w : Walk). checked_of w 1 (Now ∷ []) (Now ∷ []) ∷ [] ≡ walk_messages w) x C1 e refl

pub messages_c2 : (w : Walk) → w.mech ≡ C2 → challenge_of w ∷ checked_of w 2 [] (First ∷ []) ∷ [] ≡ walk_messages w
messages_c2 x e = known (λ (w : Walk). challenge_of w ∷ checked_of w 2 [] (First ∷ []) ∷ [] ≡ walk_messages w) x C2 e refl

pub messages_c3 : (w : Walk) → w.mech ≡ C3 → checked_of w 1 (Now ∷ []) (Now ∷ []) ∷ checked_of w 2 (Now ∷ []) (Now ∷ []) ∷ [] ≡ walk_messages w
messages_c3 x e = known (λ (w : Walk). checked_of w 1 (Now ∷ []) (Now ∷ []) ∷ checked_of w 2 (Now ∷ []) (Now ∷ []) ∷ [] ≡ walk_messages w) x C3 e refl

pub messages_c4 : (w : Walk) → w.mech ≡ C4 → challenge_of w ∷ checked_of w 2 (Second ∷ []) (Second ∷ First ∷ []) ∷ checked_of w 3 [] (First ∷ Second ∷ []) ∷ [] ≡ walk_messages w
messages_c4 x e = known (λ (w : Walk). challenge_of w ∷ checked_of w 2 (Second ∷ []) (Second ∷ First ∷ []) ∷ checked_of w 3 [] (First ∷ Second ∷ []) ∷ [] ≡ walk_messages w) x C4 e refl

limits_of : (m : Mech) (a b : ℕ) (part : List ℕ) → IsPlan (record { mech = m; a = a; b = b; part = part }) → AreInLimits (walk_messages (record { mech = m; a = a; b = b; part = part }))
limits_of E1 a b part p = (within _ (omega arith, (refl, (omega arith, ((p.part.count, (omega arith, (refl, ((p.a.positive, p.a.fits), ((p.b.positive, p.b.fits), (omega arith, (omega arith, tt))))))), tt)))) (omega arith) (omega arith), tt)
limits_of E2 a b part p = (within _ (omega arith, (refl, (refl, (omega arith, tt)))) (omega arith) (omega arith), (within _ (omega arith, (refl, (omega arith, ((p.part.count, (omega arith, (refl, ((p.a.positive, p.a.fits), ((p.b.positive, p.b.fits), (refl, (omega arith, tt))))))), tt)))) (omega arith) (omega arith), tt))
limits_of E3 a b part p = (within _ (omega arith, (refl, (omega arith, ((p.part.count, (omega arith, (refl, ((p.a.positive, p.a.fits), ((p.b.positive, p.b.fits), (omega arith, (omega arith, tt))))))), tt)))) (omega arith) (omega arith), (within _ (omega arith, (refl, (omega arith, ((p.part.count, (omega arith, (refl, ((p.a.positive, p.a.fits), ((p.b.positive, p.b.fits), (omega arith, (omega arith, tt))))))), tt)))) (omega arith) (omega arith), tt))
limits_of E4 a b part p = (within _ (omega arith, (refl, (refl, (omega arith, tt)))) (omega arith) (omega arith), (within _ (omega arith, (refl, (omega arith, ((p.part.count, (omega arith, (refl, ((p.a.positive, p.a.fits), ((p.b.positive, p.b.fits), (refl, (refl, (omega arith, tt)))))))), tt)))) (omega arith) (omega arith), (within _ (omega arith, (refl, (omega arith, ((p.part.count, (omega arith, (refl, ((p.a.positive, p.a.fits), ((p.b.positive, p.b.fits), (refl, (refl, (omega arith, tt)))))))), tt)))) (omega arith) (omega arith), tt)))
limits_of C1 a b part p = (within _ (omega arith, (refl, (omega arith, (omega arith, (omega arith, ((p.part.count, (omega arith, (refl, ((p.a.positive, p.a.fits), ((p.b.positive, p.b.fits), (omega arith, (omega arith, tt))))))), tt)))))) (omega arith) (omega arith), tt)
limits_of C2 a b part p = (within _ (omega arith, (refl, (refl, (omega arith, tt)))) (omega arith) (omega arith), (within _ (omega arith, (refl, (omega arith, (omega arith, ((p.part.count, (omega arith, (refl, ((p.a.positive, p.a.fits), ((p.b.positive, p.b.fits), (refl, (omega arith, tt))))))), tt))))) (omega arith) (omega arith), tt))
limits_of C3 a b part p = (within _ (omega arith, (refl, (omega arith, (omega arith, (omega arith, ((p.part.count, (omega arith, (refl, ((p.a.positive, p.a.fits), ((p.b.positive, p.b.fits), (omega arith, (omega arith, tt))))))), tt)))))) (omega arith) (omega arith), (within _ (omega arith, (refl, (omega arith, (omega arith, (omega arith, ((p.part.count, (omega arith, (refl, ((p.a.positive, p.a.fits), ((p.b.positive, p.b.fits), (omega arith, (omega arith, tt))))))), tt)))))) (omega arith) (omega arith), tt))
limits_of C4 a b part p = (within _ (omega arith, (refl, (refl, (omega arith, tt)))) (omega arith) (omega arith), (within _ (omega arith, (refl, (refl, (omega arith, (omega arith, ((p.part.count, (omega arith, (refl, ((p.a.positive, p.a.fits), ((p.b.positive, p.b.fits), (refl, (refl, (omega arith, tt)))))))), tt)))))) (omega arith) (omega arith), (within _ (omega arith, (refl, (omega arith, (omega arith, ((p.part.count, (omega arith, (refl, ((p.a.positive, p.a.fits), ((p.b.positive, p.b.fits), (refl, (refl, (omega arith, tt)))))))), tt))))) (omega arith) (omega arith), tt)))
limits_of E5 a b part p = let e = p.offered in absurd cc
limits_of E6 a b part p = let e = p.offered in absurd cc
limits_of K3 a b part p = let e = p.offered in absurd cc
limits_of K4 a b part p = let e = p.offered in absurd cc
limits_of K5 a b part p = let e = p.offered in absurd cc
limits_of K6 a b part p = let e = p.offered in absurd cc
limits_of K8 a b part p = let e = p.offered in absurd cc
limits_of K9 a b part p = let e = p.offered in absurd cc

pub walk_limits : (w : Walk) → IsPlan w → AreInLimits (walk_messages w)
walk_limits w p = limits_of w.mech w.a w.b w.part p

-- as many messages as passes
count_of : (m : Mech) (a b : ℕ) (part : List ℕ) → IsPlan (record { mech = m; a = a; b = b; part = part }) → length (walk_messages (record { mech = m; a = a; b = b; part = part })) ≡ length (row_of m)
count_of E1 a b part p = refl
count_of E2 a b part p = refl
count_of E3 a b part p = refl
count_of E4 a b part p = refl
count_of C1 a b part p = refl
count_of C2 a b part p = refl
count_of C3 a b part p = refl
count_of C4 a b part p = refl
count_of E5 a b part p = refl
count_of E6 a b part p = refl
count_of K3 a b part p = refl
count_of K4 a b part p = refl
count_of K5 a b part p = refl
count_of K6 a b part p = refl
count_of K8 a b part p = refl
count_of K9 a b part p = refl

pub walk_count : (w : Walk) → IsPlan w → length (walk_messages w) ≡ length (row_of w.mech)
walk_count w p = count_of w.mech w.a w.b w.part p
