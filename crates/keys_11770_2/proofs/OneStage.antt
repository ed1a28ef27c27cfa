-- The stage of a run of A in K5.
use Rattle.std.proofs.Common.{rules, ◌≡◌, ◌++◌, ap}
use Rattle.mech_rows.specs.Verdict.{State}
use Rattle.text_hooks.specs.declared.names.Pair.{Pair}
use Rattle.keys_11770_2.specs.declared.k5.FirstText.{FirstText}
use Rattle.keys_11770_2.specs.declared.k5.FirstSent.{FirstSent}
use Rattle.keys_11770_2.specs.declared.k5.SecondTaken.{SecondTaken}
use Rattle.keys_11770_2.specs.declared.k5.StageA.{StageA}
use Rattle.keys_11770_2.specs.declared.k5.StageA.TheVariants.{Start, Sent, Done}
use Rattle.keys_11770_2.specs.K5A.{run, first_text, first_sent, second}

-- a run of a stage with other names
pub same_run : (n m : Pair) (s t : StageA) → n ≡ m → s ≡ t → run n s ≡ run m t
same_run n m s t p q = cc

one_text : (a b : FirstText) → first_text a ≡ first_text b → a ≡ b
one_text a b e = search rules

one_sent : (a b : FirstSent) → first_sent a ≡ first_sent b → a ≡ b
one_sent a b e = search rules

one_taken : (a b : SecondTaken) → first_sent a.sent ++ second a.second ≡ first_sent b.sent ++ second b.second → a ≡ b
one_taken a b e = search rules

-- a run of a state has one stage
pub one_stage : (n m : Pair) (s t : StageA) → run n s ≡ run m t → s ≡ t
one_stage n m (Start a) (Start b) e = ap Start (one_text a b (ap (λ (s : State). s.notes) e))
one_stage n m (Sent a) (Sent b) e = ap Sent (one_sent a b (ap (λ (s : State). s.notes) e))
one_stage n m (Done a) (Done b) e = ap Done (one_taken a b (ap (λ (s : State). s.notes) e))
one_stage n m (Start a) (Sent b) e = let q : (run n (Start a)).next ≡ (run m (Sent b)).next = ap (λ (s : State). s.next) e in absurd cc
one_stage n m (Start a) (Done b) e = let q : (run n (Start a)).next ≡ (run m (Done b)).next = ap (λ (s : State). s.next) e in absurd cc
one_stage n m (Sent a) (Start b) e = let q : (run n (Sent a)).next ≡ (run m (Start b)).next = ap (λ (s : State). s.next) e in absurd cc
one_stage n m (Sent a) (Done b) e = let q : (run n (Sent a)).next ≡ (run m (Done b)).next = ap (λ (s : State). s.next) e in absurd cc
one_stage n m (Done a) (Start b) e = let q : (run n (Done a)).next ≡ (run m (Start b)).next = ap (λ (s : State). s.next) e in absurd cc
one_stage n m (Done a) (Sent b) e = let q : (run n (Done a)).next ≡ (run m (Sent b)).next = ap (λ (s : State). s.next) e in absurd cc
