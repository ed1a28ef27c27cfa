-- What has been written, and what whatever comes makes of it.
use Rattle.std.proofs.Common.{◌≡◌, ◌⊎◌, inl, inr, ℕ, Bool, true, false, ◌+◌, List, [], ◌∷◌, ◌++◌, take, Option, Ok, Err, refl, sym, subst, append_assoc}
use Rattle.std.proofs.KnownBytes.{Appends-nil, Appends-trans}
use Rattle.std.specs.Io.KnownBytes.{Appends}
use Rattle.transcript_replay.specs.declared.stop.LineFault.{LineFault}
use Rattle.transcript_replay.specs.declared.stop.LineFault.TheVariants as fault
use Rattle.transcript_replay.specs.declared.stop.Stop.{Stop}
use Rattle.transcript_replay.specs.declared.stop.Stop.TheVariants.{Bad, Failed, Memory}
use Rattle.transcript_replay.specs.Cuts.{lines_of}
use Rattle.transcript_replay.specs.Ends.{FaultEnds, IsBadBy, LineEnds, StopEnds, end_of}
use Rattle.transcript_replay.specs.Players.{Player, fresh}
use Rattle.transcript_replay.specs.Printed.{bad_line}
use Rattle.transcript_replay.specs.Runs.{End, Whole, Front, IsOutput, Runs, is_over}

-- a text was put, and whatever these lines print completes it to what all lines print
pub record SoFar (old new : Option (List ℕ)) (first : ℕ) (start : Player) (k : ℕ) (p : Player) (rest all : List (List ℕ)) : Type 0 where
  pub text : List ℕ
  pub put : Appends old new text
  pub then : (end : End) (more : List ℕ) → Runs k p rest end more → Runs first start all end (text ++ more)

-- an end of the script, with the text that was put
abbrev pub Ended : Option (List ℕ) → Option (List ℕ) → ℕ → Player → List (List ℕ) → End → Type 0
Ended old new first start all end = (written : List ℕ) × Runs first start all end written × Appends old new written

pub so_far_start : (a : Option (List ℕ)) (k : ℕ) (p : Player) (all : List (List ℕ)) → SoFar a a k p k p all all
so_far_start a k p all = record { text = []; put = Appends-nil a; then = λ end more r. r }

-- what was written of a line without an answer
pub fault_ends : (stop : Stop) (why : LineFault) (k : ℕ) (p : Player) (l : List ℕ) (a b : Option (List ℕ)) → IsBadBy p l why → FaultEnds stop why k a b → StopEnds stop k p l a b
fault_ends Bad (fault.Bad r) k p l a b bad e = (r, bad, e)
fault_ends Failed (fault.Bad r) k p l a b bad e = (take e.0 (bad_line k r), inr (inr (r, e.0, bad, refl)), e.1)
fault_ends Memory (fault.Bad r) k p l a b bad e = (take e.0 (bad_line k r), inr (inr (r, e.0, bad, refl)), e.1)
fault_ends Memory fault.Memory k p l a b bad e = ([], inl refl, subst (λ z. Appends a z []) (sym e) (Appends-nil a))
fault_ends Bad fault.Memory k p l a b bad e = absurd e
fault_ends Failed fault.Memory k p l a b bad e = absurd e

module _ (a b c : Option (List ℕ)) (first : ℕ) (start : Player) (k : ℕ) (p : Player) (all : List (List ℕ)) where
  -- whatever comes is written
  pub so_far_end : (rest : List (List ℕ)) (end : End) (more : List ℕ) → SoFar a b first start k p rest all → Runs k p rest end more → Appends b c more → Ended a c first start all end
  so_far_end rest end more so r q = (so.text ++ more, so.then end more r, Appends-trans a b c so.text more so.put q)

  -- a line that isn't bad
  pub line_next : (l : List ℕ) (ls : List (List ℕ)) (q : Player) → SoFar a b first start k p (l ∷ ls) all → LineEnds (Ok tt) k p l q b c → SoFar a c first start (k + 1) q ls all
  line_next l ls q so e = record {
    text = so.text ++ e.0;
    put = Appends-trans a b c so.text e.0 so.put e.2;
    then = λ end more r. subst (Runs first start all end) (sym (append_assoc so.text e.0 more)) (so.then end (e.0 ++ more) (inl (q, e.0, more, e.1, r, refl)));
  }

  -- a line at which the script stops
  pub line_stop : (stop : Stop) (l : List ℕ) (ls : List (List ℕ)) → SoFar a b first start k p (l ∷ ls) all → StopEnds stop k p l b c → Ended a c first start all (end_of (Err stop))
  line_stop Bad l ls so e = so_far_end (l ∷ ls) (Whole 5) (bad_line k e.0) so (inr (e.0, e.1, refl, refl)) e.2
  line_stop Failed l ls so e = so_far_end (l ∷ ls) Front e.0 so (inr e.1) e.2
  line_stop Memory l ls so e = so_far_end (l ∷ ls) Front e.0 so (inr e.1) e.2

-- after the last line
pub last_end : (a b : Option (List ℕ)) (first : ℕ) (start : Player) (k : ℕ) (p : Player) (all : List (List ℕ)) → SoFar a b first start k p [] all → Ended a b first start all (Whole 0)
last_end a b first start k p all so = so_far_end a b b first start k p all [] (Whole 0) [] so (refl, refl) (Appends-nil b)

nothing_of : (k : ℕ) (p : Player) (ls : List (List ℕ)) → Runs k p ls Front []
nothing_of k p [] = refl
nothing_of k p (l ∷ ls) = inr (inl refl)

-- memory was wanting before anything was written
pub memory_end : (a : Option (List ℕ)) (k : ℕ) (p : Player) (ls : List (List ℕ)) (stop : Stop) → stop ≡ Memory → Ended a a k p ls (end_of (Err stop))
memory_end a k p ls stop e = subst (λ (s : Stop). Ended a a k p ls (end_of (Err s))) (sym e) ([], nothing_of k p ls, Appends-nil a)

-- nothing is a front of each output
pub nothing_yet : (bytes : List ℕ) → IsOutput bytes Front []
nothing_yet bytes =
    let nil : List ℕ = [] in
    elim (is_over bytes) as (λ (b : Bool). ((b ≡ true) × (nil ≡ nil)) ⊎ ((b ≡ false) × Runs 1 fresh (lines_of bytes) Front nil)) [ true ↦ inl (refl, refl) | false ↦ inr (refl, nothing_of 1 fresh (lines_of bytes)) ]
