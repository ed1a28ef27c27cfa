-- Reading items one after the other, as a loop does.
use Rattle.std.proofs.Common.{◌≡◌, ℕ, suc, ◌-◌, ◌+◌, ◌≤◌, ◌<◌, List, [], ◌∷◌, ◌++◌, refl, sym, ap, ◌∙◌, append_assoc, arith}
use Rattle.std.specs.Prelude.{Ok, Err}
use Rattle.std.proofs.lemmas.List.{append-nil}
use Rattle.term_values.specs.Trees.{Tree}
use Rattle.tagged_codec.specs.declared.reading.ReadFault.{ReadFault}
use Rattle.tagged_codec.specs.declared.reading.ReadFault.TheVariants.{Memory, Malformed}
use Rattle.tagged_codec.specs.Reading.{◌>>=◌, Read, Reads, Stop, items_at}

-- what was read before, and what is still read
abbrev pub with_front : List Tree → Read (List Tree) → Read (List Tree)
with_front front read = read >>= λ x. Ok (front ++ x.0, x.1)

regroup : (front : List Tree) (t : Tree) (read : Read (List Tree)) → with_front front (read >>= λ x. Ok (t ∷ x.0, x.1)) ≡ with_front (front ++ t ∷ []) read
regroup front t (Ok x) = ap (λ (ts : List Tree). Ok (ts, x.1)) (sym (append_assoc front (t ∷ []) x.0))
regroup front t (Err e) = refl

pub goes_on : (one : List ℕ → Read Tree) (front : List Tree) (count i j : ℕ) (bytes after : List ℕ) (t : Tree) (total : Read (List Tree)) → j ≡ suc i → i < count → one bytes ≡ Ok (t, after)
    → with_front front (items_at one (count - i) bytes) ≡ total → with_front (front ++ t ∷ []) (items_at one (count - j) after) ≡ total
unfolding items_at
goes_on one front count i j bytes after t total next lt h so_far =
    let k : count - i ≡ suc (count - j) = omega arith in
    let step : with_front front (items_at one (count - i) bytes) ≡ with_front (front ++ t ∷ []) (items_at one (count - j) after) = rw (k, h) (regroup front t (items_at one (count - j) after)) in
    sym step ∙ so_far

pub ends : (one : List ℕ → Read Tree) (front : List Tree) (count i : ℕ) (bytes : List ℕ) (stop : Stop) (total : Read (List Tree)) → i < count → one bytes ≡ Err stop → with_front front (items_at one (count - i) bytes) ≡ total → total ≡ Err stop
unfolding items_at
ends one front count i bytes stop total lt h so_far =
    let k : count - i ≡ suc (count - (i + 1)) = omega arith in
    let step : with_front front (items_at one (count - i) bytes) ≡ Err stop = rw (k, h) refl in
    sym so_far ∙ step

pub is_done : (one : List ℕ → Read Tree) (front : List Tree) (count i : ℕ) (bytes : List ℕ) (total : Read (List Tree)) → count ≤ i → with_front front (items_at one (count - i) bytes) ≡ total → total ≡ Ok (front, bytes)
unfolding items_at
is_done one front count i bytes total le so_far =
    let k : count - i ≡ 0 = omega arith in
    let step : with_front front (items_at one (count - i) bytes) ≡ Ok (front, bytes) = rw k (ap (λ (ts : List Tree). Ok (ts, bytes)) (append-nil front)) in
    sym so_far ∙ step

pub fails : (e : ReadFault) (one : List ℕ → Read Tree) (front : List Tree) (count i : ℕ) (bytes rest : List ℕ) (total : Read (List Tree)) → i < count → Reads {X = Tree} (λ t. t) (Err e) rest (one bytes)
    → with_front front (items_at one (count - i) bytes) ≡ total → Reads {X = List Tree} (λ ts. ts) (Err e) rest total
fails Memory one front count i bytes rest total lt h so_far = tt
fails (Malformed reason) one front count i bytes rest total lt h so_far = ends one front count i bytes (reason, rest) total lt h so_far
