-- Reading items one after the other, as a loop does.
use Rattle.std.proofs.Common.{◌≡◌, ℕ, suc, ◌-◌, ◌+◌, ◌≤◌, ◌<◌, false, eqb, List, [], ◌∷◌, ◌++◌, refl, sym, ap, ◌∙◌, append_assoc, arith}
use Rattle.std.specs.Prelude.{Option, Some, None, Err}
use Rattle.std.proofs.lemmas.Bool.{ne_eqb}
use Rattle.term_values.specs.Trees.{Tree}
use Rattle.script_text.specs.declared.reading.ReadFault.{ReadFault}
use Rattle.script_text.specs.declared.reading.ReadFault.TheVariants.{Memory, Malformed}
use Rattle.script_text.specs.Reading.{◌>>=◌, Read, Reads, State, byte_at, items_at}

-- what was read before, and what is still read
abbrev pub with_front : List Tree → Option (List Tree × State) → Option (List Tree × State)
with_front front read = read >>= λ x. Some (front ++ x.0, x.1)

-- the loop as it stands before the item of number i
pub record Stands (one : State → Option (Tree × State)) (front : List Tree) (i : ℕ) (s : State) (total : Option (List Tree × State)) : Type 0 where
  pub so_far : with_front front (items_at one (32 - i) s) ≡ total

regroup : (front : List Tree) (t : Tree) (read : Option (List Tree × State)) → with_front front (read >>= λ x. Some (t ∷ x.0, x.1)) ≡ with_front (front ++ t ∷ []) read
regroup front t (Some x) = ap (λ (ts : List Tree). Some (ts, x.1)) (sym (append_assoc front (t ∷ []) x.0))
regroup front t None = refl

pub goes_on : (one : State → Option (Tree × State)) (front : List Tree) (i j : ℕ) (s after : State) (rest : List ℕ) (t : Tree) (total : Option (List Tree × State)) → j ≡ suc i → i < 32 → one s ≡ Some (t, after) → byte_at after.rest ≡ Some (44, rest)
    → with_front front (items_at one (32 - i) s) ≡ total → with_front (front ++ t ∷ []) (items_at one (32 - j) (record { rest = rest; marks = after.marks })) ≡ total
unfolding items_at
goes_on one front i j s after rest t total next lt h b so_far =
    let k : 32 - i ≡ suc (32 - j) = omega arith in
    let step : with_front front (items_at one (32 - i) s) ≡ with_front (front ++ t ∷ []) (items_at one (32 - j) (record { rest = rest; marks = after.marks })) = rw (k, h, b) (regroup front t (items_at one (32 - j) (record { rest = rest; marks = after.marks }))) in
    sym step ∙ so_far

pub no_item : (one : State → Option (Tree × State)) (front : List Tree) (i : ℕ) (s : State) (total : Option (List Tree × State)) → i < 32 → one s ≡ None → with_front front (items_at one (32 - i) s) ≡ total → total ≡ None
unfolding items_at
no_item one front i s total lt h so_far =
    let k : 32 - i ≡ suc (32 - (i + 1)) = omega arith in
    let step : with_front front (items_at one (32 - i) s) ≡ None = rw (k, h) refl in
    sym so_far ∙ step

pub no_mark : (one : State → Option (Tree × State)) (front : List Tree) (i : ℕ) (s after : State) (t : Tree) (total : Option (List Tree × State)) → i < 32 → one s ≡ Some (t, after) → byte_at after.rest ≡ None
    → with_front front (items_at one (32 - i) s) ≡ total → total ≡ None
unfolding items_at
no_mark one front i s after t total lt h b so_far =
    let k : 32 - i ≡ suc (32 - (i + 1)) = omega arith in
    let step : with_front front (items_at one (32 - i) s) ≡ None = rw (k, h, b) refl in
    sym so_far ∙ step

pub other_mark : (one : State → Option (Tree × State)) (front : List Tree) (i : ℕ) (s after : State) (rest : List ℕ) (c : ℕ) (t : Tree) (total : Option (List Tree × State)) → i < 32 → one s ≡ Some (t, after) → byte_at after.rest ≡ Some (c, rest) → (c ≡ 41 → ⊥) → (c ≡ 44 → ⊥)
    → with_front front (items_at one (32 - i) s) ≡ total → total ≡ None
unfolding items_at
other_mark one front i s after rest c t total lt h b close comma so_far =
    let k : 32 - i ≡ suc (32 - (i + 1)) = omega arith in
    let p : eqb c 41 ≡ false = ne_eqb c 41 close in
    let q : eqb c 44 ≡ false = ne_eqb c 44 comma in
    let step : with_front front (items_at one (32 - i) s) ≡ None = rw (k, h, b, p, q) refl in
    sym so_far ∙ step

pub closes : (one : State → Option (Tree × State)) (front : List Tree) (i : ℕ) (s after : State) (rest : List ℕ) (t : Tree) (total : Option (List Tree × State)) → i < 32 → one s ≡ Some (t, after) → byte_at after.rest ≡ Some (41, rest)
    → with_front front (items_at one (32 - i) s) ≡ total → total ≡ Some (front ++ t ∷ [], record { rest = rest; marks = after.marks })
unfolding items_at
closes one front i s after rest t total lt h b so_far =
    let k : 32 - i ≡ suc (32 - (i + 1)) = omega arith in
    let step : with_front front (items_at one (32 - i) s) ≡ Some (front ++ t ∷ [], record { rest = rest; marks = after.marks }) = rw (k, h, b) refl in
    sym so_far ∙ step

pub too_many : (one : State → Option (Tree × State)) (front : List Tree) (i : ℕ) (s : State) (total : Option (List Tree × State)) → 32 ≤ i → with_front front (items_at one (32 - i) s) ≡ total → total ≡ None
unfolding items_at
too_many one front i s total le so_far =
    let k : 32 - i ≡ 0 = omega arith in
    let step : with_front front (items_at one (32 - i) s) ≡ None = rw k refl in
    sym so_far ∙ step

pub item_fails : (e : ReadFault) (one : State → Option (Tree × State)) (front : List Tree) (i : ℕ) (s rest : State) (total : Option (List Tree × State)) → i < 32 → Reads {X = Tree} (λ t. t) (Err e) rest (one s)
    → with_front front (items_at one (32 - i) s) ≡ total → Reads {X = List Tree} (λ ts. ts) (Err e) rest total
item_fails Memory one front i s rest total lt h so_far = tt
item_fails Malformed one front i s rest total lt h so_far = no_item one front i s total lt h so_far

pub marked : (m : Read ℕ) (b c : ℕ) (rest : List ℕ) → m ≡ Some (b, rest) → b ≡ c → m ≡ Some (c, rest)
marked m b c rest e same = e ∙ ap (λ (x : ℕ). Some (x, rest)) same
