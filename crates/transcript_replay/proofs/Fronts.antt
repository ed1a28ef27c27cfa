-- Texts that were put, whole or in part.
use Rattle.std.proofs.Common.{◌≡◌, ℕ, zero, suc, ◌+◌, ◌≤◌, List, [], ◌∷◌, ◌++◌, length, take, Option, None, Some, true, false, refl, sym, ap, subst, ◌∙◌, arith, rules, tests}
use Rattle.std.proofs.lemmas.List.{append-nil, length-append, take_all}
use Rattle.std.proofs.KnownBytes.{Appends-nil, Appends-trans}
use Rattle.std.proofs.Math.Seq.{take-append-add}
use Rattle.std.specs.Io.KnownBytes.{Appends, Consumes, IsAtEnd}
use Rattle.transcript_replay.specs.Cuts.{lines_of}
use Rattle.transcript_replay.specs.Runs.{is_over}
use Rattle.transcript_replay.specs.Told.{IsTold, PutsFront}

-- a front of a front is one of the whole
pub take_front : (n : ℕ) (x y : List ℕ) → (m : ℕ) × (take m (x ++ y) ≡ take n x)
take_front zero x y = (0, refl)
take_front (suc n) [] y = (0, refl)
take_front (suc n) (c ∷ x) y = let t = take_front n x y in (suc t.0, ap (λ l. c ∷ l) t.1)

pub front_nothing : (a : Option (List ℕ)) (x : List ℕ) → PutsFront a a x
front_nothing a x = (0, Appends-nil a)

pub front_more : (a b : Option (List ℕ)) (x y : List ℕ) → PutsFront a b x → PutsFront a b (x ++ y)
front_more a b x y p = let t = take_front p.0 x y in (t.0, subst (Appends a b) (sym t.1) p.1)

pub front_then : (a b c : Option (List ℕ)) (x y : List ℕ) → Appends a b x → PutsFront b c y → PutsFront a c (x ++ y)
front_then a b c x y p q = (length x + q.0, subst (Appends a c) (sym (take-append-add x y q.0)) (Appends-trans a b c x (take q.0 y) p q.1))

pub whole_front : (a b : Option (List ℕ)) (x : List ℕ) → Appends a b x → PutsFront a b x
whole_front a b x p = (length x, subst (Appends a b) (sym (take_all (length x) x (omega arith))) p)

pub told_whole : (a b : Option (List ℕ)) (text : List ℕ) → Consumes a b text → IsAtEnd b → IsTold a text
told_whole None b text p q = tt
told_whole (Some all) None text p q = absurd p
told_whole (Some all) (Some rest) text p q = p ∙ ap (λ r. text ++ r) q ∙ append-nil text

-- what is told, or what was read of it
abbrev pub told_or : Option (List ℕ) → List ℕ → List ℕ
told_or None text = text
told_or (Some all) text = all

pub is_told_or : (a : Option (List ℕ)) (text : List ℕ) → IsTold a (told_or a text)
is_told_or None text = tt
is_told_or (Some all) text = refl

pub told_longer : (a b : Option (List ℕ)) (text : List ℕ) → Consumes a b text → length text ≤ length (told_or a text)
told_longer None b text p = omega arith
told_longer (Some all) None text p = absurd p
told_longer (Some all) (Some rest) text p = omega (arith, ap length p, length-append text rest)

-- what was told is what was read, so it is within the limits where that is
pub within_limits : (a : Option (List ℕ)) (text bytes : List ℕ) → IsTold a text → length text ≤ 1_048_576 → length (lines_of text) ≤ 4096 → a ≡ Some bytes → is_over bytes ≡ true → ⊥
within_limits a text bytes told short few is over =
    let same : bytes ≡ text = subst (λ (o : Option (List ℕ)). IsTold o text) is told in
    let no : is_over text ≡ false = search (rules, tests) in
    let also = ap is_over same in
    absurd cc
