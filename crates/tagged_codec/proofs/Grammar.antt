-- How long spellings are, and writing items one after the other.
use Rattle.std.proofs.Common.{◌≡◌, ℕ, zero, suc, ◌<◌, ◌≤◌, List, [], ◌∷◌, ◌++◌, length, drop, get_or, refl, sym, ap, subst, ◌∙◌, append_assoc, arith, length-append}
use Rattle.std.specs.Prelude.{OnOk, Result, Ok, Err}
use Rattle.term_values.specs.declared.Key.{Key}
use Rattle.term_values.specs.declared.Key.TheVariants.{One, Two}
use Rattle.term_values.specs.declared.Stamp.{Stamp}
use Rattle.term_values.specs.declared.Stamp.TheVariants.{Time, Seq}
use Rattle.term_values.specs.Trees.{Tree, name, stamp, nonce, part, text, tag, blob, tuple, seal, check, Trees, none, item, trees}
use Rattle.term_values.specs.Lengths.{length_of, length_of_key, lengths_of}
use Rattle.term_values.specs.Limits.{AllFit, Fits, IsKey}
use Rattle.tagged_codec.specs.Grammar.{key_spelling, spelling, spellings, stamp_spelling}

length_of_key_spelling : (key : Key) → IsKey key → length (key_spelling key) ≡ length_of_key key
length_of_key_spelling (One p) h = omega arith
length_of_key_spelling (Two p q) h = omega (arith, length-append p q)

stamp_length : (s : Stamp) → length (stamp_spelling s) ≡ 9
stamp_length (Time ms) = refl
stamp_length (Seq n) = refl

mutual
  pub length_of_spelling : (t : Tree) → Fits t → length (spelling t) ≡ length_of t
  length_of_spelling (name n) h = refl
  length_of_spelling (stamp s) h = stamp_length s
  length_of_spelling (nonce b) h = omega arith
  length_of_spelling (part b) h = omega arith
  length_of_spelling (text b) h = omega arith
  length_of_spelling (tag b) h = omega arith
  length_of_spelling (blob b) h = omega arith
  length_of_spelling (tuple ts) h = omega (arith, length_of_spellings ts h.1)
  length_of_spelling (seal k t) h = omega (arith, length-append (key_spelling k) (spelling t), length_of_key_spelling k h.0, length_of_spelling t h.1)
  length_of_spelling (check k t) h = omega (arith, length-append (key_spelling k) (spelling t), length_of_key_spelling k h.0, length_of_spelling t h.1)

  length_of_spellings : (ts : Trees) → AllFit ts → length (spellings ts) ≡ lengths_of ts
  length_of_spellings none h = refl
  length_of_spellings (item t ts) h = omega (arith, length-append (spelling t) (spellings ts), length_of_spelling t h.0, length_of_spellings ts h.1)

-- ---- a loop over items

pub spellings_from : (ts : List Tree) (k : ℕ) (x : Tree) → k < length ts → x ≡ get_or ts k x → spellings (trees (drop k ts)) ≡ spelling x ++ spellings (trees (drop (suc k) ts))
spellings_from [] k x lt e = absurd (omega arith)
spellings_from (t ∷ ts) zero x lt e = ap (λ (u : Tree). spelling u ++ spellings (trees ts)) (sym e)
spellings_from (t ∷ ts) (suc k) x lt e = spellings_from ts k x (omega arith) e

pub fit_from : (ts : List Tree) (k : ℕ) (x : Tree) → k < length ts → x ≡ get_or ts k x → AllFit (trees (drop k ts)) → Fits x × AllFit (trees (drop (suc k) ts))
fit_from [] k x lt e h = absurd (omega arith)
fit_from (t ∷ ts) zero x lt e h = (subst Fits (sym e) h.0, h.1)
fit_from (t ∷ ts) (suc k) x lt e h = fit_from ts k x (omega arith) e h

pub fit_up_to : (ts : List Tree) (k : ℕ) (x : Tree) → k < length ts → x ≡ get_or ts k x → Fits x → AllFit (trees (drop (suc k) ts)) → AllFit (trees (drop k ts))
fit_up_to [] k x lt e f h = absurd (omega arith)
fit_up_to (t ∷ ts) zero x lt e f h = (subst Fits e f, h)
fit_up_to (t ∷ ts) (suc k) x lt e f h = fit_up_to ts k x (omega arith) e f h

pub none_fit : (ts : List Tree) (k : ℕ) → length ts ≤ k → AllFit (trees (drop k ts))
none_fit [] zero le = tt
none_fit [] (suc k) le = tt
none_fit (t ∷ ts) zero le = absurd (omega arith)
none_fit (t ∷ ts) (suc k) le = none_fit ts k (omega arith)

pub none_spelled : (ts : List Tree) (k : ℕ) → length ts ≤ k → spellings (trees (drop k ts)) ≡ []
none_spelled [] zero le = refl
none_spelled [] (suc k) le = refl
none_spelled (t ∷ ts) zero le = absurd (omega arith)
none_spelled (t ∷ ts) (suc k) le = none_spelled ts k (omega arith)

pub on_ok : {T E : Type 0} (r : Result T E) (P Q : Type 0) → (P → Q) → OnOk r P → OnOk r Q
on_ok (Ok x) P Q f h = f h
on_ok (Err e) P Q f h = tt

pub after_count : (old out new all : List ℕ) (n m : ℕ) → n ≡ m → out ≡ old ++ 0x08 ∷ n ∷ [] → new ≡ out ++ all → new ≡ old ++ 0x08 ∷ m ∷ all
after_count old out new all n m same counted e =
    e ∙ ap (λ (l : List ℕ). l ++ all) counted ∙ append_assoc old (0x08 ∷ n ∷ []) all ∙ ap (λ (k : ℕ). old ++ 0x08 ∷ k ∷ all) same
