-- Lists of accepted stamps that no verdict can tell apart stay so, and get the same verdicts.
use Rattle.std.proofs.Common.{◌≡◌, ℕ, max, List, [], ◌∷◌, ◌++◌, length, Bool, true, false, ◌&&◌, ◌||◌, if◌then◌else◌, refl, sym, ap, ◌∙◌, arith}
use Rattle.std.proofs.lemmas.List.Folds.{list_any-append}
use Rattle.std.proofs.lemmas.List.{length-append}
use Rattle.std.proofs.Math.Bool.{or_comm}
use Rattle.term_values.specs.Trees.{Bytes}
use Rattle.term_values.specs.declared.small.Stamp.{Stamp}
use Rattle.term_values.specs.declared.small.Stamp.TheVariants.{Time, Seq}
use Rattle.term_values.specs.declared.small.StampKind.{StampKind}
use Rattle.replay_store.specs.Stamps.{Accepted, is_from, live, with_live, with_time, with_number, live_times, numbers, stands_in, is_empty, greatest, stamp_verdict}
use Rattle.replay_store.proofs.Verdicts.{same_verdict}
use Rattle.node_desk.specs.Accepteds.{Alike}

-- the two lists of a longer list
with_live-append : (b : Bool) (n : ℕ) (ts us : List ℕ) → with_live b n (ts ++ us) ≡ with_live b n ts ++ us
with_live-append true n ts us = refl
with_live-append false n ts us = refl

with_time-append : (w now : ℕ) (x : Stamp) (ts us : List ℕ) → with_time w now x (ts ++ us) ≡ with_time w now x ts ++ us
with_time-append w now (Time n) ts us = with_live-append (live w now n) n ts us
with_time-append w now (Seq n) ts us = refl

with_number-append : (x : Stamp) (ts us : List ℕ) → with_number x (ts ++ us) ≡ with_number x ts ++ us
with_number-append (Time n) ts us = refl
with_number-append (Seq n) ts us = refl

if-append : (b : Bool) (xs ys us : List ℕ) → (if b then xs ++ us else ys ++ us) ≡ (if b then xs else ys) ++ us
if-append true xs ys us = refl
if-append false xs ys us = refl

live_times-append : (w now s : ℕ) (t : Bytes) (xs ys : List Accepted) → live_times w now s t (xs ++ ys) ≡ live_times w now s t xs ++ live_times w now s t ys
live_times-append w now s t [] ys = refl
live_times-append w now s t (a ∷ xs) ys =
    let all = live_times-append w now s t xs ys in
    ap (λ (l : List ℕ). if is_from s t a then with_time w now a.stamp l else l) all
    ∙ (ap (λ (l : List ℕ). if is_from s t a then l else live_times w now s t xs ++ live_times w now s t ys) (with_time-append w now a.stamp (live_times w now s t xs) (live_times w now s t ys))
    ∙ if-append (is_from s t a) (with_time w now a.stamp (live_times w now s t xs)) (live_times w now s t xs) (live_times w now s t ys))

numbers-append : (s : ℕ) (t : Bytes) (xs ys : List Accepted) → numbers s t (xs ++ ys) ≡ numbers s t xs ++ numbers s t ys
numbers-append s t [] ys = refl
numbers-append s t (a ∷ xs) ys =
    let all = numbers-append s t xs ys in
    ap (λ (l : List ℕ). if is_from s t a then with_number a.stamp l else l) all
    ∙ (ap (λ (l : List ℕ). if is_from s t a then l else numbers s t xs ++ numbers s t ys) (with_number-append a.stamp (numbers s t xs) (numbers s t ys))
    ∙ if-append (is_from s t a) (with_number a.stamp (numbers s t xs)) (numbers s t xs) (numbers s t ys))

-- what is said of two lists is said of them in the other order
stands-swap : (n : ℕ) (xs ys : List ℕ) → stands_in n (xs ++ ys) ≡ stands_in n (ys ++ xs)
stands-swap n xs ys = list_any-append _ xs ys ∙ (or_comm (stands_in n xs) (stands_in n ys) ∙ sym (list_any-append _ ys xs))

length-swap : (xs ys : List ℕ) → length (xs ++ ys) ≡ length (ys ++ xs)
length-swap xs ys = let one = length-append xs ys in let other = length-append ys xs in omega (arith, one, other)

greatest-append : (xs ys : List ℕ) → greatest (xs ++ ys) ≡ max (greatest xs) (greatest ys)
greatest-append [] ys = omega arith
greatest-append (x ∷ xs) ys = let all = greatest-append xs ys in omega (arith, all)

greatest-swap : (xs ys : List ℕ) → greatest (xs ++ ys) ≡ greatest (ys ++ xs)
greatest-swap xs ys = let one = greatest-append xs ys in let other = greatest-append ys xs in omega (arith, one, other)

is_empty-append : (xs ys : List ℕ) → is_empty (xs ++ ys) ≡ (is_empty xs && is_empty ys)
is_empty-append [] ys = refl
is_empty-append (x ∷ xs) ys = refl

and-swap : (a b : Bool) → (a && b) ≡ (b && a)
and-swap true true = refl
and-swap true false = refl
and-swap false true = refl
and-swap false false = refl

is_empty-swap : (xs ys : List ℕ) → is_empty (xs ++ ys) ≡ is_empty (ys ++ xs)
is_empty-swap xs ys = is_empty-append xs ys ∙ (and-swap (is_empty xs) (is_empty ys) ∙ sym (is_empty-append ys xs))

pub alike-refl : (xs : List Accepted) → Alike xs xs
alike-refl xs = record { times = λ w now s t n. refl; counts = λ w now s t. refl; seqs = λ s t n. refl; some = λ s t. refl; most = λ s t. refl }

-- what is accepted besides may stand behind in the one, and in front in the other
pub alike-more : (xs ys more : List Accepted) → Alike xs ys → Alike (xs ++ more) (more ++ ys)
alike-more xs ys more h =
    record {
      times = λ w now s t n.
          let f = live_times w now s t in
          ap (stands_in n) (live_times-append w now s t xs more)
          ∙ (list_any-append _ (f xs) (f more)
          ∙ (ap (λ (b : Bool). b || stands_in n (f more)) (h.times w now s t n)
          ∙ (sym (list_any-append _ (f ys) (f more))
          ∙ (stands-swap n (f ys) (f more)
          ∙ ap (stands_in n) (sym (live_times-append w now s t more ys))))));
      counts = λ w now s t.
          let f = live_times w now s t in
          let one = ap length (live_times-append w now s t xs more) ∙ length-append (f xs) (f more) in
          let other = ap length (live_times-append w now s t more ys) ∙ length-append (f more) (f ys) in
          let same = h.counts w now s t in
          omega (arith, one, other, same);
      seqs = λ s t n.
          let f = numbers s t in
          ap (stands_in n) (numbers-append s t xs more)
          ∙ (list_any-append _ (f xs) (f more)
          ∙ (ap (λ (b : Bool). b || stands_in n (f more)) (h.seqs s t n)
          ∙ (sym (list_any-append _ (f ys) (f more))
          ∙ (stands-swap n (f ys) (f more)
          ∙ ap (stands_in n) (sym (numbers-append s t more ys))))));
      some = λ s t.
          let f = numbers s t in
          ap is_empty (numbers-append s t xs more)
          ∙ (is_empty-append (f xs) (f more)
          ∙ (ap (λ (b : Bool). b && is_empty (f more)) (h.some s t)
          ∙ (sym (is_empty-append (f ys) (f more))
          ∙ (is_empty-swap (f ys) (f more)
          ∙ ap is_empty (sym (numbers-append s t more ys))))));
      most = λ s t.
          let f = numbers s t in
          ap greatest (numbers-append s t xs more)
          ∙ (greatest-append (f xs) (f more)
          ∙ (ap (λ (n : ℕ). max n (greatest (f more))) (h.most s t)
          ∙ (sym (greatest-append (f ys) (f more))
          ∙ (greatest-swap (f ys) (f more)
          ∙ ap greatest (sym (numbers-append s t more ys))))));
    }

-- no verdict can tell them apart
pub alike-verdict : (xs ys : List Accepted) → Alike xs ys → (w now : ℕ) (kind : StampKind) (s : ℕ) (t : Bytes) (x : Stamp) → stamp_verdict w now xs kind s t x ≡ stamp_verdict w now ys kind s t x
alike-verdict xs ys h w now kind s t x =
    same_verdict w now xs ys kind s t x (record {
      times = h.times w now s t;
      count = h.counts w now s t;
      some = h.some s t;
      most = h.most s t;
      window = λ n l. h.seqs s t n;
    })
