-- What the scans find is what stands in the lists of live times and of numbers.
use Rattle.std.proofs.Common.{◌≡◌, ℕ, ◌+◌, ◌<◌, ◌≤◌, Bool, true, false, List, [], ◌∷◌, length, drop, get_or, ◌==◌, ◌&&◌, ◌||◌, if◌then◌else◌, cond, refl, ◌∙◌, ap, arith, max, nat_eq, count_by, Option, Some, None}
use Rattle.std.specs.List.{list_any}
use Rattle.std.specs.Cmp.Lexicographic.{pointwise}
use Rattle.std.proofs.lemmas.List.{at_drop_more, at_drop_all}
use Rattle.std.proofs.lemmas.List.Sums.{sum_by-cons}
use Rattle.term_values.specs.Trees.{Bytes}
use Rattle.term_values.specs.SameBytes.{same_bytes}
use Rattle.term_values.specs.declared.small.Stamp.{Stamp}
use Rattle.term_values.specs.declared.small.Stamp.TheVariants.{Time, Seq}
use Rattle.replay_store.specs.Stamps.{Accepted, is_from, live, with_live, with_time, with_number, live_times, numbers, stands_in, greatest, number_verdict}
use Rattle.replay_store.specs.Stores.{is_live_at, is_live_of, is_number_at, is_live_time, is_time, is_number, number_from, greater, greatest_after, greatest_number, number_answer}

pub pointwise_is : (xs ys : Bytes) → pointwise nat_eq xs ys ≡ same_bytes xs ys
pointwise_is [] [] = refl
pointwise_is [] (y ∷ ys) = refl
pointwise_is (x ∷ xs) [] = refl
pointwise_is (x ∷ xs) (y ∷ ys) = ap (λ r. (x == y) && r) (pointwise_is xs ys)

or_nothing : (a r q : Bool) → r ≡ q → ((a && false) || r) ≡ q
or_nothing true r q h = h
or_nothing false r q h = h

or_that : (a r q : Bool) → r ≡ q → ((a && true) || r) ≡ (a || q)
or_that true r q h = refl
or_that false r q h = h

-- one more stamp, by whose it is and whether it is live
live_step : (b c : Bool) (n t : ℕ) (ts : List ℕ) (r : Bool) → r ≡ stands_in t ts → (((b && (n == t)) && c) || r) ≡ stands_in t (if b then with_live c n ts else ts)
live_step true true n t ts r h = or_that (n == t) r (stands_in t ts) h
live_step true false n t ts r h = or_nothing (n == t) r (stands_in t ts) h
live_step false c n t ts r h = h

no_time_step : (b : Bool) (n t : ℕ) (ts : List ℕ) (r : Bool) → r ≡ stands_in t ts → (((b && false) && false) || r) ≡ stands_in t (if b then ts else ts)
no_time_step true n t ts r h = h
no_time_step false n t ts r h = h

any_live_step : (w now t : ℕ) (b : Bool) (x : Stamp) (ts : List ℕ) (r : Bool) → r ≡ stands_in t ts → (((b && is_time t x) && is_live_time w now x) || r) ≡ stands_in t (if b then with_time w now x ts else ts)
any_live_step w now t b (Time n) ts r h = live_step b (live w now n) n t ts r h
any_live_step w now t b (Seq n) ts r h = no_time_step b n t ts r h

pub any_live : (w now s : ℕ) (g : Bytes) (t : ℕ) (acc : List Accepted) → list_any (λ a. is_live_at w now s g t a) acc ≡ stands_in t (live_times w now s g acc)
any_live w now s g t [] = refl
any_live w now s g t (a ∷ more) = any_live_step w now t (is_from s g a) a.stamp (live_times w now s g more) _ (any_live w now s g t more)

any_number_step : (n : ℕ) (b : Bool) (x : Stamp) (ns : List ℕ) (r : Bool) → r ≡ stands_in n ns → ((b && is_number n x) || r) ≡ stands_in n (if b then with_number x ns else ns)
any_number_step n true (Time m) ns r h = h
any_number_step n true (Seq m) ns r h = ap (λ q. (m == n) || q) h
any_number_step n false x ns r h = h

pub any_number : (s : ℕ) (g : Bytes) (n : ℕ) (acc : List Accepted) → list_any (λ a. is_number_at s g n a) acc ≡ stands_in n (numbers s g acc)
any_number s g n [] = refl
any_number s g n (a ∷ more) = any_number_step n (is_from s g a) a.stamp (numbers s g more) _ (any_number s g n more)

pub number_verdict_is : (ns : List ℕ) (s : ℕ) → number_verdict ns s ≡ number_answer (greatest_number ns) s (stands_in s ns)
number_verdict_is [] s = refl
number_verdict_is (n ∷ ns) s = refl

first_greater : (most : Option ℕ) (n : ℕ) (ns : List ℕ) → greater most (Some (max n (greatest ns))) ≡ greater (greater most (Some n)) (greatest_number ns)
first_greater None n [] = ap Some (let e : max n 0 ≡ n = omega arith in e)
first_greater None n (m ∷ ns) = refl
first_greater (Some a) n [] = ap Some (let e : max a (max n 0) ≡ max a n = omega arith in e)
first_greater (Some a) n (m ∷ ns) = ap Some (let k = greatest (m ∷ ns) in let e : max a (max n k) ≡ max (max a n) k = omega arith in e)

greatest_step : (b : Bool) (most : Option ℕ) (x : Stamp) (ns : List ℕ) → greater most (greatest_number (if b then with_number x ns else ns)) ≡ greater (if b then greater most (number_from x) else most) (greatest_number ns)
greatest_step true None (Time n) ns = refl
greatest_step true (Some a) (Time n) ns = refl
greatest_step true most (Seq n) ns = first_greater most n ns
greatest_step false most x ns = refl

pub greatest_more : (s : ℕ) (g : Bytes) (most : Option ℕ) (xs : List Accepted) (i : ℕ) (d : Accepted) → i < length xs → greater most (greatest_number (numbers s g (drop i xs))) ≡ greater (greatest_after s g most (get_or xs i d)) (greatest_number (numbers s g (drop (i + 1) xs)))
greatest_more s g most xs i d h =
    at_drop_more (λ ys. greater most (greatest_number (numbers s g ys))) xs i d h
    ∙ greatest_step (is_from s g (get_or xs i d)) most (get_or xs i d).stamp (numbers s g (drop (i + 1) xs))

pub greatest_end : (s : ℕ) (g : Bytes) (most : Option ℕ) (xs : List Accepted) (i : ℕ) → length xs ≤ i → greater most (greatest_number (numbers s g (drop i xs))) ≡ most
greatest_end s g most xs i h = at_drop_all (λ ys. greater most (greatest_number (numbers s g ys))) xs i h ∙ alone most
  where
    alone : (most : Option ℕ) → greater most None ≡ most
    alone None = refl
    alone (Some a) = refl

count_step : (w now : ℕ) (b : Bool) (x : Stamp) (ts : List ℕ) → cond (b && is_live_time w now x) 1 0 + length ts ≡ length (if b then with_time w now x ts else ts)
count_step w now true (Time n) ts = by_life (live w now n)
  where
    by_life : (c : Bool) → cond c 1 0 + length ts ≡ length (with_live c n ts)
    by_life true = omega arith
    by_life false = omega arith
count_step w now true (Seq n) ts = omega arith
count_step w now false x ts = omega arith

pub count_live : (w now s : ℕ) (g : Bytes) (acc : List Accepted) → count_by (λ a. is_live_of w now s g a) acc ≡ length (live_times w now s g acc)
count_live w now s g [] = refl
count_live w now s g (a ∷ more) =
    sum_by-cons (λ x. cond (is_live_of w now s g x) 1 0) a more
    ∙ ap (λ n. cond (is_live_of w now s g a) 1 0 + n) (count_live w now s g more)
    ∙ count_step w now (is_from s g a) a.stamp (live_times w now s g more)
