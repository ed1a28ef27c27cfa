-- Keys in rising order: what stands on both sides of a key, one more key, and the keys that are left.
use Rattle.std.proofs.Common.{◌≡◌, ◌⊎◌, ◌<◌, ◌≤◌, ℕ, ◌+◌, ◌%◌, ◌^◌, Bool, true, false, List, [], ◌∷◌, ◌++◌, length, nat_lt, nat_le, cond, count_by, filter, min, refl, sym, ◌∙◌, ap, subst, inl, inr, arith, length-append}
use Rattle.std.proofs.lemmas.Bool.{cases_lt, lt-ltb, le-ltb, le-leb, lt-leb}
use Rattle.std.proofs.lemmas.List.Sums.{sum_by-append}
use Rattle.replay_store.specs.Rising.{AllFrom, AllSince, Rises, placed}
use Rattle.replay_store.specs.Windows.{below, up_to}
use Rattle.replay_store.proofs.Ranks.{count_cons}

pub length_fork : (l : List ℕ) (k : ℕ) (r : List ℕ) → length (l ++ k ∷ r) ≡ length l + length r + 1
length_fork l k r = let e = length-append l (k ∷ r) in omega (arith, e)

-- ---- order

all_weaken : (a b : ℕ) (ks : List ℕ) → a ≤ b → AllFrom b ks → AllFrom a ks
all_weaken a b [] h all = tt
all_weaken a b (k ∷ ks) h all = (let g = all.0 in omega (arith, g, h), all_weaken a b ks h all.1)

all_front : (a : ℕ) (l m : List ℕ) → AllFrom a (l ++ m) → AllFrom a l
all_front a [] m all = tt
all_front a (x ∷ l) m all = (all.0, all_front a l m all.1)

all_back : (a : ℕ) (l m : List ℕ) → AllFrom a (l ++ m) → AllFrom a m
all_back a [] m all = all
all_back a (x ∷ l) m all = all_back a l m all.1

all_both : (a : ℕ) (l m : List ℕ) → AllFrom a l → AllFrom a m → AllFrom a (l ++ m)
all_both a [] m f g = g
all_both a (x ∷ l) m f g = (f.0, all_both a l m f.1 g)

pub rises_left : (l : List ℕ) (k : ℕ) (r : List ℕ) → Rises (l ++ k ∷ r) → Rises l
rises_left [] k r h = tt
rises_left (x ∷ l) k r h = (all_front x l (k ∷ r) h.0, rises_left l k r h.1)

pub rises_right : (l : List ℕ) (k : ℕ) (r : List ℕ) → Rises (l ++ k ∷ r) → Rises r
rises_right [] k r h = h.1
rises_right (x ∷ l) k r h = rises_right l k r h.1

from_middle : (l : List ℕ) (k : ℕ) (r : List ℕ) → Rises (l ++ k ∷ r) → AllFrom k r
from_middle [] k r h = h.0
from_middle (x ∷ l) k r h = from_middle l k r h.1

-- ---- how many are at most a bound

none_up_to : (bound k : ℕ) (ks : List ℕ) → bound < k → AllFrom k ks → up_to bound ks ≡ 0
none_up_to bound k [] h all = refl
none_up_to bound k (x ∷ ks) h all =
    let g = all.0 in
    let e = count_cons (λ y. nat_le y bound) x ks in
    let f = none_up_to bound k ks h all.1 in
    let i = ap {B = ℕ} (λ b. cond b 1 0) (lt-leb x bound (omega (arith, g, h))) in
    omega (arith, e, f, i)

pub up_to_left : (bound : ℕ) (l : List ℕ) (k : ℕ) (r : List ℕ) → bound < k → Rises (l ++ k ∷ r) → up_to bound (l ++ k ∷ r) ≡ up_to bound l
up_to_left bound l k r h rises =
    let e = sum_by-append (λ y. cond (nat_le y bound) 1 0) l (k ∷ r) in
    let f = none_up_to bound k (k ∷ r) h ((let z : k ≤ k = omega arith in z), from_middle l k r rises) in
    omega (arith, e, f)

pub up_to_right : (bound : ℕ) (l : List ℕ) (k : ℕ) (r : List ℕ) → k ≤ bound → Rises (l ++ k ∷ r) → up_to bound (l ++ k ∷ r) ≡ length l + 1 + up_to bound r
up_to_right bound [] k r h rises =
    let e = count_cons (λ y. nat_le y bound) k r in
    let i = ap {B = ℕ} (λ b. cond b 1 0) (le-leb k bound h) in
    omega (arith, e, i)
up_to_right bound (x ∷ l) k r h rises =
    let g = all_back x l (k ∷ r) rises.0 in
    let j = g.0 in
    let e = count_cons (λ y. nat_le y bound) x (l ++ k ∷ r) in
    let i = ap {B = ℕ} (λ b. cond b 1 0) (le-leb x bound (omega (arith, h, j))) in
    let f = up_to_right bound l k r h rises.1 in
    omega (arith, e, i, f)

pub up_to_within : (bound : ℕ) (ks : List ℕ) → up_to bound ks ≤ length ks
up_to_within bound [] = omega arith
up_to_within bound (k ∷ ks) =
    let e = count_cons (λ y. nat_le y bound) k ks in
    let f = up_to_within bound ks in
    let g = one (nat_le k bound) in
    omega (arith, e, f, g)
  where
    one : (b : Bool) → cond b 1 0 ≤ 1
    one true = omega arith
    one false = omega arith

pub below_is : (bound : ℕ) (ks : List ℕ) → below (bound + 1) ks ≡ up_to bound ks
below_is bound [] = refl
below_is bound (k ∷ ks) =
    let e = count_cons (λ y. nat_lt y (bound + 1)) k ks in
    let f = count_cons (λ y. nat_le y bound) k ks in
    let g = below_is bound ks in
    let h = ap {B = ℕ} (λ b. cond b 1 0) (one (cases_lt bound k)) in
    omega (arith, e, f, g, h)
  where
    one : (bound < k) ⊎ (k ≤ bound) → nat_lt k (bound + 1) ≡ nat_le k bound
    one (inl h) = le-ltb k (bound + 1) (omega (arith, h)) ∙ sym (lt-leb k bound h)
    one (inr h) = lt-ltb k (bound + 1) (omega (arith, h)) ∙ sym (le-leb k bound h)

pub below_nothing : (ks : List ℕ) → below 0 ks ≡ 0
below_nothing [] = refl
below_nothing (k ∷ ks) =
    let e = count_cons (λ y. nat_lt y 0) k ks in
    let f = below_nothing ks in
    let h = ap {B = ℕ} (λ b. cond b 1 0) (le-ltb k 0 (omega arith)) in
    omega (arith, e, f, h)

-- ---- one more key

placed_before : (key k : ℕ) (ks : List ℕ) → key < k → placed key (k ∷ ks) ≡ key ∷ k ∷ ks
placed_before key k ks h = rw (lt-ltb key k h) refl

placed_after : (key k : ℕ) (ks : List ℕ) → k ≤ key → placed key (k ∷ ks) ≡ k ∷ placed key ks
placed_after key k ks h = rw (le-ltb key k h) refl

pub placed_left : (key : ℕ) (l : List ℕ) (k : ℕ) (r : List ℕ) → key < k → placed key (l ++ k ∷ r) ≡ placed key l ++ k ∷ r
placed_left key [] k r h = placed_before key k r h
placed_left key (x ∷ l) k r h = go (cases_lt key x) (placed_left key l k r h)
  where
    go : (key < x) ⊎ (x ≤ key) → placed key (l ++ k ∷ r) ≡ placed key l ++ k ∷ r → placed key (x ∷ (l ++ k ∷ r)) ≡ placed key (x ∷ l) ++ k ∷ r
    go (inl b) e = placed_before key x (l ++ k ∷ r) b ∙ sym (ap (λ (ks : List ℕ). ks ++ k ∷ r) (placed_before key x l b))
    go (inr b) e = placed_after key x (l ++ k ∷ r) b ∙ ap (λ (ks : List ℕ). x ∷ ks) e ∙ sym (ap (λ (ks : List ℕ). ks ++ k ∷ r) (placed_after key x l b))

pub placed_right : (key : ℕ) (l : List ℕ) (k : ℕ) (r : List ℕ) → k ≤ key → Rises (l ++ k ∷ r) → placed key (l ++ k ∷ r) ≡ l ++ k ∷ placed key r
placed_right key [] k r h rises = placed_after key k r h
placed_right key (x ∷ l) k r h rises =
    let g = all_back x l (k ∷ r) rises.0 in
    let j = g.0 in
    placed_after key x (l ++ k ∷ r) (omega (arith, h, j)) ∙ ap (λ (ks : List ℕ). x ∷ ks) (placed_right key l k r h rises.1)

pub length_placed : (key : ℕ) (ks : List ℕ) → length (placed key ks) ≡ length ks + 1
length_placed key [] = refl
length_placed key (k ∷ ks) = go (cases_lt key k) (length_placed key ks)
  where
    go : (key < k) ⊎ (k ≤ key) → length (placed key ks) ≡ length ks + 1 → length (placed key (k ∷ ks)) ≡ length (k ∷ ks) + 1
    go (inl h) f = let e = ap length (placed_before key k ks h) in omega (arith, e)
    go (inr h) f = let e = ap length (placed_after key k ks h) in omega (arith, e, f)

all_placed : (least key : ℕ) (ks : List ℕ) → least ≤ key → AllFrom least ks → AllFrom least (placed key ks)
all_placed least key [] h all = (h, tt)
all_placed least key (k ∷ ks) h all = go (cases_lt key k) (all_placed least key ks h all.1)
  where
    go : (key < k) ⊎ (k ≤ key) → AllFrom least (placed key ks) → AllFrom least (placed key (k ∷ ks))
    go (inl b) more = subst (AllFrom least) (sym (placed_before key k ks b)) (h, all)
    go (inr b) more = subst (AllFrom least) (sym (placed_after key k ks b)) (all.0, more)

pub rises_placed : (key : ℕ) (ks : List ℕ) → Rises ks → Rises (placed key ks)
rises_placed key [] rises = (tt, tt)
rises_placed key (k ∷ ks) rises = go (cases_lt key k) (rises_placed key ks rises.1)
  where
    go : (key < k) ⊎ (k ≤ key) → Rises (placed key ks) → Rises (placed key (k ∷ ks))
    go (inl h) more = subst Rises (sym (placed_before key k ks h)) (((let z : key ≤ k = omega (arith, h) in z), all_weaken key k ks (omega (arith, h)) rises.0), rises)
    go (inr h) more = subst Rises (sym (placed_after key k ks h)) (all_placed k key ks h rises.0, more)

pub count_placed : (p : ℕ → Bool) (key : ℕ) (ks : List ℕ) → count_by p (placed key ks) ≡ count_by p ks + cond (p key) 1 0
count_placed p key [] = let e = count_cons p key [] in omega (arith, e)
count_placed p key (k ∷ ks) = go (cases_lt key k) (count_placed p key ks)
  where
    go : (key < k) ⊎ (k ≤ key) → count_by p (placed key ks) ≡ count_by p ks + cond (p key) 1 0 → count_by p (placed key (k ∷ ks)) ≡ count_by p (k ∷ ks) + cond (p key) 1 0
    go (inl h) i =
        let e = ap (λ (xs : List ℕ). count_by p xs) (placed_before key k ks h) in
        let f = count_cons p key (k ∷ ks) in
        omega (arith, e, f)
    go (inr h) i =
        let e = ap (λ (xs : List ℕ). count_by p xs) (placed_after key k ks h) in
        let f = count_cons p k (placed key ks) in
        let g = count_cons p k ks in
        omega (arith, e, f, g, i)

-- ---- times

pub since_weaken : (a b : ℕ) (ks : List ℕ) → a ≤ b → AllSince b ks → AllSince a ks
since_weaken a b [] h all = tt
since_weaken a b (k ∷ ks) h all = (let g = all.0 in omega (arith, g, h), since_weaken a b ks h all.1)

since_both : (a : ℕ) (l m : List ℕ) → AllSince a l → AllSince a m → AllSince a (l ++ m)
since_both a [] m f g = g
since_both a (x ∷ l) m f g = (f.0, since_both a l m f.1 g)

pub since_fork : (a b c oldest : ℕ) (l : List ℕ) (k : ℕ) (r : List ℕ) → AllSince a l → AllSince b r → c ≡ k % 2 ^ 64 → oldest ≡ min (min a b) c → AllSince oldest (l ++ k ∷ r)
since_fork a b c oldest l k r f g is least =
    since_both oldest l (k ∷ r) (since_weaken oldest a l (omega (arith, least)) f) ((let z : oldest ≤ k % 2 ^ 64 = omega (arith, least, is) in z), since_weaken oldest b r (omega (arith, least)) g)

pub filter_all : (time oldest : ℕ) (ks : List ℕ) → time ≤ oldest → AllSince oldest ks → filter (λ k. nat_le time (k % 2 ^ 64)) ks ≡ ks
filter_all time oldest [] h all = refl
filter_all time oldest (k ∷ ks) h all = let g = all.0 in rw (le-leb time (k % 2 ^ 64) (omega (arith, g, h))) (ap (λ (xs : List ℕ). k ∷ xs) (filter_all time oldest ks h all.1))

filter_append : (p : ℕ → Bool) (l m : List ℕ) → filter p (l ++ m) ≡ filter p l ++ filter p m
filter_append p [] m = refl
filter_append p (x ∷ l) m = one (p x) (filter_append p l m)
  where
    one : (b : Bool) → filter p (l ++ m) ≡ filter p l ++ filter p m → cond b (x ∷ filter p (l ++ m)) (filter p (l ++ m)) ≡ cond b (x ∷ filter p l) (filter p l) ++ filter p m
    one true e = ap (λ (xs : List ℕ). x ∷ xs) e
    one false e = e

pub filter_with : (time : ℕ) (l : List ℕ) (k : ℕ) (r : List ℕ) → time ≤ k % 2 ^ 64 → filter (λ x. nat_le time (x % 2 ^ 64)) (l ++ k ∷ r) ≡ filter (λ x. nat_le time (x % 2 ^ 64)) l ++ k ∷ filter (λ x. nat_le time (x % 2 ^ 64)) r
filter_with time l k r h = filter_append (λ x. nat_le time (x % 2 ^ 64)) l (k ∷ r) ∙ ap (λ (b : Bool). filter (λ x. nat_le time (x % 2 ^ 64)) l ++ cond b (k ∷ filter (λ x. nat_le time (x % 2 ^ 64)) r) (filter (λ x. nat_le time (x % 2 ^ 64)) r)) (le-leb time (k % 2 ^ 64) h)

pub filter_without : (time : ℕ) (l : List ℕ) (k : ℕ) (r : List ℕ) → k % 2 ^ 64 < time → filter (λ x. nat_le time (x % 2 ^ 64)) (l ++ k ∷ r) ≡ filter (λ x. nat_le time (x % 2 ^ 64)) l ++ filter (λ x. nat_le time (x % 2 ^ 64)) r
filter_without time l k r h = filter_append (λ x. nat_le time (x % 2 ^ 64)) l (k ∷ r) ∙ ap (λ (b : Bool). filter (λ x. nat_le time (x % 2 ^ 64)) l ++ cond b (k ∷ filter (λ x. nat_le time (x % 2 ^ 64)) r) (filter (λ x. nat_le time (x % 2 ^ 64)) r)) (lt-leb time (k % 2 ^ 64) h)

all_filter : (p : ℕ → Bool) (least : ℕ) (ks : List ℕ) → AllFrom least ks → AllFrom least (filter p ks)
all_filter p least [] all = tt
all_filter p least (k ∷ ks) all = one (p k) (all_filter p least ks all.1)
  where
    one : (b : Bool) → AllFrom least (filter p ks) → AllFrom least (cond b (k ∷ filter p ks) (filter p ks))
    one true f = (all.0, f)
    one false f = f

pub rises_filter : (p : ℕ → Bool) (ks : List ℕ) → Rises ks → Rises (filter p ks)
rises_filter p [] rises = tt
rises_filter p (k ∷ ks) rises = one (p k) (rises_filter p ks rises.1)
  where
    one : (b : Bool) → Rises (filter p ks) → Rises (cond b (k ∷ filter p ks) (filter p ks))
    one true f = (all_filter p k ks rises.0, f)
    one false f = f

pub filter_shorter : (p : ℕ → Bool) (ks : List ℕ) → length (filter p ks) ≤ length ks
filter_shorter p [] = omega arith
filter_shorter p (k ∷ ks) = one (p k) (filter_shorter p ks)
  where
    one : (b : Bool) → length (filter p ks) ≤ length ks → length (cond b (k ∷ filter p ks) (filter p ks)) ≤ length (k ∷ ks)
    one true h = omega (arith, h)
    one false h = omega (arith, h)
