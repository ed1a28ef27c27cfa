-- The values that a run draws: they are the counted ones, each drawn once.
use Rattle.std.proofs.Common.{◌≡◌, ◌⊎◌, ◌<◌, ◌≤◌, ◌+◌, ◌*◌, ◌/◌, ◌%◌, ◌^◌, ℕ, zero, suc, Bool, true, false, if◌then◌else◌, List, [], ◌∷◌, ◌++◌, Option, Some, None, refl, sym, ap, subst, ◌∙◌, inl, inr, arith}
use Rattle.std.specs.Int.{w64, byte_at, bytes_high_first, from_be_bytes, to_be_bytes}
use Rattle.std.proofs.lemmas.Nat.{div_below, from_be_bytes-to_be_bytes_8}
use Rattle.term_values.specs.Trees.{Bytes, Tree, Trees, none, nonce, part, stamp, tuple, Occurs}
use Rattle.term_values.specs.declared.small.Stamp.{Stamp}
use Rattle.outside.specs.Told.{DrawKind, nonce_draw, part_draw, counted_draw}
use Rattle.fresh_values.specs.Counts.{counted_value, first_byte}
use Rattle.fresh_values.proofs.Counts.{same_values}
use Rattle.mech_rows.specs.declared.kinds.Kind.{Kind}
use Rattle.mech_rows.specs.declared.kinds.Kind.TheVariants.{Nonce as a_nonce, Stamp as a_stamp, Part as a_part, Text as a_text, Item as an_item}
use Rattle.mech_rows.specs.declared.kinds.Slot.{Slot}
use Rattle.mech_rows.specs.Facts.{same_slot}
use Rattle.mech_rows.specs.Found.{found}
use Rattle.mech_rows.specs.Rows.{kind_of, is_stamp}
use Rattle.mech_rows.specs.Verdict.{Noted}
use Rattle.mech_rows.proofs.RowUse.{same_slot_is}
use Rattle.text_hooks.specs.Drawn.{issued_term, new_value, after_slot, drawn_values}
use Rattle.agreement_laws.specs.Traces.{is_drawn_kind}
use Rattle.world_run.specs.Born.{number_from, IsLaterDraw, IsUnborn}
use Rattle.world_run.specs.Conditions.{BeginsWith}
use Rattle.world_run.specs.Turns.{drawn_count, draws_from}

-- ---- the number of a counted value

small : (n m : ℕ) → 0 < m → n < m → n / m ≡ 0
small n m pos lt = let d = div_below n m 1 pos (omega (arith, lt)) in omega (arith, d)

none_left : (n m : ℕ) → 0 < m → n < m → n / m % 256 ≡ 0
none_left n m pos lt = ap (λ (x : ℕ). x % 256) (small n m pos lt)

skip : (k n : ℕ) → byte_at k n ≡ 0 → number_from 0 (bytes_high_first (suc k) n) ≡ number_from 0 (bytes_high_first k n)
skip k n e = ap (λ (b : ℕ). number_from (0 * 256 + b) (bytes_high_first k n)) e

eight : (n : ℕ) → n < 2 ^ 64 → number_from 0 (bytes_high_first 8 n) ≡ n
eight n lt = omega (arith, from_be_bytes-to_be_bytes_8 n lt)

high : (i n : ℕ) → n < 2 ^ 64 → 2 ^ 64 ≤ 256 ^ suc i → byte_at (suc i) n ≡ 0
high i n lt le = none_left n (256 ^ suc i) (omega (arith, le)) (omega (arith, lt, le))

fifteen : (n : ℕ) → n < 2 ^ 64 → number_from 0 (bytes_high_first 15 n) ≡ n
fifteen n lt =
    skip 14 n (high 13 n lt (omega arith)) ∙ (skip 13 n (high 12 n lt (omega arith)) ∙ (skip 12 n (high 11 n lt (omega arith)) ∙ (skip 11 n (high 10 n lt (omega arith))
    ∙ (skip 10 n (high 9 n lt (omega arith)) ∙ (skip 9 n (high 8 n lt (omega arith)) ∙ (skip 8 n (high 7 n lt (omega arith)) ∙ eight n lt))))))

twenty_three : (n : ℕ) → n < 2 ^ 64 → number_from 0 (bytes_high_first 23 n) ≡ n
twenty_three n lt =
    skip 22 n (high 21 n lt (omega arith)) ∙ (skip 21 n (high 20 n lt (omega arith)) ∙ (skip 20 n (high 19 n lt (omega arith)) ∙ (skip 19 n (high 18 n lt (omega arith))
    ∙ (skip 18 n (high 17 n lt (omega arith)) ∙ (skip 17 n (high 16 n lt (omega arith)) ∙ (skip 16 n (high 15 n lt (omega arith)) ∙ (skip 15 n (high 14 n lt (omega arith)) ∙ fifteen n lt)))))))

thirty_one : (n : ℕ) → n < 2 ^ 64 → number_from 0 (bytes_high_first 31 n) ≡ n
thirty_one n lt =
    skip 30 n (high 29 n lt (omega arith)) ∙ (skip 29 n (high 28 n lt (omega arith)) ∙ (skip 28 n (high 27 n lt (omega arith)) ∙ (skip 27 n (high 26 n lt (omega arith))
    ∙ (skip 26 n (high 25 n lt (omega arith)) ∙ (skip 25 n (high 24 n lt (omega arith)) ∙ (skip 24 n (high 23 n lt (omega arith)) ∙ (skip 23 n (high 22 n lt (omega arith)) ∙ twenty_three n lt)))))))

-- draw j looks like draw n or a later one exactly where n is at most j
pub later_is : (kind : DrawKind) (n j : ℕ) → j < 2 ^ 64 → n ≤ j → IsLaterDraw kind n (counted_value kind j)
unfolding counted_draw
later_is nonce_draw n j lt le = let e = fifteen j lt in (refl, omega (arith, e, le))
later_is part_draw n j lt le = let e = thirty_one j lt in (refl, omega (arith, e, le))

pub is_later : (kind : DrawKind) (n j : ℕ) → j < 2 ^ 64 → IsLaterDraw kind n (counted_value kind j) → n ≤ j
unfolding counted_draw
is_later nonce_draw n j lt h = let e = fifteen j lt in let x = h.1 in omega (arith, e, x)
is_later part_draw n j lt h = let e = thirty_one j lt in let x = h.1 in omega (arith, e, x)

pub begins_so : (kind : DrawKind) (j : ℕ) → BeginsWith (first_byte kind) (counted_value kind j)
unfolding counted_draw
begins_so nonce_draw j = refl
begins_so part_draw j = refl

-- ---- what is drawn

-- the value of a slot of that kind is a draw with a number from lo on and below hi, or the stamp
abbrev pub DrawnBetween : ℕ → ℕ → Option Stamp → Kind → Tree → Type 0
DrawnBetween lo hi issued a_nonce t = (j : ℕ) × (lo ≤ j) × (j < hi) × (t ≡ nonce (counted_value nonce_draw j))
DrawnBetween lo hi issued a_part t = (j : ℕ) × (lo ≤ j) × (j < hi) × (t ≡ part (counted_value part_draw j))
DrawnBetween lo hi issued _ t = t ≡ issued_term issued

widen : (lo hi low high : ℕ) (issued : Option Stamp) (k : Kind) (t : Tree) → low ≤ lo → hi ≤ high → DrawnBetween lo hi issued k t → DrawnBetween low high issued k t
widen lo hi low high issued a_nonce t l h d = let a = d.1 in let b = d.2 in (d.0, omega (arith, a, l), omega (arith, b, h), d.3)
widen lo hi low high issued a_part t l h d = let a = d.1 in let b = d.2 in (d.0, omega (arith, a, l), omega (arith, b, h), d.3)
widen lo hi low high issued a_stamp t l h d = d
widen lo hi low high issued a_text t l h d = d
widen lo hi low high issued an_item t l h d = d

-- a new slot has the next draw, or the stamp
next_value : (n : ℕ) (issued : Option Stamp) (k : Kind) → DrawnBetween n (n + 1) issued k (new_value k (draws_from n) issued)
next_value n issued a_nonce = (n, omega arith, omega arith, refl)
next_value n issued a_part = (n, omega arith, omega arith, refl)
next_value n issued a_stamp = refl
next_value n issued a_text = refl
next_value n issued an_item = refl

-- how many draws a slot of that kind takes
abbrev pub taken_by : Kind → ℕ
taken_by k = if is_stamp k then 0 else 1

pub after_is : (n : ℕ) (k : Kind) → after_slot k (draws_from n) ≡ draws_from (n + taken_by k)
after_is n a_stamp = ap draws_from (omega arith)
after_is n a_nonce = refl
after_is n a_part = refl
after_is n a_text = refl
after_is n an_item = refl

pub count_is : (k : Kind) (m : ℕ) → (if is_stamp k then m else suc m) ≡ taken_by k + m
count_is a_stamp m = omega arith
count_is a_nonce m = omega arith
count_is a_part m = omega arith
count_is a_text m = omega arith
count_is an_item m = omega arith

-- the draws of a kind that takes none begin and end alike
next_in : (n m : ℕ) (issued : Option Stamp) (k : Kind) → DrawnBetween n (n + (taken_by k + m)) issued k (new_value k (draws_from n) issued)
next_in n m issued a_nonce = (n, omega arith, omega arith, refl)
next_in n m issued a_part = (n, omega arith, omega arith, refl)
next_in n m issued a_stamp = refl
next_in n m issued a_text = refl
next_in n m issued an_item = refl

-- where a slot is found: it is the first one, or stands in the rest
found_here : (s : Slot) (v : Tree) (rest : Noted) (u : Slot) (t : Tree) → found ((s, v) ∷ rest) u ≡ Some t → ((s ≡ u) × (v ≡ t)) ⊎ (found rest u ≡ Some t)
found_here s v rest u t e = go (same_slot s u) refl e
  where
    go : (b : Bool) → same_slot s u ≡ b → (if b then Some v else found rest u) ≡ Some t → ((s ≡ u) × (v ≡ t)) ⊎ (found rest u ≡ Some t)
    go true f g = inl (same_slot_is s u f, cc)
    go false f g = inr g

rest_is : (n : ℕ) (issued : Option Stamp) (s : Slot) (ss : List Slot) → drawn_values (after_slot (kind_of s) (draws_from n)) issued ss ≡ drawn_values (draws_from (n + taken_by (kind_of s))) issued ss
rest_is n issued s ss = ap (λ t. drawn_values t issued ss) (after_is n (kind_of s))

pub drawn_at : (n : ℕ) (issued : Option Stamp) (ss : List Slot) (u : Slot) (t : Tree) → found (drawn_values (draws_from n) issued ss) u ≡ Some t → DrawnBetween n (n + drawn_count ss) issued (kind_of u) t
drawn_at n issued [] u t e = absurd (cc)
drawn_at n issued (s ∷ ss) u t e =
    let count : drawn_count (s ∷ ss) ≡ taken_by (kind_of s) + drawn_count ss = count_is (kind_of s) (drawn_count ss) in
    subst (λ (m : ℕ). DrawnBetween n (n + m) issued (kind_of u) t) (sym count)
    (go (found_here s (new_value (kind_of s) (draws_from n) issued) (drawn_values (after_slot (kind_of s) (draws_from n)) issued ss) u t e) (drawn_at (n + taken_by (kind_of s)) issued ss u t))
  where
    go : ((s ≡ u) × (new_value (kind_of s) (draws_from n) issued ≡ t)) ⊎ (found (drawn_values (after_slot (kind_of s) (draws_from n)) issued ss) u ≡ Some t)
        → (found (drawn_values (draws_from (n + taken_by (kind_of s))) issued ss) u ≡ Some t → DrawnBetween (n + taken_by (kind_of s)) ((n + taken_by (kind_of s)) + drawn_count ss) issued (kind_of u) t)
        → DrawnBetween n (n + (taken_by (kind_of s) + drawn_count ss)) issued (kind_of u) t
    go (inl (is, v)) rest = subst (λ (x : Slot). DrawnBetween n (n + (taken_by (kind_of s) + drawn_count ss)) issued (kind_of x) t) is (subst (DrawnBetween n (n + (taken_by (kind_of s) + drawn_count ss)) issued (kind_of s)) v (next_in n (drawn_count ss) issued (kind_of s)))
    go (inr f) rest = widen (n + taken_by (kind_of s)) ((n + taken_by (kind_of s)) + drawn_count ss) n (n + (taken_by (kind_of s) + drawn_count ss)) issued (kind_of u) t (omega arith) (omega arith) (rest (subst (λ (ns : Noted). found ns u ≡ Some t) (rest_is n issued s ss) f))

-- ---- each value once

no_stamp : (issued : Option Stamp) (b : Bytes) → nonce b ≡ issued_term issued → ⊥
no_stamp None b e = cc
no_stamp (Some x) b e = cc

no_part_stamp : (issued : Option Stamp) (b : Bytes) → part b ≡ issued_term issued → ⊥
no_part_stamp None b e = cc
no_part_stamp (Some x) b e = cc

nonce_inj : (a b : Bytes) → nonce a ≡ nonce b → a ≡ b
nonce_inj a b e = cc

part_inj : (a b : Bytes) → part a ≡ part b → a ≡ b
part_inj a b e = cc

-- one value has no two numbers
clash : (lo hi low high : ℕ) (issued : Option Stamp) (k l : Kind) (t : Tree) → hi ≤ low ⊎ high ≤ lo → hi ≤ 2 ^ 64 → high ≤ 2 ^ 64 → is_drawn_kind k ≡ true → DrawnBetween lo hi issued k t → DrawnBetween low high issued l t → ⊥
clash lo hi low high issued a_nonce a_nonce t away x y kind (i, a, b, e) (j, c, d, f) =
    let same = same_values nonce_draw nonce_draw i j (omega (arith, b, x)) (omega (arith, d, y)) (nonce_inj (counted_value nonce_draw i) (counted_value nonce_draw j) (sym e ∙ f)) in
    let is : i ≡ j = same.1 in
    elim away [ inl z ↦ absurd (omega (arith, is, b, c, z)) | inr z ↦ absurd (omega (arith, is, a, d, z)) ]
clash lo hi low high issued a_part a_part t away x y kind (i, a, b, e) (j, c, d, f) =
    let same = same_values part_draw part_draw i j (omega (arith, b, x)) (omega (arith, d, y)) (part_inj (counted_value part_draw i) (counted_value part_draw j) (sym e ∙ f)) in
    let is : i ≡ j = same.1 in
    elim away [ inl z ↦ absurd (omega (arith, is, b, c, z)) | inr z ↦ absurd (omega (arith, is, a, d, z)) ]
clash lo hi low high issued a_nonce a_part t away x y kind (i, a, b, e) (j, c, d, f) = let g : nonce (counted_value nonce_draw i) ≡ part (counted_value part_draw j) = sym e ∙ f in absurd (cc)
clash lo hi low high issued a_part a_nonce t away x y kind (i, a, b, e) (j, c, d, f) = let g : part (counted_value part_draw i) ≡ nonce (counted_value nonce_draw j) = sym e ∙ f in absurd (cc)
clash lo hi low high issued a_nonce a_stamp t away x y kind (i, a, b, e) f = no_stamp issued (counted_value nonce_draw i) (sym e ∙ f)
clash lo hi low high issued a_nonce a_text t away x y kind (i, a, b, e) f = no_stamp issued (counted_value nonce_draw i) (sym e ∙ f)
clash lo hi low high issued a_nonce an_item t away x y kind (i, a, b, e) f = no_stamp issued (counted_value nonce_draw i) (sym e ∙ f)
clash lo hi low high issued a_part a_stamp t away x y kind (i, a, b, e) f = no_part_stamp issued (counted_value part_draw i) (sym e ∙ f)
clash lo hi low high issued a_part a_text t away x y kind (i, a, b, e) f = no_part_stamp issued (counted_value part_draw i) (sym e ∙ f)
clash lo hi low high issued a_part an_item t away x y kind (i, a, b, e) f = no_part_stamp issued (counted_value part_draw i) (sym e ∙ f)
clash lo hi low high issued a_stamp l t away x y kind d f = absurd (cc)
clash lo hi low high issued a_text l t away x y kind d f = absurd (cc)
clash lo hi low high issued an_item l t away x y kind d f = absurd (cc)

-- a slot that takes no draw shows the stamp
here_is : (n : ℕ) (issued : Option Stamp) (k : Kind) (t : Tree) → new_value k (draws_from n) issued ≡ t → DrawnBetween n (n + taken_by k) issued k t
here_is n issued a_nonce t e = (n, omega arith, omega arith, sym e)
here_is n issued a_part t e = (n, omega arith, omega arith, sym e)
here_is n issued a_stamp t e = sym e
here_is n issued a_text t e = sym e
here_is n issued an_item t e = sym e

pub drawn_apart : (n : ℕ) (issued : Option Stamp) (ss : List Slot) (s u : Slot) (t : Tree) → n + drawn_count ss ≤ 2 ^ 64 → is_drawn_kind (kind_of s) ≡ true → found (drawn_values (draws_from n) issued ss) s ≡ Some t → found (drawn_values (draws_from n) issued ss) u ≡ Some t → s ≡ u
drawn_apart n issued [] s u t few kind e f = absurd (cc)
drawn_apart n issued (h ∷ ss) s u t few kind e f =
    go (found_here h (new_value (kind_of h) (draws_from n) issued) (drawn_values (after_slot (kind_of h) (draws_from n)) issued ss) s t e)
    (found_here h (new_value (kind_of h) (draws_from n) issued) (drawn_values (after_slot (kind_of h) (draws_from n)) issued ss) u t f)
    (drawn_apart (n + taken_by (kind_of h)) issued ss s u t few_left kind)
  where
    count : drawn_count (h ∷ ss) ≡ taken_by (kind_of h) + drawn_count ss
    count = count_is (kind_of h) (drawn_count ss)

    few_left : (n + taken_by (kind_of h)) + drawn_count ss ≤ 2 ^ 64
    few_left = omega (arith, count, few)

    in_rest : (x : Slot) → found (drawn_values (after_slot (kind_of h) (draws_from n)) issued ss) x ≡ Some t → found (drawn_values (draws_from (n + taken_by (kind_of h))) issued ss) x ≡ Some t
    in_rest x g = subst (λ (ns : Noted). found ns x ≡ Some t) (rest_is n issued h ss) g

    later : (x : Slot) → found (drawn_values (after_slot (kind_of h) (draws_from n)) issued ss) x ≡ Some t → DrawnBetween (n + taken_by (kind_of h)) ((n + taken_by (kind_of h)) + drawn_count ss) issued (kind_of x) t
    later x g = drawn_at (n + taken_by (kind_of h)) issued ss x t (in_rest x g)

    here : (x : Slot) → h ≡ x → new_value (kind_of h) (draws_from n) issued ≡ t → DrawnBetween n (n + taken_by (kind_of h)) issued (kind_of x) t
    here x is v = subst (λ (y : Slot). DrawnBetween n (n + taken_by (kind_of h)) issued (kind_of y) t) is (here_is n issued (kind_of h) t v)

    go : ((h ≡ s) × (new_value (kind_of h) (draws_from n) issued ≡ t)) ⊎ (found (drawn_values (after_slot (kind_of h) (draws_from n)) issued ss) s ≡ Some t)
        → ((h ≡ u) × (new_value (kind_of h) (draws_from n) issued ≡ t)) ⊎ (found (drawn_values (after_slot (kind_of h) (draws_from n)) issued ss) u ≡ Some t)
        → (found (drawn_values (draws_from (n + taken_by (kind_of h))) issued ss) s ≡ Some t → found (drawn_values (draws_from (n + taken_by (kind_of h))) issued ss) u ≡ Some t → s ≡ u)
        → s ≡ u
    go (inl (a, v)) (inl (b, x)) rest = sym a ∙ b
    go (inl (a, v)) (inr g) rest = absurd (clash n (n + taken_by (kind_of h)) (n + taken_by (kind_of h)) ((n + taken_by (kind_of h)) + drawn_count ss) issued (kind_of s) (kind_of u) t (inl (omega arith)) (omega (arith, few_left)) few_left kind (here s a v) (later u g))
    go (inr g) (inl (b, x)) rest = absurd (clash (n + taken_by (kind_of h)) ((n + taken_by (kind_of h)) + drawn_count ss) n (n + taken_by (kind_of h)) issued (kind_of s) (kind_of u) t (inr (omega arith)) few_left (omega (arith, few_left)) kind (later s g) (here u b x))
    go (inr g) (inr k) rest = rest (in_rest s g) (in_rest u k)

-- ---- what a drawn value shows

of_stamp : (issued : Option Stamp) (n : ℕ) (v : Tree) → Occurs v (issued_term issued) → IsUnborn n v → ⊥
of_stamp (Some x) n v is u = let y : IsUnborn n (stamp x) = subst (IsUnborn n) is u in y
of_stamp None n v (inl is) u = let y : IsUnborn n (tuple none) = subst (IsUnborn n) is u in y
of_stamp None n v (inr o) u = o

-- a value that was drawn before draw n does not look like a later one
pub drawn_born : (lo n : ℕ) (issued : Option Stamp) (k : Kind) (t v : Tree) → n ≤ 2 ^ 64 → DrawnBetween lo n issued k t → Occurs v t → IsUnborn n v → ⊥
drawn_born lo n issued a_nonce t v few (j, a, b, e) o u =
    let is : v ≡ nonce (counted_value nonce_draw j) = subst (Occurs v) e o in
    let l = is_later nonce_draw n j (omega (arith, b, few)) (subst (IsUnborn n) is u) in
    absurd (omega (arith, l, b))
drawn_born lo n issued a_part t v few (j, a, b, e) o u =
    let is : v ≡ part (counted_value part_draw j) = subst (Occurs v) e o in
    let l = is_later part_draw n j (omega (arith, b, few)) (subst (IsUnborn n) is u) in
    absurd (omega (arith, l, b))
drawn_born lo n issued a_stamp t v few e o u = of_stamp issued n v (subst (Occurs v) e o) u
drawn_born lo n issued a_text t v few e o u = of_stamp issued n v (subst (Occurs v) e o) u
drawn_born lo n issued an_item t v few e o u = of_stamp issued n v (subst (Occurs v) e o) u

-- a value that is drawn from draw n on looks so
pub drawn_later : (n hi : ℕ) (issued : Option Stamp) (k : Kind) (t : Tree) → hi ≤ 2 ^ 64 → is_drawn_kind k ≡ true → DrawnBetween n hi issued k t → IsUnborn n t
drawn_later n hi issued a_nonce t few kind (j, a, b, e) = subst (IsUnborn n) (sym e) (later_is nonce_draw n j (omega (arith, b, few)) a)
drawn_later n hi issued a_part t few kind (j, a, b, e) = subst (IsUnborn n) (sym e) (later_is part_draw n j (omega (arith, b, few)) a)
drawn_later n hi issued a_stamp t few kind e = absurd (cc)
drawn_later n hi issued a_text t few kind e = absurd (cc)
drawn_later n hi issued an_item t few kind e = absurd (cc)

-- a part that is drawn begins as drawn parts do
pub drawn_begins : (lo hi : ℕ) (issued : Option Stamp) (k : Kind) (p : Bytes) → is_drawn_kind k ≡ true → DrawnBetween lo hi issued k (part p) → BeginsWith (first_byte part_draw) p
drawn_begins lo hi issued a_part p kind (j, a, b, e) = subst (BeginsWith (first_byte part_draw)) (sym (part_inj p (counted_value part_draw j) e)) (begins_so part_draw j)
drawn_begins lo hi issued a_nonce p kind (j, a, b, e) = absurd (cc)
drawn_begins lo hi issued a_stamp p kind e = absurd (cc)
drawn_begins lo hi issued a_text p kind e = absurd (cc)
drawn_begins lo hi issued an_item p kind e = absurd (cc)
