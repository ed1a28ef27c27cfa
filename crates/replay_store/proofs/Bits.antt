-- What the bits of the window say once one more number was seen.
use Rattle.std.proofs.Common.{◌≡◌, ◌⊎◌, ◌<◌, ◌≤◌, ℕ, ◌+◌, ◌-◌, ◌*◌, ◌/◌, ◌%◌, ◌^◌, true, false, ◌==◌, ◌||◌, refl, sym, ◌∙◌, ap, subst, inl, inr, arith, rules, bit_or}
use Rattle.std.specs.Int.{w64, bit_at}
use Rattle.std.proofs.lemmas.Bool.{cases_order, cases_lt, lt-ltb, le-leb, lt-leb, eq-eqb, ne_eqb}
use Rattle.std.proofs.lemmas.Nat.Bits.{bit_at_or, bit_at-zero, bit_at-lt, bit_at-pow_same, bit_at-pow_other, bit_at_cat_low, bit_at_cat_high, bit_at_set_same, bit_at_set_other}
use Rattle.replay_store.specs.declared.seen.Seen.{Seen}
use Rattle.replay_store.specs.Windows.{IsOneMore, has_seen}

abbrev seen_as : ℕ → ℕ → Seen
seen_as g before = record { greatest = g; before = before }

low_bits : (x i : ℕ) → i < 64 → bit_at (x % 2 ^ 64) i ≡ bit_at x i
low_bits x i h =
    let e : (x / 2 ^ 64) * 2 ^ 64 + x % 2 ^ 64 ≡ x = omega arith in
    sym (bit_at_cat_low (x / 2 ^ 64) 64 (x % 2 ^ 64) i h) ∙ ap (λ n. bit_at n i) e

shifted_in : (a by i : ℕ) → by ≤ i → i < 64 → bit_at (a * 2 ^ by % 2 ^ 64) i ≡ bit_at a (i - by)
shifted_in a by i l h =
    let e : a * 2 ^ by ≡ a * 2 ^ by + 0 = omega arith in
    low_bits (a * 2 ^ by) i h ∙ ap (λ n. bit_at n i) e ∙ bit_at_cat_high a by 0 i (pow_positive by) l
  where
    pow_positive : (k : ℕ) → 0 < 2 ^ k
    pow_positive k = search rules

shifted_out : (a by i : ℕ) → i < by → i < 64 → bit_at (a * 2 ^ by % 2 ^ 64) i ≡ 0
shifted_out a by i l h =
    let e : a * 2 ^ by ≡ a * 2 ^ by + 0 = omega arith in
    low_bits (a * 2 ^ by) i h ∙ ap (λ n. bit_at n i) e ∙ bit_at_cat_low a by 0 i l ∙ bit_at-zero i

-- the lowest bit is set, and each other one stays
lowest_set : (x : ℕ) → bit_at (bit_or x 1) 0 ≡ 1
lowest_set x =
    let a = bit_at_or x 1 0 in
    let b = bit_at-pow_same 0 in
    let c = bit_at-lt x 0 in
    omega (arith, a, b, c)

others_stay : (x i : ℕ) → 0 < i → bit_at (bit_or x 1) i ≡ bit_at x i
others_stay x i h =
    let a = bit_at_or x 1 i in
    let b = bit_at-pow_other 0 i (λ e. omega (arith, e, h)) in
    omega (arith, a, b)

seen_bit : (g before m : ℕ) → m ≤ g → g < m + 64 → has_seen (seen_as g before) m ≡ (bit_at before (g - m) == 1)
seen_bit g before m l h = rw (le-leb m g l, lt-ltb g (m + 64) h) refl

unseen : (g before m : ℕ) → g < m → has_seen (seen_as g before) m ≡ false
unseen g before m h = rw (lt-leb m g h) refl

is_one : (x : ℕ) → x ≡ 1 → (x == 1) ≡ true
is_one x e = eq-eqb x 1 e

is_none : (x : ℕ) → x ≡ 0 → (x == 1) ≡ false
is_none x e = ne_eqb x 1 (λ h. omega (arith, e, h))

pub later_one : (g before n : ℕ) → g < n → n - g < 64 → IsOneMore (seen_as g before) n (seen_as n (bit_or (before * 2 ^ (n - g) % 2 ^ 64) 1))
later_one g before n l h = record { greatest = omega arith; window = λ m w. go m w (cases_order m n) (cases_lt g m) }
  where
    go : (m : ℕ) → n < m + 64 → (m ≡ n) ⊎ ((m < n) ⊎ (n < m)) → (g < m) ⊎ (m ≤ g) → has_seen (seen_as n (bit_or (before * 2 ^ (n - g) % 2 ^ 64) 1)) m ≡ (n == m || has_seen (seen_as g before) m)
    go m w (inl e) d =
        seen_bit n _ m (omega arith) w
        ∙ is_one _ (ap (λ i. bit_at (bit_or (before * 2 ^ (n - g) % 2 ^ 64) 1) i) (let z : n - m ≡ 0 = omega (arith, e) in z) ∙ lowest_set _)
        ∙ rw (eq-eqb n m (sym e)) refl
    go m w (inr (inr f)) d = unseen n _ m f ∙ rw (ne_eqb n m (λ e. omega (arith, e, f)), unseen g before m (omega arith)) refl
    go m w (inr (inl f)) (inl b) =
        seen_bit n _ m (omega arith) w
        ∙ is_none _ (others_stay _ (n - m) (omega arith) ∙ shifted_out before (n - g) (n - m) (omega arith) (omega arith))
        ∙ rw (ne_eqb n m (λ e. omega (arith, e, f)), unseen g before m b) refl
    go m w (inr (inl f)) (inr b) =
        seen_bit n _ m (omega arith) w
        ∙ ap (λ x. x == 1) (others_stay _ (n - m) (omega arith) ∙ shifted_in before (n - g) (n - m) (omega arith) (omega arith) ∙ ap (bit_at before) (let z : n - m - (n - g) ≡ g - m = omega arith in z))
        ∙ rw (ne_eqb n m (λ e. omega (arith, e, f))) (sym (seen_bit g before m b (omega arith)))

pub far_later : (g before n : ℕ) → g < n → 64 ≤ n - g → IsOneMore (seen_as g before) n (seen_as n 1)
far_later g before n l h = record { greatest = omega arith; window = λ m w. go m w (cases_order m n) }
  where
    go : (m : ℕ) → n < m + 64 → (m ≡ n) ⊎ ((m < n) ⊎ (n < m)) → has_seen (seen_as n 1) m ≡ (n == m || has_seen (seen_as g before) m)
    go m w (inl e) =
        seen_bit n 1 m (omega arith) w
        ∙ is_one _ (ap (bit_at 1) (let z : n - m ≡ 0 = omega (arith, e) in z) ∙ bit_at-pow_same 0)
        ∙ rw (eq-eqb n m (sym e)) refl
    go m w (inr (inr f)) = unseen n 1 m f ∙ rw (ne_eqb n m (λ e. omega (arith, e, f)), unseen g before m (omega arith)) refl
    go m w (inr (inl f)) =
        seen_bit n 1 m (omega arith) w
        ∙ is_none _ (bit_at-pow_other 0 (n - m) (λ e. omega (arith, e, f)))
        ∙ rw (ne_eqb n m (λ e. omega (arith, e, f)), unseen g before m (omega arith)) refl

pub one_between : (g before n : ℕ) → n ≤ g → g - n < 64 → IsOneMore (seen_as g before) n (seen_as g (bit_or before (1 * 2 ^ (g - n) % 2 ^ 64)))
one_between g before n l h = record { greatest = omega arith; window = λ m w. go m w (cases_order m n) (cases_lt g m) }
  where
    other : (m : ℕ) → g < m + 64 → (m ≡ n → ⊥) → m ≤ g → has_seen (seen_as g (bit_or before (1 * 2 ^ (g - n) % 2 ^ 64))) m ≡ (n == m || has_seen (seen_as g before) m)
    other m w apart b =
        seen_bit g _ m b w
        ∙ ap (λ x. x == 1) (bit_at_set_other w64 before (g - n) h (g - m) (λ e. apart (omega (arith, e))))
        ∙ rw (ne_eqb n m (λ e. apart (sym e))) (sym (seen_bit g before m b w))

    go : (m : ℕ) → g < m + 64 → (m ≡ n) ⊎ ((m < n) ⊎ (n < m)) → (g < m) ⊎ (m ≤ g) → has_seen (seen_as g (bit_or before (1 * 2 ^ (g - n) % 2 ^ 64))) m ≡ (n == m || has_seen (seen_as g before) m)
    go m w (inl e) (inr b) =
        seen_bit g _ m b w
        ∙ is_one _ (subst (λ k. bit_at (bit_or before (1 * 2 ^ (g - n) % 2 ^ 64)) (g - k) ≡ 1) (sym e) (bit_at_set_same w64 before (g - n) h))
        ∙ rw (eq-eqb n m (sym e)) refl
    go m w (inl e) (inl b) = absurd (omega (arith, e))
    go m w (inr o) (inl b) = unseen g _ m b ∙ rw (ne_eqb n m (λ e. omega (arith, e)), unseen g before m b) refl
    go m w (inr (inl f)) (inr b) = other m w (λ e. omega (arith, e, f)) b
    go m w (inr (inr f)) (inr b) = other m w (λ e. omega (arith, e, f)) b

-- of the first number alone, just that is seen
pub first_one : (n m : ℕ) → n < m + 64 → has_seen (seen_as n 1) m ≡ (n == m || false)
first_one n m w = go (cases_order m n)
  where
    go : (m ≡ n) ⊎ ((m < n) ⊎ (n < m)) → has_seen (seen_as n 1) m ≡ (n == m || false)
    go (inl e) =
        seen_bit n 1 m (omega arith) w
        ∙ is_one _ (ap (bit_at 1) (let z : n - m ≡ 0 = omega (arith, e) in z) ∙ bit_at-pow_same 0)
        ∙ rw (eq-eqb n m (sym e)) refl
    go (inr (inr f)) = unseen n 1 m f ∙ rw (ne_eqb n m (λ e. omega (arith, e, f))) refl
    go (inr (inl f)) =
        seen_bit n 1 m (omega arith) w
        ∙ is_none _ (bit_at-pow_other 0 (n - m) (λ e. omega (arith, e, f)))
        ∙ rw (ne_eqb n m (λ e. omega (arith, e, f))) refl
