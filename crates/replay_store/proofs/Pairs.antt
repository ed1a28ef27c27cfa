-- A sender and a tag are told by their number, and a time by its key.
use Rattle.std.proofs.Common.{◌≡◌, ◌⊎◌, ◌<◌, ℕ, ◌+◌, ◌-◌, ◌%◌, ◌^◌, Bool, true, false, ◌==◌, ◌&&◌, nat_lt, nat_le, cond, refl, sym, ◌∙◌, ap, inl, inr, arith, eqb-true, eq-eqb}
use Rattle.std.specs.Int.{w32, from_be_bytes, to_be_bytes}
use Rattle.std.proofs.lemmas.Nat.{be_bytes_4, same_from_place, mod_low}
use Rattle.std.proofs.lemmas.Bool.{cases_order, lt-ltb, le-ltb, le-leb, lt-leb, leb-true, ne_eqb}
use Rattle.term_values.specs.Trees.{Bytes}
use Rattle.term_values.specs.SameBytes.{same_bytes}
use Rattle.term_values.proofs.Lists.{and_both, and_left, and_right}
use Rattle.term_values.proofs.SameBytes.{same_bytes_refl, same_start}
use Rattle.replay_store.specs.Stamps.{Accepted, is_from, live}
use Rattle.replay_store.specs.Windows.{IsPair, IsTag, key_of, pair_of}

tag_below : (t : Bytes) → IsTag t → from_be_bytes w32 t < 2 ^ 32
tag_below t h = omega (arith, h.bytes 0, h.bytes 1, h.bytes 2, h.bytes 3)

pub pair_is : (s s' : ℕ) (t t' : Bytes) → IsPair s t → IsPair s' t' → pair_of s t ≡ pair_of s' t' → (s ≡ s') × (t ≡ t')
pair_is s s' t t' h h' e =
    let r = same_from_place s (from_be_bytes w32 t) s' (from_be_bytes w32 t') (2 ^ 32) (tag_below t h.is_tag) (tag_below t' h'.is_tag) e in
    (r.0, sym (be_bytes_4 t (from_be_bytes w32 t) h.is_tag.length h.is_tag.bytes refl) ∙ ap (to_be_bytes w32) r.1 ∙ be_bytes_4 t' (from_be_bytes w32 t') h'.is_tag.length h'.is_tag.bytes refl)

both_ways : (b c : Bool) → (b ≡ true → c ≡ true) → (c ≡ true → b ≡ true) → b ≡ c
both_ways true c f g = sym (f refl)
both_ways false true f g = g refl
both_ways false false f g = refl

-- an accepted stamp is from a sender under a tag exactly where its pair has their number
pub from_pair : (s : ℕ) (t : Bytes) (a : Accepted) → IsPair s t → IsPair a.sender a.tagged → is_from s t a ≡ (pair_of a.sender a.tagged == pair_of s t)
from_pair s t a h own = both_ways (is_from s t a) (pair_of a.sender a.tagged == pair_of s t) to from
  where
    to : is_from s t a ≡ true → (pair_of a.sender a.tagged == pair_of s t) ≡ true
    to e =
        let x : a.sender ≡ s = eqb-true a.sender s (and_left (a.sender == s) (same_bytes a.tagged t) e) in
        let y : a.tagged ≡ t = same_start a.tagged t (and_right (a.sender == s) (same_bytes a.tagged t) e) in
        eq-eqb (pair_of a.sender a.tagged) (pair_of s t) (ap (λ n. pair_of n a.tagged) x ∙ ap (pair_of s) y)

    from : (pair_of a.sender a.tagged == pair_of s t) ≡ true → is_from s t a ≡ true
    from e =
        let r = pair_is a.sender s a.tagged t own h (eqb-true (pair_of a.sender a.tagged) (pair_of s t) e) in
        and_both (a.sender == s) (same_bytes a.tagged t) (eq-eqb a.sender s r.0) (ap (λ u. same_bytes u t) r.1 ∙ same_bytes_refl t)

-- a key lies up to the end of a pair's keys, and not below those from `low` on, exactly where it is one of the pair's from `low` on
pub one_key : (p q t low : ℕ) → t < 2 ^ 64 → low < 2 ^ 64 → cond (nat_le (key_of q t) (key_of p 18_446_744_073_709_551_615)) 1 0 ≡ cond (nat_lt (key_of q t) (key_of p low)) 1 0 + cond ((q == p) && nat_le low t) 1 0
one_key p q t low small tiny = go (cases_order q p) (cases_order t low)
  where
    go : (q ≡ p) ⊎ ((q < p) ⊎ (p < q)) → (t ≡ low) ⊎ ((t < low) ⊎ (low < t)) → cond (nat_le (key_of q t) (key_of p 18_446_744_073_709_551_615)) 1 0 ≡ cond (nat_lt (key_of q t) (key_of p low)) 1 0 + cond ((q == p) && nat_le low t) 1 0
    go (inl e) (inl f) = rw (le-leb (key_of q t) (key_of p 18_446_744_073_709_551_615) (omega arith), le-ltb (key_of q t) (key_of p low) (omega arith), eq-eqb q p e, le-leb low t (omega arith)) refl
    go (inl e) (inr (inl f)) = rw (le-leb (key_of q t) (key_of p 18_446_744_073_709_551_615) (omega arith), lt-ltb (key_of q t) (key_of p low) (omega arith), eq-eqb q p e, lt-leb low t (omega arith)) refl
    go (inl e) (inr (inr f)) = rw (le-leb (key_of q t) (key_of p 18_446_744_073_709_551_615) (omega arith), le-ltb (key_of q t) (key_of p low) (omega arith), eq-eqb q p e, le-leb low t (omega arith)) refl
    go (inr (inl e)) f = rw (le-leb (key_of q t) (key_of p 18_446_744_073_709_551_615) (omega arith), lt-ltb (key_of q t) (key_of p low) (omega arith), ne_eqb q p (λ h. omega (arith, h, e))) refl
    go (inr (inr e)) f = rw (lt-leb (key_of q t) (key_of p 18_446_744_073_709_551_615) (omega arith), le-ltb (key_of q t) (key_of p low) (omega arith), ne_eqb q p (λ h. omega (arith, h, e))) refl

-- a key is that of a pair's time exactly where it is of the pair and of the time
pub same_key : (p q t n : ℕ) → t < 2 ^ 64 → n < 2 ^ 64 → (key_of q n == key_of p t) ≡ ((q == p) && (n == t))
same_key p q t n small tiny = both_ways (key_of q n == key_of p t) ((q == p) && (n == t)) to from
  where
    to : (key_of q n == key_of p t) ≡ true → ((q == p) && (n == t)) ≡ true
    to e = let r = same_from_place q n p t (2 ^ 64) tiny small (eqb-true (key_of q n) (key_of p t) e) in and_both (q == p) (n == t) (eq-eqb q p r.0) (eq-eqb n t r.1)

    from : ((q == p) && (n == t)) ≡ true → (key_of q n == key_of p t) ≡ true
    from e =
        let x : q ≡ p = eqb-true q p (and_left (q == p) (n == t) e) in
        let y : n ≡ t = eqb-true n t (and_right (q == p) (n == t) e) in
        eq-eqb (key_of q n) (key_of p t) (ap (λ k. key_of k n) x ∙ ap (key_of p) y)

-- a time is live exactly where it isn't below now less the window
pub live_from : (w now t : ℕ) → live w now t ≡ nat_le (now - w) t
live_from w now t = both_ways (live w now t) (nat_le (now - w) t) (λ e. le-leb (now - w) t (omega (arith, leb-true now (t + w) e))) (λ e. le-leb now (t + w) (omega (arith, leb-true (now - w) t e)))

pub time_in_key : (p t : ℕ) → t < 2 ^ 64 → key_of p t % 2 ^ 64 ≡ t
time_in_key p t small = mod_low p 64 t small
