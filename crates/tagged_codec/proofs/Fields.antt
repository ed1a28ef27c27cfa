-- What is read is what was written, and what was written is read again: the fields.
use Rattle.std.proofs.Common.{◌≡◌, ◌⊎◌, ℕ, zero, suc, ◌+◌, ◌*◌, ◌^◌, ◌<◌, ◌≤◌, Bool, true, false, cond, ltb, eqb, List, [], ◌∷◌, ◌++◌, length, get_or, take, drop, refl, sym, ap, subst, ◌∙◌, append_assoc, arith, inl, inr}
use Rattle.std.specs.Prelude.{Result, Ok, Err}
use Rattle.std.specs.Int.{Width, w16, w32, w64, byte_len, from_be_bytes, to_be_bytes}
use Rattle.std.proofs.lemmas.Bool.{cases_lt, eqb-true, ltb-false, le-ltb}
use Rattle.std.proofs.lemmas.List.{take_at, drop_at, take-append-drop, length-append, length-take, get_or-drop, get_or-take, get_or_past}
use Rattle.std.proofs.lemmas.Nat.{be_bytes_2, be_bytes_4, be_bytes_8, from_be_bytes-to_be_bytes_2, from_be_bytes-to_be_bytes_4, from_be_bytes-to_be_bytes_8}
use Rattle.term_values.specs.declared.Key.{Key}
use Rattle.term_values.specs.declared.Key.TheVariants.{One, Two}
use Rattle.term_values.specs.Limits.{IsKey}
use Rattle.tagged_codec.specs.Grammar.{key_spelling, sized_spelling}
use Rattle.term_values.specs.declared.Why.{Why}
use Rattle.tagged_codec.specs.Reading.{◌>>=◌, Stop, byte_at, bytes_at, key_at, key_under, number_at, sized_at}

abbrev pub IsBytes : List ℕ → Type 0
IsBytes bytes = (i : ℕ) → get_or bytes i 0 < 256

IsBytes-drop : (n : ℕ) (bytes : List ℕ) → IsBytes bytes → IsBytes (drop n bytes)
IsBytes-drop n bytes h i = rw get_or-drop (h (n + i))

pub IsBytes-take : (n : ℕ) (bytes : List ℕ) → IsBytes bytes → IsBytes (take n bytes)
IsBytes-take n bytes h i =
    elim (cases_lt i n) [
      | inl lt ↦ rw (get_or-take n bytes i 0 lt) (h i)
      | inr le ↦ rw (get_or_past (take n bytes) i 0 (omega (arith, length-take n bytes))) (omega arith)
    ]

pub IsBytes-append : (a b : List ℕ) → IsBytes a → IsBytes b → IsBytes (a ++ b)
IsBytes-append [] b h k i = k i
IsBytes-append (x ∷ a) b h k zero = h 0
IsBytes-append (x ∷ a) b h k (suc i) = IsBytes-append a b (λ j. h (suc j)) k i

pub bind_ok : {A B : Type 0} (r : Result A Stop) (f : A → Result B Stop) (y : B) → (r >>= f) ≡ Ok y → (x : A) × (r ≡ Ok x) × (f x ≡ Ok y)
bind_ok (Ok x) f y e = (x, refl, e)
bind_ok (Err s) f y e = absurd cc

pub bind_err : {A B : Type 0} (r : Result A Stop) (f : A → Result B Stop) (s : Stop) → (r >>= f) ≡ Err s → (r ≡ Err s) ⊎ ((x : A) × (r ≡ Ok x) × (f x ≡ Err s))
bind_err (Ok x) f s e = inr (x, refl, e)
bind_err (Err t) f s e = inl cc

-- a test that did not fail
pub guard_ok : {A : Type 0} (b : Bool) (s : Stop) (x : Result A Stop) (y : A) → cond b (Err s) x ≡ Ok y → (b ≡ false) × (x ≡ Ok y)
guard_ok true s x y e = absurd cc
guard_ok false s x y e = (refl, e)

pub chosen : {A : Type 0} (b : Bool) (x y z : A) → cond b x y ≡ z → ((b ≡ true) × (x ≡ z)) ⊎ ((b ≡ false) × (y ≡ z))
chosen true x y z e = inl (refl, e)
chosen false x y z e = inr (refl, e)

abbrev given : {A : Type 0} → A → Result A Stop
given x = Ok x

pub ok_is : {A : Type 0} (x y : A) → given x ≡ given y → x ≡ y
ok_is x y e = cc

abbrev stopped : {A : Type 0} → Stop → Result A Stop
stopped s = Err s

pub stop_is : {A : Type 0} (s t : Stop) → stopped {A = A} s ≡ stopped t → s ≡ t
stop_is s t e = cc

-- what a reader took from the front
pub record Takes (bytes text rest : List ℕ) : Type 0 where
  pub parts : bytes ≡ text ++ rest
  pub rest_fits : IsBytes rest

pub Takes-then : (a x b y c : List ℕ) → Takes a x b → Takes b y c → Takes a (x ++ y) c
Takes-then a x b y c p q = record { parts = p.parts ∙ ap (λ (t : List ℕ). x ++ t) q.parts ∙ sym (append_assoc x y c); rest_fits = q.rest_fits }

-- ---- bytes

pub byte_takes : (bytes : List ℕ) (x : ℕ × List ℕ) → IsBytes bytes → byte_at bytes ≡ Ok x → Takes bytes (x.0 ∷ []) x.1
unfolding byte_at
byte_takes [] x fits e = absurd cc
byte_takes (b ∷ bytes) x fits e = subst (λ (y : ℕ × List ℕ). Takes (b ∷ bytes) (y.0 ∷ []) y.1) (ok_is (b, bytes) x e) (record { parts = refl; rest_fits = λ i. fits (suc i) })

pub bytes_takes : (n : ℕ) (bytes : List ℕ) (x : List ℕ × List ℕ) → IsBytes bytes → bytes_at n bytes ≡ Ok x → Takes bytes x.0 x.1 × (length x.0 ≡ n) × IsBytes x.0
unfolding bytes_at
bytes_takes n bytes x fits e =
    let g = guard_ok (ltb (length bytes) n) _ (Ok (take n bytes, drop n bytes)) x e in
    let long : n ≤ length bytes = ltb-false _ _ g.0 in
    subst (λ (y : List ℕ × List ℕ). Takes bytes y.0 y.1 × (length y.0 ≡ n) × IsBytes y.0) (ok_is (take n bytes, drop n bytes) x g.1)
    (record { parts = sym (take-append-drop n bytes); rest_fits = IsBytes-drop n bytes fits }, omega (arith, length-take n bytes), IsBytes-take n bytes fits)

pub bytes_again : (n : ℕ) (front rest : List ℕ) → length front ≡ n → bytes_at n (front ++ rest) ≡ Ok (front, rest)
unfolding bytes_at
bytes_again n front rest len =
    let long : ltb (length (front ++ rest)) n ≡ false = le-ltb _ _ (omega (arith, length-append front rest)) in
    rw (long, take_at front rest n len, drop_at front rest n len) refl

-- ---- numbers

pub record IsWide (w : Width) (limit : ℕ) : Type 0 where
  pub len : (n : ℕ) → length (to_be_bytes w n) ≡ byte_len w
  pub back : (bytes : List ℕ) → length bytes ≡ byte_len w → IsBytes bytes → to_be_bytes w (from_be_bytes w bytes) ≡ bytes
  pub again : (n : ℕ) → n < limit → from_be_bytes w (to_be_bytes w n) ≡ n
  pub below : (bytes : List ℕ) → IsBytes bytes → from_be_bytes w bytes < limit

pub wide16 : IsWide w16 (2 ^ 16)
wide16 = record {
  len = λ n. refl;
  back = λ bytes len fits. be_bytes_2 bytes _ len fits refl;
  again = λ n lt. from_be_bytes-to_be_bytes_2 n lt;
  below = λ bytes fits. omega (arith, fits 0, fits 1);
}

pub wide32 : IsWide w32 (2 ^ 32)
wide32 = record {
  len = λ n. refl;
  back = λ bytes len fits. be_bytes_4 bytes _ len fits refl;
  again = λ n lt. from_be_bytes-to_be_bytes_4 n lt;
  below = λ bytes fits. omega (arith, fits 0, fits 1, fits 2, fits 3);
}

pub wide64 : IsWide w64 (2 ^ 64)
wide64 = record {
  len = λ n. refl;
  back = λ bytes len fits. be_bytes_8 bytes _ len fits refl;
  again = λ n lt. from_be_bytes-to_be_bytes_8 n lt;
  below = λ bytes fits. omega (arith, fits 0, fits 1, fits 2, fits 3, fits 4, fits 5, fits 6, fits 7);
}

pub number_takes : (w : Width) (limit : ℕ) (wide : IsWide w limit) (bytes : List ℕ) (x : ℕ × List ℕ) → IsBytes bytes → number_at w bytes ≡ Ok x → Takes bytes (to_be_bytes w x.0) x.1 × (x.0 < limit)
unfolding number_at
number_takes w limit wide bytes x fits e =
    let b = bind_ok (bytes_at (byte_len w) bytes) (λ front. Ok (from_be_bytes w front.0, front.1)) x e in
    let t = bytes_takes (byte_len w) bytes b.0 fits b.1 in
    subst (λ (y : ℕ × List ℕ). Takes bytes (to_be_bytes w y.0) y.1 × (y.0 < limit)) (ok_is (from_be_bytes w b.0.0, b.0.1) x b.2)
    (rw (wide.back b.0.0 t.1 t.2) t.0, wide.below b.0.0 t.2)

pub number_again : (w : Width) (limit : ℕ) (wide : IsWide w limit) (n : ℕ) (rest : List ℕ) → n < limit → number_at w (to_be_bytes w n ++ rest) ≡ Ok (n, rest)
unfolding number_at
number_again w limit wide n rest lt = rw (bytes_again (byte_len w) (to_be_bytes w n) rest (wide.len n), wide.again n lt) refl

-- ---- two bytes of length

two_fit : (high low : ℕ) → high < 256 → low < 256 → IsBytes (high ∷ low ∷ [])
two_fit high low h l zero = h
two_fit high low h l (suc zero) = l
two_fit high low h l (suc (suc i)) = omega arith

pub length_bytes : (high low n : ℕ) → high < 256 → low < 256 → n ≡ high * 256 + low → to_be_bytes w16 n ≡ high ∷ low ∷ []
length_bytes high low n h l e = be_bytes_2 (high ∷ low ∷ []) n refl (two_fit high low h l) (omega (arith, e))

two_cells : (l : List ℕ) → length l ≡ 2 → (high low : ℕ) × (l ≡ high ∷ low ∷ [])
two_cells [] e = absurd (omega arith)
two_cells (x ∷ []) e = absurd (omega arith)
two_cells (x ∷ y ∷ []) e = (x, y, refl)
two_cells (x ∷ y ∷ z ∷ l) e = absurd (omega (arith, e))

pub bytes_of_length : (n : ℕ) → n < 2 ^ 16 → (high low : ℕ) × (to_be_bytes w16 n ≡ high ∷ low ∷ []) × (n ≡ high * 256 + low)
bytes_of_length n lt =
    let c = two_cells (to_be_bytes w16 n) refl in
    (c.0, c.1, c.2, omega (arith, from_be_bytes-to_be_bytes_2 n lt, ap (from_be_bytes w16) c.2))

pub sized_takes : (most : ℕ) (reason : Why) (bytes : List ℕ) (x : List ℕ × List ℕ) → IsBytes bytes → sized_at most reason bytes ≡ Ok x → Takes bytes (sized_spelling x.0) x.1 × (length x.0 ≤ most)
unfolding sized_at
sized_takes most reason bytes x fits e =
    let h = bind_ok (byte_at bytes) _ x e in
    let first = byte_takes bytes h.0 fits h.1 in
    let g = guard_ok (ltb most (h.0.0 * 256)) _ _ x h.2 in
    let l = bind_ok (byte_at h.0.1) _ x g.1 in
    let second = byte_takes h.0.1 l.0 first.rest_fits l.1 in
    let k = guard_ok (ltb most (h.0.0 * 256 + l.0.0)) _ (bytes_at (h.0.0 * 256 + l.0.0) l.0.1) x l.2 in
    let third = bytes_takes (h.0.0 * 256 + l.0.0) l.0.1 x second.rest_fits k.1 in
    let high : h.0.0 < 256 = subst (λ (b : List ℕ). get_or b 0 0 < 256) first.parts (fits 0) in
    let low : l.0.0 < 256 = subst (λ (b : List ℕ). get_or b 0 0 < 256) second.parts (first.rest_fits 0) in
    let spelled : to_be_bytes w16 (length x.0) ≡ h.0.0 ∷ l.0.0 ∷ [] = length_bytes h.0.0 l.0.0 (length x.0) high low third.1 in
    let both : Takes bytes (h.0.0 ∷ l.0.0 ∷ []) l.0.1 = Takes-then bytes (h.0.0 ∷ []) h.0.1 (l.0.0 ∷ []) l.0.1 first second in
    let all : Takes bytes ((h.0.0 ∷ l.0.0 ∷ []) ++ x.0) x.1 = Takes-then bytes (h.0.0 ∷ l.0.0 ∷ []) l.0.1 x.0 x.1 both third.0 in
    (subst (λ (p : List ℕ). Takes bytes (p ++ x.0) x.1) (sym spelled) all, omega (arith, third.1, ltb-false _ _ k.0))

pub sized_again : (most : ℕ) (reason : Why) (text rest : List ℕ) → length text ≤ most → most < 2 ^ 16 → sized_at most reason (sized_spelling text ++ rest) ≡ Ok (text, rest)
unfolding sized_at byte_at
sized_again most reason text rest le small =
    let c = bytes_of_length (length text) (omega arith) in
    let one : ltb most (c.0 * 256) ≡ false = le-ltb _ _ (omega (arith, c.3)) in
    let two : ltb most (c.0 * 256 + c.1) ≡ false = le-ltb _ _ (omega (arith, c.3)) in
    ap (sized_at most reason) (append_assoc (to_be_bytes w16 (length text)) text rest) ∙ ap (λ (l : List ℕ). sized_at most reason (l ++ (text ++ rest))) c.2
    ∙ rw (one, two) (bytes_again (c.0 * 256 + c.1) text rest c.3)

-- ---- keys

key_under_takes : (start : List ℕ) (kind : ℕ) (bytes : List ℕ) (x : Key × List ℕ) → IsBytes bytes → key_under start kind bytes ≡ Ok x → (front : List ℕ) × (key_spelling x.0 ≡ kind ∷ front) × Takes bytes front x.1 × IsKey x.0
unfolding key_under
key_under_takes start kind bytes x fits e =
    elim (chosen (eqb kind 0x0b) _ _ _ e) [
      | inl a ↦
          let p = bind_ok (bytes_at 32 bytes) (λ p. Ok (One p.0, p.1)) x a.1 in
          let t = bytes_takes 32 bytes p.0 fits p.1 in
          let made : Key × List ℕ = (One p.0.0, p.0.1) in
          subst (λ (y : Key × List ℕ). (front : List ℕ) × (key_spelling y.0 ≡ kind ∷ front) × Takes bytes front y.1 × IsKey y.0) (ok_is made x p.2) (p.0.0, ap (λ (k : ℕ). k ∷ p.0.0) (sym (eqb-true kind 0x0b a.0)), t.0, t.1)
      | inr b ↦ elim (chosen (eqb kind 0x0c) _ _ _ b.1) [
        | inl a ↦
            let p = bind_ok (bytes_at 32 bytes) (λ p. bytes_at 32 p.1 >>= λ q. Ok (Two p.0 q.0, q.1)) x a.1 in
            let q = bind_ok (bytes_at 32 p.0.1) (λ q. Ok (Two p.0.0 q.0, q.1)) x p.2 in
            let t = bytes_takes 32 bytes p.0 fits p.1 in
            let u = bytes_takes 32 p.0.1 q.0 t.0.rest_fits q.1 in
            let made : Key × List ℕ = (Two p.0.0 q.0.0, q.0.1) in
            subst (λ (y : Key × List ℕ). (front : List ℕ) × (key_spelling y.0 ≡ kind ∷ front) × Takes bytes front y.1 × IsKey y.0) (ok_is made x q.2)
            (p.0.0 ++ q.0.0, ap (λ (k : ℕ). k ∷ p.0.0 ++ q.0.0) (sym (eqb-true kind 0x0c a.0)), Takes-then bytes p.0.0 p.0.1 q.0.0 q.0.1 t.0 u.0, (t.1, u.1))
        | inr c ↦ absurd (let never = c.1 in cc)
      ]
    ]

pub key_takes : (bytes : List ℕ) (x : Key × List ℕ) → IsBytes bytes → key_at bytes ≡ Ok x → Takes bytes (key_spelling x.0) x.1 × IsKey x.0
unfolding key_at
key_takes bytes x fits e =
    let k = bind_ok (byte_at bytes) (λ kind. key_under bytes kind.0 kind.1) x e in
    let first = byte_takes bytes k.0 fits k.1 in
    let second = key_under_takes bytes k.0.0 k.0.1 x first.rest_fits k.2 in
    (rw second.1 (Takes-then bytes (k.0.0 ∷ []) k.0.1 second.0 x.1 first second.2), second.3)

pub key_again : (key : Key) (rest : List ℕ) → IsKey key → key_at (key_spelling key ++ rest) ≡ Ok (key, rest)
unfolding key_at key_under byte_at
key_again (One p) rest len = rw (bytes_again 32 p rest len) refl
key_again (Two p q) rest lens =
    ap (λ (l : List ℕ). key_at (0x0c ∷ l)) (append_assoc p q rest) ∙ rw (bytes_again 32 p (q ++ rest) lens.0, bytes_again 32 q rest lens.1) refl
