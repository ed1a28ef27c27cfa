-- A stamp that is Fit was not accepted before.
use Rattle.std.proofs.Common.{◌≡◌, ◌⊎◌, ℕ, ◌+◌, Bool, true, false, List, [], ◌∷◌, length, min, nat_lt, nat_le, ◌==◌, ◌||◌, if◌then◌else◌, refl, subst, inl, inr, ltb-false, le-leb, eq-eqb}
use Rattle.term_values.specs.Trees.{Among, Bytes}
use Rattle.term_values.specs.declared.small.Stamp.{Stamp}
use Rattle.term_values.specs.declared.small.Stamp.TheVariants.{Time, Seq}
use Rattle.term_values.specs.SameBytes.{same_bytes}
use Rattle.term_values.specs.declared.small.StampKind.{StampKind}
use Rattle.term_values.specs.declared.small.StampKind.TheVariants.{Time as by_time, Seq as by_number}
use Rattle.replay_store.specs.Stamps.{accept, Accepted, is_from, live, with_live, with_time, with_number, live_times, numbers, greatest, stands_in, is_empty, time_limit, number_window, stamp_verdict}
use Rattle.replay_store.specs.declared.verdict.Verdict.TheVariants.{WrongStampKind, Early, Late, Repeated, StoreFull, Fit}
use Rattle.term_values.proofs.Lists.{and_both}
use Rattle.term_values.proofs.SameBytes.{same_bytes_refl}

from_itself : (s : ℕ) (t : Bytes) (x : Stamp) → is_from s t (accept s t x) ≡ true
from_itself s t x = and_both (s == s) (same_bytes t t) (eq-eqb s s refl) (same_bytes_refl t)

stands_first : (n : ℕ) (ns : List ℕ) → stands_in n (n ∷ ns) ≡ true
stands_first n ns = or_first (n == n) (stands_in n ns) (eq-eqb n n refl)
  where
    or_first : (a b : Bool) → a ≡ true → (a || b) ≡ true
    or_first true b h = refl
    or_first false b h = absurd (cc)

stands_later : (n m : ℕ) (ns : List ℕ) → stands_in n ns ≡ true → stands_in n (m ∷ ns) ≡ true
stands_later n m ns h = or_second (m == n) (stands_in n ns) h
  where
    or_second : (a b : Bool) → b ≡ true → (a || b) ≡ true
    or_second true b h = refl
    or_second false b h = h

in_times : (w now s : ℕ) (t : Bytes) (n : ℕ) (acc : List Accepted) → live w now n ≡ true → Among (accept s t (Time n)) acc → stands_in n (live_times w now s t acc) ≡ true
in_times w now s t n [] l i = elim i [ ]
in_times w now s t n (a ∷ more) l (inl e) =
    subst (λ (x : Accepted). stands_in n (live_times w now s t (x ∷ more)) ≡ true) e (here (is_from s t (accept s t (Time n))) (from_itself s t (Time n)) (live w now n) l)
  where
    here : (b : Bool) → b ≡ true → (c : Bool) → c ≡ true → stands_in n (if b then with_live c n (live_times w now s t more) else live_times w now s t more) ≡ true
    here true e true f = stands_first n (live_times w now s t more)
    here true e false f = absurd (cc)
    here false e c f = absurd (cc)
in_times w now s t n (a ∷ more) l (inr i) = later (is_from s t a) a.stamp (in_times w now s t n more l i)
  where
    with_more : (c : Bool) (m : ℕ) → stands_in n (live_times w now s t more) ≡ true → stands_in n (with_live c m (live_times w now s t more)) ≡ true
    with_more true m h = stands_later n m (live_times w now s t more) h
    with_more false m h = h

    later : (b : Bool) (x : Stamp) → stands_in n (live_times w now s t more) ≡ true → stands_in n (if b then with_time w now x (live_times w now s t more) else live_times w now s t more) ≡ true
    later true (Time m) h = with_more (live w now m) m h
    later true (Seq m) h = h
    later false x h = h

in_numbers : (s : ℕ) (t : Bytes) (n : ℕ) (acc : List Accepted) → Among (accept s t (Seq n)) acc → stands_in n (numbers s t acc) ≡ true
in_numbers s t n [] i = elim i [ ]
in_numbers s t n (a ∷ more) (inl e) =
    subst (λ (x : Accepted). stands_in n (numbers s t (x ∷ more)) ≡ true) e (here (is_from s t (accept s t (Seq n))) (from_itself s t (Seq n)))
  where
    here : (b : Bool) → b ≡ true → stands_in n (if b then n ∷ numbers s t more else numbers s t more) ≡ true
    here true e = stands_first n (numbers s t more)
    here false e = absurd (cc)
in_numbers s t n (a ∷ more) (inr i) = later (is_from s t a) a.stamp (in_numbers s t n more i)
  where
    later : (b : Bool) (x : Stamp) → stands_in n (numbers s t more) ≡ true → stands_in n (if b then with_number x (numbers s t more) else numbers s t more) ≡ true
    later true (Seq m) h = stands_later n m (numbers s t more) h
    later true (Time m) h = h
    later false x h = h

time_fit : (a b c d : Bool) (now count : ℕ) → (if a then Early now else if b then Late now else if c then Repeated else if d then StoreFull count else Fit) ≡ Fit → (b ≡ false) × (c ≡ false)
time_fit true b c d now count e = absurd (cc)
time_fit false true c d now count e = absurd (cc)
time_fit false false true d now count e = absurd (cc)
time_fit false false false d now count e = (refl, refl)

number_fit : (a b c : Bool) (at : ℕ) → (if a then Fit else if b then Late at else if c then Repeated else Fit) ≡ Fit → (a ≡ true) ⊎ (c ≡ false)
number_fit true b c at e = inl refl
number_fit false true c at e = absurd (cc)
number_fit false false true at e = absurd (cc)
number_fit false false false at e = inr refl

pub fit_is_new : (w now : ℕ) (acc : List Accepted) (kind : StampKind) (s : ℕ) (t : Bytes) (x : Stamp) → stamp_verdict w now acc kind s t x ≡ Fit → Among (accept s t x) acc → ⊥
fit_is_new w now acc by_time s t (Time n) fit i =
    let times = live_times w now s t acc in
    let r = time_fit (nat_lt (now + w) n) (nat_lt (n + w) now) (stands_in n times) (nat_le time_limit (length times)) now (min (length times) 4_294_967_295) fit in
    let is_live : live w now n ≡ true = le-leb now (n + w) (ltb-false (n + w) now r.0) in
    let there : stands_in n (live_times w now s t acc) ≡ true = in_times w now s t n acc is_live i in
    true_false there r.1
  where
    true_false : {b : Bool} → b ≡ true → b ≡ false → ⊥
    true_false e f = cc
fit_is_new w now acc by_number s t (Seq n) fit i = go (number_fit (is_empty (numbers s t acc)) (nat_le (n + number_window) (greatest (numbers s t acc))) (stands_in n (numbers s t acc)) (greatest (numbers s t acc)) fit) (in_numbers s t n acc i)
  where
    not_empty : (ns : List ℕ) → is_empty ns ≡ true → stands_in n ns ≡ true → ⊥
    not_empty [] e h = cc
    not_empty (m ∷ ns) e h = cc

    go : (is_empty (numbers s t acc) ≡ true) ⊎ (stands_in n (numbers s t acc) ≡ false) → stands_in n (numbers s t acc) ≡ true → ⊥
    go (inl e) h = not_empty (numbers s t acc) e h
    go (inr e) h = cc
fit_is_new w now acc by_time s t (Seq n) fit i = let e : WrongStampKind ≡ Fit = fit in cc
fit_is_new w now acc by_number s t (Time n) fit i = let e : WrongStampKind ≡ Fit = fit in cc
