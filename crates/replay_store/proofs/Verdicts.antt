-- What the store that forgets says of a stamp is the verdict over all accepted stamps.
use Rattle.std.proofs.Common.{◌≡◌, ◌⊎◌, ◌<◌, ◌≤◌, ℕ, ◌+◌, ◌-◌, ◌^◌, Bool, true, false, List, [], ◌∷◌, length, Option, Some, None, ◌==◌, ◌&&◌, ◌||◌, nat_lt, nat_le, cond, if◌then◌else◌, count_by, refl, sym, ◌∙◌, ap, ap₂, subst, inl, inr, arith, eqb-true}
use Rattle.std.proofs.lemmas.Bool.{cases_lt, le-leb, lt-leb, lt-ltb, le-ltb, leb-false}
use Rattle.term_values.specs.Trees.{Bytes}
use Rattle.term_values.specs.declared.small.Stamp.{Stamp}
use Rattle.term_values.specs.declared.small.Stamp.TheVariants.{Time, Seq}
use Rattle.term_values.specs.declared.small.StampKind.{StampKind}
use Rattle.term_values.specs.declared.small.StampKind.TheVariants.{Time as by_time, Seq as by_number}
use Rattle.replay_store.specs.Stamps.{Accepted, greatest, is_empty, is_from, live, live_times, number_of, number_verdict, numbers, stamp_verdict, stands_in, time_verdict, with_live, with_time}
use Rattle.replay_store.specs.Stores.{HoldSame, greatest_number, number_answer, time_answer}
use Rattle.replay_store.specs.Windows.{AreSeen, AreValid, IsPair, below, has_seen, held_verdict, key_of, live_keys, number_by_seen, pair_of, time_by_keys, up_to, with_key, with_time_key}
use Rattle.replay_store.specs.declared.seen.Seen.{Seen}
use Rattle.replay_store.proofs.Found.{number_verdict_is}
use Rattle.replay_store.proofs.Pairs.{from_pair, live_from, one_key, same_key}
use Rattle.replay_store.proofs.Ranks.{count_cons, up_to_is}

-- what isn't live isn't live later
pub dead_later : (w now m t : ℕ) → now ≤ m → live w now t ≡ false → live w m t ≡ false
dead_later w now m t l e = lt-leb m (t + w) (omega (arith, leb-false now (t + w) e, l))

-- one more stamp of pair q, in the count of the keys of pair p
count_step : (w now m p q : ℕ) (b c : Bool) (t : ℕ) (ks ts : List ℕ) → now ≤ m → m < 2 ^ 64 → t < 2 ^ 64 → b ≡ live w now t → c ≡ (q == p)
    → up_to (key_of p 18_446_744_073_709_551_615) ks ≡ below (key_of p (m - w)) ks + length ts
    → up_to (key_of p 18_446_744_073_709_551_615) (with_key b (key_of q t) ks) ≡ below (key_of p (m - w)) (with_key b (key_of q t) ks) + length (if c then with_live (live w m t) t ts else ts)
count_step w now m p q false true t ks ts l small tiny is own e = rw (dead_later w now m t l (sym is)) e
count_step w now m p q false false t ks ts l small tiny is own e = e
count_step w now m p q true false t ks ts l small tiny is own e =
    let a = count_cons (λ k. nat_le k (key_of p 18_446_744_073_709_551_615)) (key_of q t) ks in
    let b = count_cons (λ k. nat_lt k (key_of p (m - w))) (key_of q t) ks in
    let d = one_key p q t (m - w) tiny (omega arith) in
    let f : cond (nat_le (key_of q t) (key_of p 18_446_744_073_709_551_615)) 1 0 ≡ cond (nat_lt (key_of q t) (key_of p (m - w))) 1 0 + 0 = rw (sym own) at d in
    omega (arith, a, b, f, e)
count_step w now m p q true true t ks ts l small tiny is own e =
    let a = count_cons (λ k. nat_le k (key_of p 18_446_744_073_709_551_615)) (key_of q t) ks in
    let b = count_cons (λ k. nat_lt k (key_of p (m - w))) (key_of q t) ks in
    let d = one_key p q t (m - w) tiny (omega arith) in
    let f : cond (nat_le (key_of q t) (key_of p 18_446_744_073_709_551_615)) 1 0 ≡ cond (nat_lt (key_of q t) (key_of p (m - w))) 1 0 + cond (nat_le (m - w) t) 1 0 = rw (sym own) at d in
    let g = longer (live w m t) t ts in
    let h = ap {B = ℕ} (λ x. cond x 1 0) (live_from w m t) in
    omega (arith, a, b, f, g, h, e)
  where
    longer : (b : Bool) (t : ℕ) (ts : List ℕ) → length (with_live b t ts) ≡ cond b 1 0 + length ts
    longer true t ts = omega arith
    longer false t ts = omega arith

-- the keys of a pair that are not below the oldest live time are as many as its live times
pub held_count : (w now m s : ℕ) (g : Bytes) → IsPair s g → now ≤ m → m < 2 ^ 64 → (acc : List Accepted) → AreValid acc
    → up_to (key_of (pair_of s g) 18_446_744_073_709_551_615) (live_keys w now acc) ≡ below (key_of (pair_of s g) (m - w)) (live_keys w now acc) + length (live_times w m s g acc)
held_count w now m s g pair l small [] valid = refl
held_count w now m s g pair l small (a ∷ more) valid = by_stamp a.stamp valid.0.number (held_count w now m s g pair l small more valid.1)
  where
    by_stamp : (x : Stamp) → number_of x < 2 ^ 64
        → up_to (key_of (pair_of s g) 18_446_744_073_709_551_615) (live_keys w now more) ≡ below (key_of (pair_of s g) (m - w)) (live_keys w now more) + length (live_times w m s g more)
        → up_to (key_of (pair_of s g) 18_446_744_073_709_551_615) (with_time_key w now (pair_of a.sender a.tagged) x (live_keys w now more)) ≡ below (key_of (pair_of s g) (m - w)) (with_time_key w now (pair_of a.sender a.tagged) x (live_keys w now more)) + length (if is_from s g a then with_time w m x (live_times w m s g more) else live_times w m s g more)
    by_stamp (Time t) tiny e = count_step w now m (pair_of s g) (pair_of a.sender a.tagged) (live w now t) (is_from s g a) t (live_keys w now more) (live_times w m s g more) l small tiny refl (from_pair s g a pair valid.0.pair) e
    by_stamp (Seq n) tiny e = same (is_from s g a) e
      where
        same : (c : Bool) → up_to (key_of (pair_of s g) 18_446_744_073_709_551_615) (live_keys w now more) ≡ below (key_of (pair_of s g) (m - w)) (live_keys w now more) + length (live_times w m s g more)
            → up_to (key_of (pair_of s g) 18_446_744_073_709_551_615) (live_keys w now more) ≡ below (key_of (pair_of s g) (m - w)) (live_keys w now more) + length (if c then live_times w m s g more else live_times w m s g more)
        same true e = e
        same false e = e

-- one more stamp of pair q, in the search for the time n of pair p
found_step : (w now m p q n : ℕ) (b c : Bool) (t : ℕ) (ks ts : List ℕ) → now ≤ m → t < 2 ^ 64 → n < 2 ^ 64 → live w m n ≡ true → b ≡ live w now t → c ≡ (q == p)
    → nat_lt 0 (count_by (λ k. k == key_of p n) ks) ≡ stands_in n ts
    → nat_lt 0 (count_by (λ k. k == key_of p n) (with_key b (key_of q t) ks)) ≡ stands_in n (if c then with_live (live w m t) t ts else ts)
found_step w now m p q n false true t ks ts l tiny small alive is own e = rw (dead_later w now m t l (sym is)) e
found_step w now m p q n false false t ks ts l tiny small alive is own e = e
found_step w now m p q n true c t ks ts l tiny small alive is own e =
    ap (λ x. nat_lt 0 x) (count_cons (λ k. k == key_of p n) (key_of q t) ks) ∙ one c (t == n) (live w m t) refl (λ h. subst (λ x. live w m x ≡ true) (sym (eqb-true t n h)) alive) (same_key p q n t small tiny ∙ ap (λ x. x && (t == n)) (sym own))
  where
    more : (x : ℕ) → nat_lt 0 (1 + x) ≡ true
    more x = lt-ltb 0 (1 + x) (omega arith)

    none : (x : ℕ) → nat_lt 0 (0 + x) ≡ nat_lt 0 x
    none x = ap (λ y. nat_lt 0 y) (let z : 0 + x ≡ x = omega arith in z)

    one : (c d b : Bool) → d ≡ (t == n) → (d ≡ true → b ≡ true) → (key_of q t == key_of p n) ≡ (c && d) → nat_lt 0 (cond (key_of q t == key_of p n) 1 0 + count_by (λ k. k == key_of p n) ks) ≡ stands_in n (if c then with_live b t ts else ts)
    one true true true i f h = rw h (more (count_by (λ k. k == key_of p n) ks) ∙ ap (λ x. x || stands_in n ts) i)
    one true true false i f h = absurd (let x : false ≡ true = f refl in cc)
    one true false true i f h = rw h (none (count_by (λ k. k == key_of p n) ks) ∙ e ∙ ap (λ x. x || stands_in n ts) i)
    one true false false i f h = rw h (none (count_by (λ k. k == key_of p n) ks) ∙ e)
    one false d b i f h = rw h (none (count_by (λ k. k == key_of p n) ks) ∙ e)

-- the key of a live time is held exactly where the time is among the live times of its pair
pub held_found : (w now m s : ℕ) (g : Bytes) (n : ℕ) → IsPair s g → now ≤ m → n < 2 ^ 64 → live w m n ≡ true → (acc : List Accepted) → AreValid acc
    → nat_lt 0 (count_by (λ k. k == key_of (pair_of s g) n) (live_keys w now acc)) ≡ stands_in n (live_times w m s g acc)
held_found w now m s g n pair l small alive [] valid = refl
held_found w now m s g n pair l small alive (a ∷ more) valid = by_stamp a.stamp valid.0.number (held_found w now m s g n pair l small alive more valid.1)
  where
    same : (c : Bool) → nat_lt 0 (count_by (λ k. k == key_of (pair_of s g) n) (live_keys w now more)) ≡ stands_in n (live_times w m s g more)
        → nat_lt 0 (count_by (λ k. k == key_of (pair_of s g) n) (live_keys w now more)) ≡ stands_in n (if c then live_times w m s g more else live_times w m s g more)
    same true e = e
    same false e = e

    by_stamp : (x : Stamp) → number_of x < 2 ^ 64
        → nat_lt 0 (count_by (λ k. k == key_of (pair_of s g) n) (live_keys w now more)) ≡ stands_in n (live_times w m s g more)
        → nat_lt 0 (count_by (λ k. k == key_of (pair_of s g) n) (with_time_key w now (pair_of a.sender a.tagged) x (live_keys w now more))) ≡ stands_in n (if is_from s g a then with_time w m x (live_times w m s g more) else live_times w m s g more)
    by_stamp (Time t) tiny e = found_step w now m (pair_of s g) (pair_of a.sender a.tagged) n (live w now t) (is_from s g a) t (live_keys w now more) (live_times w m s g more) l tiny small alive refl (from_pair s g a pair valid.0.pair) e
    by_stamp (Seq i) tiny e = same (is_from s g a) e

pub held_found_by : (key : ℕ) (ks : List ℕ) → nat_lt (below key ks) (up_to key ks) ≡ nat_lt 0 (count_by (λ k. k == key) ks)
held_found_by key ks = rw (up_to_is key ks) (go (below key ks) (count_by (λ k. k == key) ks))
  where
    go : (x y : ℕ) → nat_lt x (x + y) ≡ nat_lt 0 y
    go x y = elim (cases_lt 0 y) [ inl h ↦ rw (lt-ltb x (x + y) (omega arith), lt-ltb 0 y h) refl | inr h ↦ rw (le-ltb x (x + y) (omega arith), le-ltb 0 y h) refl ]

-- both say the same of a time that is too early or too late, and of a live one where they find the same
same_answer : (w m t : ℕ) (f f' : Bool) (n n' : ℕ) → (live w m t ≡ true → f ≡ f') → n ≡ n' → time_answer w m t f n ≡ time_answer w m t f' n'
same_answer w m t f f' n n' h e = by_life (cases_lt (t + w) m)
  where
    by_life : ((t + w) < m) ⊎ (m ≤ t + w) → time_answer w m t f n ≡ time_answer w m t f' n'
    by_life (inl l) = rw (lt-ltb (t + w) m l) refl
    by_life (inr l) = rw (e, h (le-leb m (t + w) l)) refl

pub time_is : (w now m s : ℕ) (g : Bytes) (t : ℕ) (keys : List ℕ) (acc : List Accepted) → IsPair s g → now ≤ m → m < 2 ^ 64 → t < 2 ^ 64 → AreValid acc
    → ((p : ℕ → Bool) → count_by p keys ≡ count_by p (live_keys w now acc)) → time_by_keys w m (pair_of s g) t keys ≡ time_verdict w m (live_times w m s g acc) t
time_is w now m s g t keys acc pair l small tiny valid same =
    same_answer w m t _ (stands_in t (live_times w m s g acc)) _ (length (live_times w m s g acc))
    (λ alive. held_found_by (key_of (pair_of s g) t) keys ∙ ap (λ x. nat_lt 0 x) (same (λ k. k == key_of (pair_of s g) t)) ∙ held_found w now m s g t pair l tiny alive acc valid)
    (let a = same (λ k. nat_le k (key_of (pair_of s g) 18_446_744_073_709_551_615)) in
    let b = same (λ k. nat_lt k (key_of (pair_of s g) (m - w))) in
    let c = held_count w now m s g pair l small acc valid in
    omega (arith, a, b, c))

-- what is seen of the accepted numbers of a pair gives their verdict
pub number_is : (seen : Option Seen) (ns : List ℕ) (n : ℕ) → AreSeen seen ns → number_by_seen seen n ≡ number_verdict ns n
number_is None ns n e = rw e refl
number_is (Some seen) [] n h = absurd (let x : true ≡ false = h.some in cc)
number_is (Some seen) (m ∷ ns) n h = rw (← h.greatest) (by_window (cases_lt seen.greatest (n + 64)))
  where
    by_window : (seen.greatest < n + 64) ⊎ (n + 64 ≤ seen.greatest) → number_answer (Some seen.greatest) n (has_seen seen n) ≡ number_answer (Some seen.greatest) n (stands_in n (m ∷ ns))
    by_window (inl l) = ap (λ f. number_answer (Some seen.greatest) n f) (h.window n l)
    by_window (inr l) = rw (le-leb (n + 64) seen.greatest l) refl

-- the verdict by what is held is the verdict over all that was accepted
pub verdict_is : (w now m s : ℕ) (g : Bytes) (kind : StampKind) (x : Stamp) (keys : List ℕ) (seen : Option Seen) (acc : List Accepted) → IsPair s g → now ≤ m → m < 2 ^ 64 → number_of x < 2 ^ 64 → AreValid acc
    → ((p : ℕ → Bool) → count_by p keys ≡ count_by p (live_keys w now acc)) → AreSeen seen (numbers s g acc) → held_verdict w m kind (pair_of s g) x keys seen ≡ stamp_verdict w m acc kind s g x
verdict_is w now m s g by_time (Time t) keys seen acc pair l small tiny valid same are = time_is w now m s g t keys acc pair l small tiny valid same
verdict_is w now m s g by_number (Seq n) keys seen acc pair l small tiny valid same are = number_is seen (numbers s g acc) n are
verdict_is w now m s g by_time (Seq n) keys seen acc pair l small tiny valid same are = refl
verdict_is w now m s g by_number (Time t) keys seen acc pair l small tiny valid same are = refl

-- ---- what a verdict rests on

same_greatest : (ns ms : List ℕ) → is_empty ns ≡ is_empty ms → greatest ns ≡ greatest ms → greatest_number ns ≡ greatest_number ms
same_greatest [] [] e f = refl
same_greatest [] (m ∷ ms) e f = absurd cc
same_greatest (n ∷ ns) [] e f = absurd cc
same_greatest (n ∷ ns) (m ∷ ms) e f = ap Some f

same_number : (ns ms : List ℕ) (n : ℕ) → is_empty ns ≡ is_empty ms → greatest ns ≡ greatest ms → ((i : ℕ) → greatest ns < i + 64 → stands_in i ns ≡ stands_in i ms) → number_verdict ns n ≡ number_verdict ms n
same_number ns ms n some most window =
    number_verdict_is ns n
    ∙ by_window (cases_lt (greatest ns) (n + 64))
    ∙ ap (λ o. number_answer o n (stands_in n ms)) (same_greatest ns ms some most)
    ∙ sym (number_verdict_is ms n)
  where
    late : (b c : Bool) (xs : List ℕ) → n + 64 ≤ greatest xs → number_answer (greatest_number xs) n b ≡ number_answer (greatest_number xs) n c
    late b c [] l = refl
    late b c (x ∷ xs) l = rw (le-leb (n + 64) (greatest (x ∷ xs)) l) refl

    by_window : (greatest ns < n + 64) ⊎ (n + 64 ≤ greatest ns) → number_answer (greatest_number ns) n (stands_in n ns) ≡ number_answer (greatest_number ns) n (stands_in n ms)
    by_window (inl l) = ap (λ f. number_answer (greatest_number ns) n f) (window n l)
    by_window (inr l) = late (stands_in n ns) (stands_in n ms) ns l

pub same_verdict : (w now : ℕ) (xs ys : List Accepted) (kind : StampKind) (s : ℕ) (g : Bytes) (x : Stamp) → HoldSame w now s g xs ys → stamp_verdict w now xs kind s g x ≡ stamp_verdict w now ys kind s g x
same_verdict w now xs ys by_time s g (Time t) h = ap₂ (λ f n. time_answer w now t f n) (h.times t) h.count
same_verdict w now xs ys by_number s g (Seq n) h = same_number (numbers s g xs) (numbers s g ys) n h.some h.most h.window
same_verdict w now xs ys by_time s g (Seq n) h = refl
same_verdict w now xs ys by_number s g (Time t) h = refl
