-- The store that forgets still holds what the verdicts need, whatever is recorded, restored or forgotten.
use Rattle.std.proofs.Common.{◌≡◌, ◌≢◌, ◌<◌, ◌≤◌, ℕ, ◌+◌, ◌-◌, ◌%◌, ◌^◌, Bool, true, false, List, [], ◌∷◌, ◌++◌, length, Option, Some, None, is_none, ◌==◌, ◌&&◌, ◌||◌, not, nat_eq, nat_lt, nat_le, max, cond, if◌then◌else◌, count_by, filter, refl, sym, ◌∙◌, ap, ap₂, subst, arith, eqb-true, append_assoc}
use Rattle.std.specs.List.{list_any}
use Rattle.std.specs.Map.{lookup}
use Rattle.std.proofs.lemmas.List.{append-nil}
use Rattle.std.proofs.lemmas.List.Sums.{sum_by-append}
use Rattle.std.proofs.lemmas.Bool.{lt-ltb, eq-eqb}
use Rattle.term_values.specs.Trees.{Bytes}
use Rattle.term_values.specs.SameBytes.{same_bytes}
use Rattle.term_values.proofs.Lists.{and_both}
use Rattle.term_values.proofs.SameBytes.{same_bytes_refl}
use Rattle.term_values.specs.declared.small.Stamp.{Stamp}
use Rattle.term_values.specs.declared.small.Stamp.TheVariants.{Time, Seq}
use Rattle.replay_store.specs.Stamps.{Accepted, accept, greatest, is_empty, is_from, live, number_of, numbers, stands_in, with_number}
use Rattle.replay_store.specs.Stores.{is_live_at, is_live_time, is_time, restored, same_accepted}
use Rattle.replay_store.specs.Windows.{below, up_to, AreSeen, AreValid, IsPair, IsSeen, IsSeenWith, IsValid, Recalls, SeesOneMore, Windowed, first_numbers, has_key, is_first_number, key_of, kept_count, live_keys, pair_of, with_key, with_time_key}
use Rattle.replay_store.specs.declared.seen.Seen.{Seen}
use Rattle.replay_store.proofs.Bits.{first_one}
use Rattle.replay_store.proofs.Found.{any_live, any_number}
use Rattle.replay_store.proofs.Pairs.{from_pair, live_from, pair_is, time_in_key}
use Rattle.replay_store.proofs.Ranks.{count_cons, count_filter, up_to_is}
use Rattle.replay_store.proofs.Verdicts.{dead_later, held_found, held_found_by}

-- ---- one more stamp at the end

with_key_append : (b : Bool) (k : ℕ) (ks ls ms : List ℕ) → ms ≡ ks ++ ls → with_key b k ms ≡ with_key b k ks ++ ls
with_key_append true k ks ls ms e = ap (λ (xs : List ℕ). k ∷ xs) e
with_key_append false k ks ls ms e = e

keys_append : (w now : ℕ) (xs ys : List Accepted) → live_keys w now (xs ++ ys) ≡ live_keys w now xs ++ live_keys w now ys
keys_append w now [] ys = refl
keys_append w now (a ∷ xs) ys = by_stamp a.stamp (keys_append w now xs ys)
  where
    by_stamp : (x : Stamp) → live_keys w now (xs ++ ys) ≡ live_keys w now xs ++ live_keys w now ys
        → with_time_key w now (pair_of a.sender a.tagged) x (live_keys w now (xs ++ ys)) ≡ with_time_key w now (pair_of a.sender a.tagged) x (live_keys w now xs) ++ live_keys w now ys
    by_stamp (Time t) e = with_key_append (live w now t) (key_of (pair_of a.sender a.tagged) t) (live_keys w now xs) (live_keys w now ys) (live_keys w now (xs ++ ys)) e
    by_stamp (Seq n) e = e

count_last : (p : ℕ → Bool) (b : Bool) (k : ℕ) → count_by p (with_key b k []) ≡ cond (b && p k) 1 0
count_last p true k = let e = count_cons p k [] in omega (arith, e)
count_last p false k = refl

keys_push : (p : ℕ → Bool) (w now s : ℕ) (g : Bytes) (t : ℕ) (acc : List Accepted) → count_by p (live_keys w now (acc ++ accept s g (Time t) ∷ [])) ≡ count_by p (live_keys w now acc) + cond (live w now t && p (key_of (pair_of s g) t)) 1 0
keys_push p w now s g t acc =
    ap (λ (ks : List ℕ). count_by p ks) (keys_append w now acc (accept s g (Time t) ∷ []))
    ∙ sum_by-append (λ k. cond (p k) 1 0) (live_keys w now acc) (with_key (live w now t) (key_of (pair_of s g) t) [])
    ∙ ap (λ n. count_by p (live_keys w now acc) + n) (count_last p (live w now t) (key_of (pair_of s g) t))

keys_stay : (w now s : ℕ) (g : Bytes) (n : ℕ) (acc : List Accepted) → live_keys w now (acc ++ accept s g (Seq n) ∷ []) ≡ live_keys w now acc
keys_stay w now s g n acc = keys_append w now acc (accept s g (Seq n) ∷ []) ∙ append-nil (live_keys w now acc)

numbers_append : (s : ℕ) (g : Bytes) (xs ys : List Accepted) → numbers s g (xs ++ ys) ≡ numbers s g xs ++ numbers s g ys
numbers_append s g [] ys = refl
numbers_append s g (a ∷ xs) ys = by_stamp (is_from s g a) a.stamp (numbers_append s g xs ys)
  where
    by_stamp : (b : Bool) (x : Stamp) → numbers s g (xs ++ ys) ≡ numbers s g xs ++ numbers s g ys
        → (if b then with_number x (numbers s g (xs ++ ys)) else numbers s g (xs ++ ys)) ≡ (if b then with_number x (numbers s g xs) else numbers s g xs) ++ numbers s g ys
    by_stamp true (Time t) e = e
    by_stamp true (Seq n) e = ap (λ (ns : List ℕ). n ∷ ns) e
    by_stamp false x e = e

numbers_of_one : (s : ℕ) (g : Bytes) (acc : List Accepted) (a : Accepted) (ns : List ℕ) → numbers s g (a ∷ []) ≡ ns → numbers s g (acc ++ a ∷ []) ≡ numbers s g acc ++ ns
numbers_of_one s g acc a ns e = numbers_append s g acc (a ∷ []) ∙ ap (λ (ms : List ℕ). numbers s g acc ++ ms) e

numbers_time : (s s' : ℕ) (g g' : Bytes) (t : ℕ) (acc : List Accepted) → numbers s g (acc ++ accept s' g' (Time t) ∷ []) ≡ numbers s g acc
numbers_time s s' g g' t acc = numbers_of_one s g acc (accept s' g' (Time t)) [] (none (is_from s g (accept s' g' (Time t)))) ∙ append-nil (numbers s g acc)
  where
    nothing : List ℕ
    nothing = []

    none : (b : Bool) → (if b then [] else []) ≡ nothing
    none true = refl
    none false = refl

numbers_push : (s : ℕ) (g : Bytes) (n : ℕ) (acc : List Accepted) → numbers s g (acc ++ accept s g (Seq n) ∷ []) ≡ numbers s g acc ++ n ∷ []
numbers_push s g n acc = numbers_of_one s g acc (accept s g (Seq n)) (n ∷ []) (rw (and_both (s == s) (same_bytes g g) (eq-eqb s s refl) (same_bytes_refl g)) refl)

numbers_other : (s s' : ℕ) (g g' : Bytes) (n : ℕ) (acc : List Accepted) → is_from s g (accept s' g' (Seq n)) ≡ false → numbers s g (acc ++ accept s' g' (Seq n) ∷ []) ≡ numbers s g acc
numbers_other s s' g g' n acc e = numbers_of_one s g acc (accept s' g' (Seq n)) [] (rw e refl) ∙ append-nil (numbers s g acc)

first_push : (before acc : List Accepted) (a : Accepted) → first_numbers before (acc ++ a ∷ []) ≡ first_numbers before acc + cond (is_first_number (before ++ acc) a) 1 0
first_push before [] a = let e : cond (is_first_number before a) 1 0 + 0 ≡ 0 + cond (is_first_number before a) 1 0 = omega arith in e ∙ ap (λ (bs : List Accepted). 0 + cond (is_first_number bs a) 1 0) (sym (append-nil before))
first_push before (b ∷ acc) a =
    let e = first_push (before ++ b ∷ []) acc a in
    let f = ap {B = ℕ} (λ (bs : List Accepted). cond (is_first_number bs a) 1 0) (append_assoc before (b ∷ []) acc) in
    omega (arith, e, f)

valid_push : (acc : List Accepted) (a : Accepted) → AreValid acc → IsValid a → AreValid (acc ++ a ∷ [])
valid_push [] a v h = (h, tt)
valid_push (b ∷ acc) a v h = (v.0, valid_push acc a v.1 h)

-- ---- times

pub recalls_time : (w now : ℕ) (times times' : List ℕ) (seen : List (ℕ × Seen)) (spare spare' s : ℕ) (g : Bytes) (t : ℕ) (acc : List Accepted) → IsPair s g → t < 2 ^ 64
    → ((p : ℕ → Bool) → count_by p times' ≡ count_by p times + cond (live w now t && p (key_of (pair_of s g) t)) 1 0)
    → Recalls (record { window = w; now = now; times = times; numbers = seen; spare = spare }) acc
    → Recalls (record { window = w; now = now; times = times'; numbers = seen; spare = spare' }) (acc ++ accept s g (Time t) ∷ [])
recalls_time w now times times' seen spare spare' s g t acc pair small added r = record {
  valid = valid_push acc (accept s g (Time t)) r.valid (record { pair = pair; number = small });
  times = λ p. added p ∙ ap (λ n. n + cond (live w now t && p (key_of (pair_of s g) t)) 1 0) (r.times p) ∙ sym (keys_push p w now s g t acc);
  numbers = λ u v h. subst (λ (ns : List ℕ). AreSeen (lookup (nat_eq (pair_of u v)) seen) ns) (sym (numbers_time u s v g t acc)) (r.numbers u v h);
  pairs = let e = first_push [] acc (accept s g (Time t)) in omega (arith, e, r.pairs);
}

-- the same times, as often
same_times : (w now : ℕ) (times times' : List ℕ) (seen : List (ℕ × Seen)) (spare spare' : ℕ) (acc : List Accepted) → ((p : ℕ → Bool) → count_by p times' ≡ count_by p times)
    → Recalls (record { window = w; now = now; times = times; numbers = seen; spare = spare }) acc
    → Recalls (record { window = w; now = now; times = times'; numbers = seen; spare = spare' }) acc
same_times w now times times' seen spare spare' acc same r = record {
  valid = r.valid;
  times = λ p. same p ∙ r.times p;
  numbers = r.numbers;
  pairs = r.pairs;
}

-- of a live time, whether it was accepted is whether it is among the live ones
any_time : (w now s : ℕ) (g : Bytes) (t : ℕ) (acc : List Accepted) → live w now t ≡ true → list_any (λ a. is_live_at w now s g t a) acc ≡ list_any (same_accepted (accept s g (Time t))) acc
any_time w now s g t [] alive = refl
any_time w now s g t (a ∷ more) alive = ap₂ (λ x y. x || y) (by_stamp (is_from s g a) a.stamp) (any_time w now s g t more alive)
  where
    by_test : (b c d : Bool) → (c ≡ true → d ≡ true) → ((b && c) && d) ≡ (b && c)
    by_test true true d f = f refl
    by_test true false d f = refl
    by_test false c d f = refl

    by_stamp : (b : Bool) (x : Stamp) → ((b && is_time t x) && is_live_time w now x) ≡ (b && is_time t x)
    by_stamp b (Time n) = by_test b (n == t) (live w now n) (λ e. subst (λ i. live w now i ≡ true) (sym (eqb-true n t e)) alive)
    by_stamp b (Seq n) = by_test b false false (λ e. e)

has_time : (w now s : ℕ) (g : Bytes) (t : ℕ) (times : List ℕ) (acc : List Accepted) → IsPair s g → t < 2 ^ 64 → AreValid acc → ((p : ℕ → Bool) → count_by p times ≡ count_by p (live_keys w now acc)) → live w now t ≡ true
    → has_key (key_of (pair_of s g) t) times ≡ list_any (same_accepted (accept s g (Time t))) acc
has_time w now s g t times acc pair small valid same alive =
    held_found_by (key_of (pair_of s g) t) times
    ∙ ap (λ x. nat_lt 0 x) (same (λ k. k == key_of (pair_of s g) t))
    ∙ held_found w now now s g t pair (let z : now ≤ now = omega arith in z) small alive acc valid
    ∙ sym (any_live w now s g t acc)
    ∙ any_time w now s g t acc alive

pub restores_time : (w now : ℕ) (times times' : List ℕ) (seen : List (ℕ × Seen)) (spare spare' s : ℕ) (g : Bytes) (t : ℕ) (acc : List Accepted) → IsPair s g → t < 2 ^ 64
    → ((p : ℕ → Bool) → count_by p times' ≡ count_by p times + cond (live w now t && not (has_key (key_of (pair_of s g) t) times) && p (key_of (pair_of s g) t)) 1 0)
    → Recalls (record { window = w; now = now; times = times; numbers = seen; spare = spare }) acc
    → Recalls (record { window = w; now = now; times = times'; numbers = seen; spare = spare' }) (restored acc (accept s g (Time t)))
restores_time w now times times' seen spare spare' s g t acc pair small added r =
    go (live w now t) (has_key (key_of (pair_of s g) t) times) (list_any (same_accepted (accept s g (Time t))) acc) (λ alive. has_time w now s g t times acc pair small r.valid r.times alive) refl refl
  where
    rest : Bool → List Accepted
    rest b = if b then acc else acc ++ accept s g (Time t) ∷ []

    counts : (l h : Bool) → live w now t ≡ l → has_key (key_of (pair_of s g) t) times ≡ h → (p : ℕ → Bool) → count_by p times' ≡ count_by p times + cond (l && not h && p (key_of (pair_of s g) t)) 1 0
    counts l h e f p = added p ∙ rw (e, f) refl

    none : (p : ℕ → Bool) → count_by p times' ≡ count_by p times + 0 → count_by p times' ≡ count_by p times
    none p e = omega (arith, e)

    one : (l : Bool) → live w now t ≡ l → ((p : ℕ → Bool) → count_by p times' ≡ count_by p times + cond (l && p (key_of (pair_of s g) t)) 1 0) → Recalls (record { window = w; now = now; times = times'; numbers = seen; spare = spare' }) (acc ++ accept s g (Time t) ∷ [])
    one l e f = recalls_time w now times times' seen spare spare' s g t acc pair small (λ p. f p ∙ rw (← e) refl) r

    go : (l h b : Bool) → (live w now t ≡ true → h ≡ b) → live w now t ≡ l → has_key (key_of (pair_of s g) t) times ≡ h
        → Recalls (record { window = w; now = now; times = times'; numbers = seen; spare = spare' }) (if b then acc else acc ++ accept s g (Time t) ∷ [])
    go false h true same e f = same_times w now times times' seen spare spare' acc (λ p. none p (counts false h e f p)) r
    go false h false same e f = one false e (λ p. counts false h e f p)
    go true true true same e f = same_times w now times times' seen spare spare' acc (λ p. none p (counts true true e f p)) r
    go true false false same e f = one true e (λ p. counts true false e f p)
    go true true false same e f = absurd (let x : true ≡ false = same e in cc)
    go true false true same e f = absurd (let x : false ≡ true = same e in cc)

-- where the key is held, nothing is added
pub nothing_added : (p : ℕ → Bool) (l : Bool) (key : ℕ) (keys : List ℕ) → (below key keys ≡ up_to key keys → ⊥) → count_by p keys ≡ count_by p keys + cond (l && not (has_key key keys) && p key) 1 0
nothing_added p l key keys apart = rw (lt-ltb (below key keys) (up_to key keys) more) (go l)
  where
    more : below key keys < up_to key keys
    more = let e = up_to_is key keys in let f : below key keys ≢ up_to key keys = apart in omega (arith, e, f)

    go : (l : Bool) → count_by p keys ≡ count_by p keys + cond (l && false && p key) 1 0
    go true = omega arith
    go false = omega arith

-- ---- sequence numbers

stands_push : (m n : ℕ) (ns : List ℕ) → stands_in m (ns ++ n ∷ []) ≡ (n == m || stands_in m ns)
stands_push m n [] = refl
stands_push m n (x ∷ ns) = ap (λ b. (x == m) || b) (stands_push m n ns) ∙ turn (x == m) (n == m) (stands_in m ns)
  where
    turn : (a b c : Bool) → (a || (b || c)) ≡ (b || (a || c))
    turn true true c = refl
    turn true false c = refl
    turn false b c = refl

greatest_push : (n : ℕ) (ns : List ℕ) → greatest (ns ++ n ∷ []) ≡ max n (greatest ns)
greatest_push n [] = refl
greatest_push n (x ∷ ns) = let e = greatest_push n ns in omega (arith, e)

not_empty_push : (n : ℕ) (ns : List ℕ) → is_empty (ns ++ n ∷ []) ≡ false
not_empty_push n [] = refl
not_empty_push n (x ∷ ns) = refl

stands_below : (n : ℕ) (ns : List ℕ) → stands_in n ns ≡ true → n ≤ greatest ns
stands_below n [] e = absurd cc
stands_below n (x ∷ ns) e = go (x == n) refl e (stands_below n ns)
  where
    go : (b : Bool) → (x == n) ≡ b → (b || stands_in n ns) ≡ true → (stands_in n ns ≡ true → n ≤ greatest ns) → n ≤ max x (greatest ns)
    go true f e below = let g : x ≡ n = eqb-true x n f in omega (arith, g)
    go false f e below = let g = below e in omega (arith, g)

-- what is seen once one more number was seen
one_more : (old : Option Seen) (new : Seen) (n : ℕ) (ns ns' : List ℕ) → AreSeen old ns → IsSeenWith old n new → is_empty ns' ≡ false → greatest ns' ≡ max n (greatest ns) → ((m : ℕ) → stands_in m ns' ≡ (n == m || stands_in m ns)) → IsSeen new ns'
one_more None new n ns ns' none is some most stands = subst (λ (x : Seen). IsSeen x ns') (sym is) (record {
  some = some;
  greatest = let e : greatest ns ≡ 0 = ap greatest none in omega (arith, most, e);
  window = λ m w. first_one n m w ∙ sym (stands m ∙ ap (λ (xs : List ℕ). n == m || stands_in m xs) none);
})
one_more (Some old) new n ns ns' h is some most stands = record {
  some = some;
  greatest = omega (arith, is.greatest, h.greatest, most);
  window = λ m w. is.window m w ∙ ap (λ b. n == m || b) (h.window m (omega (arith, is.greatest))) ∙ sym (stands m);
}

none_seen : (old : Option Seen) (ns : List ℕ) → AreSeen old ns → is_none old ≡ is_empty ns
none_seen None ns e = rw e refl
none_seen (Some old) ns h = sym h.some

-- what is seen of each pair, once it is seen of one that its numbers are these
seen_pairs : (s : ℕ) (g : Bytes) (n : ℕ) (seen seen' : List (ℕ × Seen)) (acc acc' : List Accepted) → IsPair s g → SeesOneMore (pair_of s g) n seen seen'
    → ((u : ℕ) (v : Bytes) → IsPair u v → AreSeen (lookup (nat_eq (pair_of u v)) seen) (numbers u v acc))
    → is_empty (numbers s g acc') ≡ false → greatest (numbers s g acc') ≡ max n (greatest (numbers s g acc)) → ((m : ℕ) → stands_in m (numbers s g acc') ≡ (n == m || stands_in m (numbers s g acc)))
    → ((u : ℕ) (v : Bytes) → IsPair u v → nat_eq (pair_of s g) (pair_of u v) ≡ false → numbers u v acc' ≡ numbers u v acc)
    → (u : ℕ) (v : Bytes) → IsPair u v → AreSeen (lookup (nat_eq (pair_of u v)) seen') (numbers u v acc')
seen_pairs s g n seen seen' acc acc' pair sees are some most stands others u v h = go (nat_eq (pair_of s g) (pair_of u v)) refl
  where
    own : AreSeen (lookup (nat_eq (pair_of s g)) seen') (numbers s g acc')
    own = subst (λ (o : Option Seen). AreSeen o (numbers s g acc')) (sym sees.held) (one_more (lookup (nat_eq (pair_of s g)) seen) sees.seen n (numbers s g acc) (numbers s g acc') (are s g pair) sees.is some most stands)

    moved : (s ≡ u) × (g ≡ v) → AreSeen (lookup (nat_eq (pair_of u v)) seen') (numbers u v acc')
    moved e = subst (λ (y : Bytes). AreSeen (lookup (nat_eq (pair_of u y)) seen') (numbers u y acc')) e.1 (subst (λ (x : ℕ). AreSeen (lookup (nat_eq (pair_of x g)) seen') (numbers x g acc')) e.0 own)

    go : (b : Bool) → nat_eq (pair_of s g) (pair_of u v) ≡ b → AreSeen (lookup (nat_eq (pair_of u v)) seen') (numbers u v acc')
    go true e = moved (pair_is s u g v pair h (eqb-true (pair_of s g) (pair_of u v) e))
    go false e = subst (λ (o : Option Seen). AreSeen o (numbers u v acc')) (sym (sees.others (pair_of u v) e)) (subst (λ (ns : List ℕ). AreSeen (lookup (nat_eq (pair_of u v)) seen) ns) (sym (others u v h e)) (are u v h))

pub recalls_number : (w now : ℕ) (times : List ℕ) (seen seen' : List (ℕ × Seen)) (spare spare' s : ℕ) (g : Bytes) (n : ℕ) (acc : List Accepted) → IsPair s g → n < 2 ^ 64 → SeesOneMore (pair_of s g) n seen seen'
    → Recalls (record { window = w; now = now; times = times; numbers = seen; spare = spare }) acc
    → Recalls (record { window = w; now = now; times = times; numbers = seen'; spare = spare' }) (acc ++ accept s g (Seq n) ∷ [])
recalls_number w now times seen seen' spare spare' s g n acc pair small sees r = record {
  valid = valid_push acc (accept s g (Seq n)) r.valid (record { pair = pair; number = small });
  times = λ p. r.times p ∙ ap (λ (ks : List ℕ). count_by p ks) (sym (keys_stay w now s g n acc));
  numbers = seen_pairs s g n seen seen' acc (acc ++ accept s g (Seq n) ∷ []) pair sees r.numbers
      (ap is_empty (numbers_push s g n acc) ∙ not_empty_push n (numbers s g acc))
      (ap greatest (numbers_push s g n acc) ∙ greatest_push n (numbers s g acc))
      (λ m. ap (stands_in m) (numbers_push s g n acc) ∙ stands_push m n (numbers s g acc))
      (λ u v h e. numbers_other u s v g n acc (from_pair u v (accept s g (Seq n)) h pair ∙ e));
  pairs =
      let e = first_push [] acc (accept s g (Seq n)) in
      let f = ap {B = ℕ} (λ b. cond b 1 0) (none_seen (lookup (nat_eq (pair_of s g)) seen) (numbers s g acc) (r.numbers s g pair)) in
      omega (arith, e, f, r.pairs, sees.count);
}

pub restores_number : (w now : ℕ) (times : List ℕ) (seen seen' : List (ℕ × Seen)) (spare spare' s : ℕ) (g : Bytes) (n : ℕ) (acc : List Accepted) → IsPair s g → n < 2 ^ 64 → SeesOneMore (pair_of s g) n seen seen'
    → Recalls (record { window = w; now = now; times = times; numbers = seen; spare = spare }) acc
    → Recalls (record { window = w; now = now; times = times; numbers = seen'; spare = spare' }) (restored acc (accept s g (Seq n)))
restores_number w now times seen seen' spare spare' s g n acc pair small sees r = go (list_any (same_accepted (accept s g (Seq n))) acc) (any_number s g n acc)
  where
    again : stands_in n (numbers s g acc) ≡ true → Recalls (record { window = w; now = now; times = times; numbers = seen'; spare = spare' }) acc
    again there = record {
      valid = r.valid;
      times = r.times;
      numbers = seen_pairs s g n seen seen' acc acc pair sees r.numbers (some (numbers s g acc) there) (let z = stands_below n (numbers s g acc) there in omega (arith, z)) (λ m. stands m (n == m) refl) (λ u v h e. refl);
      pairs =
          let f = ap {B = ℕ} (λ b. cond b 1 0) (none_seen (lookup (nat_eq (pair_of s g)) seen) (numbers s g acc) (r.numbers s g pair) ∙ some (numbers s g acc) there) in
          omega (arith, f, r.pairs, sees.count);
    }
      where
        some : (ns : List ℕ) → stands_in n ns ≡ true → is_empty ns ≡ false
        some [] e = absurd cc
        some (x ∷ ns) e = refl

        stands : (m : ℕ) (b : Bool) → (n == m) ≡ b → stands_in m (numbers s g acc) ≡ (b || stands_in m (numbers s g acc))
        stands m true e = subst (λ i. stands_in i (numbers s g acc) ≡ true) (eqb-true n m e) there
        stands m false e = refl

    go : (b : Bool) → b ≡ stands_in n (numbers s g acc) → Recalls (record { window = w; now = now; times = times; numbers = seen'; spare = spare' }) (if b then acc else acc ++ accept s g (Seq n) ∷ [])
    go true e = again (sym e)
    go false e = recalls_number w now times seen seen' spare spare' s g n acc pair small sees r

-- ---- the same of a stamp that is a time, or a number

pub records_time : (w now : ℕ) (times times' : List ℕ) (seen : List (ℕ × Seen)) (spare spare' s : ℕ) (g : Bytes) (t pair : ℕ) (x : Stamp) (acc : List Accepted) → x ≡ Time t → pair ≡ pair_of s g → IsPair s g → number_of x < 2 ^ 64
    → ((p : ℕ → Bool) → count_by p times' ≡ count_by p times + cond (live w now t && p (key_of pair t)) 1 0)
    → Recalls (record { window = w; now = now; times = times; numbers = seen; spare = spare }) acc
    → Recalls (record { window = w; now = now; times = times'; numbers = seen; spare = spare' }) (acc ++ accept s g x ∷ [])
records_time w now times times' seen spare spare' s g t pair x acc is number h small added r =
    subst (λ (y : Stamp). Recalls (record { window = w; now = now; times = times'; numbers = seen; spare = spare' }) (acc ++ accept s g y ∷ [])) (sym is)
    (recalls_time w now times times' seen spare spare' s g t acc h (subst (λ (y : Stamp). number_of y < 2 ^ 64) is small)
    (subst (λ (q : ℕ). (p : ℕ → Bool) → count_by p times' ≡ count_by p times + cond (live w now t && p (key_of q t)) 1 0) number added) r)

pub restores_as_time : (w now : ℕ) (times times' : List ℕ) (seen : List (ℕ × Seen)) (spare spare' s : ℕ) (g : Bytes) (t pair : ℕ) (x : Stamp) (acc : List Accepted) → x ≡ Time t → pair ≡ pair_of s g → IsPair s g → number_of x < 2 ^ 64
    → ((p : ℕ → Bool) → count_by p times' ≡ count_by p times + cond (live w now t && not (has_key (key_of pair t) times) && p (key_of pair t)) 1 0)
    → Recalls (record { window = w; now = now; times = times; numbers = seen; spare = spare }) acc
    → Recalls (record { window = w; now = now; times = times'; numbers = seen; spare = spare' }) (restored acc (accept s g x))
restores_as_time w now times times' seen spare spare' s g t pair x acc is number h small added r =
    subst (λ (y : Stamp). Recalls (record { window = w; now = now; times = times'; numbers = seen; spare = spare' }) (restored acc (accept s g y))) (sym is)
    (restores_time w now times times' seen spare spare' s g t acc h (subst (λ (y : Stamp). number_of y < 2 ^ 64) is small)
    (subst (λ (q : ℕ). (p : ℕ → Bool) → count_by p times' ≡ count_by p times + cond (live w now t && not (has_key (key_of q t) times) && p (key_of q t)) 1 0) number added) r)

pub records_number : (w now : ℕ) (times : List ℕ) (seen seen' : List (ℕ × Seen)) (spare spare' s : ℕ) (g : Bytes) (n pair : ℕ) (x : Stamp) (acc : List Accepted) → x ≡ Seq n → pair ≡ pair_of s g → IsPair s g → number_of x < 2 ^ 64 → SeesOneMore pair n seen seen'
    → Recalls (record { window = w; now = now; times = times; numbers = seen; spare = spare }) acc
    → Recalls (record { window = w; now = now; times = times; numbers = seen'; spare = spare' }) (acc ++ accept s g x ∷ [])
records_number w now times seen seen' spare spare' s g n pair x acc is number h small sees r =
    subst (λ (y : Stamp). Recalls (record { window = w; now = now; times = times; numbers = seen'; spare = spare' }) (acc ++ accept s g y ∷ [])) (sym is)
    (recalls_number w now times seen seen' spare spare' s g n acc h (subst (λ (y : Stamp). number_of y < 2 ^ 64) is small) (subst (λ (q : ℕ). SeesOneMore q n seen seen') number sees) r)

pub restores_as_number : (w now : ℕ) (times : List ℕ) (seen seen' : List (ℕ × Seen)) (spare spare' s : ℕ) (g : Bytes) (n pair : ℕ) (x : Stamp) (acc : List Accepted) → x ≡ Seq n → pair ≡ pair_of s g → IsPair s g → number_of x < 2 ^ 64 → SeesOneMore pair n seen seen'
    → Recalls (record { window = w; now = now; times = times; numbers = seen; spare = spare }) acc
    → Recalls (record { window = w; now = now; times = times; numbers = seen'; spare = spare' }) (restored acc (accept s g x))
restores_as_number w now times seen seen' spare spare' s g n pair x acc is number h small sees r =
    subst (λ (y : Stamp). Recalls (record { window = w; now = now; times = times; numbers = seen'; spare = spare' }) (restored acc (accept s g y))) (sym is)
    (restores_number w now times seen seen' spare spare' s g n acc h (subst (λ (y : Stamp). number_of y < 2 ^ 64) is small) (subst (λ (q : ℕ). SeesOneMore q n seen seen') number sees) r)

-- ---- now rises

filter_keys : (w now m : ℕ) (acc : List Accepted) → now ≤ m → AreValid acc → filter (λ k. nat_le (m - w) (k % 2 ^ 64)) (live_keys w now acc) ≡ live_keys w m acc
filter_keys w now m [] l valid = refl
filter_keys w now m (a ∷ more) l valid = by_stamp a.stamp valid.0.number (filter_keys w now m more l valid.1)
  where
    one : (t : ℕ) (b : Bool) → t < 2 ^ 64 → live w now t ≡ b → filter (λ k. nat_le (m - w) (k % 2 ^ 64)) (live_keys w now more) ≡ live_keys w m more
        → filter (λ k. nat_le (m - w) (k % 2 ^ 64)) (with_key b (key_of (pair_of a.sender a.tagged) t) (live_keys w now more)) ≡ with_key (live w m t) (key_of (pair_of a.sender a.tagged) t) (live_keys w m more)
    one t false small is e = rw (dead_later w now m t l is) e
    one t true small is e = rw (time_in_key (pair_of a.sender a.tagged) t small, ← live_from w m t) (by_life (live w m t))
      where
        by_life : (c : Bool) → cond c (key_of (pair_of a.sender a.tagged) t ∷ filter (λ k. nat_le (m - w) (k % 2 ^ 64)) (live_keys w now more)) (filter (λ k. nat_le (m - w) (k % 2 ^ 64)) (live_keys w now more)) ≡ with_key c (key_of (pair_of a.sender a.tagged) t) (live_keys w m more)
        by_life true = ap (λ (ks : List ℕ). key_of (pair_of a.sender a.tagged) t ∷ ks) e
        by_life false = e

    by_stamp : (x : Stamp) → number_of x < 2 ^ 64 → filter (λ k. nat_le (m - w) (k % 2 ^ 64)) (live_keys w now more) ≡ live_keys w m more
        → filter (λ k. nat_le (m - w) (k % 2 ^ 64)) (with_time_key w now (pair_of a.sender a.tagged) x (live_keys w now more)) ≡ with_time_key w m (pair_of a.sender a.tagged) x (live_keys w m more)
    by_stamp (Time t) small e = one t (live w now t) small refl e
    by_stamp (Seq n) small e = e

pub recalls_later : (w now m : ℕ) (times times' : List ℕ) (seen : List (ℕ × Seen)) (spare spare' : ℕ) (acc : List Accepted) → now ≤ m → times' ≡ filter (λ k. nat_le (m - w) (k % 2 ^ 64)) times
    → Recalls (record { window = w; now = now; times = times; numbers = seen; spare = spare }) acc
    → Recalls (record { window = w; now = m; times = times'; numbers = seen; spare = spare' }) acc
recalls_later w now m times times' seen spare spare' acc l is r = record {
  valid = r.valid;
  times = λ p.
      ap (λ (ks : List ℕ). count_by p ks) is
      ∙ count_filter p (λ k. nat_le (m - w) (k % 2 ^ 64)) times
      ∙ r.times (λ k. nat_le (m - w) (k % 2 ^ 64) && p k)
      ∙ sym (count_filter p (λ k. nat_le (m - w) (k % 2 ^ 64)) (live_keys w now acc))
      ∙ ap (λ (ks : List ℕ). count_by p ks) (filter_keys w now m acc l r.valid);
  numbers = r.numbers;
  pairs = r.pairs;
}

-- ---- how many records are kept

count_all : (ks : List ℕ) → count_by (λ k. true) ks ≡ length ks
count_all [] = refl
count_all (k ∷ ks) = let e = count_cons (λ x. true) k ks in let f = count_all ks in omega (arith, e, f)

count_keys : (w now : ℕ) (acc : List Accepted) → count_by (λ k. true) (live_keys w now acc) ≡ count_by (λ a. is_live_time w now a.stamp) acc
count_keys w now [] = refl
count_keys w now (a ∷ more) = by_stamp a.stamp (count_keys w now more) ∙ sym (count_cons (λ x. is_live_time w now x.stamp) a more)
  where
    one : (b : Bool) (k : ℕ) (ks : List ℕ) (n : ℕ) → count_by (λ x. true) ks ≡ n → count_by (λ x. true) (with_key b k ks) ≡ cond b 1 0 + n
    one true k ks n e = let f = count_cons (λ x. true) k ks in omega (arith, e, f)
    one false k ks n e = omega (arith, e)

    by_stamp : (x : Stamp) → count_by (λ k. true) (live_keys w now more) ≡ count_by (λ y. is_live_time w now y.stamp) more
        → count_by (λ k. true) (with_time_key w now (pair_of a.sender a.tagged) x (live_keys w now more)) ≡ cond (is_live_time w now x) 1 0 + count_by (λ y. is_live_time w now y.stamp) more
    by_stamp (Time t) e = one (live w now t) (key_of (pair_of a.sender a.tagged) t) (live_keys w now more) (count_by (λ y. is_live_time w now y.stamp) more) e
    by_stamp (Seq n) e = omega (arith, e)

pub kept_is : (s : Windowed) (acc : List Accepted) → Recalls s acc → length s.times + length s.numbers ≡ kept_count s.window s.now acc
kept_is s acc r = ap₂ (λ a b. a + b) (sym (count_all s.times) ∙ r.times (λ k. true) ∙ count_keys s.window s.now acc) r.pairs
