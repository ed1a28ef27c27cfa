-- What a store keeps: the tests of its scans, the number of its records, and what it stands for after a stamp was restored.
use Rattle.std.specs.Prelude.{◌≡◌, ◌<◌, ℕ, ◌+◌, Bool, false, List, [], ◌∷◌, ◌++◌, length, Option, Some, None, max, min, nat_lt, nat_le, ◌==◌, ◌&&◌, if◌then◌else◌}
use Rattle.std.specs.List.{list_any}
use Rattle.term_values.specs.Trees.{Bytes}
use Rattle.term_values.specs.declared.small.Stamp.{Stamp}
use Rattle.term_values.specs.declared.small.Stamp.TheVariants.{Time, Seq}
use Rattle.replay_store.specs.Stamps.{Accepted, is_from, live, live_times, numbers, stands_in, is_empty, greatest, time_limit, number_window}
use Rattle.replay_store.specs.declared.verdict.Verdict.{Verdict}
use Rattle.replay_store.specs.declared.verdict.Verdict.TheVariants.{Early, Late, Repeated, StoreFull, Fit}

-- the stamp is that time
abbrev pub is_time : ℕ → Stamp → Bool
is_time t (Time n) = n == t
is_time t (Seq n) = false

-- the stamp is a time that is live
abbrev pub is_live_time : ℕ → ℕ → Stamp → Bool
is_live_time w now (Time n) = live w now n
is_live_time w now (Seq n) = false

-- the sequence number, where the stamp is one
abbrev pub number_from : Stamp → Option ℕ
number_from (Time n) = None
number_from (Seq n) = Some n

-- the stamp is that sequence number
abbrev pub is_number : ℕ → Stamp → Bool
is_number s (Time n) = false
is_number s (Seq n) = n == s

-- both are the same stamp
abbrev pub same_stamp : Stamp → Stamp → Bool
same_stamp (Time n) x = is_time n x
same_stamp (Seq n) x = is_number n x

-- the accepted stamp is a live time of that sender and tag
abbrev pub is_live_of : ℕ → ℕ → ℕ → Bytes → Accepted → Bool
is_live_of w now s t a = is_from s t a && is_live_time w now a.stamp

-- the accepted stamp is that time of that sender and tag, and is live
abbrev pub is_live_at : ℕ → ℕ → ℕ → Bytes → ℕ → Accepted → Bool
is_live_at w now s t n a = is_from s t a && is_time n a.stamp && is_live_time w now a.stamp

-- the accepted stamp is that sequence number of that sender and tag
abbrev pub is_number_at : ℕ → Bytes → ℕ → Accepted → Bool
is_number_at s t n a = is_from s t a && is_number n a.stamp

-- the greatest accepted sequence number of that sender and tag, where there is one
abbrev pub greatest_number : List ℕ → Option ℕ
greatest_number ns = if is_empty ns then None else Some (greatest ns)

-- the greater of two numbers, as far as they are there
abbrev pub greater : Option ℕ → Option ℕ → Option ℕ
greater None b = b
greater (Some a) None = Some a
greater (Some a) (Some b) = Some (max a b)

-- the greatest sequence number of that sender and tag after one more stamp
abbrev pub greatest_after : ℕ → Bytes → Option ℕ → Accepted → Option ℕ
greatest_after s t most a = if is_from s t a then greater most (number_from a.stamp) else most

-- the verdict on a time, by whether it was accepted and by how many times are live
abbrev pub time_answer : ℕ → ℕ → ℕ → Bool → ℕ → Verdict
time_answer w now t found count =
    if nat_lt (now + w) t then Early now
    else if nat_lt (t + w) now then Late now
    else if found then Repeated
    else if nat_le time_limit count then StoreFull (min count 4_294_967_295)
    else Fit

-- the verdict on a sequence number, by the greatest and by whether it was accepted
abbrev pub number_answer : Option ℕ → ℕ → Bool → Verdict
number_answer None s found = Fit
number_answer (Some at) s found =
    if nat_le (s + number_window) at then Late at
    else if found then Repeated
    else Fit

-- both are the same stamp of one sender and tag
abbrev pub same_accepted : Accepted → Accepted → Bool
same_accepted a b = is_from a.sender a.tagged b && same_stamp a.stamp b.stamp

-- the accepted stamps after one was restored: it is added where it isn't there
abbrev pub restored : List Accepted → Accepted → List Accepted
restored accepted a = if list_any (same_accepted a) accepted then accepted else accepted ++ a ∷ []

-- both lists hold the same of that sender and tag: the live times and how many they are, the greatest sequence number, and those in the window below it
pub record HoldSame (w now sender : ℕ) (t : Bytes) (xs ys : List Accepted) : Type 0 where
  pub times : (n : ℕ) → stands_in n (live_times w now sender t xs) ≡ stands_in n (live_times w now sender t ys)
  pub count : length (live_times w now sender t xs) ≡ length (live_times w now sender t ys)
  pub some : is_empty (numbers sender t xs) ≡ is_empty (numbers sender t ys)
  pub most : greatest (numbers sender t xs) ≡ greatest (numbers sender t ys)
  pub window : (n : ℕ) → greatest (numbers sender t xs) < n + number_window → stands_in n (numbers sender t xs) ≡ stands_in n (numbers sender t ys)
