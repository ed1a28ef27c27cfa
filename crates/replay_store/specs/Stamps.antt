-- Stamps: the verdict on a received one, and the next one that is issued.
use Rattle.std.specs.Prelude.{ℕ, ◌+◌, Bool, true, false, List, [], ◌∷◌, length, Option, Some, None, max, min, nat_lt, nat_le, ◌==◌, ◌&&◌, if◌then◌else◌}
use Rattle.std.specs.List.{list_any}
use Rattle.term_values.specs.Trees.{Bytes}
use Rattle.term_values.specs.declared.small.Stamp.{Stamp}
use Rattle.term_values.specs.declared.small.Stamp.TheVariants.{Time, Seq}
use Rattle.term_values.specs.declared.small.StampKind.{StampKind}
use Rattle.term_values.specs.declared.small.StampKind.TheVariants.{Time as by_time, Seq as by_number}
use Rattle.term_values.specs.SameBytes.{same_bytes}
use Rattle.replay_store.specs.declared.verdict.Verdict.{Verdict}
use Rattle.replay_store.specs.declared.verdict.Verdict.TheVariants.{WrongStampKind, Early, Late, Repeated, StoreFull, Fit}

-- an accepted stamp, with the party that issued it and the tag of its body
pub record Accepted : Type 0 where
  pub sender : ℕ
  pub tagged : Bytes
  pub stamp : Stamp

-- that stamp, accepted from the sender under the tag
abbrev pub accept : ℕ → Bytes → Stamp → Accepted
accept sender t stamp = record { sender = sender; tagged = t; stamp = stamp }

-- it was accepted from that sender under that tag
abbrev pub is_from : ℕ → Bytes → Accepted → Bool
is_from sender t a = (a.sender == sender) && same_bytes a.tagged t

-- a time stamp t is live for a window w where now <= t + w
abbrev pub live : ℕ → ℕ → ℕ → Bool
live w now t = nat_le now (t + w)

-- the list with that time, where it is live
abbrev pub with_live : Bool → ℕ → List ℕ → List ℕ
with_live true t ts = t ∷ ts
with_live false t ts = ts

-- the list with that stamp, where it is a time that is live
abbrev pub with_time : ℕ → ℕ → Stamp → List ℕ → List ℕ
with_time w now (Time t) ts = with_live (live w now t) t ts
with_time w now (Seq s) ts = ts

-- the list with that stamp, where it is a number
abbrev pub with_number : Stamp → List ℕ → List ℕ
with_number (Time t) ss = ss
with_number (Seq s) ss = s ∷ ss

-- the live time stamps of that sender and tag
abbrev pub live_times : ℕ → ℕ → ℕ → Bytes → List Accepted → List ℕ
live_times w now sender t [] = []
live_times w now sender t (a ∷ more) = if is_from sender t a then with_time w now a.stamp (live_times w now sender t more) else live_times w now sender t more

-- the accepted sequence numbers of that sender and tag
abbrev pub numbers : ℕ → Bytes → List Accepted → List ℕ
numbers sender t [] = []
numbers sender t (a ∷ more) = if is_from sender t a then with_number a.stamp (numbers sender t more) else numbers sender t more

-- the greatest of these, 0 of none
abbrev pub greatest : List ℕ → ℕ
greatest [] = 0
greatest (n ∷ ns) = max n (greatest ns)

-- the number is one of these
abbrev pub stands_in : ℕ → List ℕ → Bool
stands_in n ns = list_any (λ m. m == n) ns

-- there are none
abbrev pub is_empty : List ℕ → Bool
is_empty [] = true
is_empty _ = false

-- how many live times of one sender and tag a commit may reach
abbrev pub time_limit : ℕ
time_limit = 4096

-- from so far below the greatest on, a sequence number is late
abbrev pub number_window : ℕ
number_window = 64

-- the verdict on the time t, where these times of its sender and tag are live
abbrev pub time_verdict : ℕ → ℕ → List ℕ → ℕ → Verdict
time_verdict w now times t =
    if nat_lt (now + w) t then Early now
    else if nat_lt (t + w) now then Late now
    else if stands_in t times then Repeated
    else if nat_le time_limit (length times) then StoreFull (min (length times) 4_294_967_295)
    else Fit

-- a number is judged only against accepted ones
abbrev pub number_verdict : List ℕ → ℕ → Verdict
number_verdict accepted s =
    if is_empty accepted then Fit
    else if nat_le (s + number_window) (greatest accepted) then Late (greatest accepted)
    else if stands_in s accepted then Repeated
    else Fit

-- the first line of the table of verdicts that holds, for a store with window w, that now and these accepted stamps
abbrev pub stamp_verdict : ℕ → ℕ → List Accepted → StampKind → ℕ → Bytes → Stamp → Verdict
stamp_verdict w now accepted by_time sender t (Time n) = time_verdict w now (live_times w now sender t accepted) n
stamp_verdict w now accepted by_number sender t (Seq s) = number_verdict (numbers sender t accepted) s
stamp_verdict w now accepted _ sender t _ = WrongStampKind

-- the greatest number that a stamp can have
abbrev pub last_number : ℕ
last_number = 18_446_744_073_709_551_615

-- the time is now, or one above the last where now is not above it; the number is one above the last
abbrev pub stamp_of_kind : StampKind → ℕ → ℕ → Stamp
stamp_of_kind by_time last now = Time (max now (last + 1))
stamp_of_kind by_number last now = Seq (last + 1)

-- what an issuer of that last number issues at now; none where its last number is the greatest
abbrev pub next_stamp : StampKind → ℕ → ℕ → Option Stamp
next_stamp kind last now = if last == last_number then None else Some (stamp_of_kind kind last now)

-- the number of a stamp of either kind
abbrev pub number_of : Stamp → ℕ
number_of (Time n) = n
number_of (Seq n) = n
