-- The store that forgets: what it holds, and for which accepted stamps it stands.
use Rattle.std.specs.Prelude.{◌≡◌, ◌<◌, ℕ, ◌+◌, ◌-◌, ◌*◌, ◌^◌, Bool, true, false, List, [], ◌∷◌, ◌++◌, length, get_or, Option, Some, None, is_none, nat_eq, nat_lt, nat_le, max, ◌==◌, ◌&&◌, ◌||◌, cond, count_by}
use Rattle.std.specs.Int.{w32, from_be_bytes, bit_at}
use Rattle.std.specs.Map.{lookup}
use Rattle.term_values.specs.Trees.{Bytes}
use Rattle.term_values.specs.declared.small.Stamp.{Stamp}
use Rattle.term_values.specs.declared.small.Stamp.TheVariants.{Time, Seq}
use Rattle.term_values.specs.declared.small.StampKind.{StampKind}
use Rattle.term_values.specs.declared.small.StampKind.TheVariants.{Time as by_time, Seq as by_number}
use Rattle.replay_store.specs.Stamps.{Accepted, greatest, is_empty, live, number_of, number_window, numbers, stands_in}
use Rattle.replay_store.specs.Stores.{is_live_time, number_answer, time_answer}
use Rattle.replay_store.specs.declared.seen.Seen.{Seen}
use Rattle.replay_store.specs.declared.verdict.Verdict.{Verdict}
use Rattle.replay_store.specs.declared.verdict.Verdict.TheVariants.{WrongStampKind}

-- four bytes
pub record IsTag (t : Bytes) : Type 0 where
  pub length : length t ≡ 4
  pub bytes : (i : ℕ) → get_or t i 0 < 256

-- a name and a tag that can be told apart by one number
pub record IsPair (sender : ℕ) (t : Bytes) : Type 0 where
  pub name : sender < 2 ^ 32
  pub is_tag : IsTag t

-- the number of a sender and a tag: the name's number, then the tag's bytes
abbrev pub pair_of : ℕ → Bytes → ℕ
pair_of sender t = sender * 2 ^ 32 + from_be_bytes w32 t

-- the key of a time of a pair: the pair's number, then the time
abbrev pub key_of : ℕ → ℕ → ℕ
key_of pair t = pair * 2 ^ 64 + t

-- the key first, where it is to stand there
abbrev pub with_key : Bool → ℕ → List ℕ → List ℕ
with_key true k ks = k ∷ ks
with_key false k ks = ks

-- the key of a time first, where the stamp is one that is live
abbrev pub with_time_key : ℕ → ℕ → ℕ → Stamp → List ℕ → List ℕ
with_time_key w now pair (Time t) ks = with_key (live w now t) (key_of pair t) ks
with_time_key w now pair (Seq n) ks = ks

-- the keys of all live times
abbrev pub live_keys : ℕ → ℕ → List Accepted → List ℕ
live_keys w now [] = []
live_keys w now (a ∷ more) = with_time_key w now (pair_of a.sender a.tagged) a.stamp (live_keys w now more)

-- the stamp is a sequence number
abbrev pub is_number_stamp : Stamp → Bool
is_number_stamp (Time t) = false
is_number_stamp (Seq n) = true

-- the sequence number is the first of its sender and tag
abbrev pub is_first_number : List Accepted → Accepted → Bool
is_first_number before a = is_number_stamp a.stamp && is_empty (numbers a.sender a.tagged before)

-- how many of these, which come after those before, are the first sequence number of their sender and tag
abbrev pub first_numbers : List Accepted → List Accepted → ℕ
first_numbers before [] = 0
first_numbers before (a ∷ more) = cond (is_first_number before a) 1 0 + first_numbers (before ++ a ∷ []) more

-- how many records need to be kept: one for each live time, and one for each sender and tag with a sequence number
abbrev pub kept_count : ℕ → ℕ → List Accepted → ℕ
kept_count w now accepted = count_by (λ a. is_live_time w now a.stamp) accepted + first_numbers [] accepted

-- whether a sequence number was seen: bit i of `before` is that of the number i below the greatest
abbrev pub has_seen : Seen → ℕ → Bool
has_seen seen n = nat_le n seen.greatest && nat_lt seen.greatest (n + number_window) && (bit_at seen.before (seen.greatest - n) == 1)

-- what is seen of the accepted sequence numbers of one sender and tag: the greatest, and those in the window below it
pub record IsSeen (seen : Seen) (ns : List ℕ) : Type 0 where
  pub some : is_empty ns ≡ false
  pub greatest : seen.greatest ≡ greatest ns
  pub window : (n : ℕ) → seen.greatest < n + 64 → has_seen seen n ≡ stands_in n ns

-- what is seen of these numbers: nothing where there are none
abbrev pub AreSeen : Option Seen → List ℕ → Type 0
AreSeen None ns = ns ≡ []
AreSeen (Some seen) ns = IsSeen seen ns

-- the accepted stamp is of a name and a tag, and its number fits its type
pub record IsValid (a : Accepted) : Type 0 where
  pub pair : IsPair a.sender a.tagged
  pub number : number_of a.stamp < 2 ^ 64

-- each of them is valid
abbrev pub AreValid : List Accepted → Type 0
AreValid [] = Unit {0}
AreValid (a ∷ more) = IsValid a × AreValid more

-- what the store holds: the keys of its times in rising order, what it has seen of each pair's sequence numbers, and its spare room
pub record Windowed : Type 0 where
  pub window : ℕ
  pub now : ℕ
  pub times : List ℕ
  pub numbers : List (ℕ × Seen)
  pub spare : ℕ

-- a store holds what the verdicts need of these accepted stamps: the live times, as often as each was accepted, and what is seen of the numbers
pub record Recalls (s : Windowed) (accepted : List Accepted) : Type 0 where
  pub valid : AreValid accepted
  pub times : (p : ℕ → Bool) → count_by p s.times ≡ count_by p (live_keys s.window s.now accepted)
  pub numbers : (sender : ℕ) (t : Bytes) → IsPair sender t → AreSeen (lookup (nat_eq (pair_of sender t)) s.numbers) (numbers sender t accepted)
  pub pairs : length s.numbers ≡ first_numbers [] accepted

-- numbers in rising order, and how many more need no memory
pub record Ranks : Type 0 where
  pub keys : List ℕ
  pub room : ℕ

-- how many keys are below the bound
abbrev pub below : ℕ → List ℕ → ℕ
below bound keys = count_by (λ k. nat_lt k bound) keys

-- how many keys are at most the bound
abbrev pub up_to : ℕ → List ℕ → ℕ
up_to bound keys = count_by (λ k. nat_le k bound) keys

-- the verdict on a time of a pair by the keys that are held: how many of the pair are live, and whether its own is there
abbrev pub time_by_keys : ℕ → ℕ → ℕ → ℕ → List ℕ → Verdict
time_by_keys w now pair t keys = time_answer w now t (nat_lt (below (key_of pair t) keys) (up_to (key_of pair t) keys)) (up_to (key_of pair 18_446_744_073_709_551_615) keys - below (key_of pair (now - w)) keys)

-- the verdict on a sequence number by what is seen of its pair
abbrev pub number_by_seen : Option Seen → ℕ → Verdict
number_by_seen None n = number_answer None n false
number_by_seen (Some seen) n = number_answer (Some seen.greatest) n (has_seen seen n)

-- the verdict on a stamp of a pair by what is held
abbrev pub held_verdict : ℕ → ℕ → StampKind → ℕ → Stamp → List ℕ → Option Seen → Verdict
held_verdict w now by_time pair (Time t) keys seen = time_by_keys w now pair t keys
held_verdict w now by_number pair (Seq n) keys seen = number_by_seen seen n
held_verdict w now _ pair _ keys seen = WrongStampKind

-- what is seen once n was seen too: the greater of the greatest and n, and in the window below it n and what was seen before
pub record IsOneMore (old : Seen) (n : ℕ) (new : Seen) : Type 0 where
  pub greatest : new.greatest ≡ max n old.greatest
  pub window : (m : ℕ) → new.greatest < m + 64 → has_seen new m ≡ (n == m || has_seen old m)

-- whether the key is held
abbrev pub has_key : ℕ → List ℕ → Bool
has_key key keys = nat_lt (below key keys) (up_to key keys)

-- what is seen of a pair once a number was seen too
abbrev pub IsSeenWith : Option Seen → ℕ → Seen → Type 0
IsSeenWith None n new = new ≡ record { greatest = n; before = 1 }
IsSeenWith (Some old) n new = IsOneMore old n new

-- one more number of a pair was seen, and the other pairs are as they were
pub record SeesOneMore (pair n : ℕ) (old new : List (ℕ × Seen)) : Type 0 where
  pub seen : Seen
  pub is : IsSeenWith (lookup (nat_eq pair) old) n seen
  pub held : lookup (nat_eq pair) new ≡ Some seen
  pub others : (other : ℕ) → nat_eq pair other ≡ false → lookup (nat_eq other) new ≡ lookup (nat_eq other) old
  pub count : length new ≡ length old + cond (is_none (lookup (nat_eq pair) old)) 1 0
