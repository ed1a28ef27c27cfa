-- Lists of accepted stamps that no verdict can tell apart.
use Rattle.std.specs.Prelude.{◌≡◌, ℕ, List, length}
use Rattle.term_values.specs.Trees.{Bytes}
use Rattle.replay_store.specs.Stamps.{Accepted, live_times, numbers, stands_in, is_empty, greatest}

-- both have the same live times and the same sequence numbers of each sender and tag, in whatever order
pub record Alike (xs ys : List Accepted) : Type 0 where
  pub times : (w now s : ℕ) (t : Bytes) (n : ℕ) → stands_in n (live_times w now s t xs) ≡ stands_in n (live_times w now s t ys)
  pub counts : (w now s : ℕ) (t : Bytes) → length (live_times w now s t xs) ≡ length (live_times w now s t ys)
  pub seqs : (s : ℕ) (t : Bytes) (n : ℕ) → stands_in n (numbers s t xs) ≡ stands_in n (numbers s t ys)
  pub some : (s : ℕ) (t : Bytes) → is_empty (numbers s t xs) ≡ is_empty (numbers s t ys)
  pub most : (s : ℕ) (t : Bytes) → greatest (numbers s t xs) ≡ greatest (numbers s t ys)
