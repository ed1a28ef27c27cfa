-- How many bytes the layouts of a term take, added up.
use Rattle.std.specs.Prelude.{◌≡◌, ℕ, ◌+◌, ◌≤◌, length, Option, MatchOption}
use Rattle.term_values.specs.declared.small.Key.{Key}
use Rattle.term_values.specs.declared.small.Key.TheVariants.{One, Two}
use Rattle.term_values.specs.Trees.{Tree, name, stamp, nonce, part, text, tag, blob, tuple, seal, check, Trees, none, item}

-- what is left of so many bytes when some are taken; none where more are taken than there are
abbrev pub IsLeft : ℕ → ℕ → Option ℕ → Type 0
IsLeft most taken r = MatchOption r (most + 1 ≤ taken) (λ left. left + taken ≡ most)

-- a kind byte and one part or two
abbrev pub length_of_key : Key → ℕ
length_of_key (One p) = 33
length_of_key (Two p q) = 65

-- the kind byte of each layout and what follows it, with what stands below
abbrev mutual
  pub length_of : Tree → ℕ
  length_of (name n) = 5
  length_of (stamp s) = 9
  length_of (nonce b) = 17
  length_of (part b) = 33
  length_of (text b) = length b + 3
  length_of (tag b) = 5
  length_of (blob b) = length b + 3
  length_of (tuple ts) = lengths_of ts + 2
  length_of (seal k t) = length_of_key k + length_of t + 1
  length_of (check k t) = length_of_key k + length_of t + 1

  pub lengths_of : Trees → ℕ
  lengths_of none = 0
  lengths_of (item t ts) = length_of t + lengths_of ts
