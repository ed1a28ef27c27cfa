-- For how many commits there is room, after each call.
use Rattle.std.proofs.Common.{◌≡◌, ◌+◌, ◌-◌, ◌/◌, ◌<◌, ◌≤◌, ℕ, min, arith}

-- more room
pub room-more : (s r r' o : ℕ) → r ≤ r' → min (s / 2) (r - o) ≤ min (s / 2) (r' - o) + 1
room-more s r r' o l = omega (arith, l)

-- after an issue
pub room-issue : (s s' r m r' o : ℕ) → s ≤ s' → r ≤ m → m ≡ r' + 1 → min (s / 2) (r - o) ≤ min (s' / 2) (r' - o) + 1
room-issue s s' r m r' o l grows takes = omega (arith, l, grows, takes)

-- after a commit, which has at most two stamps to record
pub room-commit : (s m s' r r' o o' : ℕ) → s ≤ m → m ≤ s' + 2 → r ≡ r' + 1 → o' ≤ o → min (s / 2) (r - o) ≤ min (s' / 2) (r' - o') + 1
room-commit s m s' r r' o o' l records takes fewer = omega (arith, l, records, takes, fewer)

-- after a run was ended
pub room-drop : (s r r' o o' : ℕ) → 0 < o → r ≡ r' + 1 → o' ≡ o - 1 → min (s / 2) (r' - o') ≡ min (s / 2) (r - o)
room-drop s r r' o o' some takes fewer = omega (arith, some, takes, fewer)

-- after more memory was taken
pub room-grows : (s s' r r' o : ℕ) → s ≤ s' → r ≤ r' → min (s / 2) (r - o) ≤ min (s' / 2) (r' - o)
room-grows s s' r r' o l grows = omega (arith, l, grows)
