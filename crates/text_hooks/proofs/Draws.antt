-- How far draws have moved on.
use Rattle.std.proofs.Common.{◌≡◌, ◌≤◌, ◌+◌, ℕ, Option, Some, None, refl, ◌∙◌, arith}
use Rattle.outside.specs.Told.{Told}
use Rattle.text_hooks.specs.Drawn.{MovedOn}

pub not_moved : (most : ℕ) (old new : Option Told) → new ≡ old → MovedOn most old new
not_moved most None new e = tt
not_moved most (Some t) new e = rw e (refl, (refl, omega arith, omega arith))

pub moved_more : (m n most : ℕ) (one two three : Option Told) → m + n ≤ most → MovedOn m one two → MovedOn n two three → MovedOn most one three
moved_more m n most None two three le a b = tt
moved_more m n most (Some t) None three le a b = absurd (let e = a.0 in cc)
moved_more m n most (Some t) (Some u) None le a b = absurd (let e = b.0 in cc)
moved_more m n most (Some t) (Some u) (Some v) le a b = (refl, (b.1.0 ∙ a.1.0, omega (arith, a.1.1, b.1.1), omega (arith, le, a.1.2, b.1.2)))
