-- The next stamp has a greater number than the last one.
use Rattle.std.proofs.Common.{◌≡◌, ◌<◌, ℕ, Bool, true, false, Some, None, ◌==◌, if◌then◌else◌, arith, subst}
use Rattle.term_values.specs.declared.small.Stamp.{Stamp}
use Rattle.term_values.specs.declared.small.StampKind.{StampKind}
use Rattle.term_values.specs.declared.small.StampKind.TheVariants.{Time as by_time, Seq as by_number}
use Rattle.replay_store.specs.Stamps.{last_number, next_stamp, number_of, stamp_of_kind}

of_kind : (kind : StampKind) (last now : ℕ) → last < number_of (stamp_of_kind kind last now)
of_kind by_time last now = omega arith
of_kind by_number last now = omega arith

pub rises : (kind : StampKind) (last now : ℕ) (stamp : Stamp) → next_stamp kind last now ≡ Some stamp → last < number_of stamp
rises kind last now stamp e = go (last == last_number) e
  where
    go : (b : Bool) → (if b then None else Some (stamp_of_kind kind last now)) ≡ Some stamp → last < number_of stamp
    go true e = absurd cc
    go false e = let f : stamp_of_kind kind last now ≡ stamp = cc in subst (λ (s : Stamp). last < number_of s) f (of_kind kind last now)
