use Rattle.std.proofs.Common.{◌≡◌, drop}
use Rattle.replay_store.specs.Stamps.{numbers}
use Rattle.replay_store.specs.Stores.{greater, greatest_number}
use Rattle.replay_store.proofs.scans.greatest.Given as goal

abbrev pub invariant-loop-x : goal.invariant-loop-x
invariant-loop-x l =
    greater l.most (greatest_number (numbers l.sender l.tag (drop l.x-index l.entries))) ≡ greatest_number (numbers l.sender l.tag l.entries)
