use Rattle.std.proofs.Common.{◌≡◌, List, drop, max}
use Rattle.replay_store.specs.Stamps.{Accepted}
use Rattle.node_desk.specs.Refusals.{stamps_refusal}
use Rattle.node_desk.proofs.stamps.judge_all.Given as goal

-- the refusal of what is left is that of all
abbrev pub invariant-loop-each : goal.invariant-loop-each
invariant-loop-each g l =
    let store = g.T.Store in
    (accepted : List Accepted) → store.stands_for l.store accepted → stamps_refusal (store.window l.store) (max (store.now l.store) l.clock) accepted l.kind (drop l.each-index l.got) ≡ stamps_refusal (store.window l.store) (max (store.now l.store) l.clock) accepted l.kind l.got
