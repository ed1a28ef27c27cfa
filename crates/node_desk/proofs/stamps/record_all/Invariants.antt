use Rattle.std.proofs.Common.{◌≡◌, ◌+◌, ◌≤◌, ◌++◌, List, take, map}
use Rattle.replay_store.specs.Stamps.{Accepted}
use Rattle.agreement_laws.specs.Nodes.{accepted_of}
use Rattle.node_desk.proofs.stamps.record_all.Given as goal

-- the stamps so far are recorded
abbrev pub invariant-loop-each : goal.invariant-loop-each
invariant-loop-each g l =
    let store = g.T.Store in
    record {
      added : (accepted : List Accepted) → store.stands_for l.initial.store accepted → store.stands_for l.store (accepted ++ map accepted_of (take l.each-index l.got));
      room : store.spare l.initial.store ≤ store.spare l.store + l.each-index;
      window : store.window l.store ≡ store.window l.initial.store;
      moment : store.now l.store ≡ store.now l.initial.store;
    }
