use Rattle.std.proofs.Common.{◌≡◌, ◌+◌, ◌-◌, ◌≤◌, length, vec_len, vec_capacity}
use Rattle.replay_store.proofs.ranked.Ranked.reserve.Given as goal

abbrev pub invariant-loop-alloc : goal.invariant-loop-alloc
invariant-loop-alloc l =
    (l.self-inside.tree ≡ l.initial.self-inside.tree)
    × (vec_len l.initial.self-inside.unused ≤ vec_len l.self-inside.unused)
    × (length l.self-inside.tree + l.more ≤ vec_capacity l.self-inside.unused)
    × (length l.self-inside.tree + vec_len l.self-inside.unused ≤ vec_capacity l.self-inside.unused)

abbrev pub decreases-loop-alloc : goal.decreases-loop-alloc
decreases-loop-alloc l = l.more - vec_len l.self-inside.unused
