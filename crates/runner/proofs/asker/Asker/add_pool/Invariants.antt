use Rattle.std.proofs.Common.{◌≡◌, ◌≤◌, ◌+◌, ◌-◌, map}
use Rattle.std.specs.List.{range_with_len}
use Rattle.locks.specs.Locks.{object_lock}
use Rattle.runner.specs.Working.Asked.{with_locks}
use Rattle.runner.proofs.asker.Asker.add_pool.Given as goal

abbrev pub invariant-loop-left : goal.invariant-loop-left
invariant-loop-left l =
    (l.left ≤ l.pool.length)
    × (l.pending.locks
    ≡ with_locks l.self (map (object_lock l.class) (range_with_len (l.pool.first + l.left) (l.pool.length - l.left))) l.initial.pending.locks)
    × (l.initial.pending.room ≤ l.pending.room)

abbrev pub decreases-loop-left : goal.decreases-loop-left
decreases-loop-left l = l.left
