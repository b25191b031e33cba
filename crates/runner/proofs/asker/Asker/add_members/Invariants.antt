use Rattle.std.proofs.Common.{◌≡◌, ◌≤◌, drop, length, map}
use Rattle.std.specs.List.{flat_map}
use Rattle.locks.specs.Locks.{object_lock, members_if}
use Rattle.runner.specs.Working.Asked.{with_locks}
use Rattle.runner.proofs.asker.Asker.add_members.Given as goal

abbrev pub invariant-loop-left : goal.invariant-loop-left
invariant-loop-left l =
    let pools = l.self.program.now.program.shape.pools.items in
    (l.left ≤ length pools)
    × (l.pending.locks
    ≡ with_locks l.self (map (object_lock l.class) (flat_map (members_if l.structure) (drop l.left pools))) l.initial.pending.locks)
    × (l.initial.pending.room ≤ l.pending.room)

abbrev pub decreases-loop-left : goal.decreases-loop-left
decreases-loop-left l = l.left
