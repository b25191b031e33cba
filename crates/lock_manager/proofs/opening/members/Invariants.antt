use Rattle.std.proofs.Common.{◌≡◌, take, map}
use Rattle.locks.specs.declared.lock.Lock.{Lock}
use Rattle.layout.specs.LockCells.{cells_of}
use Rattle.lock_manager.specs.Working.Committed.{rows}
use Rattle.lock_manager.proofs.opening.members.Given as goal

abbrev pub invariant-loop-cell : goal.invariant-loop-cell
invariant-loop-cell l = rows l.all.items ≡ map (λ (lock : Lock). cells_of (take l.cell l.layout.cell_locks) lock) l.layout.locks
